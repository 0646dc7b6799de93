-- the first name of what is left is that of all
use Rattle.std.proofs.Common.{◌≡◌, drop}
use Rattle.std.specs.List.{flat_map}
use Rattle.ir_names.specs.Outer.{unfit}
use Rattle.ir_names.specs.Firsts.{first_name}
use Rattle.ir_names.proofs.external.first_unfit.Given as goal

abbrev pub invariant-loop-e : goal.invariant-loop-e
invariant-loop-e l = first_name (flat_map (unfit l.used) (drop l.e-index l.externs)) ≡ first_name (flat_map (unfit l.used) l.externs)
