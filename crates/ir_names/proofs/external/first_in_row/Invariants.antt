-- the first name of what is left is that of all
use Rattle.std.proofs.Common.{◌≡◌, drop}
use Rattle.std.specs.List.{flat_map}
use Rattle.ir_names.specs.Outer.{wrong_in_function}
use Rattle.ir_names.specs.Firsts.{first_name}
use Rattle.ir_names.proofs.external.first_in_row.Given as goal

abbrev pub invariant-loop-f : goal.invariant-loop-f
invariant-loop-f l = first_name (flat_map (wrong_in_function l.tables) (drop l.f-index l.functions)) ≡ first_name (flat_map (wrong_in_function l.tables) l.functions)
