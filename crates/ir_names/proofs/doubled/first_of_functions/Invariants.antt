-- the first name of what is left is that of all
use Rattle.std.proofs.Common.{◌≡◌, drop}
use Rattle.ir_core.specs.Definitions.{repeated_in}
use Rattle.ir_names.specs.Firsts.{first_name}
use Rattle.ir_names.proofs.doubled.first_of_functions.Given as goal

abbrev pub invariant-loop-f : goal.invariant-loop-f
invariant-loop-f l = first_name (repeated_in l.names (drop l.f-index l.functions)) ≡ first_name (repeated_in l.initial.names l.functions)
