use Rattle.std.proofs.Common.{◌≡◌, drop}
use Rattle.obj_core.specs.WellFormed.{in_functions}
use Rattle.obj_check.specs.Disassembled.{disassemblies_of}
use Rattle.obj_check.specs.Failing.{rule_number, failing}
use Rattle.obj_check.proofs.code.first_in_functions.Given as goal

abbrev pub invariant-loop-n : goal.invariant-loop-n
invariant-loop-n l =
    in_functions (rule_number l.rule) (failing l.rule l.o) l.n (drop l.n l.functions) (disassemblies_of (drop l.n l.functions)) ≡
    in_functions (rule_number l.rule) (failing l.rule l.o) 0 l.functions (disassemblies_of l.functions)
