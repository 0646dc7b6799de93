use Rattle.std.proofs.Common.{◌≡◌, ◌++◌, take, flat_map}
use Rattle.ir_print.specs.Terminators.{case_text}
use Rattle.ir_print.proofs.terminator.put_cases.Given as goal

abbrev pub invariant-loop-case : goal.invariant-loop-case
invariant-loop-case l = l.text ≡ l.fn.text ++ flat_map case_text (take l.case-index l.cases)
