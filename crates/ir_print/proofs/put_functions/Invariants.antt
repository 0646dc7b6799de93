use Rattle.std.proofs.Common.{◌≡◌, ◌++◌, take, flat_map}
use Rattle.ir_print.specs.Canonical.{function_text}
use Rattle.ir_print.proofs.put_functions.Given as goal

abbrev pub invariant-loop-function : goal.invariant-loop-function
invariant-loop-function l = l.text ≡ l.fn.text ++ flat_map function_text (take l.function-index l.function-items)
