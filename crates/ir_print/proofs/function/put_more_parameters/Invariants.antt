use Rattle.std.proofs.Common.{◌≡◌, ◌++◌, take}
use Rattle.ir_print.specs.Names.{after_commas}
use Rattle.ir_print.specs.Canonical.{parameter_text}
use Rattle.ir_print.proofs.function.put_more_parameters.Given as goal

abbrev pub invariant-loop-parameter : goal.invariant-loop-parameter
invariant-loop-parameter l = l.text ≡ l.fn.text ++ after_commas parameter_text (take l.parameter-index l.parameters)
