use Rattle.std.proofs.Common.{◌≡◌, ◌++◌, take}
use Rattle.ir_print.specs.Names.{after_commas}
use Rattle.ir_print.specs.Instructions.{argument_text}
use Rattle.ir_print.proofs.instruction.put_more_arguments.Given as goal

abbrev pub invariant-loop-argument : goal.invariant-loop-argument
invariant-loop-argument l = l.text ≡ l.fn.text ++ after_commas argument_text (take l.argument-index l.arguments)
