use Rattle.std.proofs.Common.{◌≡◌, ◌++◌, take}
use Rattle.ir_print.specs.Names.{after_commas}
use Rattle.ir_print.specs.Instructions.{entry_text}
use Rattle.ir_print.proofs.instruction.put_more_entries.Given as goal

abbrev pub invariant-loop-entry : goal.invariant-loop-entry
invariant-loop-entry l = l.text ≡ l.fn.text ++ after_commas entry_text (take l.entry-index l.entries)
