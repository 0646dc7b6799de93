use Rattle.std.proofs.Common.{◌≡◌, ◌++◌, take}
use Rattle.ir_print.specs.Names.{after_commas}
use Rattle.ir_print.specs.Values.{literal_index_text}
use Rattle.ir_print.proofs.values.put_literal_indices.Given as goal

abbrev pub invariant-loop-index : goal.invariant-loop-index
invariant-loop-index l = l.text ≡ l.fn.text ++ after_commas literal_index_text (take l.index-index l.indices)
