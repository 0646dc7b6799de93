use Rattle.std.proofs.Common.{◌≡◌, ◌++◌, take, flat_map}
use Rattle.ir_print.specs.Canonical.{block_text}
use Rattle.ir_print.proofs.function.put_blocks.Given as goal

abbrev pub invariant-loop-block : goal.invariant-loop-block
invariant-loop-block l = l.text ≡ l.fn.text ++ flat_map block_text (take l.block-index l.blocks)
