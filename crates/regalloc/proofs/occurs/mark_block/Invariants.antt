use Rattle.std.proofs.Common.{◌≡◌, ◌++◌, drop}
use Rattle.std.specs.List.{flat_map}
use Rattle.low_core.specs.SelParts.{end_reads}
use Rattle.regalloc.specs.Occurs.{marked, op_registers, block_registers}
use Rattle.regalloc.proofs.occurs.mark_block.Given as goal

-- what is left to mark is the registers of the operations that are left, and of the end
abbrev pub invariant-loop-op : goal.invariant-loop-op
invariant-loop-op l = marked l.seen (flat_map op_registers (drop l.op-index l.op-items) ++ end_reads l.b.end) ≡ marked l.fn.seen (block_registers l.b)
