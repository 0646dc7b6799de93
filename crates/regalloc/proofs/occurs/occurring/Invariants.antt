use Rattle.std.proofs.Common.{◌≡◌, drop}
use Rattle.std.specs.List.{flat_map}
use Rattle.regalloc.specs.Occurs.{marked, block_registers}
use Rattle.regalloc.proofs.occurs.occurring.Given as goal

-- what is left to mark is the registers of the blocks that are left
abbrev pub invariant-loop-b : goal.invariant-loop-b
invariant-loop-b l = marked l.seen (flat_map block_registers (drop l.b-index l.b-items)) ≡ marked l.initial.seen (flat_map block_registers l.f.blocks)
