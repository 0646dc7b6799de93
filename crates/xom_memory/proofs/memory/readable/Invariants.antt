use Rattle.std.proofs.Common.{◌≡◌, drop}
use Rattle.x86_core.specs.Memory.{read_at}
use Rattle.xom_memory.proofs.memory.readable.Given as goal

abbrev pub invariant-loop-part : goal.invariant-loop-part
invariant-loop-part l = read_at l.parts l.at l.len ≡ read_at (drop l.part-index l.parts) l.at l.len
