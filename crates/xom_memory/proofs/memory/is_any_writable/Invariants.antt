use Rattle.std.proofs.Common.{◌≡◌, drop}
use Rattle.x86_core.specs.Memory.{writes, one_covers}
use Rattle.xom_memory.proofs.memory.is_any_writable.Given as goal

abbrev pub invariant-loop-part : goal.invariant-loop-part
invariant-loop-part l = one_covers writes l.parts l.at l.len ≡ one_covers writes (drop l.part-index l.parts) l.at l.len
