use Rattle.std.proofs.Common.{◌≡◌, drop}
use Rattle.x86_core.specs.Memory.{code_at}
use Rattle.xom_memory.proofs.memory.executable.Given as goal

abbrev pub invariant-loop-part : goal.invariant-loop-part
invariant-loop-part l = code_at l.parts l.at ≡ code_at (drop l.part-index l.parts) l.at
