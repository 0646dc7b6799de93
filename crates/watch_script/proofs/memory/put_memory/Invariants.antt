use Rattle.std.proofs.Common.{◌≡◌, ◌++◌, drop}
use Rattle.x86_core.specs.Observation.{readable}
use Rattle.watch_script.specs.ShowText.{segments_text}
use Rattle.watch_script.proofs.memory.put_memory.Given as goal

abbrev pub invariant-loop-i : goal.invariant-loop-i
invariant-loop-i l = l.text ++ segments_text (readable (drop l.i l.memory)) ≡ l.fn.text ++ segments_text (readable l.memory)
