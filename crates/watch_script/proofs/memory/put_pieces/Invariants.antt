use Rattle.std.proofs.Common.{◌≡◌, ◌++◌}
use Rattle.watch_script.specs.ShowText.{pieces_text}
use Rattle.watch_script.proofs.memory.put_pieces.Given as goal

abbrev pub invariant-loop-i : goal.invariant-loop-i
invariant-loop-i l = l.text ≡ l.fn.text ++ pieces_text l.start l.bytes l.i
