use Rattle.std.proofs.Common.{◌≡◌, ◌++◌, ◌*◌}
use Rattle.xom_memory.specs.Access.{lent}
use Rattle.watch_script.specs.ShowText.{pieces_text}
use Rattle.watch_script.proofs.memory.put_pages.Given as goal

abbrev pub invariant-loop-i : goal.invariant-loop-i
invariant-loop-i l = l.text ≡ l.fn.text ++ pieces_text l.segment.start (lent l.segment).bytes (256 * l.i)
