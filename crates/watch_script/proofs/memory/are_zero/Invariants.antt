use Rattle.std.proofs.Common.{◌≡◌, drop}
use Rattle.watch_script.specs.ShowText.{is_blank}
use Rattle.watch_script.proofs.memory.are_zero.Given as goal

abbrev pub invariant-loop-b : goal.invariant-loop-b
invariant-loop-b l = is_blank l.bytes ≡ is_blank (drop l.b-index l.bytes)
