use Rattle.std.proofs.Common.{◌≡◌, map, max, drop}
use Rattle.ir_core.specs.Counts.{greatest}
use Rattle.frame_lower.specs.Frames.{words_to}
use Rattle.frame_lower.proofs.frame.home_words.Given as goal

abbrev pub invariant-loop-home : goal.invariant-loop-home
invariant-loop-home l = max l.most (greatest (map words_to (drop l.home-index l.homes))) ≡ greatest (map words_to l.homes)
