-- the chunks so far and those to come
use Rattle.std.proofs.Common.{◌≡◌, ◌++◌, drop, length}
use Rattle.switch_lower.specs.Bodies.{chunks_from}
use Rattle.switch_lower.proofs.body.lower_chunks.Given as goal

abbrev pub invariant-loop-c : goal.invariant-loop-c
invariant-loop-c l = l.all ++ chunks_from l.padding (length l.all) (drop l.c-index l.chunks) ≡ chunks_from l.padding 0 l.chunks
