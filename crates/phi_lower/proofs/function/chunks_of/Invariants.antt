-- the chunks so far
use Rattle.std.proofs.Common.{◌≡◌, take}
use Rattle.std.specs.List.{flat_map}
use Rattle.phi_lower.specs.Lowered.{chunks_of_block}
use Rattle.phi_lower.proofs.function.chunks_of.Given as goal

abbrev pub invariant-loop-b : goal.invariant-loop-b
invariant-loop-b l = l.all ≡ flat_map (chunks_of_block l.edges) (take l.b-index l.blocks)
