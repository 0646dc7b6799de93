-- the phis so far
use Rattle.std.proofs.Common.{◌≡◌, map, take}
use Rattle.ir_core.specs.declared.module.Block.{Block}
use Rattle.phi_lower.specs.Lowered.{phis_of}
use Rattle.phi_lower.proofs.edges.all_phis.Given as goal

abbrev pub invariant-loop-b : goal.invariant-loop-b
invariant-loop-b l = l.all ≡ map (λ (b : Block). phis_of b.insts) (take l.b-index l.blocks)
