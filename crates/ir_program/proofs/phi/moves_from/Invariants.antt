-- the phis so far
use Rattle.std.proofs.Common.{◌≡◌, map, take}
use Rattle.ir_program.specs.Phis.{phi_move}
use Rattle.ir_program.proofs.phi.moves_from.Given as goal

abbrev pub invariant-loop-phi : goal.invariant-loop-phi
invariant-loop-phi l = l.moves ≡ map (phi_move l.from) (take l.phi-index l.phis)
