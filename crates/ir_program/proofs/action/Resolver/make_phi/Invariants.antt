-- the entries so far
use Rattle.std.proofs.Common.{◌≡◌, fold, take}
use Rattle.ir_program.specs.Actions.{into_of}
use Rattle.ir_program.specs.Phis.{empty_phi, with_entry}
use Rattle.ir_program.proofs.action.Resolver.make_phi.Given as goal

abbrev pub invariant-loop-e : goal.invariant-loop-e
invariant-loop-e l = l.phi ≡ fold (with_entry l.self.context.now l.self.names.now l.kind) (empty_phi (into_of l.self.names.now l.given)) (take l.e-index l.entries)
