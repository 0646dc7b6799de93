-- the phis so far, with those that may follow, are all
use Rattle.std.proofs.Common.{◌≡◌, ◌++◌, map, drop}
use Rattle.ir_core.specs.Step.{choices_of}
use Rattle.ir_program.specs.Phis.{phi_of}
use Rattle.ir_program.proofs.action.Resolver.add_phis.Given as goal

abbrev pub invariant-loop-i : goal.invariant-loop-i
invariant-loop-i l =
    l.phis ++ map (phi_of l.self.context.now l.self.names.now) (choices_of (drop l.i-index l.insts))
    ≡ l.initial.phis ++ map (phi_of l.self.context.now l.self.names.now) (choices_of l.insts)
