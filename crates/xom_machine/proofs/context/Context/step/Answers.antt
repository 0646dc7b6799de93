use Rattle.xom_machine.proofs.Steps.{step_took, step_stands, step_kept}
use Rattle.xom_machine.proofs.context.Context.step.Goals as goal

pub returns-clause-did : goal.returns-clause-did
returns-clause-did g c = step_took _ _ _ _ _ c.advance.ensures.ran

pub returns-clause-stands : goal.returns-clause-stands
returns-clause-stands g c = step_stands _ _ _ _ _ c.advance.ensures.ran

pub returns-clause-kept : goal.returns-clause-kept
returns-clause-kept g c = step_kept _ _ _ _ _ c.advance.ensures.ran
