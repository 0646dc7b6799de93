use Rattle.phi_lower.proofs.ShapeAll.{known_shaped}
use Rattle.phi_lower.proofs.Known.{known_single, known_keeps, known_within, known_weighs, known_returns, known_calls, known_made}
use Rattle.phi_lower.proofs.lower.Goals as goal

pub lower_functions-requires : goal.lower_functions-requires
lower_functions-requires c = known_single c.module-base.result.now c.module-base.ensures.valid

pub returns-clause-keeps : goal.returns-clause-keeps
returns-clause-keeps c = known_keeps _ _ _ c.module-base.ensures.valid c.module-base.ensures.value c.in_ok-bodies.ensures

pub returns-clause-within : goal.returns-clause-within
returns-clause-within c = known_within _ _ _ c.module-base.ensures.valid c.module-base.ensures.value c.in_ok-bodies.ensures

pub returns-clause-weighs : goal.returns-clause-weighs
returns-clause-weighs c = known_weighs _ _ _ c.module-base.ensures.valid c.module-base.ensures.value c.in_ok-bodies.ensures

pub returns-clause-returns : goal.returns-clause-returns
returns-clause-returns c = known_returns _ _ _ c.module-base.ensures.value c.in_ok-bodies.ensures

pub returns-clause-calls : goal.returns-clause-calls
returns-clause-calls c = known_calls _ _ _ c.module-base.ensures.value c.in_ok-bodies.ensures

pub returns-clause-made : goal.returns-clause-made
returns-clause-made c = known_made _ _ c.module-base.ensures.valid c.in_ok-bodies.ensures

pub returns-clause-shaped : goal.returns-clause-shaped
returns-clause-shaped c = known_shaped _ _ c.module-base.ensures.valid c.in_ok-bodies.ensures
