use Rattle.std.proofs.Common.{refl}
use Rattle.switch_lower.proofs.Known.{known_keeps, known_within}
use Rattle.switch_lower.proofs.ShapeResult.{is_lean, lean_weighs, lean_returns, lean_calls}
use Rattle.switch_lower.proofs.lower.Goals as goal

pub returns-clause-shaped : goal.returns-clause-shaped
returns-clause-shaped c = is_lean _ _ _ c.requires refl c.in_ok-bodies.ensures

pub returns-clause-keeps : goal.returns-clause-keeps
returns-clause-keeps c = known_keeps _ _ _ c.requires c.in_ok-bodies.ensures

pub returns-clause-within : goal.returns-clause-within
returns-clause-within c = known_within _ _ _ c.requires c.in_ok-bodies.ensures

pub returns-clause-weighs : goal.returns-clause-weighs
returns-clause-weighs c = lean_weighs _ _ _ c.requires c.in_ok-bodies.ensures

pub returns-clause-returns : goal.returns-clause-returns
returns-clause-returns c = lean_returns c.args.low.now.base.now c.args.low.now.bodies _ c.in_ok-bodies.ensures

pub returns-clause-calls : goal.returns-clause-calls
returns-clause-calls c = lean_calls c.args.low.now.base.now c.args.low.now.bodies _ c.in_ok-bodies.ensures
