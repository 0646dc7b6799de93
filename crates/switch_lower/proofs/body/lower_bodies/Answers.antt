use Rattle.std.proofs.Common.{drop}
use Rattle.switch_lower.proofs.BodyLaws.{bodies_end}
use Rattle.switch_lower.proofs.body.lower_bodies.Goals as goal

pub returns-then-k-bodies : goal.returns-then-k-bodies
returns-then-k-bodies c = bodies_end c.loop-k.k c.loop-k.all (drop c.loop-k.k c.args.functions.now) c.args.bodies.now _ c.if-k-bodies.true c.loop-k.invariant
