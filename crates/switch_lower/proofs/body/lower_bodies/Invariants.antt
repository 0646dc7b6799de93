-- the bodies so far and those to come
use Rattle.std.proofs.Common.{◌≡◌, ◌++◌, drop}
use Rattle.switch_lower.specs.Bodies.{bodies_of}
use Rattle.switch_lower.proofs.body.lower_bodies.Given as goal

abbrev pub invariant-loop-k : goal.invariant-loop-k
invariant-loop-k l = l.all ++ bodies_of (drop l.k l.functions) (drop l.k l.bodies) ≡ bodies_of l.functions l.bodies
