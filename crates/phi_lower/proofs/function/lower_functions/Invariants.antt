-- the bodies so far
use Rattle.std.proofs.Common.{◌≡◌, map, take}
use Rattle.phi_lower.specs.Lowered.{body_of}
use Rattle.phi_lower.proofs.function.lower_functions.Given as goal

abbrev pub invariant-loop-f : goal.invariant-loop-f
invariant-loop-f l = l.all ≡ map body_of (take l.f-index l.m.functions)
