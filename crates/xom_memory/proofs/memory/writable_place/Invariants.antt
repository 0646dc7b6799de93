use Rattle.std.proofs.Common.{◌≡◌, ◌+◌, drop, option_map}
use Rattle.xom_memory.specs.Access.{place_of}
use Rattle.xom_memory.proofs.memory.writable_place.Given as goal

abbrev pub invariant-loop-i : goal.invariant-loop-i
invariant-loop-i l = place_of l.parts l.at l.len ≡ option_map (λ k. l.i + k) (place_of (drop l.i l.parts) l.at l.len)
