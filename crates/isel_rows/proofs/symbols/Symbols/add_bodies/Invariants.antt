use Rattle.std.proofs.Common.{◌≡◌, ◌++◌, take}
use Rattle.std.specs.List.{flat_map}
use Rattle.isel_rows.specs.Symbols.{body_symbols}
use Rattle.isel_rows.proofs.symbols.Symbols.add_bodies.Given as goal

abbrev pub invariant-loop-b : goal.invariant-loop-b
invariant-loop-b l = l.self ≡ l.initial.self ++ flat_map body_symbols (take l.b-index l.bodies)
