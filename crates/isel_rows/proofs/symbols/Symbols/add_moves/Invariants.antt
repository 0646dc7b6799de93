use Rattle.std.proofs.Common.{◌≡◌, ◌++◌, take}
use Rattle.std.specs.List.{flat_map}
use Rattle.isel_rows.specs.Symbols.{move_symbols}
use Rattle.isel_rows.proofs.symbols.Symbols.add_moves.Given as goal

abbrev pub invariant-loop-x : goal.invariant-loop-x
invariant-loop-x l = l.self ≡ l.initial.self ++ flat_map move_symbols (take l.x-index l.moves)
