use Rattle.std.proofs.Common.{◌≡◌, ◌++◌, take}
use Rattle.std.specs.List.{flat_map}
use Rattle.isel_rows.specs.Symbols.{global_symbols}
use Rattle.isel_rows.proofs.symbols.Symbols.add_globals.Given as goal

abbrev pub invariant-loop-g : goal.invariant-loop-g
invariant-loop-g l = l.self ≡ l.initial.self ++ flat_map global_symbols (take l.g-index l.globals)
