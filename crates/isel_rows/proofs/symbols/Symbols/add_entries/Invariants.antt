use Rattle.std.proofs.Common.{◌≡◌, ◌++◌, take}
use Rattle.std.specs.List.{flat_map}
use Rattle.isel_rows.specs.Symbols.{entry_symbols}
use Rattle.isel_rows.proofs.symbols.Symbols.add_entries.Given as goal

abbrev pub invariant-loop-e : goal.invariant-loop-e
invariant-loop-e l = l.self ≡ l.initial.self ++ flat_map entry_symbols (take l.e-index l.entries)
