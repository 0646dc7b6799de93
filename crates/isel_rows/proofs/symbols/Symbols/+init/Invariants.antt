use Rattle.std.proofs.Common.{◌≡◌, ◌++◌, take}
use Rattle.std.specs.List.{flat_map}
use Rattle.isel_rows.specs.Symbols.{element_symbols}
use Rattle.isel_rows.proofs.symbols.Symbols.+init.Given as goal

abbrev pub invariant-add_elements-loop-e : goal.invariant-add_elements-loop-e
invariant-add_elements-loop-e l = l.self ≡ l.initial.self ++ flat_map element_symbols (take l.e-index l.es)
