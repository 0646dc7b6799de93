use Rattle.std.proofs.Common.{◌≡◌, ◌++◌, take}
use Rattle.std.specs.List.{flat_map}
use Rattle.isel_rows.specs.Symbols.{case_symbols}
use Rattle.isel_rows.proofs.symbols.Symbols.add_cases.Given as goal

abbrev pub invariant-loop-c : goal.invariant-loop-c
invariant-loop-c l = l.self ≡ l.initial.self ++ flat_map case_symbols (take l.c-index l.cases)
