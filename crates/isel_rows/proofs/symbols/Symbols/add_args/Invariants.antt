use Rattle.std.proofs.Common.{◌≡◌, ◌++◌, take}
use Rattle.std.specs.List.{flat_map}
use Rattle.isel_rows.specs.Symbols.{arg_symbols}
use Rattle.isel_rows.proofs.symbols.Symbols.add_args.Given as goal

abbrev pub invariant-loop-a : goal.invariant-loop-a
invariant-loop-a l = l.self ≡ l.initial.self ++ flat_map arg_symbols (take l.a-index l.args)
