-- what is left repeats what all do, and what was added stands behind what was there
use Rattle.std.proofs.Common.{◌≡◌, ◌++◌, map, take, drop}
use Rattle.ir_core.specs.Definitions.{repeated}
use Rattle.ir_core.proofs.names.NameSet.add_all.Given as goal

abbrev pub invariant-loop-item : goal.invariant-loop-item
invariant-loop-item g l = record {
  first : repeated l.self (map g.T.Named.name_of (drop l.item-index l.items)) ≡ repeated l.initial.self (map g.T.Named.name_of l.items);
  added : l.self ≡ l.initial.self ++ map g.T.Named.name_of (take l.item-index l.items);
}
