-- the mentions so far
use Rattle.std.proofs.Common.{◌≡◌, ◌++◌, take}
use Rattle.std.specs.List.{flat_map}
use Rattle.ir_names.specs.Rows.{element_mentions}
use Rattle.ir_names.proofs.mention.Mentions.+init.Given as goal

abbrev pub invariant-add_elements-loop-e : goal.invariant-add_elements-loop-e
invariant-add_elements-loop-e l = l.self ≡ l.initial.self ++ flat_map element_mentions (take l.e-index l.es)
