-- the mentions so far
use Rattle.std.proofs.Common.{◌≡◌, ◌++◌, take}
use Rattle.std.specs.List.{flat_map}
use Rattle.ir_core.specs.Mentions.{of_extern}
use Rattle.ir_names.proofs.mention.Mentions.add_externs.Given as goal

abbrev pub invariant-loop-e : goal.invariant-loop-e
invariant-loop-e l = l.self ≡ l.initial.self ++ flat_map of_extern (take l.e-index l.externs)
