-- the mentions so far
use Rattle.std.proofs.Common.{◌≡◌, ◌++◌, take}
use Rattle.ir_core.specs.Mentions.{of_entries}
use Rattle.ir_names.proofs.mention.Mentions.add_entries.Given as goal

abbrev pub invariant-loop-e : goal.invariant-loop-e
invariant-loop-e l = l.self ≡ l.initial.self ++ of_entries (take l.e-index l.entries)
