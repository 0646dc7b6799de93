-- the mentions so far
use Rattle.std.proofs.Common.{◌≡◌, ◌++◌, take}
use Rattle.ir_names.specs.Rows.{named_mention}
use Rattle.ir_names.proofs.mention.Mentions.add_named.Given as goal

abbrev pub invariant-loop-t : goal.invariant-loop-t
invariant-loop-t l = l.self ≡ l.initial.self ++ named_mention (take l.t-index l.types)
