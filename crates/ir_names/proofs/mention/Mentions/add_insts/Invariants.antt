-- the mentions so far
use Rattle.std.proofs.Common.{◌≡◌, ◌++◌, take}
use Rattle.ir_names.specs.Rows.{insts_mention}
use Rattle.ir_names.proofs.mention.Mentions.add_insts.Given as goal

abbrev pub invariant-loop-i : goal.invariant-loop-i
invariant-loop-i l = l.self ≡ l.initial.self ++ insts_mention (take l.i-index l.insts)
