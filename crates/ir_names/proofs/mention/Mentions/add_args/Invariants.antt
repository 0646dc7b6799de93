-- the mentions so far
use Rattle.std.proofs.Common.{◌≡◌, ◌++◌, take}
use Rattle.ir_core.specs.Mentions.{of_args}
use Rattle.ir_names.proofs.mention.Mentions.add_args.Given as goal

abbrev pub invariant-loop-arg : goal.invariant-loop-arg
invariant-loop-arg l = l.self ≡ l.initial.self ++ of_args (take l.arg-index l.args)
