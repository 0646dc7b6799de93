-- the mentions so far
use Rattle.std.proofs.Common.{◌≡◌, ◌++◌, take}
use Rattle.ir_core.specs.Mentions.{of_cases}
use Rattle.ir_names.proofs.mention.Mentions.add_cases.Given as goal

abbrev pub invariant-loop-c : goal.invariant-loop-c
invariant-loop-c l = l.self ≡ l.initial.self ++ of_cases (take l.c-index l.cases)
