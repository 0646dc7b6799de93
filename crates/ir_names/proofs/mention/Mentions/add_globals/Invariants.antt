-- the mentions so far
use Rattle.std.proofs.Common.{◌≡◌, ◌++◌, take}
use Rattle.std.specs.List.{flat_map}
use Rattle.ir_core.specs.Mentions.{of_global}
use Rattle.ir_names.proofs.mention.Mentions.add_globals.Given as goal

abbrev pub invariant-loop-g : goal.invariant-loop-g
invariant-loop-g l = l.self ≡ l.initial.self ++ flat_map of_global (take l.g-index l.globals)
