-- the mentions so far
use Rattle.std.proofs.Common.{◌≡◌, ◌++◌, map, take}
use Rattle.ir_core.specs.declared.ty.Ty.{Ty}
use Rattle.ir_core.specs.Mentions.{OfType}
use Rattle.ir_names.proofs.mention.Mentions.add_types.Given as goal

abbrev pub invariant-loop-t : goal.invariant-loop-t
invariant-loop-t l = l.self ≡ l.initial.self ++ map (λ (t : Ty). OfType t) (take l.t-index l.types)
