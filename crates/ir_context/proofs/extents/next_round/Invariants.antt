-- a row for each type so far
use Rattle.std.proofs.Common.{◌≡◌, map, take}
use Rattle.ir_core.specs.declared.ty.NamedTy.{NamedTy}
use Rattle.ir_core.specs.Sizes.{extent_in}
use Rattle.ir_context.proofs.extents.next_round.Given as goal

abbrev pub invariant-loop-t : goal.invariant-loop-t
invariant-loop-t l = l.next ≡ map (λ (t : NamedTy). extent_in l.names l.rows t.fields) (take l.t-index l.types)
