-- what was copied so far
use Rattle.std.proofs.Common.{◌≡◌, take}
use Rattle.low_core.proofs.copies.+ty.Given as goal

abbrev pub invariant-copy_tys-loop-ty : goal.invariant-copy_tys-loop-ty
invariant-copy_tys-loop-ty l = l.all ≡ take l.ty-index l.tys
