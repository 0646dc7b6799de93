use Rattle.std.proofs.Common.{arith}
use Rattle.std.proofs.lemmas.List.{length-drop, length-take}
use Rattle.ir_memory.proofs.CellLaws.{fits_above, fits_with_low}
use Rattle.ir_memory.proofs.cells.+number_in.Goals as goal

pub with_low-requires : goal.with_low-requires
with_low-requires t c = fits_above _ _ c.in_ok-above-in-len1-up.ensures.small (simp (length-take, length-drop) (omega arith))

pub returns-in_ok-above-in-len1-up-clause-small : goal.returns-in_ok-above-in-len1-up-clause-small
returns-in_ok-above-in-len1-up-clause-small t c =
    fits_with_low c.with_low.result _ _ _ c.with_low.ensures.small c.in_ok-above-in-len1-up.ensures.small (simp (length-take, length-drop) (omega arith))
