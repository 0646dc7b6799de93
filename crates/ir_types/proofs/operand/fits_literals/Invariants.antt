-- what is left decides
use Rattle.std.proofs.Common.{◌≡◌, drop}
use Rattle.ir_types.specs.Fitting.{literals_fit}
use Rattle.ir_types.proofs.operand.fits_literals.Given as goal

abbrev pub invariant-loop-i : goal.invariant-loop-i
invariant-loop-i l = literals_fit (drop l.i-index l.indices) ≡ literals_fit l.indices
