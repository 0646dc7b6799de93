-- what is left decides
use Rattle.std.proofs.Common.{◌≡◌, drop}
use Rattle.ir_core.specs.Valid.{env_of}
use Rattle.ir_types.specs.Fitting.{indices_fit}
use Rattle.ir_types.proofs.operand.fits_indices.Given as goal

abbrev pub invariant-loop-a : goal.invariant-loop-a
invariant-loop-a l = indices_fit l.tables (env_of l.scope) (drop l.a-index l.indices) ≡ indices_fit l.tables (env_of l.scope) l.indices
