-- what is left decides
use Rattle.std.proofs.Common.{◌≡◌, drop}
use Rattle.ir_core.specs.Valid.{env_of}
use Rattle.ir_types.specs.Fitting.{entries_typed}
use Rattle.ir_types.proofs.op.fits_entries.Given as goal

abbrev pub invariant-loop-e : goal.invariant-loop-e
invariant-loop-e l = entries_typed l.tables (env_of l.scope) l.kind (drop l.e-index l.entries) ≡ entries_typed l.tables (env_of l.scope) l.kind l.entries
