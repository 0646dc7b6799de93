-- what is left decides
use Rattle.std.proofs.Common.{◌≡◌, drop}
use Rattle.std.specs.List.{list_all}
use Rattle.ir_core.specs.Typing.{arg_fits}
use Rattle.ir_core.specs.Valid.{env_of}
use Rattle.ir_types.proofs.operand.fits_args.Given as goal

abbrev pub invariant-loop-a : goal.invariant-loop-a
invariant-loop-a l = list_all (arg_fits l.tables (env_of l.scope)) (drop l.a-index l.args) ≡ list_all (arg_fits l.tables (env_of l.scope)) l.args
