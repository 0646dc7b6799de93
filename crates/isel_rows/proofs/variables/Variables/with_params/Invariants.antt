-- the parameters so far
use Rattle.std.proofs.Common.{◌≡◌, map, fold, take}
use Rattle.ir_core.specs.Valid.{param_kind}
use Rattle.isel_rows.specs.Kept.{with_local}
use Rattle.isel_rows.proofs.variables.Variables.with_params.Given as goal

abbrev pub invariant-loop-p : goal.invariant-loop-p
invariant-loop-p l = l.all ≡ fold with_local l.initial.all (map param_kind (take l.p-index l.params))
