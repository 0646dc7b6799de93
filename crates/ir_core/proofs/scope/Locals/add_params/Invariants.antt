-- what was added stands behind what was there, and what is left repeats none of it
use Rattle.std.proofs.Common.{◌≡◌, ◌++◌, [], map, take, drop}
use Rattle.ir_core.specs.Definitions.{repeated}
use Rattle.ir_core.specs.Valid.{param_kind, named_locals, local_kinds}
use Rattle.ir_core.proofs.scope.Locals.add_params.Given as goal

abbrev pub invariant-loop-p : goal.invariant-loop-p
invariant-loop-p l = record {
  left : repeated l.self.names (named_locals (map param_kind (drop l.p-index l.params))) ≡ [];
  named : l.self.names ≡ l.initial.self.names ++ named_locals (map param_kind (take l.p-index l.params));
  known : l.self.kinds ≡ l.initial.self.kinds ++ local_kinds (map param_kind (take l.p-index l.params));
}
