-- what was added stands behind what was there, and what is left repeats none of it
use Rattle.std.proofs.Common.{◌≡◌, ◌++◌, [], take, drop}
use Rattle.ir_core.specs.Definitions.{repeated}
use Rattle.ir_core.specs.Valid.{kinds_in, named_locals, local_kinds}
use Rattle.ir_core.proofs.scope.Locals.add_results.Given as goal

abbrev pub invariant-loop-i : goal.invariant-loop-i
invariant-loop-i l = record {
  left : repeated l.self.names (named_locals (kinds_in (drop l.i-index l.insts))) ≡ [];
  named : l.self.names ≡ l.initial.self.names ++ named_locals (kinds_in (take l.i-index l.insts));
  known : l.self.kinds ≡ l.initial.self.kinds ++ local_kinds (kinds_in (take l.i-index l.insts));
}
