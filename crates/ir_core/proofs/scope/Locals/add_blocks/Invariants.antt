-- what was added stands behind what was there, and what is left repeats none of it
use Rattle.std.proofs.Common.{◌≡◌, ◌++◌, [], take, drop}
use Rattle.ir_core.specs.Definitions.{repeated}
use Rattle.ir_core.specs.Valid.{results_of, named_locals, local_kinds}
use Rattle.ir_core.proofs.scope.Locals.add_blocks.Given as goal

abbrev pub invariant-loop-b : goal.invariant-loop-b
invariant-loop-b l = record {
  left : repeated l.self.names (named_locals (results_of (drop l.b-index l.blocks))) ≡ [];
  named : l.self.names ≡ l.initial.self.names ++ named_locals (results_of (take l.b-index l.blocks));
  known : l.self.kinds ≡ l.initial.self.kinds ++ local_kinds (results_of (take l.b-index l.blocks));
}
