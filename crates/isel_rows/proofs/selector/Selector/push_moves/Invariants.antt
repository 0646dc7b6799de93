-- the moves so far and those to come
use Rattle.std.proofs.Common.{◌≡◌, ◌+◌, ◌++◌, drop, map}
use Rattle.low_core.specs.Plain.{inst_of}
use Rattle.isel_rows.specs.Functions.{allocas_in, insts_ops}
use Rattle.isel_rows.proofs.selector.Selector.push_moves.Given as goal

abbrev pub invariant-loop-x : goal.invariant-loop-x
invariant-loop-x l = record {
  ops : l.ops ++ insts_ops l.self.context.now l.self.variables.now l.at (map inst_of (drop l.x-index l.moves)) ≡ l.initial.ops ++ insts_ops l.self.context.now l.self.variables.now l.initial.at (map inst_of l.moves);
  at : l.at + allocas_in l.self.context.now.types (map inst_of (drop l.x-index l.moves)) ≡ l.initial.at + allocas_in l.self.context.now.types (map inst_of l.moves);
}
