-- the arguments so far and those to come
use Rattle.std.proofs.Common.{◌≡◌, ◌++◌, drop}
use Rattle.isel_rows.specs.Brought.{args_brought}
use Rattle.isel_rows.proofs.selector.Selector.arguments.Given as goal

abbrev pub invariant-loop-a : goal.invariant-loop-a
invariant-loop-a l = record {
  number : l.k ≡ l.a-index;
  ops : l.ops ++ (args_brought l.self.context.now l.self.variables.now l.k (drop l.a-index l.args)).ops ≡ l.initial.ops ++ (args_brought l.self.context.now l.self.variables.now 0 l.args).ops;
  registers : l.registers ++ (args_brought l.self.context.now l.self.variables.now l.k (drop l.a-index l.args)).registers ≡ (args_brought l.self.context.now l.self.variables.now 0 l.args).registers;
}
