-- the indices so far and those to come
use Rattle.std.proofs.Common.{◌≡◌, ◌++◌, drop}
use Rattle.isel_rows.specs.Rows.{strides_moved}
use Rattle.isel_rows.proofs.selector.Selector.push_strides.Given as goal

abbrev pub invariant-loop-s : goal.invariant-loop-s
invariant-loop-s l = record {
  ops : l.ops ++ (strides_moved l.self.variables.now l.at (drop l.s-index l.strides)).ops ≡ l.initial.ops ++ (strides_moved l.self.variables.now l.from l.strides).ops;
  register : (strides_moved l.self.variables.now l.at (drop l.s-index l.strides)).register ≡ (strides_moved l.self.variables.now l.from l.strides).register;
}
