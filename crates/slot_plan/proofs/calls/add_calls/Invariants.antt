use Rattle.std.proofs.Common.{◌≡◌, ◌+◌, ◌-◌, ◌≤◌, ◌++◌, length, drop}
use Rattle.slot_plan.specs.Slots.{calls_from}
use Rattle.slot_plan.proofs.calls.add_calls.Given as goal

-- what is left to add is that of the operations that are left
abbrev pub invariant-loop-op : goal.invariant-loop-op
invariant-loop-op l = record {
  rest : l.slots ++ calls_from l.count l.function (length l.slots - l.first) (drop l.op-index l.ops) ≡ l.fn.slots ++ calls_from l.count l.function (length l.fn.slots - l.first) l.ops;
  behind : length l.fn.slots ≤ length l.slots;
  few : length l.slots ≤ length l.fn.slots + l.op-index;
}
