use Rattle.std.proofs.Common.{◌≡◌, ◌+◌, ◌≤◌, ◌++◌, length, drop}
use Rattle.slot_plan.specs.Slots.{all_calls_from, operations}
use Rattle.slot_plan.proofs.calls.add_functions.Given as goal

-- what is left to add is the calls of the functions that are left
abbrev pub invariant-loop-number : goal.invariant-loop-number
invariant-loop-number l = record {
  rest : l.slots ++ all_calls_from l.count l.number (drop l.number l.functions) ≡ l.fn.slots ++ all_calls_from l.count 0 l.functions;
  few : length l.slots + operations (drop l.number l.functions) ≤ length l.fn.slots + operations l.functions;
}
