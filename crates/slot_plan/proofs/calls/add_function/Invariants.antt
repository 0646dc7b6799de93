use Rattle.std.proofs.Common.{◌≡◌, ◌+◌, ◌-◌, ◌≤◌, ◌++◌, length, drop}
use Rattle.std.specs.List.{flat_map}
use Rattle.low_core.specs.declared.sel.SelBlock.{SelBlock}
use Rattle.low_core.specs.SelParts.{ops_of}
use Rattle.slot_plan.specs.Slots.{calls_from}
use Rattle.slot_plan.proofs.calls.add_function.Given as goal

-- what is left to add is that of the blocks that are left
abbrev pub invariant-loop-b : goal.invariant-loop-b
invariant-loop-b l = record {
  rest : l.slots ++ calls_from l.count l.number (length l.slots - l.first) (flat_map (λ (b : SelBlock). b.ops) (drop l.b-index l.b-items)) ≡ l.fn.slots ++ calls_from l.count l.number 0 (ops_of l.function);
  behind : l.first ≤ length l.slots;
  few : length l.slots + length (flat_map (λ (b : SelBlock). b.ops) (drop l.b-index l.b-items)) ≤ length l.fn.slots + length (ops_of l.function);
}
