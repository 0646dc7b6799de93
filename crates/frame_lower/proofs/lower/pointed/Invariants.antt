use Rattle.std.proofs.Common.{◌≡◌, ◌+◌, ◌≤◌, drop}
use Rattle.slot_plan.specs.Slots.{takens}
use Rattle.frame_lower.proofs.lower.pointed.Given as goal

-- those that are left are still to be counted
abbrev pub invariant-loop-is_taken : goal.invariant-loop-is_taken
invariant-loop-is_taken l = (l.count + takens (drop l.is_taken-index l.taken) ≡ takens l.taken) × (l.count ≤ l.is_taken-index)
