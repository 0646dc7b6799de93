use Rattle.std.proofs.Common.{◌≡◌, ◌+◌, ◌++◌, drop}
use Rattle.slot_plan.specs.Slots.{pointers_from, takens}
use Rattle.slot_plan.proofs.pointers.Given as goal

-- what is left to add is the addresses of the functions that are left, from the next position on
abbrev pub invariant-loop-is_taken : goal.invariant-loop-is_taken
invariant-loop-is_taken l = record {
  rest : l.all ++ pointers_from l.positions l.next (drop l.is_taken-index l.taken) ≡ pointers_from l.positions 1 l.taken;
  next : l.next + takens (drop l.is_taken-index l.taken) ≡ 1 + takens l.taken;
}
