use Rattle.std.proofs.Common.{◌≡◌, ℕ, drop}
use Rattle.obj_core.specs.declared.object.Slot.{Slot as Trampoline}
use Rattle.obj_core.specs.WellFormed.{is_good_slot, in_slots}
use Rattle.obj_check.specs.Disassembled.{disassemblies_of}
use Rattle.obj_check.proofs.slots.first_bad_goal.Given as goal

abbrev pub invariant-loop-k : goal.invariant-loop-k
invariant-loop-k l = in_slots 6 (λ (k : ℕ) (s : Trampoline). is_good_slot (disassemblies_of l.functions) s) l.k (drop l.k l.slots) ≡ in_slots 6 (λ (k : ℕ) (s : Trampoline). is_good_slot (disassemblies_of l.functions) s) 0 l.slots
