use Rattle.std.proofs.Common.{◌≡◌, ℕ, drop}
use Rattle.obj_core.specs.declared.object.Slot.{Slot as Trampoline}
use Rattle.obj_core.specs.WellFormed.{in_slots}
use Rattle.guard_check.specs.Form.{is_good_way}
use Rattle.guard_check.specs.Checking.{disassemblies_of}
use Rattle.guard_check.proofs.check.first_bad_way.Given as goal

abbrev pub invariant-loop-k : goal.invariant-loop-k
invariant-loop-k l = in_slots 4 (λ (k : ℕ) (s : Trampoline). is_good_way l.o (disassemblies_of l.o.functions) s) l.k (drop l.k l.slots) ≡ in_slots 4 (λ (k : ℕ) (s : Trampoline). is_good_way l.o (disassemblies_of l.o.functions) s) 0 l.slots
