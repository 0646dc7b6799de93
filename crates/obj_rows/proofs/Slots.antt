-- What a step does at each kind of slot.
use Rattle.std.proofs.Common.{◌≡◌, ℕ, ◌+◌, Some, sym, ◌∙◌, ap, subst}
use Rattle.std.specs.Prelude.{ℤ, slice_get}
use Rattle.behavior.specs.System.{iter}
use Rattle.behavior.proofs.Between.{iter_add}
use Rattle.rd_num.specs.Number.{le_bytes}
use Rattle.x86_core.specs.declared.reg.Reg.TheVariants.{R11}
use Rattle.x86_core.specs.declared.instr.Instr.TheVariants.{Nop}
use Rattle.x86_core.specs.Registers.{word}
use Rattle.x86_core.specs.Memory.{write_at}
use Rattle.x86_core.specs.Step.{State, Plain, act, called, called_word, below, request_of, served}
use Rattle.x86_rows.specs.Addresses.{Written}
use Rattle.x86_rows.specs.Straight.{Core}
use Rattle.x86_rows.proofs.Leaves.{nop}
use Rattle.obj_core.specs.declared.object.Object.{Object}
use Rattle.obj_core.specs.declared.object.Slot.{Slot}
use Rattle.obj_core.specs.declared.object.CodeAt.{CodeAt}
use Rattle.obj_core.specs.declared.object.Place.{Place}
use Rattle.obj_core.specs.Slots.{slot_start}
use Rattle.obj_core.specs.SymbolicMachine.{at_code, in_slot, symbolic_land, symbolic_step}
use Rattle.obj_rows.specs.Standing.{Outside, standing, pushed}
use Rattle.obj_rows.proofs.Passing.{Fits, ran_fits}
use Rattle.obj_rows.proofs.Words.{start_lands, found_within}

-- an idle instruction only goes on
idles : (o : Object) (after : Place) (s : State Place) → act (symbolic_land o) (Plain Nop after) s ≡ record s { place = after }
idles o after s =
    let c : Core = record { regs = s.regs; flags = s.flags; segments = s.segments } in
    subst (λ r. Fits (symbolic_land o) after (λ (by : ℤ). after) 0 s r (act (symbolic_land o) (Plain Nop after) s)) (nop c) (ran_fits (symbolic_land o) after (λ (by : ℤ). after) 0 s Nop)

module _ (o : Object) (out : Outside) (k : ℕ) (c : Core) where
  -- at a byte of the slot
  abbrev at : ℕ → State Place
  at b = standing out (Place.Slot k b) c

  -- a step there, by what the slot is
  step_there : (slot : Slot) (b : ℕ) → slice_get o.slots k ≡ Some slot → symbolic_step o (at b) ≡ act (symbolic_land o) (in_slot (Some slot) o k b) (at b)
  step_there slot b found = ap (λ x. act (symbolic_land o) (in_slot x o k b) (at b)) found

  -- the entry and a jump go to their function
  pub entry_goes : (f : ℕ) → slice_get o.slots k ≡ Some (Slot.Entry f) → symbolic_step o (at 0) ≡ standing out (Place.Code f 0) c
  entry_goes f found = step_there (Slot.Entry f) 0 found

  pub jump_goes : (f : ℕ) → slice_get o.slots k ≡ Some (Slot.Jump f) → symbolic_step o (at 0) ≡ standing out (Place.Code f 0) c
  jump_goes f found = step_there (Slot.Jump f) 0 found

  -- a call pushes the word of the place behind it, and comes back from there
  pub call_goes : (f : ℕ) (back : CodeAt) (top : ℕ) → slice_get o.slots k ≡ Some (Slot.Call f back) → below c.regs ≡ top → (x : Written c.segments top (le_bytes 8 (slot_start o k + 5))) →
      symbolic_step o (at 0) ≡ standing out (Place.Code f 0) (pushed c top x.segments)
  call_goes f back top found there x =
      step_there (Slot.Call f back) 0 found ∙
      ap (λ p. called (Place.Code f 0) (write_at c.segments p (le_bytes 8 (slot_start o k + 5))) (at 0)) there ∙
      ap (λ w. called (Place.Code f 0) w (at 0)) x.gives ∙
      ap (λ p. standing out (Place.Code f 0) (pushed c p x.segments)) there

  pub call_returns : (f : ℕ) (back : CodeAt) → slice_get o.slots k ≡ Some (Slot.Call f back) → symbolic_step o (at 5) ≡ standing out (at_code back) c
  call_returns f back found = step_there (Slot.Call f back) 5 found

  -- a call of the word in r11, after two idle steps
  pub indirect_goes : (back : CodeAt) (top : ℕ) (p : Place) → slice_get o.slots k ≡ Some (Slot.Indirect back) → symbolic_land o (word c.regs R11) ≡ Some p → below c.regs ≡ top →
      (x : Written c.segments top (le_bytes 8 (slot_start o k + 5))) → iter (symbolic_step o) 3 (at 0) ≡ standing out p (pushed c top x.segments)
  indirect_goes back top p found lands there x =
      let one : symbolic_step o (at 0) ≡ at 1 = step_there (Slot.Indirect back) 0 found ∙ idles o (Place.Slot k 1) (at 0) in
      let two : symbolic_step o (at 1) ≡ at 2 = step_there (Slot.Indirect back) 1 found ∙ idles o (Place.Slot k 2) (at 1) in
      ap (iter (symbolic_step o) 2) one ∙ ap (iter (symbolic_step o) 1) two ∙
      step_there (Slot.Indirect back) 2 found ∙
      ap (λ q. called_word (symbolic_land o (word c.regs R11)) (write_at c.segments q (le_bytes 8 (slot_start o k + 5))) (at 2)) there ∙
      ap (λ w. called_word (symbolic_land o (word c.regs R11)) w (at 2)) x.gives ∙
      ap (λ q. called_word q (Some x.segments) (at 2)) lands ∙
      ap (λ q. standing out p (pushed c q x.segments)) there

  pub indirect_returns : (back : CodeAt) → slice_get o.slots k ≡ Some (Slot.Indirect back) → symbolic_step o (at 5) ≡ standing out (at_code back) c
  indirect_returns back found = step_there (Slot.Indirect back) 5 found

  -- a system call, and the idle steps from behind it to the way back
  pub system_serves : (back : CodeAt) → slice_get o.slots k ≡ Some (Slot.System back) → symbolic_step o (at 0) ≡ served (request_of c.regs) (Place.Slot k 2) (slot_start o k + 2) (at 0)
  system_serves back found = step_there (Slot.System back) 0 found

  pub system_returns : (back : CodeAt) → slice_get o.slots k ≡ Some (Slot.System back) → iter (symbolic_step o) 4 (at 2) ≡ standing out (at_code back) c
  system_returns back found =
      let one : symbolic_step o (at 2) ≡ at 3 = step_there (Slot.System back) 2 found ∙ idles o (Place.Slot k 3) (at 2) in
      let two : symbolic_step o (at 3) ≡ at 4 = step_there (Slot.System back) 3 found ∙ idles o (Place.Slot k 4) (at 3) in
      let three : symbolic_step o (at 4) ≡ at 5 = step_there (Slot.System back) 4 found ∙ idles o (Place.Slot k 5) (at 4) in
      ap (iter (symbolic_step o) 3) one ∙ ap (iter (symbolic_step o) 2) two ∙ ap (iter (symbolic_step o) 1) three ∙ step_there (Slot.System back) 5 found

-- a call by a pointer to a function: four steps to its start
pub pointer_goes : (o : Object) (out : Outside) (k : ℕ) (c : Core) (back : CodeAt) (top j f : ℕ) → slice_get o.slots k ≡ Some (Slot.Indirect back) → slice_get o.slots j ≡ Some (Slot.Jump f) → word c.regs R11 ≡ slot_start o j → below c.regs ≡ top →
    (x : Written c.segments top (le_bytes 8 (slot_start o k + 5))) → iter (symbolic_step o) 4 (standing out (Place.Slot k 0) c) ≡ standing out (Place.Code f 0) (pushed c top x.segments)
pointer_goes o out k c back top j f found jump pointer there x =
    let lands : symbolic_land o (word c.regs R11) ≡ Some (Place.Slot j 0) = ap (symbolic_land o) pointer ∙ start_lands o j (found_within o.slots j (Slot.Jump f) jump) in
    sym (iter_add (symbolic_step o) 3 1 (standing out (Place.Slot k 0) c)) ∙
    ap (iter (symbolic_step o) 1) (indirect_goes o out k c back top (Place.Slot j 0) found lands there x) ∙ jump_goes o out j (pushed c top x.segments) f jump
