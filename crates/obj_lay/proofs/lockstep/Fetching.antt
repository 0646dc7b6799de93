-- What the image's machine fetches at the address of a place is what the object has there.
use Rattle.std.proofs.Common.{◌≡◌, ℕ, ◌<◌, ◌≤◌, ◌+◌, ◌%◌, ◌^◌, Bool, true, List, Some, if◌then◌else◌, sym, ◌∙◌, ap, subst, inl, inr, arith}
use Rattle.std.specs.Prelude.{nat_lt, nat_eq}
use Rattle.std.proofs.lemmas.Bool.{lt-ltb, ne_eqb}
use Rattle.behavior.specs.Ending.{Breakpoint}
use Rattle.x86_core.specs.declared.instr.Instr.{Instr}
use Rattle.x86_core.specs.declared.instr.Instr.TheVariants.{Jcc, Jmp, Call, Ret, CallR11, JmpR11, Syscall, Ud2, Int3, Nop}
use Rattle.x86_core.specs.declared.instr.Decoded.TheVariants.{One}
use Rattle.x86_core.specs.declared.image.Segment.{Segment}
use Rattle.x86_core.specs.Decoding.{decode}
use Rattle.x86_core.proofs.Back.{decode_back}
use Rattle.x86_core.specs.Step.{Fetched, Stops, Plain, Goes, Tests, Calls, CallsWord, Systems}
use Rattle.x86_core.specs.Machine.{by_decoded as decoded_at, by_bytes, machine_fetch}
use Rattle.obj_core.specs.declared.object.Object.{Object}
use Rattle.obj_core.specs.declared.object.Func.{Func}
use Rattle.obj_core.specs.declared.object.Slot.{Slot}
use Rattle.obj_core.specs.declared.object.CodeAt.{CodeAt}
use Rattle.obj_core.specs.declared.object.Place.{Place}
use Rattle.obj_core.specs.Slots.{slot_start}
use Rattle.obj_core.specs.Disassembly.{size_of}
use Rattle.obj_core.specs.SymbolicMachine.{link_before, target, by_decoded, in_function, in_slot, at_code, symbolic_fetch}
use Rattle.obj_lay.specs.Held.{IsAt, HasInstr, Leads, CodeStands, Idles, SlotStands, HoldsPlaces}
use Rattle.obj_lay.proofs.lockstep.Natural.{addressed, StaysWithin}

-- the instruction that the machine reads at an address
read_at_address : (exec : List Segment) (at : ℕ) (i : Instr) → IsAt exec at i → machine_fetch exec at ≡ decoded_at at (One i (size_of i))
read_at_address exec at i h = ap (by_bytes at) h.bytes ∙ ap (decoded_at at) (decode_back i h.rest h.is_instr)

-- the instruction that the object has at an offset of a function
read_in_function : (o : Object) (n off : ℕ) (h : HasInstr o n off) → symbolic_fetch o (Place.Code n off) ≡ by_decoded h.func n off (One h.instr (size_of h.instr))
read_in_function o n off h =
    ap (λ f. in_function f n off) h.found ∙
    ap (λ bs. by_decoded h.func n off (decode bs)) h.bytes ∙
    ap (by_decoded h.func n off) (decode_back h.instr h.rest h.is_instr)

-- the same is fetched, and the step stays among the places
pub record FetchesSame (place : Place → ℕ) (is_place : Place → Bool) (x : Fetched Place) (y : Fetched ℕ) : Type 0 where
  pub same : y ≡ addressed place x
  pub within : StaysWithin is_place x

module _ (exec : List Segment) (place : Place → ℕ) (is_place : Place → Bool) (o : Object) where
  abbrev Alike : Fetched Place → Fetched ℕ → Type 0
  Alike = FetchesSame place is_place

  -- an instruction of a function
  code_alike : (f : Func) (n off : ℕ) (i : Instr) → CodeStands exec place is_place o f n off i → Alike (by_decoded f n off (One i (size_of i))) (machine_fetch exec (place (Place.Code n off)))
  code_alike f n off (Jcc c by) h =
      let at = place (Place.Code n off) in
      let to = target n (off + 6) (link_before f.links (off + 6)) by in
      let branch = h.0.branch in
      record {
        same = read_at_address exec at (Jcc c branch.by) branch.here ∙ ap (λ p. Tests c p ((at + 6) % 2 ^ 64)) branch.leads ∙ ap (Tests c (place to)) (sym h.1.behind);
        within = (h.0.there, h.1.next);
      }
  code_alike f n off (Jmp by) h = record { same = read_at_address exec _ (Jmp h.branch.by) h.branch.here ∙ ap Goes h.branch.leads; within = h.there }
  code_alike f n off (Call by) h = absurd h
  code_alike f n off CallR11 h = absurd h
  code_alike f n off Syscall h = absurd h
  code_alike f n off Ret h = record { same = read_at_address exec _ Ret h; within = tt }
  code_alike f n off JmpR11 h = record { same = read_at_address exec _ JmpR11 h; within = tt }
  code_alike f n off Ud2 h = record { same = read_at_address exec _ Ud2 h; within = tt }
  code_alike f n off Int3 h = record { same = read_at_address exec _ Int3 h; within = tt }
  code_alike f n off i h = record { same = read_at_address exec _ i h.0 ∙ ap (Plain i) (sym h.1.behind); within = h.1.next }

  module _ (k : ℕ) (fits : slot_start o k + 5 < 2 ^ 64) (address : (at : ℕ) → is_place (Place.Slot k at) ≡ true → place (Place.Slot k at) ≡ slot_start o k + at) where
    -- a byte of a slot
    abbrev At : Slot → ℕ → Type 0
    At s at = Alike (in_slot (Some s) o k at) (machine_fetch exec (place (Place.Slot k at)))

    -- the address behind a slot's instruction
    behind : (at size : ℕ) → at + size ≤ 5 → place (Place.Slot k at) ≡ slot_start o k + at → (place (Place.Slot k at) + size) % 2 ^ 64 ≡ slot_start o k + (at + size)
    behind at size le e = omega (arith, e, fits, le)

    -- the instructions of slots
    jumps : (at : ℕ) (to : Place) → Leads exec place is_place o (Place.Slot k at) Jmp to → Alike (Goes to) (machine_fetch exec (place (Place.Slot k at)))
    jumps at to h = record { same = read_at_address exec _ (Jmp h.branch.by) h.branch.here ∙ ap Goes h.branch.leads; within = h.there }

    stops : (at : ℕ) → IsAt exec (place (Place.Slot k at)) Int3 → Alike (Stops Breakpoint) (machine_fetch exec (place (Place.Slot k at)))
    stops at h = record { same = read_at_address exec _ Int3 h; within = tt }

    calls : (to : Place) → place (Place.Slot k 0) ≡ slot_start o k + 0 → Leads exec place is_place o (Place.Slot k 0) Call to → Alike (Calls to (slot_start o k + 5)) (machine_fetch exec (place (Place.Slot k 0)))
    calls to e h = record {
      same = read_at_address exec _ (Call h.branch.by) h.branch.here ∙ ap (λ p. Calls p ((place (Place.Slot k 0) + 5) % 2 ^ 64)) h.branch.leads ∙ ap (Calls (place to)) (behind 0 5 (omega arith) e);
      within = h.there;
    }

    calls_word : place (Place.Slot k 2) ≡ slot_start o k + 2 → IsAt exec (place (Place.Slot k 2)) CallR11 → Alike (CallsWord (slot_start o k + 5)) (machine_fetch exec (place (Place.Slot k 2)))
    calls_word e h = record { same = read_at_address exec _ CallR11 h ∙ ap CallsWord (behind 2 3 (omega arith) e); within = tt }

    asks : place (Place.Slot k 0) ≡ slot_start o k + 0 → is_place (Place.Slot k 2) ≡ true → IsAt exec (place (Place.Slot k 0)) Syscall → Alike (Systems (Place.Slot k 2) (slot_start o k + 2)) (machine_fetch exec (place (Place.Slot k 0)))
    asks e next h = record {
      same = read_at_address exec _ Syscall h ∙ ap (λ n. Systems n n) (behind 0 2 (omega arith) e) ∙ ap (λ n. Systems n (slot_start o k + 2)) (sym (address 2 next));
      within = next;
    }

    idles : (at : ℕ) → at < 5 → place (Place.Slot k at) ≡ slot_start o k + at → Idles exec place is_place o k at → Alike (Plain Nop (Place.Slot k (at + 1))) (machine_fetch exec (place (Place.Slot k at)))
    idles at lt e h = record {
      same = read_at_address exec _ Nop h.here ∙ ap (Plain Nop) (behind at 1 (omega (arith, lt)) e ∙ sym (address (at + 1) h.next));
      within = h.next;
    }

    -- the first bytes of a slot for a pointer, and the last ones of a slot for the kernel
    indirect_idles : (at : ℕ) (back : CodeAt) → at < 2 → in_slot (Some (Slot.Indirect back)) o k at ≡ Plain Nop (Place.Slot k (at + 1))
    indirect_idles at back lt = ap (λ t. if t then Plain Nop (Place.Slot k (at + 1)) else (if nat_eq at 2 then CallsWord (slot_start o k + 5) else Goes (at_code back))) (lt-ltb at 2 lt)

    -- the bytes behind the kernel call
    system_idles : (at : ℕ) (back : CodeAt) → 2 ≤ at → at < 5 → in_slot (Some (Slot.System back)) o k at ≡ Plain Nop (Place.Slot k (at + 1))
    system_idles at back le lt =
        ap (λ t. if t then Systems (Place.Slot k 2) (slot_start o k + 2) else (if nat_lt at 5 then Plain Nop (Place.Slot k (at + 1)) else Goes (at_code back))) (ne_eqb at 0 (λ z. omega (arith, z, le))) ∙
        ap (λ t. if t then Plain Nop (Place.Slot k (at + 1)) else Goes (at_code back)) (lt-ltb at 5 lt)

    -- each byte of each kind of slot
    slot_alike : (at : ℕ) → place (Place.Slot k at) ≡ slot_start o k + at → (s : Slot) → SlotStands exec place is_place o k at s → At s at
    slot_alike at e (Slot.Entry f) (inl h) = subst (At (Slot.Entry f)) (sym h.0) (jumps 0 (Place.Code f 0) h.1)
    slot_alike at e (Slot.Entry f) (inr h) = subst (At (Slot.Entry f)) (sym h.0) (stops 5 h.1)
    slot_alike at e (Slot.Jump f) (inl h) = subst (At (Slot.Jump f)) (sym h.0) (jumps 0 (Place.Code f 0) h.1)
    slot_alike at e (Slot.Jump f) (inr h) = subst (At (Slot.Jump f)) (sym h.0) (stops 5 h.1)
    slot_alike at e (Slot.Call f back) (inl h) = subst (At (Slot.Call f back)) (sym h.0) (calls (Place.Code f 0) (subst (λ n. place (Place.Slot k n) ≡ slot_start o k + n) h.0 e) h.1)
    slot_alike at e (Slot.Call f back) (inr h) = subst (At (Slot.Call f back)) (sym h.0) (jumps 5 (at_code back) h.1)
    slot_alike at e (Slot.Indirect back) (inl h) =
        subst (λ x. Alike x (machine_fetch exec (place (Place.Slot k at)))) (sym (indirect_idles at back h.0)) (idles at (omega (arith, h.0)) e h.1)
    slot_alike at e (Slot.Indirect back) (inr (inl h)) = subst (At (Slot.Indirect back)) (sym h.0) (calls_word (subst (λ n. place (Place.Slot k n) ≡ slot_start o k + n) h.0 e) h.1)
    slot_alike at e (Slot.Indirect back) (inr (inr h)) = subst (At (Slot.Indirect back)) (sym h.0) (jumps 5 (at_code back) h.1)
    slot_alike at e (Slot.System back) (inl h) = subst (At (Slot.System back)) (sym h.0) (asks (subst (λ n. place (Place.Slot k n) ≡ slot_start o k + n) h.0 e) h.1 h.2)
    slot_alike at e (Slot.System back) (inr (inl h)) =
        subst (λ x. Alike x (machine_fetch exec (place (Place.Slot k at)))) (sym (system_idles at back h.0 h.1)) (idles at h.1 e h.2)
    slot_alike at e (Slot.System back) (inr (inr h)) = subst (At (Slot.System back)) (sym h.0) (jumps 5 (at_code back) h.1)

  module _ (held : HoldsPlaces exec place is_place o) where
    -- at each place
    pub fetches_same : (p : Place) → is_place p ≡ true → FetchesSame place is_place (symbolic_fetch o p) (machine_fetch exec (place p))
    fetches_same (Place.Code n off) ok =
        let h = held.code n off ok in
        subst (λ x. Alike x (machine_fetch exec (place (Place.Code n off)))) (sym (read_in_function o n off h.0)) (code_alike h.0.func n off h.0.instr h.1)
    fetches_same (Place.Slot k at) ok =
        let h = held.slots k at ok in
        subst (λ s. Alike (in_slot s o k at) (machine_fetch exec (place (Place.Slot k at)))) (sym h.found)
        (slot_alike k h.fits (λ n i. (held.slots k n i).address) at h.address h.slot h.stands)
