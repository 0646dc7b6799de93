-- What stands at the bytes of a slot in a layout.
use Rattle.std.proofs.Common.{◌≡◌, ℕ, ◌+◌, ◌-◌, ◌^◌, ◌%◌, ◌≤◌, true, List, [], ◌∷◌, ◌++◌, length, drop, Some, refl, sym, ◌∙◌, ap, arith}
use Rattle.std.specs.Prelude.{nat_lt, slice_get, ℤ}
use Rattle.std.proofs.lemmas.Bool.{ltb-true, and_parts}
use Rattle.std.proofs.lemmas.List.{drop-drop}
use Rattle.std.proofs.lemmas.Option.{slice_get_within}
use Rattle.x86_core.specs.declared.instr.Instr.{Instr}
use Rattle.x86_core.specs.declared.instr.Instr.TheVariants.{Jmp, Call, CallR11, Syscall, Int3, Nop}
use Rattle.x86_core.specs.Arithmetic.{moved}
use Rattle.x86_core.specs.Encoding.{IsInstr, IsNumber32, number32}
use Rattle.obj_core.specs.declared.object.Object.{Object}
use Rattle.obj_core.specs.declared.object.Slot.{Slot}
use Rattle.obj_core.specs.declared.object.CodeAt.{CodeAt}
use Rattle.obj_core.specs.declared.object.Place.{Place}
use Rattle.obj_core.specs.Slots.{slot_base, slot_start}
use Rattle.obj_core.specs.Disassembly.{size_of}
use Rattle.obj_core.specs.SymbolicMachine.{at_code}
use Rattle.obj_core.specs.WellFormed.{is_start, is_good_slot, IsWellFormed}
use Rattle.obj_lay.specs.Held.{IsAt, IsAtTo}
use Rattle.obj_lay.specs.Places.{is_code_place, SlotBytes}
use Rattle.obj_lay.proofs.lockstep.Starts.{is_start_code}
use Rattle.obj_core.proofs.Kept.{slot_keeps}
use Rattle.obj_lay.proofs.lockstep.Rules.{function_starts}
use Rattle.obj_core.specs.Placement.{filler, displacement_bytes, start_of, code_base, address}
use Rattle.obj_core.specs.Layout.{jump, trampoline, code_bytes, trampoline_bytes}
use Rattle.obj_lay.proofs.hidden.Instrs.{Front}
use Rattle.obj_lay.proofs.hidden.Numbers.{between, between_leads, between_fits, displacement_between}
use Rattle.obj_lay.proofs.hidden.Executable.{in_slots}
use Rattle.obj_lay.proofs.hidden.Places.{slot_low}
use Rattle.obj_lay.proofs.hidden.Trampolines.{slot_there}
use Rattle.obj_lay.proofs.hidden.Functions.{exec, at_place, near_code}

module _ (o : Object) (w : IsWellFormed o) (seed : ℕ) where
  -- where a slot leads is a place
  abbrev Starts : ℕ → ℕ → Type 0
  Starts n off = is_code_place (slice_get w.disassemblies n) off ≡ true

  -- a function begins with an instruction
  begins_known : (f : ℕ) → nat_lt f (length w.disassemblies) ≡ true → Starts f 0
  begins_known f h = function_starts o.functions w.disassemblies w.disassembled f (ltb-true f (length w.disassemblies) h)

  -- the bytes of a slot
  abbrev bytes_of : ℕ → Slot → List ℕ
  bytes_of k s = trampoline (address o seed) (slot_start o k) (Some s)

  module _ (k : ℕ) (s : Slot) (there : slice_get o.slots k ≡ Some s) where
    -- it stands low
    low : slot_start o k + 16 ≤ 285212672
    low = slot_low o seed k w.few (slice_get_within o.slots k s there)

    -- an instruction in its bytes
    begins : (at : ℕ) (i : Instr) → IsInstr i → ((more : List ℕ) → Front (drop at (bytes_of k s ++ more)) i) → IsAt (exec o w seed) (at_place o w seed (Place.Slot k at)) i
    begins at i is h =
        let x = slot_there o seed k (slice_get_within o.slots k s there) in
        let y = h x.0 in
        let split : slot_start o k + at - slot_base ≡ (slot_start o k - slot_base) + at = omega arith in
        in_slots (trampoline_bytes o seed) (code_base seed) (code_bytes o seed) (slot_start o k + at) i is (omega arith) (record {
          more = y.more;
          begins =
              ap (λ n. drop n (trampoline_bytes o seed)) split ∙
              sym (drop-drop at (slot_start o k - slot_base) (trampoline_bytes o seed)) ∙
              ap (drop at) (x.1 ∙ ap (λ z. trampoline (address o seed) (slot_start o k) z ++ x.0) there) ∙
              y.begins;
        })

    -- a jump or a call of the slot
    leads : (make : ℤ → Instr) (at : ℕ) → at ≤ 5 → (n off : ℕ) → Starts n off → ((x : ℤ) → size_of (make x) ≡ 5) → ((x : ℤ) → IsNumber32 x → IsInstr (make x)) →
        ((by : ℤ) → displacement_bytes (address o seed (record { function = n; offset = off })) (slot_start o k + (at + 5)) ≡ number32 by → (more : List ℕ) → Front (drop at (bytes_of k s ++ more)) (make by)) →
        IsAtTo (exec o w seed) (at_place o w seed (Place.Slot k at)) make (at_place o w seed (Place.Code n off))
    leads make at le n off ok sized fits fill =
        let x = near_code o w seed n off ok in
        let low_to : 0x40000000 ≤ address o seed (record { function = n; offset = off }) = x.low in
        let high_to : address o seed (record { function = n; offset = off }) ≤ 1477000000 = x.high in
        let below = low in
        let bytes =
        displacement_between (address o seed (record { function = n; offset = off })) (slot_start o k + (at + 5)) (omega (arith, below, le)) (omega (arith, high_to)) (omega (arith, below, le)) in
        let size = sized (between (address o seed (record { function = n; offset = off })) (slot_start o k + (at + 5))) in
        let end : slot_start o k + at + size_of (make (between (address o seed (record { function = n; offset = off })) (slot_start o k + (at + 5)))) ≡ slot_start o k + (at + 5) = omega (arith, size) in
        record {
          by = between (address o seed (record { function = n; offset = off })) (slot_start o k + (at + 5));
          here = begins at (make (between (address o seed (record { function = n; offset = off })) (slot_start o k + (at + 5)))) (fits _ (between_fits (address o seed (record { function = n; offset = off })) (slot_start o k + (at + 5)) (omega (arith, high_to)) (omega (arith, below, le, low_to)))) (fill (between (address o seed (record { function = n; offset = off })) (slot_start o k + (at + 5))) bytes);
          leads = ap (λ a. moved (a % 2 ^ 64) (between (address o seed (record { function = n; offset = off })) (slot_start o k + (at + 5)))) end ∙ between_leads (address o seed (record { function = n; offset = off })) (slot_start o k + (at + 5)) (omega (arith, high_to)) (omega (arith, below, le));
        }

  module _ (k : ℕ) where
    -- where the slot stands
    abbrev here : ℕ
    here = slot_start o k

    -- an instruction at a byte of it
    abbrev Runs : ℕ → Instr → Type 0
    Runs at i = IsAt (exec o w seed) (at_place o w seed (Place.Slot k at)) i

    -- a jump or a call at a byte of it
    abbrev Goes : ℕ → (ℤ → Instr) → Place → Type 0
    Goes at make to = IsAtTo (exec o w seed) (at_place o w seed (Place.Slot k at)) make (at_place o w seed to)

    -- a slot that jumps
    enters : (f : ℕ) (s : Slot) → slice_get o.slots k ≡ Some s → Starts f 0 → bytes_of k s ≡ jump (address o seed (start_of f)) (here + 5) ++ filler 11 → Goes 0 Jmp (Place.Code f 0) × Runs 5 Int3
    enters f s e ok same = (
      leads k s e Jmp 0 (omega arith) f 0 ok (λ x. refl) (λ x y. y)
          (λ by d more. record { more = filler 11 ++ more; begins = ap (λ bs. bs ++ more) same ∙ ap (λ x. ((0xE9 ∷ x) ++ filler 11) ++ more) d }),
      begins k s e 5 Int3 tt (λ more. record { more = filler 10 ++ more; begins = ap (λ bs. drop 5 (bs ++ more)) same }),
    )

    -- the jump back of a slot
    returns : (back : CodeAt) (s : Slot) (a b c d x : ℕ) → slice_get o.slots k ≡ Some s → is_start w.disassemblies back ≡ true → bytes_of k s ≡ (a ∷ b ∷ c ∷ d ∷ x ∷ []) ++ (jump (address o seed back) (here + 10) ++ filler 6) → Goes 5 Jmp (at_code back)
    returns back s a b c d x e ok same =
        leads k s e Jmp 5 (omega arith) back.function back.offset (sym (is_start_code w.disassemblies back) ∙ ok) (λ x. refl) (λ x y. y)
        (λ by z more. record { more = filler 6 ++ more; begins = ap (λ bs. drop 5 (bs ++ more)) same ∙ ap (λ y. ((0xE9 ∷ y) ++ filler 6) ++ more) z })

    -- by the kind of slot
    slot_of : (s : Slot) → slice_get o.slots k ≡ Some s → is_good_slot w.disassemblies s ≡ true → SlotBytes (exec o w seed) (at_place o w seed) o k s
    slot_of (Slot.Entry f) e good = enters f (Slot.Entry f) e (begins_known f good) refl
    slot_of (Slot.Jump f) e good = enters f (Slot.Jump f) e (begins_known f good) refl
    slot_of (Slot.Call f back) e good =
        let both = and_parts (nat_lt f (length w.disassemblies)) (is_start w.disassemblies back) good in (
          leads k (Slot.Call f back) e Call 0 (omega arith) f 0 (begins_known f both.0) (λ x. refl) (λ x y. y)
              (λ by d more. record { more = jump (address o seed back) (here + 10) ++ (filler 6 ++ more); begins = ap (λ x. ((0xE8 ∷ x) ++ (jump (address o seed back) (here + 10) ++ filler 6)) ++ more) d }),
          returns back (Slot.Call f back) _ _ _ _ _ e both.1 refl,
        )
    slot_of (Slot.Indirect back) e good = (
      begins k (Slot.Indirect back) e 0 Nop tt (λ more. record { more = 0x90 ∷ 0x41 ∷ 0xFF ∷ 0xD3 ∷ (jump (address o seed back) (here + 10) ++ (filler 6 ++ more)); begins = refl }),
      begins k (Slot.Indirect back) e 1 Nop tt (λ more. record { more = 0x41 ∷ 0xFF ∷ 0xD3 ∷ (jump (address o seed back) (here + 10) ++ (filler 6 ++ more)); begins = refl }),
      begins k (Slot.Indirect back) e 2 CallR11 tt (λ more. record { more = jump (address o seed back) (here + 10) ++ (filler 6 ++ more); begins = refl }),
      returns back (Slot.Indirect back) _ _ _ _ _ e good refl,
    )
    slot_of (Slot.System back) e good = (
      begins k (Slot.System back) e 0 Syscall tt (λ more. record { more = 0x90 ∷ 0x90 ∷ 0x90 ∷ (jump (address o seed back) (here + 10) ++ (filler 6 ++ more)); begins = refl }),
      begins k (Slot.System back) e 2 Nop tt (λ more. record { more = 0x90 ∷ 0x90 ∷ (jump (address o seed back) (here + 10) ++ (filler 6 ++ more)); begins = refl }),
      begins k (Slot.System back) e 3 Nop tt (λ more. record { more = 0x90 ∷ (jump (address o seed back) (here + 10) ++ (filler 6 ++ more)); begins = refl }),
      begins k (Slot.System back) e 4 Nop tt (λ more. record { more = jump (address o seed back) (here + 10) ++ (filler 6 ++ more); begins = refl }),
      returns back (Slot.System back) _ _ _ _ _ e good refl,
    )

    -- the bytes of each slot
    pub slot_laid : (s : Slot) → slice_get o.slots k ≡ Some s → SlotBytes (exec o w seed) (at_place o w seed) o k s
    slot_laid s e = slot_of s e (slot_keeps o w.disassemblies w.kept k s e)
