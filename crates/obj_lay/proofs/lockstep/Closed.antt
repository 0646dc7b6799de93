-- The places of a well-formed object are closed under steps, so bytes that hold its instructions hold the object.
use Rattle.std.proofs.Common.{◌≡◌, ℕ, zero, suc, ◌+◌, ◌<◌, ◌≤◌, ◌^◌, ◌⊎◌, true, false, ◌||◌, List, [], ◌∷◌, ◌++◌, length, drop, Option, Some, None, refl, sym, ◌∙◌, ap, subst, inl, inr, arith}
use Rattle.std.specs.Prelude.{nat_eq, nat_lt, slice_get, slice_index, ℤ}
use Rattle.std.proofs.lemmas.List.{drop_at}
use Rattle.std.proofs.lemmas.Bool.{eqb-true, ltb-true, and_parts, or_cases}
use Rattle.rd_draw.specs.Draw.{keystream_word}
use Rattle.rd_draw.proofs.Permuted.{shuffled_long, shuffled_below}
use Rattle.x86_core.specs.declared.instr.Instr.{Instr}
use Rattle.x86_core.specs.declared.instr.Instr.TheVariants.{Jcc, Jmp, Call, Ret, CallR11, JmpR11, Syscall, Ud2, Int3, Nop}
use Rattle.x86_core.specs.declared.image.Segment.{Segment}
use Rattle.x86_core.specs.Arithmetic.{moved}
use Rattle.x86_core.specs.Encoding.{encoding, IsInstr}
use Rattle.obj_core.specs.declared.object.Object.{Object}
use Rattle.obj_core.specs.declared.object.Func.{Func}
use Rattle.obj_core.specs.declared.object.Link.{Link}
use Rattle.obj_core.specs.declared.object.Slot.{Slot}
use Rattle.obj_core.specs.declared.object.CodeAt.{CodeAt}
use Rattle.obj_core.specs.declared.object.Place.{Place}
use Rattle.obj_core.specs.Object.{Each}
use Rattle.obj_core.specs.Slots.{slot_purpose, positions, slot_start}
use Rattle.obj_core.specs.Disassembly.{IsDisassembly, found, starts_at, spelled, size_of}
use Rattle.obj_core.specs.WellFormed.{forbidden_in, bad_branches, open_end, is_slots_own, displacement, is_linked, goes_well, is_end, is_start, is_good_slot, IsWellFormed}
use Rattle.obj_core.specs.SymbolicMachine.{link_before, target, at_code}
use Rattle.obj_core.proofs.Spelling.{spelled-append, each_right}
use Rattle.obj_lay.specs.Held.{IsAt, IsAtTo, HasInstr, Leads, FallsThrough, CodeStands, Idles, SlotStands, HasSlot, HoldsPlaces}
use Rattle.obj_lay.specs.Places.{is_code_place, is_slot_place, is_step_place, CodeBytes, SlotBytes, HoldsInstrs}
use Rattle.obj_lay.proofs.lockstep.Starts.{is_start_code, SplitsAt, start_splits, none_of_slots, branch_goes, goes_on, next_start}
use Rattle.obj_core.proofs.Kept.{function_keeps, slot_keeps}
use Rattle.obj_lay.proofs.lockstep.Rules.{function_of_disassembly, function_starts, LinkSays, link_says}

-- both places of a slot that a word may name
slot_both : (ss : List Slot) (k : ℕ) → k < length ss → (is_slot_place (slice_get ss k) 0 ≡ true) × (is_slot_place (slice_get ss k) 5 ≡ true)
slot_both [] k lt = absurd (omega (arith, lt))
slot_both (Slot.Entry f ∷ ss) zero lt = (refl, refl)
slot_both (Slot.Jump f ∷ ss) zero lt = (refl, refl)
slot_both (Slot.Call f back ∷ ss) zero lt = (refl, refl)
slot_both (Slot.Indirect back ∷ ss) zero lt = (refl, refl)
slot_both (Slot.System back ∷ ss) zero lt = (refl, refl)
slot_both (s ∷ ss) (suc k) lt = slot_both ss k (omega (arith, lt))

-- a slot that is there has a number below their count
slot_within : (ss : List Slot) (k : ℕ) (s : Slot) → slice_get ss k ≡ Some s → k < length ss
slot_within [] k s e = absurd (cc)
slot_within (t ∷ ss) zero s e = omega arith
slot_within (t ∷ ss) (suc k) s e = omega (arith, slot_within ss k s e)

-- slots lie low
position_below : (o : Object) (k : ℕ) → k < length o.slots → slice_index (positions o) k < length o.slots
unfolding positions
position_below o k lt =
    let words = keystream_word o.slot_seed slot_purpose 0 in
    shuffled_below words (length o.slots) k 0 (omega (arith, lt, shuffled_long words (length o.slots)))

-- a slot ends below 2^64
pub slot_fits : (o : Object) (k : ℕ) → length o.slots ≤ 1048576 → k < length o.slots → slot_start o k + 5 < 2 ^ 64
slot_fits o k few lt = omega (arith, few, position_below o k lt)

-- the bytes of a function from an instruction on
pub bytes_from : (bytes : List ℕ) (instrs : List Instr) (off : ℕ) → IsDisassembly bytes instrs → (h : SplitsAt instrs 0 off) → drop off bytes ≡ encoding h.instr ++ spelled h.after
bytes_from bytes instrs off c h =
    let split : bytes ≡ spelled h.before ++ (encoding h.instr ++ spelled h.after) = sym c.whole ∙ ap spelled h.split ∙ spelled-append h.before (h.instr ∷ h.after) in
    ap (drop off) split ∙ drop_at (spelled h.before) (encoding h.instr ++ spelled h.after) off (omega (arith, h.offset))

-- the instruction of a disassembly is in range
pub instr_from : (bytes : List ℕ) (instrs : List Instr) (off : ℕ) → IsDisassembly bytes instrs → (h : SplitsAt instrs 0 off) → IsInstr h.instr
instr_from bytes instrs off c h = (each_right IsInstr h.before (h.instr ∷ h.after) (subst (Each IsInstr) h.split c.instructions)).0

module _ (o : Object) (well : IsWellFormed o) where
  -- a step may stand there
  abbrev IsPlace : Place → Type 0
  IsPlace p = is_step_place o well.disassemblies p ≡ true

  -- a branch leads to a place
  target_is : (n : ℕ) (instrs : List Instr) → slice_get well.disassemblies n ≡ Some instrs → (ls : List Link) (e : ℕ) (by : ℤ) (x : Option ℕ) → LinkSays (length o.slots) ls e x → (is_linked ls e || goes_well (found instrs) e (Some by)) ≡ true → IsPlace (target n e x by)
  target_is n instrs d ls e by None says h =
      ap (λ c. is_code_place c (moved e by)) d ∙ ap (λ t. t || goes_well (found instrs) e (Some by)) (sym says) ∙ h
  target_is n instrs d ls e by (Some k) says h = (slot_both o.slots k says).0

  -- the way back of a slot leads to a place
  back_is : (back : CodeAt) → is_start well.disassemblies back ≡ true → IsPlace (at_code back)
  back_is back h = sym (is_start_code well.disassemblies back) ∙ h

  -- a function begins with a place
  start_is : (f : ℕ) → nat_lt f (length well.disassemblies) ≡ true → IsPlace (Place.Code f 0)
  start_is f h = function_starts o.functions well.disassemblies well.disassembled f (ltb-true f (length well.disassemblies) h)

  module _ (exec : List Segment) (place : Place → ℕ) (laid : HoldsInstrs exec place o well.disassemblies) where
    abbrev Stands : Func → ℕ → ℕ → Instr → Type 0
    Stands = CodeStands exec place (is_step_place o well.disassemblies) o

    -- what an instruction is run past to
    abbrev Falls : ℕ → ℕ → ℕ → Type 0
    Falls = FallsThrough exec place (is_step_place o well.disassemblies) o

    module _ (f : Func) (n off : ℕ) (instrs : List Instr) (d : slice_get well.disassemblies n ≡ Some instrs) (here : IsPlace (Place.Code n off)) (says : (e : ℕ) → LinkSays (length o.slots) f.links e (link_before f.links e)) where
      -- each kind of instruction
      stands : (i : Instr) → is_slots_own i ≡ false → (is_linked f.links (off + size_of i) || goes_well (found instrs) (off + size_of i) (displacement i)) ≡ true → (is_end i ≡ false → Falls n off (size_of i)) → CodeBytes exec place o f n off i → Stands f n off i
      stands (Jcc c by) own branch next h =
          (record { there = target_is n instrs d f.links (off + 6) by (link_before f.links (off + 6)) (says (off + 6)) branch; branch = h }, next refl)
      stands (Jmp by) own branch next h = record { there = target_is n instrs d f.links (off + 5) by (link_before f.links (off + 5)) (says (off + 5)) branch; branch = h }
      stands (Call by) own branch next h = absurd (cc)
      stands CallR11 own branch next h = absurd (cc)
      stands Syscall own branch next h = absurd (cc)
      stands Ret own branch next h = h
      stands JmpR11 own branch next h = h
      stands Ud2 own branch next h = h
      stands Int3 own branch next h = h
      stands i own branch next h = (h, next refl)

    abbrev CodeHere : ℕ → ℕ → Type 0
    CodeHere n off = (s : HasInstr o n off) × Stands s.func n off s.instr

    -- an instruction at each place of a function
    code_here : (n off : ℕ) (x : Option (List Instr)) → slice_get well.disassemblies n ≡ x → is_code_place x off ≡ true → CodeHere n off
    code_here n off None d h = absurd (cc)
    code_here n off (Some instrs) d h =
        let c = function_of_disassembly o.functions well.disassemblies well.disassembled n instrs d in
        let p = start_splits instrs 0 off h in
        let keeps = function_keeps o well.disassemblies well.kept n c.func instrs c.found d in
        let here : IsPlace (Place.Code n off) = ap (λ y. is_code_place y off) d ∙ h in
        let s : HasInstr o n off = record { func = c.func; found = c.found; instr = p.instr; is_instr = instr_from c.func.bytes instrs off c.is_disassembly p; rest = spelled p.after; bytes = bytes_from c.func.bytes instrs off c.is_disassembly p } in
        let own = none_of_slots p.before p.instr p.after 0 (subst (λ r. forbidden_in (found r) ≡ []) p.split keeps.own) in
        let branch = branch_goes c.func.links (found instrs) p.before p.instr p.after 0 off p.offset (subst (λ r. bad_branches c.func.links (found instrs) (found r) ≡ []) p.split keeps.branches) in
        let ends = subst (λ r. open_end (found r) ≡ []) p.split keeps.ends in
        let next : is_end p.instr ≡ false → IsPlace (Place.Code n (off + size_of p.instr)) = λ e. ap (λ y. is_code_place y (off + size_of p.instr)) d ∙ ap (λ r. starts_at (found r) (off + size_of p.instr)) p.split ∙ next_start p.before p.instr p.after off p.offset (goes_on p.before p.instr p.after 0 ends e) in
        let falls : is_end p.instr ≡ false → Falls n off (size_of p.instr) = λ e. record { next = next e; behind = laid.neighbours n off here s e (next e) } in
        (s, stands c.func n off instrs d here (link_says None (found instrs) (length o.slots) c.func.links keeps.links) p.instr own branch falls (laid.code n off here s))

    abbrev At : ℕ → ℕ → Slot → Type 0
    At = SlotStands exec place (is_step_place o well.disassemblies) o

    module _ (k : ℕ) where
      jumps : (f : ℕ) → nat_lt f (length well.disassemblies) ≡ true → (s : Slot) (at : ℕ) → IsAtTo exec (place (Place.Slot k 0)) Jmp (place (Place.Code f 0)) → IsAt exec (place (Place.Slot k 5)) Int3 → (nat_eq at 0 || nat_eq at 5) ≡ true →
          ((at ≡ 0) × Leads exec place (is_step_place o well.disassemblies) o (Place.Slot k 0) Jmp (Place.Code f 0)) ⊎ ((at ≡ 5) × IsAt exec (place (Place.Slot k 5)) Int3)
      jumps f good s at jump stop h = elim (or_cases (nat_eq at 0) (nat_eq at 5) h) [
        | inl e ↦ inl (eqb-true at 0 e, record { there = start_is f good; branch = jump })
        | inr e ↦ inr (eqb-true at 5 e, stop)
      ]

      back_at : (back : CodeAt) → is_start well.disassemblies back ≡ true → IsAtTo exec (place (Place.Slot k 5)) Jmp (place (at_code back)) → (at : ℕ) → nat_eq at 5 ≡ true → (at ≡ 5) × Leads exec place (is_step_place o well.disassemblies) o (Place.Slot k 5) Jmp (at_code back)
      back_at back good jump at e = (eqb-true at 5 e, record { there = back_is back good; branch = jump })

      idle_at : (s : Slot) → slice_get o.slots k ≡ Some s → (at : ℕ) → is_slot_place (Some s) (at + 1) ≡ true → IsAt exec (place (Place.Slot k at)) Nop → Idles exec place (is_step_place o well.disassemblies) o k at
      idle_at s found at next here = record { next = ap (λ x. is_slot_place x (at + 1)) found ∙ next; here = here }

      slot_stands : (s : Slot) → slice_get o.slots k ≡ Some s → is_good_slot well.disassemblies s ≡ true → SlotBytes exec place o k s → (at : ℕ) → is_slot_place (Some s) at ≡ true → At k at s
      slot_stands (Slot.Entry f) found good b at h = jumps f good (Slot.Entry f) at b.0 b.1 h
      slot_stands (Slot.Jump f) found good b at h = jumps f good (Slot.Jump f) at b.0 b.1 h
      slot_stands (Slot.Call f back) found good b at h =
          let g = and_parts (nat_lt f (length well.disassemblies)) (is_start well.disassemblies back) good in
          elim (or_cases (nat_eq at 0) (nat_eq at 5) h) [
            | inl e ↦ inl (eqb-true at 0 e, record { there = start_is f g.0; branch = b.0 })
            | inr e ↦ inr (back_at back g.1 b.1 at e)
          ]
      slot_stands (Slot.Indirect back) found good b at h =
          let s = Slot.Indirect back in
          elim (or_cases (nat_eq at 0) _ h) [
            | inl e ↦ let z = eqb-true at 0 e in inl (omega (arith, z), subst (Idles exec place (is_step_place o well.disassemblies) o k) (sym z) (idle_at s found 0 refl b.0))
            | inr h1 ↦ elim (or_cases (nat_eq at 1) _ h1) [
              | inl e ↦ let z = eqb-true at 1 e in inl (omega (arith, z), subst (Idles exec place (is_step_place o well.disassemblies) o k) (sym z) (idle_at s found 1 refl b.1))
              | inr h2 ↦ elim (or_cases (nat_eq at 2) _ h2) [
                | inl e ↦ inr (inl (eqb-true at 2 e, b.2))
                | inr e ↦ inr (inr (back_at back good b.3 at e))
              ]
            ]
          ]
      slot_stands (Slot.System back) found good b at h =
          let s = Slot.System back in
          let idle : (m : ℕ) → 2 ≤ m → m < 5 → nat_eq at m ≡ true → Idles exec place (is_step_place o well.disassemblies) o k m → At k at s = λ m le lt e i. let z = eqb-true at m e in inr (inl (omega (arith, z, le), omega (arith, z, lt), subst (Idles exec place (is_step_place o well.disassemblies) o k) (sym z) i)) in
          elim (or_cases (nat_eq at 0) _ h) [
            | inl e ↦ inl (eqb-true at 0 e, ap (λ x. is_slot_place x 2) found, b.0)
            | inr h1 ↦ elim (or_cases (nat_eq at 2) _ h1) [
              | inl e ↦ idle 2 (omega arith) (omega arith) e (idle_at s found 2 refl b.1)
              | inr h2 ↦ elim (or_cases (nat_eq at 3) _ h2) [
                | inl e ↦ idle 3 (omega arith) (omega arith) e (idle_at s found 3 refl b.2)
                | inr h3 ↦ elim (or_cases (nat_eq at 4) _ h3) [
                  | inl e ↦ idle 4 (omega arith) (omega arith) e (idle_at s found 4 refl b.3)
                  | inr e ↦ inr (inr (back_at back good b.4 at e))
                ]
              ]
            ]
          ]

      slot_here : (at : ℕ) (x : Option Slot) → slice_get o.slots k ≡ x → is_slot_place x at ≡ true → HasSlot exec place (is_step_place o well.disassemblies) o k at
      slot_here at None found h = absurd (cc)
      slot_here at (Some s) found h = record {
        slot = s;
        found = found;
        stands = slot_stands s found (slot_keeps o well.disassemblies well.kept k s found) (laid.slots k s found) at h;
        address = laid.addresses k at;
        fits = slot_fits o k well.few.slots (slot_within o.slots k s found);
      }

    -- bytes that hold the instructions hold the object
    pub instrs_held : HoldsPlaces exec place (is_step_place o well.disassemblies) o
    instrs_held = record {
      hidden = laid.hidden;
      code = λ n off h. code_here n off (slice_get well.disassemblies n) refl h;
      slots = λ k at h. slot_here k at (slice_get o.slots k) refl h;
      landing = λ k lt. let both = slot_both o.slots k lt in record { start = both.0; back = both.1 };
    }
