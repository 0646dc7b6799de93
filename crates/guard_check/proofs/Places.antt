-- What is known of a run at each place of a guarded object, and that what is fetched there keeps it.
use Rattle.std.proofs.Common.{◌≡◌, ℕ, zero, suc, ◌+◌, ◌*◌, ◌%◌, ◌^◌, ◌<◌, ◌≤◌, ◌⊎◌, inl, inr, Bool, true, false, not, ◌||◌, ◌&&◌, if◌then◌else◌, List, [], ◌∷◌, ◌++◌, length, drop, Option, Some, None, refl, sym, ◌∙◌, ap, subst, arith, append_assoc}
use Rattle.std.specs.Prelude.{nat_eq, nat_lt, nat_le, slice_get, ℤ, pos}
use Rattle.std.specs.List.{list_all}
use Rattle.std.proofs.lemmas.Bool.{eqb-true, ltb-true, ltb-false, leb-true, leb-false, and_parts, or_cases}
use Rattle.std.proofs.lemmas.List.{drop_at}
use Rattle.behavior.specs.Ending.{Strayed}
use Rattle.x86_core.specs.declared.reg.Reg.{Reg}
use Rattle.x86_core.specs.declared.reg.Reg.TheVariants.{R10, R11}
use Rattle.x86_core.specs.declared.flags.Flags.{Flags}
use Rattle.x86_core.specs.declared.instr.Wide.{Wide}
use Rattle.x86_core.specs.declared.instr.ImmOp.{ImmOp}
use Rattle.x86_core.specs.declared.instr.Cond.{Cond}
use Rattle.x86_core.specs.declared.instr.Instr.{Instr}
use Rattle.x86_core.specs.declared.instr.Instr.TheVariants.{Mov, AluImm, Jcc, Jmp, Call, Ret, CallR11, JmpR11, Syscall, Ud2, Int3, Nop}
use Rattle.x86_core.specs.declared.effect.Access.TheVariants.{Nothing}
use Rattle.x86_core.specs.Registers.{word}
use Rattle.x86_core.specs.Arithmetic.{moved, holds, known as known_flag}
use Rattle.x86_core.specs.Encoding.{encoding, IsInstr}
use Rattle.x86_core.specs.declared.instr.Decoded.TheVariants.{One}
use Rattle.x86_core.specs.Decoding.{decode}
use Rattle.x86_core.proofs.Back.{decode_back}
use Rattle.x86_core.specs.Effect.{effect_of}
use Rattle.x86_core.specs.Step.{Fetched, Stops, Plain, Goes, Tests, Calls, Returns, Follows, CallsWord, Systems, sorted}
use Rattle.x86_core.proofs.Laws.{some_bytes}
use Rattle.obj_core.specs.declared.object.Object.{Object}
use Rattle.obj_core.specs.declared.object.Func.{Func}
use Rattle.obj_core.specs.declared.object.Slot.{Slot}
use Rattle.obj_core.specs.declared.object.CodeAt.{CodeAt}
use Rattle.obj_core.specs.declared.object.Place.{Place}
use Rattle.obj_core.specs.Object.{Each}
use Rattle.obj_core.specs.Slots.{slot_start}
use Rattle.obj_core.specs.Disassembly.{IsDisassembly, found, starts_at, spelled, size_of}
use Rattle.obj_core.specs.WellFormed.{IsWellFormed, is_slots_own, forbidden_in, displacement, is_linked, goes_well, bad_branches, is_end, open_end, is_good_slot, is_start}
use Rattle.obj_core.specs.SymbolicMachine.{link_before, target, at_code, in_slot, symbolic_fetch}
use Rattle.obj_core.proofs.Kept.{function_keeps, slot_keeps}
use Rattle.obj_core.proofs.Spelling.{spelled-append, length-spelled-append, each_right, each_left}
use Rattle.obj_core.proofs.Stands.{Stand, stand, fetched}
use Rattle.guard_check.specs.Guard.{guard, is_inside, is_of_guard, turned, follows_guard}
use Rattle.guard_check.specs.Form.{offsets_where, is_indirect, leads_indirect, is_guarded, guarded_places, is_refused, keeps_out, breaks_in, comes_outside, is_good_back, is_good_way, guard_violation}
use Rattle.guard_check.specs.Straight.{IsLanding, GoesByWord}
use Rattle.guard_check.proofs.Words.{AreWords}
use Rattle.guard_check.proofs.Rows.{start_splits, none_passes, passing_is_in, IsIn, begins_with, each_turned, ends_with}
use Rattle.guard_check.proofs.Guarding.{Where, Before, Copies, Subtracts, Compares, Branches, Stops as Halts, Masks, Passes, ComparesRest, PassesRest, StopsRest, Behind, located, Facts, outside, only_copied, only_counted, only_compared, only_within, only_masked, only_rest, only_rest_compared, only_passed, none_23, none_51, lands, flag_says, copies, subtracts, compares, masks, compares_rest, rest_is_0, rest_is_5}
use Rattle.guard_check.proofs.Kept.{KeepsGuards, function_guarded, way_guarded, none_of_slots, branch_goes, goes_on, next_start, no_link, function_of, starts_in, function_starts, function_short, slot_low}

-- at a place of a function: an instruction starts there, and of each guard what holds at that offset
pub record SoundCode (o : Object) (disassemblies : List (List Instr)) (n off : ℕ) (regs : List ℕ) (flags : Flags) : Type 0 where
  pub start : starts_in (slice_get disassemblies n) off ≡ true
  pub facts : (f : Func) (instrs pre : List Instr) (x : Instr) (post : List Instr) → slice_get o.functions n ≡ Some f → slice_get disassemblies n ≡ Some instrs → instrs ≡ pre ++ (guard (length o.slots) ++ x ∷ post) → is_guarded o.slots f (length (spelled pre) + 53 + size_of x) x ≡ true → Facts o (length (spelled pre)) off regs flags

-- at a place of a slot: before the call of a slot for it, the word in r11 lands
abbrev pub Sound : Object → List (List Instr) → Place → List ℕ → Flags → Type 0
Sound o disassemblies (Place.Code n off) regs flags = SoundCode o disassemblies n off regs flags
Sound o disassemblies (Place.Slot k at) regs flags = is_indirect (slice_get o.slots k) ≡ true → at < 3 → IsLanding o (word regs R11)

-- whatever the registers are
abbrev pub Freely : Object → List (List Instr) → Place → Type 0
Freely o disassemblies p = (regs : List ℕ) (flags : Flags) → Sound o disassemblies p regs flags

-- what is fetched keeps it
abbrev pub Keeps : Object → List (List Instr) → List ℕ → Flags → Fetched Place → Type 0
Keeps o d regs flags (Stops e) = e ≡ Strayed → ⊥
Keeps o d regs flags (Plain i after) = IsInstr i × (Freely o d after ⊎ (((effect_of i regs flags).access ≡ Nothing) × Sound o d after (effect_of i regs flags).regs (effect_of i regs flags).flags))
Keeps o d regs flags (Goes to) = Sound o d to regs flags
Keeps o d regs flags (Tests c to after) = (holds c flags ≡ Some true → Sound o d to regs flags) × (holds c flags ≡ Some false → Sound o d after regs flags)
Keeps o d regs flags (Calls to back) = Freely o d to
Keeps o d regs flags Returns = ⊥
Keeps o d regs flags Follows = IsLanding o (word regs R11)
Keeps o d regs flags (CallsWord back) = IsLanding o (word regs R11)
Keeps o d regs flags (Systems after back) = (back < 2 ^ 64) × Freely o d after

-- the kinds of instructions that a guard has
abbrev is_of_kind : Instr → Bool
is_of_kind (Mov w a b) = true
is_of_kind (AluImm op w a n) = true
is_of_kind (Jcc c by) = true
is_of_kind Ud2 = true
is_of_kind i = false

-- another instruction is before a guard or behind it
other_kind : (i j : Instr) → is_of_kind i ≡ false → is_of_kind j ≡ true → i ≡ j → ⊥
other_kind i j h k e = let same : is_of_kind i ≡ is_of_kind j = ap is_of_kind e in absurd (cc)

beside : (slots a off : ℕ) (i : Instr) → is_of_kind i ≡ false → Where slots a off i → (off + size_of i ≤ a) ⊎ (a + 53 ≤ off)
beside slots a off i h (Before e) = inl e
beside slots a off i h (Copies e f) = absurd (other_kind i _ h refl f)
beside slots a off i h (Subtracts e f) = absurd (other_kind i _ h refl f)
beside slots a off i h (Compares e f) = absurd (other_kind i _ h refl f)
beside slots a off i h (Branches e f) = absurd (other_kind i _ h refl f)
beside slots a off i h (Halts e f) = absurd (other_kind i _ h refl f)
beside slots a off i h (Masks e f) = absurd (other_kind i _ h refl f)
beside slots a off i h (Passes e f) = absurd (other_kind i _ h refl f)
beside slots a off i h (ComparesRest e f) = absurd (other_kind i _ h refl f)
beside slots a off i h (PassesRest e f) = absurd (other_kind i _ h refl f)
beside slots a off i h (StopsRest e f) = absurd (other_kind i _ h refl f)
beside slots a off i h (Behind e) = inr e

-- behind such an instruction nothing needs to be known
past_beside : (o : Object) (a off : ℕ) (i : Instr) (regs : List ℕ) (flags : Flags) → (off + size_of i ≤ a) ⊎ (a + 53 ≤ off) → Facts o a (off + size_of i) regs flags
past_beside o a off i regs flags (inl h) = outside o a (off + size_of i) regs flags (inl h)
past_beside o a off i regs flags (inr h) = outside o a (off + size_of i) regs flags (inr (let s = some_bytes i in omega (arith, h, s)))

-- a list all of whose numbers pass
each_passes : (test : ℕ → Bool) (ns : List ℕ) → list_all test ns ≡ true → (n : ℕ) → IsIn n ns → test n ≡ true
each_passes test [] h n x = absurd x
each_passes test (m ∷ ms) h n (inl e) = subst (λ k. test k ≡ true) (sym e) (and_parts (test m) (list_all test ms) h).0
each_passes test (m ∷ ms) h n (inr x) = each_passes test ms (and_parts (test m) (list_all test ms) h).1 n x

-- what tests of an offset say
not_both : (t u : Bool) → not (t && u) ≡ true → (t ≡ false) ⊎ (u ≡ false)
not_both true true h = absurd (cc)
not_both true false h = inr refl
not_both false u h = inl refl

not_inside : (a t : ℕ) → not (is_inside (a + 53) t) ≡ true → (t ≤ a) ⊎ (a + 53 < t)
not_inside a t h = elim (not_both (nat_lt (a + 53) (t + 53)) (nat_le t (a + 53)) h) [
  | inl e ↦ inl (let le = ltb-false (a + 53) (t + 53) e in omega (arith, le))
  | inr e ↦ inr (leb-false t (a + 53) e)
]

of_guard : (a off : ℕ) → is_of_guard (a + 53) off ≡ true → (a ≤ off) × (off < a + 53)
of_guard a off h =
    let both = and_parts (nat_le (a + 53) (off + 53)) (nat_lt off (a + 53)) h in
    let le = leb-true (a + 53) (off + 53) both.0 in
    (omega (arith, le), ltb-true off (a + 53) both.1)

not_false : (t : Bool) → not t ≡ false → t ≡ true
not_false true h = refl
not_false false h = absurd (cc)

or_other : (t u : Bool) → t ≡ false → (t || u) ≡ true → u ≡ true
or_other true u h k = absurd (cc)
or_other false u h k = k

and_other : (t u : Bool) → t ≡ true → (t && not u) ≡ false → u ≡ true
and_other true u h k = not_false u k
and_other false u h k = absurd (cc)

mov_access : (w : Wide) (a b : Reg) (regs : List ℕ) (flags : Flags) → (effect_of (Mov w a b) regs flags).access ≡ Nothing
unfolding effect_of
mov_access w a b regs flags = refl

imm_access : (op : ImmOp) (w : Wide) (a : Reg) (k : ℤ) (regs : List ℕ) (flags : Flags) → (effect_of (AluImm op w a k) regs flags).access ≡ Nothing
unfolding effect_of
imm_access op w a k regs flags = refl

nop_access : (regs : List ℕ) (flags : Flags) → (effect_of Nop regs flags).access ≡ Nothing
unfolding effect_of
nop_access regs flags = refl

nop_regs : (regs : List ℕ) (flags : Flags) → (effect_of Nop regs flags).regs ≡ regs
unfolding effect_of
nop_regs regs flags = refl

-- the instructions of a guard are in range
pub each_guard : (slots : ℕ) → slots ≤ 1048576 → Each IsInstr (guard slots)
each_guard slots few =
    let low : 16 * slots < 2 ^ 31 = omega (arith, few) in
    (tt, (omega arith, (low, (omega arith, (tt, (omega arith, (omega arith, (omega arith, (omega arith, (tt, tt))))))))))

-- moves and operations with a constant
abbrev is_plain_kind : Instr → Bool
is_plain_kind (Mov w a b) = true
is_plain_kind (AluImm op w a n) = true
is_plain_kind i = false

other_plain : (i j : Instr) → is_plain_kind i ≡ true → is_plain_kind j ≡ false → i ≡ j → ⊥
other_plain i j h k e = let same : is_plain_kind i ≡ is_plain_kind j = ap is_plain_kind e in absurd (cc)

module _ (o : Object) (few : length o.slots ≤ 1048576) (a off : ℕ) (regs : List ℕ) (flags : Flags) (words : AreWords regs) (known : Facts o a off regs flags) where
  abbrev After : Instr → Type 0
  After i = Facts o a (off + size_of i) (effect_of i regs flags).regs (effect_of i regs flags).flags

  -- what is known behind such an instruction
  plain_facts : (i : Instr) → is_plain_kind i ≡ true → Where (length o.slots) a off i → After i
  plain_facts i k (Before e) = outside o a _ _ _ (inl e)
  plain_facts i k (Copies e q) = subst After (sym q) (only_copied o a (off + 3) _ _ (omega (arith, e)) (copies regs flags words))
  plain_facts i k (Subtracts e q) = subst After (sym q) (only_counted o a (off + 7) _ _ (omega (arith, e)) (subtracts regs flags words (known.copied e)))
  plain_facts i k (Compares e q) = subst After (sym q) (only_compared o a (off + 7) _ _ (omega (arith, e)) (compares regs flags words o few (known.counted e)))
  plain_facts i k (Branches e q) = absurd (other_plain i _ k refl q)
  plain_facts i k (Halts e q) = absurd (other_plain i _ k refl q)
  plain_facts i k (Masks e q) = subst After (sym q) (only_masked o a (off + 7) _ _ (omega (arith, e)) (masks regs flags words o few (known.within e).0 (known.within e).1))
  plain_facts i k (Passes e q) = absurd (other_plain i _ k refl q)
  plain_facts i k (ComparesRest e q) = subst After (sym q) (only_rest_compared o a (off + 7) _ _ (omega (arith, e)) (compares_rest regs flags words (length o.slots) (known.rest e)))
  plain_facts i k (PassesRest e q) = absurd (other_plain i _ k refl q)
  plain_facts i k (StopsRest e q) = absurd (other_plain i _ k refl q)
  plain_facts i k (Behind e) = outside o a _ _ _ (inr (let s = some_bytes i in omega (arith, e, s)))

  -- what is known behind a branch under a condition that does not hold
  fall_facts : (c : Cond) (by : ℤ) → Where (length o.slots) a off (Jcc c by) → Facts o a (off + 6) regs flags
  fall_facts c by (Before e) = outside o a (off + 6) _ _ (inl e)
  fall_facts c by (Copies e q) = absurd (cc)
  fall_facts c by (Subtracts e q) = absurd (cc)
  fall_facts c by (Compares e q) = absurd (cc)
  fall_facts c by (Branches e q) = none_23 o a (off + 6) _ _ (omega (arith, e))
  fall_facts c by (Halts e q) = absurd (cc)
  fall_facts c by (Masks e q) = absurd (cc)
  fall_facts c by (Passes e q) = only_rest o a (off + 6) _ _ (omega (arith, e)) (known.masked e).0
  fall_facts c by (ComparesRest e q) = absurd (cc)
  fall_facts c by (PassesRest e q) = none_51 o a (off + 6) _ _ (omega (arith, e))
  fall_facts c by (StopsRest e q) = absurd (cc)
  fall_facts c by (Behind e) = outside o a (off + 6) _ _ (inr (omega (arith, e)))

  -- what is known where a branch of the guard goes under a condition that holds
  taken_facts : (c : Cond) (by : ℤ) → off ≤ 67108864 → a ≤ off → off < a + 53 → holds c flags ≡ Some true → Where (length o.slots) a off (Jcc c by) → Facts o a (moved (off + 6) by) regs flags
  taken_facts c by low le lt hold (Before e) = absurd (omega (arith, e, le))
  taken_facts c by low le lt hold (Copies e q) = absurd (cc)
  taken_facts c by low le lt hold (Subtracts e q) = absurd (cc)
  taken_facts c by low le lt hold (Compares e q) = absurd (cc)
  taken_facts c by low le lt hold (Branches e q) =
      let same : by ≡ pos 2 = cc in
      let cond : c ≡ Cond.B = cc in
      let at : (off + 6 + 2) % 2 ^ 64 ≡ a + 25 = omega (arith, e, low) in
      let flag : known_flag flags.c ≡ Some true = ap (λ k. holds k flags) (sym cond) ∙ hold in
      let below = ltb-true (word regs R10) (16 * length o.slots) (flag_says _ true (ap known_flag (sym (known.compared e).1) ∙ flag)) in
      only_within o a (moved (off + 6) by) _ _ (ap (moved (off + 6)) same ∙ at) ((known.compared e).0, below)
  taken_facts c by low le lt hold (Halts e q) = absurd (cc)
  taken_facts c by low le lt hold (Masks e q) = absurd (cc)
  taken_facts c by low le lt hold (Passes e q) =
      let same : by ≡ pos 15 = cc in
      let cond : c ≡ Cond.E = cc in
      let at : (off + 6 + 15) % 2 ^ 64 ≡ a + 53 = omega (arith, e, low) in
      let flag : known_flag flags.z ≡ Some true = ap (λ k. holds k flags) (sym cond) ∙ hold in
      let x = (known.masked e).0 in
      let zero_rest = rest_is_0 (length o.slots) regs x (flag_says _ true (ap known_flag (sym (known.masked e).1) ∙ flag)) in
      only_passed o a (moved (off + 6) by) _ _ (ap (moved (off + 6)) same ∙ at) (lands o (word regs R11) x.by x.within x.address (inl zero_rest))
  taken_facts c by low le lt hold (ComparesRest e q) = absurd (cc)
  taken_facts c by low le lt hold (PassesRest e q) =
      let same : by ≡ pos 2 = cc in
      let cond : c ≡ Cond.E = cc in
      let at : (off + 6 + 2) % 2 ^ 64 ≡ a + 53 = omega (arith, e, low) in
      let flag : known_flag flags.z ≡ Some true = ap (λ k. holds k flags) (sym cond) ∙ hold in
      let x = (known.rest_compared e).0 in
      let five_rest = rest_is_5 (length o.slots) regs x (flag_says _ true (ap known_flag (sym (known.rest_compared e).1) ∙ flag)) in
      only_passed o a (moved (off + 6) by) _ _ (ap (moved (off + 6)) same ∙ at) (lands o (word regs R11) x.by x.within x.address (inr five_rest))
  taken_facts c by low le lt hold (StopsRest e q) = absurd (cc)
  taken_facts c by low le lt hold (Behind e) = absurd (omega (arith, e, lt))

module _ (o : Object) (well : IsWellFormed o) (kept : guard_violation o well.disassemblies ≡ None) (n off : ℕ) (regs : List ℕ) (flags : Flags) (f : Func) (instrs : List Instr) where
  -- an instruction of a function, at which a run stands
  record Standing (i : Instr) : Type 0 where
    words : AreWords regs
    sound : SoundCode o well.disassemblies n off regs flags
    function : slice_get o.functions n ≡ Some f
    row : slice_get well.disassemblies n ≡ Some instrs
    is_disassembly : IsDisassembly f.bytes instrs
    before : List Instr
    after : List Instr
    split : instrs ≡ before ++ i ∷ after
    offset : off ≡ 0 + length (spelled before)

  module _ (i : Instr) (h : Standing i) where
    abbrev behind_it : ℕ
    behind_it = off + size_of i

    same_offset : length (spelled h.before) ≡ off
    same_offset = let e = h.offset in omega (arith, e)

    -- where it lies beside a guard
    place_by : (pre : List Instr) (x : Instr) (post : List Instr) → instrs ≡ pre ++ (guard (length o.slots) ++ x ∷ post) → Where (length o.slots) (length (spelled pre)) off i
    place_by pre x post e = subst (λ m. Where (length o.slots) (length (spelled pre)) m i) same_offset (located (length o.slots) pre x post h.before i h.after (sym e ∙ h.split))

    known_by : (pre : List Instr) (x : Instr) (post : List Instr) → instrs ≡ pre ++ (guard (length o.slots) ++ x ∷ post) → is_guarded o.slots f (length (spelled pre) + 53 + size_of x) x ≡ true → Facts o (length (spelled pre)) off regs flags
    known_by pre x post e g = let s = h.sound in s.facts f instrs pre x post h.function h.row e g

    is_instr_here : IsInstr i
    is_instr_here = let c = h.is_disassembly in (each_right IsInstr h.before (i ∷ h.after) (subst (Each IsInstr) h.split c.instructions)).0

    low_here : off ≤ 67108864
    low_here =
        let c = h.is_disassembly in
        let long : length f.bytes ≡ length (spelled h.before) + length (spelled (i ∷ h.after)) = ap (λ (bs : List ℕ). length bs) (sym c.whole ∙ ap spelled h.split) ∙ length-spelled-append h.before (i ∷ h.after) in
        let short = function_short o well.few n f h.function in
        let e = h.offset in
        omega (arith, long, short, e)

    -- what the rules say of it
    guards : KeepsGuards o.slots f instrs
    guards = function_guarded o well.disassemblies kept n f instrs h.function h.row

    not_refused : is_refused o.slots f behind_it i ≡ false
    not_refused =
        let test = λ (behind : List Instr) (at : ℕ) (j : Instr). is_refused o.slots f (at + size_of j) j in
        none_passes test [] h.before i h.after 0 off h.offset (subst (λ r. offsets_where test [] 0 r ≡ []) h.split guards.refused)

    is_followed : (is_guarded o.slots f behind_it i && not (follows_guard (length o.slots) (turned h.before []))) ≡ false
    is_followed =
        let test = λ (behind : List Instr) (at : ℕ) (j : Instr). is_guarded o.slots f (at + size_of j) j && not (follows_guard (length o.slots) behind) in
        none_passes test [] h.before i h.after 0 off h.offset (subst (λ r. offsets_where test [] 0 r ≡ []) h.split guards.unguarded)

    not_breaking : breaks_in (guarded_places o.slots f instrs) f off i ≡ false
    not_breaking =
        let test = λ (behind : List Instr) (at : ℕ) (j : Instr). breaks_in (guarded_places o.slots f instrs) f at j in
        none_passes test [] h.before i h.after 0 off h.offset (subst (λ r. offsets_where test [] 0 r ≡ []) h.split guards.breaking)

    not_own : is_slots_own i ≡ false
    not_own =
        let keeps = function_keeps o well.disassemblies well.kept n f instrs h.function h.row in
        none_of_slots h.before i h.after 0 (subst (λ r. forbidden_in (found r) ≡ []) h.split keeps.own)

    branch_well : (is_linked f.links behind_it || goes_well (found instrs) behind_it (displacement i)) ≡ true
    branch_well =
        let keeps = function_keeps o well.disassemblies well.kept n f instrs h.function h.row in
        branch_goes f.links (found instrs) h.before i h.after 0 off h.offset (subst (λ r. bad_branches f.links (found instrs) (found r) ≡ []) h.split keeps.branches)

    next_here : is_end i ≡ false → starts_in (slice_get well.disassemblies n) behind_it ≡ true
    next_here e =
        let keeps = function_keeps o well.disassemblies well.kept n f instrs h.function h.row in
        let ends = subst (λ r. open_end (found r) ≡ []) h.split keeps.ends in
        ap (λ y. starts_in y behind_it) h.row ∙ ap (λ r. starts_at (found r) behind_it) h.split ∙ next_start h.before i h.after off h.offset (goes_on h.before i h.after 0 ends e)

    -- a place of the same function, by what is known there of this one
    code_sound : (to : ℕ) (r : List ℕ) (fl : Flags) → starts_in (slice_get well.disassemblies n) to ≡ true → ((pre : List Instr) (x : Instr) (post : List Instr) → instrs ≡ pre ++ (guard (length o.slots) ++ x ∷ post) → is_guarded o.slots f (length (spelled pre) + 53 + size_of x) x ≡ true → Facts o (length (spelled pre)) to r fl) → SoundCode o well.disassemblies n to r fl
    code_sound to r fl s k = record { start = s; facts = λ g is pre x post fe de e w. same g is pre x post fe de e w }
      where
        same : (g : Func) (is pre : List Instr) (x : Instr) (post : List Instr) → slice_get o.functions n ≡ Some g → slice_get well.disassemblies n ≡ Some is → is ≡ pre ++ (guard (length o.slots) ++ x ∷ post) → is_guarded o.slots g (length (spelled pre) + 53 + size_of x) x ≡ true → Facts o (length (spelled pre)) to r fl
        same g is pre x post fe de e w =
            let fe0 = h.function in
            let de0 = h.row in
            let one : g ≡ f = cc in
            let other : instrs ≡ is = cc in
            k pre x post (other ∙ e) (subst (λ y. is_guarded o.slots y (length (spelled pre) + 53 + size_of x) x ≡ true) one w)

    -- at a guarded place the word lands
    awaited : is_guarded o.slots f behind_it i ≡ true → IsLanding o (word regs R11)
    awaited g =
        let slots = length o.slots in
        let c = h.is_disassembly in
        let test = and_other (is_guarded o.slots f behind_it i) (follows_guard slots (turned h.before [])) g is_followed in
        let ours = each_turned IsInstr (guard slots) [] (each_guard slots well.few.slots) tt in
        let theirs = each_turned IsInstr h.before [] (each_left IsInstr h.before (i ∷ h.after) (subst (Each IsInstr) h.split c.instructions)) tt in
        let parts = begins_with (turned (guard slots) []) (turned h.before []) ours theirs test in
        let pre = turned parts.0 [] in
        let front : h.before ≡ pre ++ guard slots = ends_with h.before (guard slots) parts.0 parts.1 in
        let whole : instrs ≡ pre ++ (guard slots ++ i ∷ h.after) = h.split ∙ ap (λ r. r ++ i ∷ h.after) front ∙ append_assoc pre (guard slots) (i ∷ h.after) in
        let long : off ≡ length (spelled pre) + 53 = sym same_offset ∙ ap (λ (r : List Instr). length (spelled r)) front ∙ length-spelled-append pre (guard slots) in
        let facts = known_by pre i h.after whole (subst (λ m. is_guarded o.slots f (m + size_of i) i ≡ true) long g) in
        facts.passed long

    -- a guarded place is one of the places
    place_is_in : (pre : List Instr) (x : Instr) (post : List Instr) → instrs ≡ pre ++ (guard (length o.slots) ++ x ∷ post) → is_guarded o.slots f (length (spelled pre) + 53 + size_of x) x ≡ true → IsIn (length (spelled pre) + 53) (guarded_places o.slots f instrs)
    place_is_in pre x post e g =
        let slots = length o.slots in
        let test = λ (behind : List Instr) (at : ℕ) (j : Instr). is_guarded o.slots f (at + size_of j) j in
        let whole : instrs ≡ (pre ++ guard slots) ++ x ∷ post = e ∙ sym (append_assoc pre (guard slots) (x ∷ post)) in
        let long : length (spelled (pre ++ guard slots)) ≡ length (spelled pre) + 53 = length-spelled-append pre (guard slots) in
        let at : length (spelled pre) + 53 ≡ 0 + length (spelled (pre ++ guard slots)) = omega (arith, long) in
        subst (λ r. IsIn (length (spelled pre) + 53) (offsets_where test [] 0 r)) (sym whole)
        (passing_is_in test [] (pre ++ guard slots) x post 0 (length (spelled pre) + 53) at g)

    -- a branch without a link goes outside of a guard, or is one of its own
    goes_outside : (by : ℤ) → displacement i ≡ Some by → link_before f.links behind_it ≡ None → (pre : List Instr) (x : Instr) (post : List Instr) → instrs ≡ pre ++ (guard (length o.slots) ++ x ∷ post) → is_guarded o.slots f (length (spelled pre) + 53 + size_of x) x ≡ true → (is_of_guard (length (spelled pre) + 53) off ≡ true) ⊎ (not (is_inside (length (spelled pre) + 53) (moved behind_it by)) ≡ true)
    goes_outside by d none pre x post e g =
        let places = guarded_places o.slots f instrs in
        let any = not_false (is_linked f.links behind_it || keeps_out places off behind_it (displacement i)) not_breaking in
        let out = or_other (is_linked f.links behind_it) (keeps_out places off behind_it (displacement i)) (no_link f.links behind_it none) any in
        let all : keeps_out places off behind_it (Some by) ≡ true = subst (λ b. keeps_out places off behind_it b ≡ true) d out in
        or_cases (is_of_guard (length (spelled pre) + 53) off) (not (is_inside (length (spelled pre) + 53) (moved behind_it by)))
        (each_passes (λ place. is_of_guard place off || not (is_inside place (moved behind_it by))) places all (length (spelled pre) + 53) (place_is_in pre x post e g))

    goes_to_start : (by : ℤ) → displacement i ≡ Some by → link_before f.links behind_it ≡ None → starts_in (slice_get well.disassemblies n) (moved behind_it by) ≡ true
    goes_to_start by d none =
        let goes = or_other (is_linked f.links behind_it) (goes_well (found instrs) behind_it (displacement i)) (no_link f.links behind_it none) branch_well in
        ap (λ y. starts_in y (moved behind_it by)) h.row ∙ subst (λ b. goes_well (found instrs) behind_it b ≡ true) d goes

    -- behind an instruction that no guard has
    free_behind : is_end i ≡ false → is_of_kind i ≡ false → Freely o well.disassemblies (Place.Code n behind_it)
    free_behind e k r fl = code_sound behind_it r fl (next_here e) (λ pre x post q g. past_beside o (length (spelled pre)) off i r fl (beside (length o.slots) (length (spelled pre)) off i k (place_by pre x post q)))

    -- behind a move or an operation with a constant
    plain_behind : is_end i ≡ false → is_plain_kind i ≡ true → SoundCode o well.disassemblies n behind_it (effect_of i regs flags).regs (effect_of i regs flags).flags
    plain_behind e k = code_sound behind_it _ _ (next_here e) (λ pre x post q g. plain_facts o well.few.slots (length (spelled pre)) off regs flags h.words (known_by pre x post q g) i k (place_by pre x post q))

  -- where a jump goes
  jump_sound : (by : ℤ) (h : Standing (Jmp by)) (x : Option ℕ) → link_before f.links (off + 5) ≡ x → Sound o well.disassemblies (target n (off + 5) x by) regs flags
  jump_sound by h (Some k) e = λ indirect lt. awaited (Jmp by) h (ap (leads_indirect o.slots) e ∙ indirect)
  jump_sound by h None e = code_sound (Jmp by) h (moved (off + 5) by) regs flags (goes_to_start (Jmp by) h by refl e) (λ pre x post q g. by_side pre x post q (goes_outside (Jmp by) h by refl e pre x post q g))
    where
      by_side : (pre : List Instr) (x : Instr) (post : List Instr) → instrs ≡ pre ++ (guard (length o.slots) ++ x ∷ post) → (is_of_guard (length (spelled pre) + 53) off ≡ true) ⊎ (not (is_inside (length (spelled pre) + 53) (moved (off + 5) by)) ≡ true) → Facts o (length (spelled pre)) (moved (off + 5) by) regs flags
      by_side pre x post q (inr out) = outside o (length (spelled pre)) _ regs flags (not_inside (length (spelled pre)) (moved (off + 5) by) out)
      by_side pre x post q (inl own) =
          let both = of_guard (length (spelled pre)) off own in
          let near = beside (length o.slots) (length (spelled pre)) off (Jmp by) refl (place_by (Jmp by) h pre x post q) in
          elim near [ inl e ↦ absurd (omega (arith, e, both.0)) | inr e ↦ absurd (omega (arith, e, both.1)) ]

  -- where a branch under a condition goes, and behind it
  branch_sound : (c : Cond) (by : ℤ) (h : Standing (Jcc c by)) (x : Option ℕ) → link_before f.links (off + 6) ≡ x → holds c flags ≡ Some true → Sound o well.disassemblies (target n (off + 6) x by) regs flags
  branch_sound c by h (Some k) e hold = λ indirect lt.
      let refused : leads_indirect o.slots (Some k) ≡ false = ap (leads_indirect o.slots) (sym e) ∙ not_refused (Jcc c by) h in
      absurd (cc)
  branch_sound c by h None e hold = code_sound (Jcc c by) h (moved (off + 6) by) regs flags (goes_to_start (Jcc c by) h by refl e) (λ pre x post q g. by_side pre x post q g (goes_outside (Jcc c by) h by refl e pre x post q g))
    where
      by_side : (pre : List Instr) (x : Instr) (post : List Instr) → instrs ≡ pre ++ (guard (length o.slots) ++ x ∷ post) → is_guarded o.slots f (length (spelled pre) + 53 + size_of x) x ≡ true → (is_of_guard (length (spelled pre) + 53) off ≡ true) ⊎ (not (is_inside (length (spelled pre) + 53) (moved (off + 6) by)) ≡ true) → Facts o (length (spelled pre)) (moved (off + 6) by) regs flags
      by_side pre x post q g (inr out) = outside o (length (spelled pre)) _ regs flags (not_inside (length (spelled pre)) (moved (off + 6) by) out)
      by_side pre x post q g (inl own) =
          let both = of_guard (length (spelled pre)) off own in
          taken_facts o well.few.slots (length (spelled pre)) off regs flags h.words (known_by (Jcc c by) h pre x post q g) c by (low_here (Jcc c by) h) both.0 both.1 hold (place_by (Jcc c by) h pre x post q)

  fall_sound : (c : Cond) (by : ℤ) (h : Standing (Jcc c by)) → SoundCode o well.disassemblies n (off + 6) regs flags
  fall_sound c by h = code_sound (Jcc c by) h (off + 6) regs flags (next_here (Jcc c by) h refl) (λ pre x post q g. fall_facts o well.few.slots (length (spelled pre)) off regs flags h.words (known_by (Jcc c by) h pre x post q g) c by (place_by (Jcc c by) h pre x post q))

  -- each kind of instruction
  code_keeps : (i : Instr) → Standing i → Keeps o well.disassemblies regs flags (sorted i (Place.Code n (off + size_of i)) (target n (off + size_of i) (link_before f.links (off + size_of i))) 0)
  code_keeps (Mov w a b) h = (tt, inr (mov_access w a b regs flags, plain_behind (Mov w a b) h refl refl))
  code_keeps (AluImm op w a k) h = (is_instr_here (AluImm op w a k) h, inr (imm_access op w a k regs flags, plain_behind (AluImm op w a k) h refl refl))
  code_keeps (Jcc c by) h = (branch_sound c by h (link_before f.links (off + 6)) refl, λ e. fall_sound c by h)
  code_keeps (Jmp by) h = jump_sound by h (link_before f.links (off + 5)) refl
  code_keeps (Call by) h = let own = not_own (Call by) h in absurd (cc)
  code_keeps Ret h = let refused = not_refused Ret h in absurd (cc)
  code_keeps CallR11 h = let own = not_own CallR11 h in absurd (cc)
  code_keeps JmpR11 h = awaited JmpR11 h refl
  code_keeps Syscall h = let own = not_own Syscall h in absurd (cc)
  code_keeps Ud2 h = λ e. absurd (cc)
  code_keeps Int3 h = λ e. absurd (cc)
  code_keeps i h = (is_instr_here i h, inl (free_behind i h refl refl))

module _ (o : Object) (well : IsWellFormed o) (kept : guard_violation o well.disassemblies ≡ None) (regs : List ℕ) (flags : Flags) (words : AreWords regs) where
  -- what is fetched keeps it
  abbrev Kept_at : Place → Type 0
  Kept_at p = Keeps o well.disassemblies regs flags (symbolic_fetch o p)

  -- in a function
  code_at_place : (n off : ℕ) → SoundCode o well.disassemblies n off regs flags → (x : Option (List Instr)) → slice_get well.disassemblies n ≡ x → starts_in x off ≡ true → Kept_at (Place.Code n off)
  code_at_place n off sound None d h = absurd (cc)
  code_at_place n off sound (Some instrs) d h =
      let c = function_of o.functions well.disassemblies well.disassembled n instrs d in
      let p = start_splits instrs 0 off h in
      let dis = c.is_disassembly in
      let here : Standing o well kept n off regs flags c.func instrs p.instr = record { words = words; sound = sound; function = c.found; row = d; is_disassembly = c.is_disassembly; before = p.before; after = p.after; split = p.split; offset = p.offset } in
      let one : IsInstr p.instr = (each_right IsInstr p.before (p.instr ∷ p.after) (subst (Each IsInstr) p.split dis.instructions)).0 in
      let bytes : spelled (p.before ++ p.instr ∷ p.after) ≡ c.func.bytes = ap spelled (sym p.split) ∙ dis.whole in
      let same : length (spelled p.before) ≡ off = let e = p.offset in omega (arith, e) in
      let stands : Stand c.func.bytes off (p.instr ∷ []) = subst (λ m. Stand c.func.bytes m (p.instr ∷ [])) same (subst (λ bs. Stand bs (length (spelled p.before)) (p.instr ∷ [])) bytes (stand p.before (p.instr ∷ []) p.after (one, tt))) in
      subst (λ x. Keeps o well.disassemblies regs flags x) (sym (fetched o n off c.func p.instr [] c.found stands))
      (code_keeps o well kept n off regs flags c.func instrs p.instr here)

  -- before a step by the word in r11
  same_instr : (i j : Instr) (m k : ℕ) → One i m ≡ One j k → i ≡ j
  same_instr i j m k e = cc

  by_row : (n off : ℕ) → SoundCode o well.disassemblies n off regs flags → (g : GoesByWord o n off) → (x : Option (List Instr)) → slice_get well.disassemblies n ≡ x → starts_in x off ≡ true → IsLanding o (word regs R11)
  by_row n off sound g None d h = absurd (cc)
  by_row n off sound g (Some instrs) d h =
      let c = function_of o.functions well.disassemblies well.disassembled n instrs d in
      let p = start_splits instrs 0 off h in
      let dis = c.is_disassembly in
      let here : Standing o well kept n off regs flags c.func instrs p.instr = record { words = words; sound = sound; function = c.found; row = d; is_disassembly = c.is_disassembly; before = p.before; after = p.after; split = p.split; offset = p.offset } in
      let one : IsInstr p.instr = (each_right IsInstr p.before (p.instr ∷ p.after) (subst (Each IsInstr) p.split dis.instructions)).0 in
      let split : c.func.bytes ≡ spelled p.before ++ (encoding p.instr ++ spelled p.after) = sym dis.whole ∙ ap spelled p.split ∙ spelled-append p.before (p.instr ∷ p.after) in
      let same : length (spelled p.before) ≡ off = let e = p.offset in omega (arith, e) in
      let left : drop off c.func.bytes ≡ encoding p.instr ++ spelled p.after = ap (λ bs. drop off bs) split ∙ drop_at (spelled p.before) (encoding p.instr ++ spelled p.after) off same in
      let f0 = g.found in
      let f1 = c.found in
      let func : g.func ≡ c.func = cc in
      let bytes : encoding g.instr ++ g.rest ≡ encoding p.instr ++ spelled p.after = sym g.bytes ∙ ap (λ (y : Func). drop off y.bytes) func ∙ left in
      let instr : g.instr ≡ p.instr = same_instr g.instr p.instr _ _ (sym (decode_back g.instr g.rest g.is_instr) ∙ ap decode bytes ∙ decode_back p.instr (spelled p.after) one) in
      let goes : is_guarded o.slots c.func (off + size_of p.instr) p.instr ≡ true = subst (λ i. is_guarded o.slots c.func (off + size_of i) i ≡ true) instr (subst (λ y. is_guarded o.slots y (off + size_of g.instr) g.instr ≡ true) func g.goes) in
      awaited o well kept n off regs flags c.func instrs p.instr here goes

  pub word_lands : (n off : ℕ) → SoundCode o well.disassemblies n off regs flags → GoesByWord o n off → IsLanding o (word regs R11)
  word_lands n off sound g = by_row n off sound g (slice_get well.disassemblies n) refl sound.start

  -- the start of a function, and a way back
  function_free : (f : ℕ) → nat_lt f (length well.disassemblies) ≡ true → Freely o well.disassemblies (Place.Code f 0)
  function_free f h r fl = record {
    start = function_starts o.functions well.disassemblies well.disassembled f (ltb-true f (length well.disassemblies) h);
    facts = λ g is pre x post fe de e w. outside o (length (spelled pre)) 0 r fl (inl (omega arith));
  }

  back_free : (back : CodeAt) → is_start well.disassemblies back ≡ true → is_good_back o well.disassemblies back ≡ true → Freely o well.disassemblies (at_code back)
  back_free back h k r fl = record {
    start = h;
    facts = λ g is pre x post fe de e w. away g is pre x post fe de e w;
  }
    where
      away : (g : Func) (is pre : List Instr) (x : Instr) (post : List Instr) → slice_get o.functions back.function ≡ Some g → slice_get well.disassemblies back.function ≡ Some is → is ≡ pre ++ (guard (length o.slots) ++ x ∷ post) → is_guarded o.slots g (length (spelled pre) + 53 + size_of x) x ≡ true → Facts o (length (spelled pre)) back.offset r fl
      away g is pre x post fe de e w =
          let slots = length o.slots in
          let test = λ (behind : List Instr) (at : ℕ) (j : Instr). is_guarded o.slots g (at + size_of j) j in
          let whole : is ≡ (pre ++ guard slots) ++ x ∷ post = e ∙ sym (append_assoc pre (guard slots) (x ∷ post)) in
          let long : length (spelled (pre ++ guard slots)) ≡ length (spelled pre) + 53 = length-spelled-append pre (guard slots) in
          let at : length (spelled pre) + 53 ≡ 0 + length (spelled (pre ++ guard slots)) = omega (arith, long) in
          let inside : IsIn (length (spelled pre) + 53) (guarded_places o.slots g is) = subst (λ q. IsIn (length (spelled pre) + 53) (offsets_where test [] 0 q)) (sym whole) (passing_is_in test [] (pre ++ guard slots) x post 0 (length (spelled pre) + 53) at w) in
          let all : comes_outside o.slots (Some g) (Some is) back.offset ≡ true = ap (λ y. comes_outside o.slots y (Some is) back.offset) (sym fe) ∙ ap (λ y. comes_outside o.slots (slice_get o.functions back.function) y back.offset) (sym de) ∙ k in
          outside o (length (spelled pre)) back.offset r fl (not_inside (length (spelled pre)) back.offset (each_passes (λ place. not (is_inside place back.offset)) (guarded_places o.slots g is) all (length (spelled pre) + 53) inside))

  module _ (k : ℕ) where
    abbrev Slot_at : Slot → ℕ → Type 0
    Slot_at s at = Keeps o well.disassemblies regs flags (in_slot (Some s) o k at)

    abbrev K : Fetched Place → Type 0
    K = Keeps o well.disassemblies regs flags

    either : (t : Bool) (x y : Fetched Place) → (t ≡ true → K x) → (t ≡ false → K y) → K (if t then x else y)
    either true x y h g = h refl
    either false x y h g = g refl

    slot_within : k < length o.slots → slot_start o k + 5 < 2 ^ 64
    slot_within lt = slot_low o k well.few.slots lt

    -- each byte of each kind of slot
    slot_keeps_it : (s : Slot) → slice_get o.slots k ≡ Some s → k < length o.slots → is_good_slot well.disassemblies s ≡ true → is_good_way o well.disassemblies s ≡ true → (at : ℕ) → Sound o well.disassemblies (Place.Slot k at) regs flags → Slot_at s at
    slot_keeps_it (Slot.Entry f) e lt good way at sound = either (nat_eq at 0) _ _ (λ t. function_free f good regs flags) (λ t. λ z. absurd (cc))
    slot_keeps_it (Slot.Jump f) e lt good way at sound = either (nat_eq at 0) _ _ (λ t. function_free f good regs flags) (λ t. λ z. absurd (cc))
    slot_keeps_it (Slot.Call f back) e lt good way at sound =
        let g = and_parts (nat_lt f (length well.disassemblies)) (is_start well.disassemblies back) good in
        either (nat_eq at 0) _ _ (λ t. function_free f g.0) (λ t. back_free back g.1 way regs flags)
    slot_keeps_it (Slot.Indirect back) e lt good way at sound =
        let indirect : is_indirect (slice_get o.slots k) ≡ true = ap is_indirect e in
        either (nat_lt at 2) _ _
        (λ t. let low = ltb-true at 2 t in (tt, inr (nop_access regs flags, λ y z. subst (λ r. IsLanding o (word r R11)) (sym (nop_regs regs flags)) (sound indirect (omega (arith, low))))))
        (λ t. either (nat_eq at 2) _ _ (λ u. let two = eqb-true at 2 u in sound indirect (omega (arith, two))) (λ u. back_free back good way regs flags))
    slot_keeps_it (Slot.System back) e lt good way at sound =
        let no : (m : ℕ) → Freely o well.disassemblies (Place.Slot k m) = λ m r fl indirect low. let plain : is_indirect (slice_get o.slots k) ≡ false = ap is_indirect e in absurd (cc) in
        either (nat_eq at 0) _ _ (λ t. let low = slot_within lt in (omega (arith, low), no 2))
        (λ t. either (nat_lt at 5) _ _ (λ u. (tt, inl (no (at + 1)))) (λ u. back_free back good way regs flags))

    slot_count : (ss : List Slot) (j : ℕ) (s : Slot) → slice_get ss j ≡ Some s → j < length ss
    slot_count [] j s e = absurd (cc)
    slot_count (t ∷ ss) zero s e = omega arith
    slot_count (t ∷ ss) (suc j) s e = let x = slot_count ss j s e in omega (arith, x)

    slot_at_place : (at : ℕ) → Sound o well.disassemblies (Place.Slot k at) regs flags → (x : Option Slot) → slice_get o.slots k ≡ x → K (in_slot x o k at)
    slot_at_place at sound None e = λ z. absurd (cc)
    slot_at_place at sound (Some s) e = slot_keeps_it s e (slot_count o.slots k s e) (slot_keeps o well.disassemblies well.kept k s e) (way_guarded o well.disassemblies kept k s e) at sound

  -- at each place
  pub place_keeps : (p : Place) → Sound o well.disassemblies p regs flags → Keeps o well.disassemblies regs flags (symbolic_fetch o p)
  place_keeps (Place.Code n off) sound = code_at_place n off sound (slice_get well.disassemblies n) refl sound.start
  place_keeps (Place.Slot k at) sound = slot_at_place k at sound (slice_get o.slots k) refl
