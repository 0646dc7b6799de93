-- Whether an offset lies inside a guard, told by the instructions from there on.
use Rattle.std.proofs.Common.{◌≡◌, ℕ, ◌+◌, ◌<◌, ◌≤◌, Bool, true, false, not, ◌||◌, ◌&&◌, if◌then◌else◌, List, [], ◌∷◌, ◌++◌, length, drop, Option, Some, None, refl, sym, ◌∙◌, ap, subst, arith, length-append}
use Rattle.std.proofs.lemmas.Bool.Decides.{nat_tests}
use Rattle.std.proofs.Math.Seq.{drop-append_seam}
use Rattle.x86_core.specs.declared.instr.Instr.{Instr}
use Rattle.x86_core.specs.Encoding.{encoding, IsInstr}
use Rattle.x86_core.specs.Decoding.{decode}
use Rattle.x86_core.proofs.Laws.{some_bytes}
use Rattle.obj_core.specs.declared.object.Func.{Func}
use Rattle.obj_core.specs.declared.object.Slot.{Slot}
use Rattle.obj_core.specs.Object.{Each}
use Rattle.obj_core.specs.Disassembly.{found, starts_at, spelled, size_of, disassembly_of}
use Rattle.obj_core.proofs.Spelling.{spelled-append, each_right}
use Rattle.guard_check.specs.declared.instr_at.InstrAt.{InstrAt}
use Rattle.guard_check.specs.Guard.{is_inside, turned}
use Rattle.guard_check.specs.Form.{is_guarded, guarded_places, offsets_where}
use Rattle.guard_check.specs.Checking.{IsKnown, placed, is_but, keeps_off}
use Rattle.guard_check.proofs.Rows.{SplitsAt, start_splits}
use Rattle.guard_check.proofs.Walked.{Rest, stands, none_stands}

-- the test of a guarded place
abbrev pub guards : List Slot → Func → List Instr → ℕ → Instr → Bool
guards slots f behind at i = is_guarded slots f (at + size_of i) i

-- the places that are left tell whether the offset lies inside a guard
pub record Ahead (slots : List Slot) (f : Func) (bytes : List ℕ) (off at : ℕ) (but : Option ℕ) : Type 0 where
  pub behind : List Instr
  pub row : List Instr
  pub rest : Rest bytes at row
  pub from : off ≤ at
  pub told : keeps_off (offsets_where (guards slots f) behind at row) off but ≡ keeps_off (guarded_places slots f (disassembly_of f.bytes)) off but

outside : (b : Bool) (place off : ℕ) → place < off → (b || not (is_inside place off)) ≡ true
outside true place off lt = refl
outside false place off lt = let e : is_inside place off ≡ false = grind (arith, nat_tests) in ap not e

far : (b : Bool) (place off : ℕ) → off + 53 ≤ place → (b || not (is_inside place off)) ≡ true
far true place off le = refl
far false place off le = let e : is_inside place off ≡ false = grind (arith, nat_tests) in ap not e

near : (place off : ℕ) → off ≤ place → place < off + 53 → is_inside place off ≡ true
near place off le lt = grind (arith, nat_tests)

-- one place that keeps off
keeps_one : (t : Bool) (place off : ℕ) (but : Option ℕ) (xs : List ℕ) → (is_but but place || not (is_inside place off)) ≡ true → keeps_off (if t then place ∷ xs else xs) off but ≡ keeps_off xs off but
keeps_one true place off but xs h = ap (λ b. b && keeps_off xs off but) h
keeps_one false place off but xs h = refl

-- the places before the offset keep off
passed : (slots : List Slot) (f : Func) (off : ℕ) (but : Option ℕ) (behind before : List Instr) (i : Instr) (after : List Instr) (at : ℕ) → off ≡ at + length (spelled before) →
    keeps_off (offsets_where (guards slots f) (turned before behind) off (i ∷ after)) off but ≡ keeps_off (offsets_where (guards slots f) behind at (before ++ i ∷ after)) off but
passed slots f off but behind [] i after at e = ap (λ n. keeps_off (offsets_where (guards slots f) behind n (i ∷ after)) off but) (let same : off ≡ at = omega (arith, e) in same)
passed slots f off but behind (b ∷ bs) i after at e =
    passed slots f off but (b ∷ behind) bs i after (at + size_of b) (omega (arith, e, length-append (encoding b) (spelled bs))) ∙
    sym (keeps_one (guards slots f behind at b) at off but _ (outside (is_but but at) at off (before_it b bs at off e)))
  where
    before_it : (c : Instr) (cs : List Instr) (n m : ℕ) → m ≡ n + length (spelled (c ∷ cs)) → n < m
    before_it c cs n m g = omega (arith, g, length-append (encoding c) (spelled cs), some_bytes c)

-- all places that are left lie far behind
all_far : (slots : List Slot) (f : Func) (off : ℕ) (but : Option ℕ) (behind row : List Instr) (at : ℕ) → off + 53 ≤ at → keeps_off (offsets_where (guards slots f) behind at row) off but ≡ true
all_far slots f off but behind [] at le = refl
all_far slots f off but behind (i ∷ row) at le =
    keeps_one (guards slots f behind at i) at off but _ (far (is_but but at) at off le) ∙ all_far slots f off but (i ∷ behind) row (at + size_of i) (omega (arith, le))

at_split : (slots : List Slot) (f : Func) (bytes : List ℕ) (off : ℕ) (but : Option ℕ) → bytes ≡ f.bytes → IsKnown (length slots) f → SplitsAt (disassembly_of f.bytes) 0 off → Ahead slots f bytes off off but
at_split slots f bytes off but e k s =
    let row = s.instr ∷ s.after in
    let whole : bytes ≡ spelled s.before ++ spelled row = e ∙ sym k.disassembly.whole ∙ ap spelled s.split ∙ spelled-append s.before row in
    let long : length bytes ≡ length (spelled s.before) + length (spelled row) = ap length whole ∙ length-append (spelled s.before) (spelled row) in
    let o : off ≡ length (spelled s.before) = omega (arith, s.offset) in
    record {
      behind = turned s.before [];
      row = row;
      rest = record {
        within = omega (arith, long, o);
        instructions = each_right IsInstr s.before row (subst (Each IsInstr) s.split k.disassembly.instructions);
        bytes_are = ap (λ bs. drop off bs) whole ∙ ap (λ n. drop n (spelled s.before ++ spelled row)) o ∙ drop-append_seam (spelled s.before) (spelled row);
      };
      from = omega arith;
      told = passed slots f off but [] s.before s.instr s.after 0 s.offset ∙ sym (ap (λ r. keeps_off (guarded_places slots f r) off but) s.split);
    }

pub ahead_all : (slots : List Slot) (f : Func) (bytes : List ℕ) (off : ℕ) (but : Option ℕ) → bytes ≡ f.bytes → IsKnown (length slots) f → starts_at (found (disassembly_of f.bytes)) off ≡ true → Ahead slots f bytes off off but
ahead_all slots f bytes off but e k h = at_split slots f bytes off but e k (start_splits (disassembly_of f.bytes) 0 off h)

module _ (slots : List Slot) (f : Func) (bytes : List ℕ) (off at : ℕ) (but : Option ℕ) where
  pub ahead_none : Ahead slots f bytes off at but → None ≡ placed at (decode (drop at bytes)) → false ≡ not (keeps_off (guarded_places slots f (disassembly_of f.bytes)) off but)
  ahead_none h e =
      let none = none_stands bytes at h.row h.rest e in
      ap not (sym (ap (λ r. keeps_off (offsets_where (guards slots f) h.behind at r) off but) none) ∙ h.told)

  pub ahead_far : Ahead slots f bytes off at but → off + 53 ≤ at → false ≡ not (keeps_off (guarded_places slots f (disassembly_of f.bytes)) off but)
  ahead_far h le = ap not (sym (all_far slots f off but h.behind h.row at le) ∙ h.told)

  found_first : (t b : Bool) (xs : List ℕ) → t ≡ true → (is_but but at || not (is_inside at off)) ≡ false → keeps_off (if t then at ∷ xs else xs) off but ≡ false
  found_first true b xs e k = ap (λ c. c && keeps_off xs off but) k
  found_first false b xs e k = absurd (cc)

  pub ahead_found : (here : InstrAt) → Ahead slots f bytes off at but → Some here ≡ placed at (decode (drop at bytes)) → at < off + 53 → is_guarded slots f here.end here.instr ≡ true → is_but but at ≡ false → true ≡ not (keeps_off (guarded_places slots f (disassembly_of f.bytes)) off but)
  ahead_found here h e lt g b =
      let s = stands bytes at h.row here h.rest e in
      let one : guards slots f h.behind at here.instr ≡ true = sym (ap (λ n. is_guarded slots f n here.instr) s.end_is) ∙ g in
      let k : (is_but but at || not (is_inside at off)) ≡ false = ap (λ c. c || not (is_inside at off)) b ∙ ap not (near at off h.from lt) in
      ap not (sym (found_first (guards slots f h.behind at here.instr) true _ one k) ∙ sym (ap (λ r. keeps_off (offsets_where (guards slots f) h.behind at r) off but) s.split) ∙ h.told)

  keeps_here : (t b : Bool) → (t && not b) ≡ false → (xs : List ℕ) → is_but but at ≡ b → keeps_off (if t then at ∷ xs else xs) off but ≡ keeps_off xs off but
  keeps_here true true h xs e = keeps_one true at off but xs (ap (λ c. c || not (is_inside at off)) e)
  keeps_here true false h xs e = absurd (cc)
  keeps_here false b h xs e = refl

  pub ahead_more : (here : InstrAt) → Ahead slots f bytes off at but → Some here ≡ placed at (decode (drop at bytes)) → (is_guarded slots f here.end here.instr && not (is_but but at)) ≡ false → Ahead slots f bytes off here.end but
  ahead_more here h e g =
      let s = stands bytes at h.row here h.rest e in
      let one : (guards slots f h.behind at here.instr && not (is_but but at)) ≡ false = sym (ap (λ n. is_guarded slots f n here.instr && not (is_but but at)) s.end_is) ∙ g in
      record {
        behind = here.instr ∷ h.behind;
        row = s.others;
        rest = s.rest;
        from = let a = s.grows in let b = h.from in omega (arith, a, b);
        told =
            ap (λ n. keeps_off (offsets_where (guards slots f) (here.instr ∷ h.behind) n s.others) off but) s.end_is ∙
            sym (keeps_here (guards slots f h.behind at here.instr) (is_but but at) one _ refl) ∙
            sym (ap (λ r. keeps_off (offsets_where (guards slots f) h.behind at r) off but) s.split) ∙ h.told;
      }

pub neither_but : (a b : Bool) → b ≡ true → (a && not b) ≡ false
neither_but true true h = refl
neither_but true false h = absurd (cc)
neither_but false b h = refl

pub neither_guarded : (a b : Bool) → a ≡ false → (a && not b) ≡ false
neither_guarded true b h = absurd (cc)
neither_guarded false b h = refl

pub twice_not : (b : Bool) → not (not b) ≡ b
twice_not true = refl
twice_not false = refl
