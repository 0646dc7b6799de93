-- Walks over the instructions of a known function.
use Rattle.std.proofs.Common.{◌≡◌, ℕ, ◌+◌, ◌<◌, ◌≤◌, Bool, true, false, ◌||◌, if◌then◌else◌, List, [], ◌∷◌, ◌++◌, length, drop, Some, None, refl, sym, ◌∙◌, ap, subst, arith, length-append, length-drop}
use Rattle.std.specs.Prelude.{nat_eq}
use Rattle.std.proofs.lemmas.List.{drop-drop}
use Rattle.std.proofs.Math.Seq.{drop-append_seam}
use Rattle.x86_core.specs.declared.instr.Instr.{Instr}
use Rattle.x86_core.specs.declared.instr.Decoded.TheVariants.{One}
use Rattle.x86_core.specs.Encoding.{encoding, IsInstr}
use Rattle.x86_core.specs.Decoding.{decode}
use Rattle.x86_core.proofs.Back.{decode_back}
use Rattle.x86_core.proofs.Laws.{some_bytes}
use Rattle.obj_core.specs.declared.object.Func.{Func}
use Rattle.obj_core.specs.declared.object.Slot.{Slot}
use Rattle.obj_core.specs.Object.{Each}
use Rattle.obj_core.specs.Disassembly.{found, found_from, spelled, size_of, disassembly_of}
use Rattle.obj_core.specs.WellFormed.{bad_branches, is_linked, goes_well, displacement}
use Rattle.obj_core.proofs.Kept.{other_empty}
use Rattle.guard_check.specs.declared.instr_at.InstrAt.{InstrAt}
use Rattle.guard_check.specs.declared.check.CodeRule.{CodeRule}
use Rattle.guard_check.specs.Guard.{follows_guard}
use Rattle.guard_check.specs.Form.{offsets_where}
use Rattle.guard_check.specs.Checking.{IsKnown, placed, fails_at, failing, first_of}
use Rattle.guard_check.specs.Counting.{next_of, count_of}
use Rattle.guard_check.proofs.Counted.{count_few}

-- the instructions from an offset on
pub record Rest (bytes : List ℕ) (at : ℕ) (row : List Instr) : Type 0 where
  pub within : at ≤ length bytes
  pub instructions : Each IsInstr row
  pub bytes_are : drop at bytes ≡ spelled row

-- the instruction that stands at an offset, and those behind it
pub record Standing (bytes : List ℕ) (at : ℕ) (here : InstrAt) (row : List Instr) : Type 0 where
  pub others : List Instr
  pub split : row ≡ here.instr ∷ others
  pub is_instr : IsInstr here.instr
  pub at_is : here.at ≡ at
  pub end_is : here.end ≡ at + size_of here.instr
  pub grows : at < here.end
  pub rest : Rest bytes here.end others

none_placed : (at : ℕ) (here : InstrAt) → Some here ≡ placed at (decode []) → ⊥
unfolding decode
none_placed at here e = cc

stands_by : (bytes : List ℕ) (at : ℕ) (i : Instr) (row : List Instr) (here : InstrAt) → Rest bytes at (i ∷ row) → here ≡ record { at = at; end = at + size_of i; instr = i } → Standing bytes at here (i ∷ row)
stands_by bytes at i row here r e =
    subst (λ (h : InstrAt). Standing bytes at h (i ∷ row)) (sym e)
    (let left : length (drop at bytes) ≡ length (encoding i ++ spelled row) = ap length r.bytes_are in
    record {
      others = row;
      split = refl;
      is_instr = r.instructions.0;
      at_is = refl;
      end_is = refl;
      grows = omega (arith, some_bytes i);
      rest = record {
        within = omega (arith, left, length-drop at bytes, length-append (encoding i) (spelled row), r.within);
        instructions = r.instructions.1;
        bytes_are = sym (drop-drop (size_of i) at bytes) ∙ ap (λ bs. drop (size_of i) bs) r.bytes_are ∙ drop-append_seam (encoding i) (spelled row);
      };
    })

pub stands : (bytes : List ℕ) (at : ℕ) (row : List Instr) (here : InstrAt) → Rest bytes at row → Some here ≡ placed at (decode (drop at bytes)) → Standing bytes at here row
stands bytes at [] here r e = absurd (none_placed at here (e ∙ ap (λ bs. placed at (decode bs)) r.bytes_are))
stands bytes at (i ∷ row) here r e =
    let one : Some here ≡ Some (record { at = at; end = at + size_of i; instr = i }) = e ∙ ap (λ bs. placed at (decode bs)) r.bytes_are ∙ ap (placed at) (decode_back i (spelled row) r.instructions.0) in
    stands_by bytes at i row here r (cc)

-- where none stands, there are no more
pub none_stands : (bytes : List ℕ) (at : ℕ) (row : List Instr) → Rest bytes at row → None ≡ placed at (decode (drop at bytes)) → row ≡ []
none_stands bytes at [] r e = refl
none_stands bytes at (i ∷ row) r e =
    let one : None ≡ placed at (One i (size_of i)) = e ∙ ap (λ bs. placed at (decode bs)) r.bytes_are ∙ ap (placed at) (decode_back i (spelled row) r.instructions.0) in
    absurd (cc)

-- a walk over a function by a rule: the instructions before pass
pub record Walk (rule : CodeRule) (slots : List Slot) (f : Func) (bytes : List ℕ) (at count : ℕ) : Type 0 where
  pub behind : List Instr
  pub row : List Instr
  pub rest : Rest bytes at row
  pub counted : count ≡ count_of (length slots) behind
  pub told : offsets_where (fails_at rule slots f (disassembly_of f.bytes)) behind at row ≡ failing rule slots f (disassembly_of f.bytes)
  pub goes : bad_branches f.links (found (disassembly_of f.bytes)) (found_from at row) ≡ []

pub walk_all : (rule : CodeRule) (slots : List Slot) (f : Func) (bytes : List ℕ) → bytes ≡ f.bytes → IsKnown (length slots) f → Walk rule slots f bytes 0 0
walk_all rule slots f bytes e k = record {
  behind = [];
  row = disassembly_of f.bytes;
  rest = record { within = omega arith; instructions = k.disassembly.instructions; bytes_are = e ∙ sym k.disassembly.whole };
  counted = refl;
  told = refl;
  goes = k.branches;
}

pub few_counted : (rule : CodeRule) (slots : List Slot) (f : Func) (bytes : List ℕ) (at count : ℕ) → Walk rule slots f bytes at count → count ≤ 10
few_counted rule slots f bytes at count w = omega (arith, w.counted, count_few (length slots) w.behind)

module _ (rule : CodeRule) (slots : List Slot) (f : Func) (bytes : List ℕ) (at count : ℕ) (here : InstrAt) where
  all : List Instr
  all = disassembly_of f.bytes

  -- its branch has a link, or goes to a start
  goes_first : (others : List Instr) (i : Instr) → here.end ≡ at + size_of i → bad_branches f.links (found (disassembly_of f.bytes)) (found_from at (i ∷ others)) ≡ [] → (is_linked f.links here.end || goes_well (found (disassembly_of f.bytes)) here.end (displacement i)) ≡ true
  goes_first others i e h =
      ap (λ n. is_linked f.links n || goes_well (found (disassembly_of f.bytes)) n (displacement i)) e ∙
      (other_empty (is_linked f.links (at + size_of i) || goes_well (found (disassembly_of f.bytes)) (at + size_of i) (displacement i)) at _ _ h).0

  pub goes_here : Walk rule slots f bytes at count → Some here ≡ placed at (decode (drop at bytes)) → (is_linked f.links here.end || goes_well (found (disassembly_of f.bytes)) here.end (displacement here.instr)) ≡ true
  goes_here w e =
      let s = stands bytes at w.row here w.rest e in
      goes_first s.others here.instr s.end_is (subst (λ r. bad_branches f.links (found (disassembly_of f.bytes)) (found_from at r) ≡ []) s.split w.goes)

  passes_first : (t : Bool) (n : ℕ) (xs : List ℕ) → t ≡ false → (if t then n ∷ xs else xs) ≡ xs
  passes_first true n xs e = absurd (cc)
  passes_first false n xs e = refl

  fails_first : (t : Bool) (n : ℕ) (xs : List ℕ) → t ≡ true → first_of (if t then n ∷ xs else xs) ≡ Some n
  fails_first true n xs e = refl
  fails_first false n xs e = absurd (cc)

  pub walk_more : Walk rule slots f bytes at count → Some here ≡ placed at (decode (drop at bytes)) → (next : ℕ) → next ≡ next_of (length slots) count here.instr →
      ((behind : List Instr) → follows_guard (length slots) behind ≡ nat_eq count 10 → false ≡ fails_at rule slots f (disassembly_of f.bytes) behind here.at here.instr) → ((behind : List Instr) → count ≡ count_of (length slots) behind → follows_guard (length slots) behind ≡ nat_eq count 10) → Walk rule slots f bytes here.end next
  walk_more w e next n passes follows =
      let s = stands bytes at w.row here w.rest e in
      let test = fails_at rule slots f (disassembly_of f.bytes) in
      let t : test w.behind at here.instr ≡ false = ap (λ k. test w.behind k here.instr) (sym s.at_is) ∙ sym (passes w.behind (follows w.behind w.counted)) in
      record {
        behind = here.instr ∷ w.behind;
        row = s.others;
        rest = s.rest;
        counted = n ∙ ap (λ k. next_of (length slots) k here.instr) w.counted;
        told =
            ap (λ k. offsets_where test (here.instr ∷ w.behind) k s.others) s.end_is ∙
            sym (passes_first (test w.behind at here.instr) at _ t) ∙
            sym (ap (λ r. offsets_where test w.behind at r) s.split) ∙ w.told;
        goes =
            ap (λ k. bad_branches f.links (found (disassembly_of f.bytes)) (found_from k s.others)) s.end_is ∙
            (other_empty (is_linked f.links (at + size_of here.instr) || goes_well (found (disassembly_of f.bytes)) (at + size_of here.instr) (displacement here.instr)) at _ _
            (subst (λ r. bad_branches f.links (found (disassembly_of f.bytes)) (found_from at r) ≡ []) s.split w.goes)).1;
      }

  pub walk_fails : Walk rule slots f bytes at count → Some here ≡ placed at (decode (drop at bytes)) →
      ((behind : List Instr) → follows_guard (length slots) behind ≡ nat_eq count 10 → true ≡ fails_at rule slots f (disassembly_of f.bytes) behind here.at here.instr) → ((behind : List Instr) → count ≡ count_of (length slots) behind → follows_guard (length slots) behind ≡ nat_eq count 10) → Some at ≡ first_of (failing rule slots f (disassembly_of f.bytes))
  walk_fails w e breaks follows =
      let s = stands bytes at w.row here w.rest e in
      let test = fails_at rule slots f (disassembly_of f.bytes) in
      let t : test w.behind at here.instr ≡ true = ap (λ k. test w.behind k here.instr) (sym s.at_is) ∙ sym (breaks w.behind (follows w.behind w.counted)) in
      sym (fails_first (test w.behind at here.instr) at _ t) ∙ sym (ap (λ r. first_of (offsets_where test w.behind at r)) s.split) ∙ ap first_of w.told

pub walk_none : (rule : CodeRule) (slots : List Slot) (f : Func) (bytes : List ℕ) (at count : ℕ) → Walk rule slots f bytes at count → None ≡ placed at (decode (drop at bytes)) → None ≡ first_of (failing rule slots f (disassembly_of f.bytes))
walk_none rule slots f bytes at count w e =
    let none = none_stands bytes at w.row w.rest e in
    sym (ap (λ r. first_of (offsets_where (fails_at rule slots f (disassembly_of f.bytes)) w.behind at r)) none) ∙ ap first_of w.told
