-- Where instructions start in a row of them, and what the rules of objects say at such a start.
use Rattle.std.proofs.Common.{◌≡◌, ℕ, ◌+◌, Bool, true, false, ◌||◌, List, [], ◌∷◌, ◌++◌, length, refl, sym, ◌∙◌, ap, subst, arith, append_assoc, length-append}
use Rattle.std.specs.Prelude.{nat_eq, slice_get}
use Rattle.std.proofs.lemmas.Bool.{eqb-true, eq-eqb, or_right}
use Rattle.x86_core.specs.declared.instr.Instr.{Instr}
use Rattle.x86_core.specs.Encoding.{encoding}
use Rattle.obj_core.specs.declared.object.Link.{Link}
use Rattle.obj_core.specs.declared.object.CodeAt.{CodeAt}
use Rattle.obj_core.specs.Disassembly.{Found, found_from, starts_at, spelled, size_of}
use Rattle.obj_core.specs.WellFormed.{is_start, is_slots_own, forbidden_in, displacement, is_linked, goes_well, bad_branches, is_end, open_end}
use Rattle.obj_core.proofs.Spelling.{length-spelled-append}
use Rattle.obj_core.proofs.Kept.{one_empty, other_empty}
use Rattle.obj_lay.specs.Places.{is_code_place}

-- where a slot may lead back to is a start
pub is_start_code : (disassemblies : List (List Instr)) (c : CodeAt) → is_start disassemblies c ≡ is_code_place (slice_get disassemblies c.function) c.offset
is_start_code disassemblies c = refl

-- an instruction of a row, and how far it stands from the start
pub record SplitsAt (instrs : List Instr) (at off : ℕ) : Type 0 where
  pub before : List Instr
  pub instr : Instr
  pub after : List Instr
  pub split : instrs ≡ before ++ instr ∷ after
  pub offset : off ≡ at + length (spelled before)

-- an instruction of the others is one of the row
further : (i : Instr) (is : List Instr) (at off : ℕ) → SplitsAt is (at + size_of i) off → SplitsAt (i ∷ is) at off
further i is at off h = record {
  before = i ∷ h.before;
  instr = h.instr;
  after = h.after;
  split = ap (λ r. i ∷ r) h.split;
  offset = omega (arith, h.offset, length-append (encoding i) (spelled h.before));
}

-- the first instruction, or one of the others
by_first : (i : Instr) (is : List Instr) (at off : ℕ) (more : starts_at (found_from (at + size_of i) is) off ≡ true → SplitsAt is (at + size_of i) off) (t : Bool) → nat_eq at off ≡ t → (t || starts_at (found_from (at + size_of i) is) off) ≡ true → SplitsAt (i ∷ is) at off
by_first i is at off more true e h = let same = eqb-true at off e in record { before = []; instr = i; after = is; split = refl; offset = omega (arith, same) }
by_first i is at off more false e h = further i is at off (more h)

-- where a start is, an instruction is
pub start_splits : (instrs : List Instr) (at off : ℕ) → starts_at (found_from at instrs) off ≡ true → SplitsAt instrs at off
start_splits [] at off h = absurd (cc)
start_splits (i ∷ is) at off h = by_first i is at off (start_splits is (at + size_of i) off) (nat_eq at off) refl h

-- the offset behind the first of some instructions
behind_first : (b : Instr) (bs : List Instr) (at off : ℕ) → off ≡ at + length (spelled (b ∷ bs)) → off ≡ at + size_of b + length (spelled bs)
behind_first b bs at off e = omega (arith, e, length-append (encoding b) (spelled bs))

-- where an instruction is, a start is
pub is_in_start : (before : List Instr) (i : Instr) (after : List Instr) (at off : ℕ) → off ≡ at + length (spelled before) → starts_at (found_from at (before ++ i ∷ after)) off ≡ true
is_in_start [] i after at off e = ap (λ t. t || starts_at (found_from (at + size_of i) after) off) (eq-eqb at off (omega (arith, e)))
is_in_start (b ∷ bs) i after at off e = or_right (nat_eq at off) _ (is_in_start bs i after (at + size_of b) off (behind_first b bs at off e))

-- no instruction of a function is one that only slots have
pub none_of_slots : (before : List Instr) (i : Instr) (after : List Instr) (at : ℕ) → forbidden_in (found_from at (before ++ i ∷ after)) ≡ [] → is_slots_own i ≡ false
none_of_slots [] i after at h = (one_empty (is_slots_own i) at _ _ h).0
none_of_slots (b ∷ bs) i after at h = none_of_slots bs i after (at + size_of b) (one_empty (is_slots_own b) at _ _ h).1

-- each branch has a link, or goes to a start
pub branch_goes : (links : List Link) (all : List Found) (before : List Instr) (i : Instr) (after : List Instr) (at off : ℕ) → off ≡ at + length (spelled before) → bad_branches links all (found_from at (before ++ i ∷ after)) ≡ [] → (is_linked links (off + size_of i) || goes_well all (off + size_of i) (displacement i)) ≡ true
branch_goes links all [] i after at off e h =
    let same : at ≡ off = omega (arith, e) in
    subst (λ n. (is_linked links (n + size_of i) || goes_well all (n + size_of i) (displacement i)) ≡ true) same
    (other_empty (is_linked links (at + size_of i) || goes_well all (at + size_of i) (displacement i)) at _ _ h).0
branch_goes links all (b ∷ bs) i after at off e h =
    branch_goes links all bs i after (at + size_of b) off (behind_first b bs at off e)
    (other_empty (is_linked links (at + size_of b) || goes_well all (at + size_of b) (displacement b)) at _ _ h).1

-- behind an instruction that is no end there is another
pub record HasNext (after : List Instr) : Type 0 where
  pub first : Instr
  pub others : List Instr
  pub split : after ≡ first ∷ others

-- an instruction that is no end is not the last one
pub goes_on : (before : List Instr) (i : Instr) (after : List Instr) (at : ℕ) → open_end (found_from at (before ++ i ∷ after)) ≡ [] → is_end i ≡ false → HasNext after
goes_on before i (j ∷ more) at h going = record { first = j; others = more; split = refl }
goes_on [] i [] at h going = let yes = (other_empty (is_end i) at [] [] h).0 in absurd (cc)
goes_on (b ∷ []) i [] at h going = goes_on [] i [] (at + size_of b) h going
goes_on (b ∷ c ∷ bs) i [] at h going = goes_on (c ∷ bs) i [] (at + size_of b) h going

-- the start behind an instruction
pub next_start : (before : List Instr) (i : Instr) (after : List Instr) (off : ℕ) → off ≡ 0 + length (spelled before) → HasNext after → starts_at (found_from 0 (before ++ i ∷ after)) (off + size_of i) ≡ true
next_start before i after off e n =
    let shift : before ++ i ∷ after ≡ (before ++ i ∷ []) ++ n.first ∷ n.others = ap (λ r. before ++ i ∷ r) n.split ∙ sym (append_assoc before (i ∷ []) (n.first ∷ n.others)) in
    let long : off + size_of i ≡ 0 + length (spelled (before ++ i ∷ [])) = omega (arith, e, length-spelled-append before (i ∷ []), length-append (encoding i) []) in
    subst (λ instrs. starts_at (found_from 0 instrs) (off + size_of i) ≡ true) (sym shift) (is_in_start (before ++ i ∷ []) n.first n.others 0 (off + size_of i) long)
