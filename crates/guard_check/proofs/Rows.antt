-- Rows of instructions: where they start, where a test holds, and how a guard lies in one.
use Rattle.std.proofs.Common.{◌≡◌, ℕ, ◌+◌, ◌⊎◌, inl, inr, Bool, true, false, ◌||◌, if◌then◌else◌, List, [], ◌∷◌, ◌++◌, length, refl, sym, ◌∙◌, ap, subst, arith, append_assoc, length-append}
use Rattle.std.specs.Prelude.{nat_eq}
use Rattle.std.proofs.lemmas.Bool.{eqb-true, eq-eqb, or_right, and_parts}
use Rattle.std.proofs.lemmas.List.{append-nil}
use Rattle.x86_core.specs.declared.instr.Instr.{Instr}
use Rattle.x86_core.specs.Encoding.{encoding, IsInstr}
use Rattle.x86_core.proofs.Laws.{encodings_differ}
use Rattle.obj_core.specs.Object.{Each}
use Rattle.obj_core.specs.Saved.{same_bytes}
use Rattle.obj_core.specs.Disassembly.{found_from, starts_at, spelled, size_of}
use Rattle.guard_check.specs.Guard.{is_same, turned, begins}
use Rattle.guard_check.specs.Form.{offsets_where}

-- an instruction of a row, and how far it stands from the start
pub record SplitsAt (instrs : List Instr) (at off : ℕ) : Type 0 where
  pub before : List Instr
  pub instr : Instr
  pub after : List Instr
  pub split : instrs ≡ before ++ instr ∷ after
  pub offset : off ≡ at + length (spelled before)

further : (i : Instr) (is : List Instr) (at off : ℕ) → SplitsAt is (at + size_of i) off → SplitsAt (i ∷ is) at off
further i is at off h = record {
  before = i ∷ h.before;
  instr = h.instr;
  after = h.after;
  split = ap (λ r. i ∷ r) h.split;
  offset = omega (arith, h.offset, length-append (encoding i) (spelled h.before));
}

by_first : (i : Instr) (is : List Instr) (at off : ℕ) (more : starts_at (found_from (at + size_of i) is) off ≡ true → SplitsAt is (at + size_of i) off) (t : Bool) → nat_eq at off ≡ t → (t || starts_at (found_from (at + size_of i) is) off) ≡ true → SplitsAt (i ∷ is) at off
by_first i is at off more true e h = let same = eqb-true at off e in record { before = []; instr = i; after = is; split = refl; offset = omega (arith, same) }
by_first i is at off more false e h = further i is at off (more h)

-- where a start is, an instruction is
pub start_splits : (instrs : List Instr) (at off : ℕ) → starts_at (found_from at instrs) off ≡ true → SplitsAt instrs at off
start_splits [] at off h = absurd (cc)
start_splits (i ∷ is) at off h = by_first i is at off (start_splits is (at + size_of i) off) (nat_eq at off) refl h

-- the offset behind the first of some instructions
pub behind_first : (b : Instr) (bs : List Instr) (at off : ℕ) → off ≡ at + length (spelled (b ∷ bs)) → off ≡ at + size_of b + length (spelled bs)
behind_first b bs at off e = omega (arith, e, length-append (encoding b) (spelled bs))

-- where an instruction is, a start is
pub is_in_start : (before : List Instr) (i : Instr) (after : List Instr) (at off : ℕ) → off ≡ at + length (spelled before) → starts_at (found_from at (before ++ i ∷ after)) off ≡ true
is_in_start [] i after at off e = ap (λ t. t || starts_at (found_from (at + size_of i) after) off) (eq-eqb at off (omega (arith, e)))
is_in_start (b ∷ bs) i after at off e = or_right (nat_eq at off) _ (is_in_start bs i after (at + size_of b) off (behind_first b bs at off e))

-- a list that is empty by a test
none_here : (t : Bool) (n : ℕ) (xs : List ℕ) → (if t then n ∷ xs else xs) ≡ [] → (t ≡ false) × (xs ≡ [])
none_here true n xs h = absurd (cc)
none_here false n xs h = (refl, h)

-- where no instruction of a row passes a test, one of them does not
pub none_passes : (test : List Instr → ℕ → Instr → Bool) (behind before : List Instr) (i : Instr) (after : List Instr) (at off : ℕ) → off ≡ at + length (spelled before) → offsets_where test behind at (before ++ i ∷ after) ≡ [] → test (turned before behind) off i ≡ false
none_passes test behind [] i after at off e h =
    let same : at ≡ off = omega (arith, e) in
    subst (λ n. test behind n i ≡ false) same (none_here (test behind at i) at _ h).0
none_passes test behind (b ∷ bs) i after at off e h =
    none_passes test (b ∷ behind) bs i after (at + size_of b) off (behind_first b bs at off e) (none_here (test behind at b) at _ h).1

-- a number is in a list
abbrev pub IsIn : ℕ → List ℕ → Type 0
IsIn n [] = ⊥
IsIn n (m ∷ ms) = (n ≡ m) ⊎ IsIn n ms

-- an instruction that passes is found
with_others : (t : Bool) (n m : ℕ) (ms : List ℕ) → IsIn n ms → IsIn n (if t then m ∷ ms else ms)
with_others true n m ms h = inr h
with_others false n m ms h = h

pub passing_is_in : (test : List Instr → ℕ → Instr → Bool) (behind before : List Instr) (i : Instr) (after : List Instr) (at off : ℕ) → off ≡ at + length (spelled before) → test (turned before behind) off i ≡ true → IsIn off (offsets_where test behind at (before ++ i ∷ after))
passing_is_in test behind [] i after at off e h =
    let same : off ≡ at = omega (arith, e) in
    let passes : test behind at i ≡ true = subst (λ n. test behind n i ≡ true) same h in
    subst (λ n. IsIn n (offsets_where test behind at (i ∷ after))) (sym same)
    (subst (λ t. IsIn at (if t then at ∷ offsets_where test (i ∷ behind) (at + size_of i) after else offsets_where test (i ∷ behind) (at + size_of i) after)) (sym passes) (inl refl))
passing_is_in test behind (b ∷ bs) i after at off e h =
    with_others (test behind at b) off at _ (passing_is_in test (b ∷ behind) bs i after (at + size_of b) off (behind_first b bs at off e) h)

-- two ways to cut one list
pub data Compared (p b x y : List Instr) : Type 0 where
  Longer : (s : List Instr) → p ≡ b ++ s → y ≡ s ++ x → Compared p b x y
  Shorter : (s : List Instr) → b ≡ p ++ s → x ≡ s ++ y → Compared p b x y

pub compared : (p b x y : List Instr) → p ++ x ≡ b ++ y → Compared p b x y
compared [] b x y e = Shorter b refl e
compared (i ∷ p) [] x y e = Longer (i ∷ p) refl (sym e)
compared (i ∷ p) (j ∷ b) x y e =
    let same : i ≡ j = cc in
    let others : p ++ x ≡ b ++ y = cc in
    more (compared p b x y others)
  where
    more : Compared p b x y → Compared (i ∷ p) (j ∷ b) x y
    more (Longer s f g) = let same : i ≡ j = cc in Longer s (ap (λ k. k ∷ p) same ∙ ap (λ r. j ∷ r) f) g
    more (Shorter s f g) = let same : i ≡ j = cc in Shorter s (ap (λ k. k ∷ b) (sym same) ∙ ap (λ r. i ∷ r) f) g

-- the same numbers
pub same_numbers : (xs ys : List ℕ) → same_bytes xs ys ≡ true → xs ≡ ys
same_numbers [] [] h = refl
same_numbers [] (y ∷ ys) h = absurd (cc)
same_numbers (x ∷ xs) [] h = absurd (cc)
same_numbers (x ∷ xs) (y ∷ ys) h =
    let both = and_parts (nat_eq x y) (same_bytes xs ys) h in
    let first = eqb-true x y both.0 in
    let others = same_numbers xs ys both.1 in
    ap (λ n. n ∷ xs) first ∙ ap (λ r. y ∷ r) others

-- what a row begins with
pub begins_with : (js is : List Instr) → Each IsInstr js → Each IsInstr is → begins js is ≡ true → (rest : List Instr) × (is ≡ js ++ rest)
begins_with [] is h k e = (is, refl)
begins_with (j ∷ js) [] h k e = absurd (cc)
begins_with (j ∷ js) (i ∷ is) h k e =
    let both = and_parts (is_same j i) (begins js is) e in
    let first : j ≡ i = encodings_differ j i h.0 k.0 (same_numbers (encoding j) (encoding i) both.0) in
    let others = begins_with js is h.1 k.1 both.1 in
    (others.0, ap (λ n. n ∷ is) (sym first) ∙ ap (λ r. j ∷ r) others.1)

-- rows backwards
pub each_turned : (P : Instr → Type 0) (is others : List Instr) → Each P is → Each P others → Each P (turned is others)
each_turned P [] others h k = k
each_turned P (i ∷ is) others h k = each_turned P is (i ∷ others) h.1 (h.0, k)

turned_back : (is behind others : List Instr) → turned (turned is behind) others ≡ turned behind (is ++ others)
turned_back [] behind others = refl
turned_back (i ∷ is) behind others = turned_back is (i ∷ behind) others

turned-append : (is others : List Instr) → turned is others ≡ turned is [] ++ others
turned-append [] others = refl
turned-append (i ∷ is) others = turned-append is (i ∷ others) ∙ sym (append_assoc (turned is []) (i ∷ []) others) ∙ ap (λ r. r ++ others) (sym (turned-append is (i ∷ [])))

-- a row that ends, backwards, with another one turned
pub ends_with : (before js rest : List Instr) → turned before [] ≡ turned js [] ++ rest → before ≡ turned rest [] ++ js
ends_with before js rest e =
    let whole : turned (turned before []) [] ≡ before = turned_back before [] [] ∙ append-nil before in
    let split : turned js [] ++ rest ≡ turned js rest = sym (turned-append js rest) in
    let back : turned (turned js rest) [] ≡ turned rest js = turned_back js rest [] ∙ ap (λ r. turned rest r) (append-nil js) in
    sym whole ∙ ap (λ r. turned r []) (e ∙ split) ∙ back ∙ turned-append rest js
