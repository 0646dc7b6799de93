-- The instructions of a disassembly, each at its offset.
use Rattle.std.proofs.Common.{◌≡◌, ℕ, ◌+◌, ◌-◌, ◌≤◌, ◌⊎◌, inl, inr, true, ◌||◌, List, [], ◌∷◌, ◌++◌, length, drop, Some, refl, sym, ◌∙◌, ap, subst, arith, length-append}
use Rattle.std.specs.Prelude.{ℤ, pos, negsuc}
use Rattle.std.proofs.lemmas.Bool.{eqb-true, or_cases, and_parts}
use Rattle.std.proofs.lemmas.List.{drop-drop, drop_at}
use Rattle.x86_core.specs.declared.instr.Instr.{Instr}
use Rattle.x86_core.specs.declared.instr.Cond.{Cond}
use Rattle.x86_core.specs.declared.instr.Instr.TheVariants.{Jcc, Jmp}
use Rattle.x86_core.specs.Encoding.{encoding}
use Rattle.obj_core.specs.declared.object.Link.{Link}
use Rattle.obj_core.specs.Object.{Each}
use Rattle.obj_core.specs.Disassembly.{Found, found_from, size_of, spelled, starts_at}
use Rattle.obj_core.specs.WellFormed.{displacement, is_zero, fills_zero, is_linked, goes_well, bad_branches}
use Rattle.obj_core.proofs.Kept.{other_empty}

-- an instruction of a row that begins at an offset stands at another one
abbrev pub IsIn : ℕ → List Instr → ℕ → Instr → Type 0
IsIn at [] off i = ⊥
IsIn at (j ∷ js) off i = ((off ≡ at) × (i ≡ j)) ⊎ IsIn (at + size_of j) js off i

-- it lies in the bytes of the row
pub record Lies (at : ℕ) (is : List Instr) (off : ℕ) (i : Instr) : Type 0 where
  pub from : at ≤ off
  pub to : off + size_of i ≤ at + length (spelled is)

-- each instruction of a row does
pub lies : (at : ℕ) (is : List Instr) (off : ℕ) (i : Instr) → IsIn at is off i → Lies at is off i
lies at [] off i h = absurd h
lies at (j ∷ js) off i (inl h) =
    let size : size_of i ≡ size_of j = ap size_of h.1 in
    let long = length-append (encoding j) (spelled js) in
    record { from = omega (arith, h.0); to = omega (arith, h.0, size, long) }
lies at (j ∷ js) off i (inr h) =
    let x = lies (at + size_of j) js off i h in
    let from : at + size_of j ≤ off = x.from in
    let to : off + size_of i ≤ at + size_of j + length (spelled js) = x.to in
    let long = length-append (encoding j) (spelled js) in
    record { from = omega (arith, from); to = omega (arith, to, long) }

-- from behind the first of two lists
pub drop_behind : (xs ys : List ℕ) (n k : ℕ) → length xs ≡ n → n ≤ k → drop k (xs ++ ys) ≡ drop (k - n) ys
drop_behind xs ys n k e le =
    let whole : k ≡ n + (k - n) = omega arith in
    ap (λ m. drop m (xs ++ ys)) whole ∙ sym (drop-drop (k - n) n (xs ++ ys)) ∙ ap (drop (k - n)) (drop_at xs ys n e)

-- bytes that begin with an instruction
pub record Front (bytes : List ℕ) (i : Instr) : Type 0 where
  pub more : List ℕ
  pub begins : bytes ≡ encoding i ++ more

-- the row's bytes have it at its offset
pub front : (at : ℕ) (is : List Instr) (off : ℕ) (i : Instr) → IsIn at is off i → Front (drop (off - at) (spelled is)) i
front at [] off i h = absurd h
front at (j ∷ js) off i (inl h) =
    let none : off - at ≡ 0 = omega (arith, h.0) in
    record { more = spelled js; begins = ap (λ k. drop k (encoding j ++ spelled js)) none ∙ ap (λ q. encoding q ++ spelled js) (sym h.1) }
front at (j ∷ js) off i (inr h) =
    let x = front (at + size_of j) js off i h in
    let from : at + size_of j ≤ off = (lies (at + size_of j) js off i h).from in
    let less : off - at - size_of j ≡ off - (at + size_of j) = omega arith in
    record { more = x.more; begins = drop_behind (encoding j) (spelled js) (size_of j) (off - at) refl (omega (arith, from)) ∙ ap (λ k. drop k (spelled js)) less ∙ x.begins }

-- two instructions of a row are one, or lie apart
abbrev pub OneOrApart : ℕ → Instr → ℕ → Instr → Type 0
OneOrApart off i off2 j = ((off ≡ off2) × (i ≡ j)) ⊎ ((off + size_of i ≤ off2) ⊎ (off2 + size_of j ≤ off))

-- any two are so
pub apart : (at : ℕ) (is : List Instr) (off : ℕ) (i : Instr) (off2 : ℕ) (j : Instr) → IsIn at is off i → IsIn at is off2 j → OneOrApart off i off2 j
apart at [] off i off2 j h k = absurd h
apart at (x ∷ xs) off i off2 j (inl h) (inl k) = inl (h.0 ∙ sym k.0, h.1 ∙ sym k.1)
apart at (x ∷ xs) off i off2 j (inl h) (inr k) =
    let size : size_of i ≡ size_of x = ap size_of h.1 in
    let from : at + size_of x ≤ off2 = (lies (at + size_of x) xs off2 j k).from in
    inr (inl (omega (arith, h.0, size, from)))
apart at (x ∷ xs) off i off2 j (inr h) (inl k) =
    let size : size_of j ≡ size_of x = ap size_of k.1 in
    let from : at + size_of x ≤ off = (lies (at + size_of x) xs off i h).from in
    inr (inr (omega (arith, k.0, size, from)))
apart at (x ∷ xs) off i off2 j (inr h) (inr k) = apart (at + size_of x) xs off i off2 j h k

-- where a start is, an instruction is
pub which_starts : (at : ℕ) (is : List Instr) (off : ℕ) → starts_at (found_from at is) off ≡ true → (i : Instr) × IsIn at is off i
which_starts at [] off h = absurd (cc)
which_starts at (j ∷ js) off h = elim (or_cases _ _ h) [
  | inl e ↦ (j, inl (sym (eqb-true at off e), refl))
  | inr k ↦ let x = which_starts (at + size_of j) js off k in (x.0, inr x.1)
]

-- what holds of each holds of one
pub each_in : (P : Instr → Type 0) (at : ℕ) (is : List Instr) (off : ℕ) (i : Instr) → Each P is → IsIn at is off i → P i
each_in P at [] off i e h = absurd h
each_in P at (j ∷ js) off i e (inl h) = subst P (sym h.1) e.0
each_in P at (j ∷ js) off i e (inr h) = each_in P (at + size_of j) js off i e.1 h

-- a branch has a link, or goes to a start
abbrev pub BranchesWell : List Link → List Found → ℕ → Instr → Type 0
BranchesWell links all off i = (is_linked links (off + size_of i) || goes_well all (off + size_of i) (displacement i)) ≡ true

-- each instruction of a row does
pub branches_well : (links : List Link) (all : List Found) (at : ℕ) (is : List Instr) (off : ℕ) (i : Instr) → bad_branches links all (found_from at is) ≡ [] → IsIn at is off i → BranchesWell links all off i
branches_well links all at [] off i e h = absurd h
branches_well links all at (j ∷ js) off i e (inl h) =
    let x = other_empty (is_linked links (at + size_of j) || goes_well all (at + size_of j) (displacement j)) at _ _ e in
    subst (BranchesWell links all off) (sym h.1) (subst (λ n. BranchesWell links all n j) (sym h.0) x.0)
branches_well links all at (j ∷ js) off i e (inr h) =
    let x = other_empty (is_linked links (at + size_of j) || goes_well all (at + size_of j) (displacement j)) at _ _ e in
    branches_well links all (at + size_of j) js off i x.1 h

-- a branch with displacement 0 that ends four bytes behind an offset
pub record FillsZero (at : ℕ) (is : List Instr) (a : ℕ) : Type 0 where
  pub off : ℕ
  pub instr : Instr
  pub is_in : IsIn at is off instr
  pub ends : off + size_of instr ≡ a + 4
  pub zero_by : is_zero (displacement instr) ≡ true

-- the branch that the test finds
pub which_fills : (at : ℕ) (is : List Instr) (a : ℕ) → fills_zero (found_from at is) a ≡ true → FillsZero at is a
which_fills at [] a h = absurd (cc)
which_fills at (j ∷ js) a h = elim (or_cases _ _ h) [
  | inl e ↦ let x = and_parts _ _ e in record { off = at; instr = j; is_in = inl (refl, refl); ends = eqb-true (at + size_of j) (a + 4) x.0; zero_by = x.1 }
  | inr k ↦ let x = which_fills (at + size_of j) js a k in record { off = x.off; instr = x.instr; is_in = inr x.is_in; ends = x.ends; zero_by = x.zero_by }
]

-- which instructions have the displacement 0
abbrev pub IsZeroBranch : Instr → Type 0
IsZeroBranch i = (i ≡ Jmp (pos 0)) ⊎ ((c : Cond) × (i ≡ Jcc c (pos 0)))

-- a displacement of 0
pub zero_is : (by : ℤ) → is_zero (Some by) ≡ true → by ≡ pos 0
zero_is (pos n) e = ap pos (eqb-true n 0 e)
zero_is (negsuc n) e = absurd (cc)

-- only these two
pub zero_branch : (i : Instr) → is_zero (displacement i) ≡ true → IsZeroBranch i
zero_branch (Jmp by) e = inl (ap Jmp (zero_is by e))
zero_branch (Jcc c by) e = inr (c, ap (Jcc c) (zero_is by e))
zero_branch i e = absurd (cc)
