-- Where each number stands in an order, from the last place to the first.
use Rattle.std.proofs.Common.{◌≡◌, ℕ, ◌+◌, ◌<◌, inl, inr, true, false, List, [], ◌∷◌, length, replicate, drop, sym, ◌∙◌, ap, add-one, arith}
use Rattle.std.specs.Prelude.{nat_eq, slice_index, slice_set}
use Rattle.std.proofs.Math.Seq.{drop-cons, drop-length}
use Rattle.std.proofs.lemmas.Bool.{cases_eq}
use Rattle.std.proofs.lemmas.Bool.Decides.{nat_tests}
use Rattle.std.proofs.lemmas.List.{get_or-replicate, get_or-set_other}
use Rattle.std.proofs.lemmas.Grind.{get_or-set_at}
use Rattle.std.proofs.lemmas.List.FromFn.{fill_by_all}
use Rattle.obj_core.specs.Placement.{index_in, inverse}

-- the places of all numbers are known that stand from place i on
abbrev pub Found : List ℕ → ℕ → List ℕ → Type 0
Found order i all = (p : ℕ) → p < length order → slice_index all p ≡ i + index_in (drop i order) p

pub found_none : (order : List ℕ) (n : ℕ) → n ≡ length order → Found order n (replicate n n)
found_none order n e p h =
    let none : drop n order ≡ [] = ap (λ k. drop k order) e ∙ drop-length order in
    rw none (get_or-replicate n p n 0 (omega arith) ∙ omega arith)

pub found_more : (order all : List ℕ) (i p : ℕ) → i < length order → length all ≡ length order → p < length order
    → slice_index all p ≡ i + 1 + index_in (drop (i + 1) order) p
    → slice_index (slice_set all (slice_index order i) i) p ≡ i + index_in (drop i order) p
found_more order all i p h long within before =
    let x = slice_index order i in
    let here : drop i order ≡ x ∷ drop (i + 1) order = rw add-one (drop-cons order i 0 h) in
    elim (cases_eq x p) [
      | inl same ↦ let test : nat_eq x p ≡ true = grind (arith, nat_tests) in rw (here, test) (get_or-set_at all x p i 0 (sym same) (omega arith) ∙ omega arith)
      | inr other ↦ let test : nat_eq x p ≡ false = grind (arith, nat_tests) in rw (here, test) (get_or-set_other all x p i 0 (λ e. other (sym e)) ∙ before ∙ omega arith)
    ]

pub found_all : (order all : List ℕ) → length all ≡ length order → Found order 0 all → all ≡ inverse order
found_all order all long found =
    fill_by_all (index_in order) all (length order) 0 long (λ k h. found k h ∙ omega arith)
