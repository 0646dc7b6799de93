-- A line and its parts: a mark that no part has parts them in one way only.
use Rattle.std.proofs.Common.{◌≡◌, ◌==◌, ℕ, suc, ◌+◌, ◌<◌, true, false, cond, nat_lt, eqb, List, [], ◌∷◌, ◌++◌, length, get_or, take, drop, Option, Some, None, refl, ap, subst, ◌∙◌, arith, length-append}
use Rattle.std.specs.List.{position, position_or_len}
use Rattle.std.proofs.Math.Seq.{take-append_seam, drop-append-add, split_at as cut_at}
use Rattle.std.proofs.lemmas.Bool.Decides.{nat_tests}
use Rattle.std.proofs.lemmas.List.Quantifiers.{position-Some}
use Rattle.watch_script.specs.Reading.{at_place, split_at}

-- no item is the mark
abbrev pub Lacks : ℕ → List ℕ → Type 0
Lacks mark [] = Unit {0}
Lacks mark (x ∷ xs) = (x ≡ mark → ⊥) × Lacks mark xs

pub lacks_both : (mark : ℕ) (a b : List ℕ) → Lacks mark a → Lacks mark b → Lacks mark (a ++ b)
lacks_both mark [] b h k = k
lacks_both mark (x ∷ a) b h k = (h.0, lacks_both mark a b h.1 k)

-- the first mark stands behind a part that has none
place_found : (mark : ℕ) (a b : List ℕ) → Lacks mark a → position_or_len (λ x. x == mark) (a ++ mark ∷ b) ≡ length a
place_found mark [] b h = rw (eqb_same mark) refl
  where
    eqb_same : (n : ℕ) → eqb n n ≡ true
    eqb_same n = grind (arith, nat_tests)
place_found mark (x ∷ a) b h =
    let no : eqb x mark ≡ false = differs x mark h.0 in
    rw no (let e : 1 + position_or_len (λ x. x == mark) (a ++ mark ∷ b) ≡ suc (length a) = omega (arith, place_found mark a b h.1) in e)
  where
    differs : (x y : ℕ) → (x ≡ y → ⊥) → eqb x y ≡ false
    differs x y h = grind (arith, nat_tests)

pub split_found : (mark : ℕ) (a b : List ℕ) → Lacks mark a → split_at mark (a ++ mark ∷ b) ≡ Some (a, b)
unfolding split_at
split_found mark a b h =
    let xs : List ℕ = a ++ mark ∷ b in
    let e : position_or_len (λ x. x == mark) xs ≡ length a = place_found mark a b h in
    let within : length a < length xs = omega (arith, length-append a (mark ∷ b)) in
    let there : position (λ x. x == mark) xs ≡ Some (length a) = at (position_or_len (λ x. x == mark) xs) (length a) (length xs) e within in
    ap (at_place xs) there ∙ parted a b
  where
    at : (i n m : ℕ) → i ≡ n → n < m → cond (nat_lt i m) (Some i) None ≡ Some n
    at i n m e h = grind (arith, nat_tests)

    parted : (a b : List ℕ) → let ps : Option (List ℕ × List ℕ) = Some (take (length a) (a ++ mark ∷ b), drop (length a + 1) (a ++ mark ∷ b)) in ps ≡ Some (a, b)
    parted a b = rw (take-append_seam a (mark ∷ b), drop-append-add a (mark ∷ b) 1) refl

-- the other way round
pub split_is : (mark : ℕ) (xs a b : List ℕ) → split_at mark xs ≡ Some (a, b) → xs ≡ a ++ mark ∷ b
unfolding split_at
split_is mark xs a b e = by (position (λ x. x == mark) xs) refl e
  where
    by : (o : Option ℕ) → position (λ x. x == mark) xs ≡ o → at_place xs o ≡ Some (a, b) → xs ≡ a ++ mark ∷ b
    by None f h = absurd (cc)
    by (Some i) f h =
        let at = position-Some (λ x. x == mark) xs i 0 f in
        let p : List ℕ × List ℕ = (take i xs, drop (i + 1) xs) in
        let q : List ℕ × List ℕ = (a, b) in
        let pair : p ≡ q = some_is p q h in
        let is : get_or xs i 0 ≡ mark = eq_is (get_or xs i 0) mark at.1 in
        let next : suc i ≡ i + 1 = omega arith in
        let whole : xs ≡ take i xs ++ (get_or xs i 0 ∷ drop (i + 1) xs) = subst (λ k. xs ≡ take i xs ++ (get_or xs i 0 ∷ drop k xs)) next (cut_at xs i 0 at.0) in
        whole ∙ (ap (λ (ps : List ℕ × List ℕ). ps.0 ++ (get_or xs i 0 ∷ ps.1)) pair ∙ ap (λ n. a ++ n ∷ b) is)
      where
        some_is : (p q : List ℕ × List ℕ) → Some p ≡ Some q → p ≡ q
        some_is p q e = cc

        eq_is : (x y : ℕ) → eqb x y ≡ true → x ≡ y
        eq_is x y h = grind (arith, nat_tests)
