-- The count of a guard's instructions tells whether a row ends with the guard.
use Rattle.std.proofs.Common.{◌≡◌, ℕ, zero, suc, ◌+◌, ◌<◌, ◌≤◌, inl, inr, Bool, true, false, ◌||◌, ◌&&◌, if◌then◌else◌, List, [], ◌∷◌, refl, sym, ◌∙◌, ap, lit≤, arith}
use Rattle.std.specs.Prelude.{nat_eq, nat_lt}
use Rattle.std.proofs.lemmas.Bool.{eqb-true, eq-eqb, ne_eqb, ltb-true, lt-ltb, or_cases, or_right, and_parts}
use Rattle.x86_core.specs.declared.instr.Instr.{Instr}
use Rattle.x86_core.specs.declared.instr.Instr.TheVariants.{Ud2}
use Rattle.x86_core.specs.Encoding.{encoding}
use Rattle.guard_check.specs.Guard.{guard, is_same, turned, begins, follows_guard}
use Rattle.guard_check.specs.Checking.{nth_of}
use Rattle.guard_check.specs.Counting.{next_of, count_of}
use Rattle.guard_check.proofs.Rows.{same_numbers}

pub same_bool : (a b : Bool) → (a ≡ true → b ≡ true) → (b ≡ true → a ≡ true) → a ≡ b
same_bool true true f g = refl
same_bool true false f g = let e = f refl in cc
same_bool false true f g = let e = g refl in cc
same_bool false false f g = refl

pub and_both : (a b : Bool) → a ≡ true → b ≡ true → (a && b) ≡ true
and_both true b h k = k
and_both false b h k = absurd (cc)

-- an instruction of the guard
abbrev nth : ℕ → ℕ → Instr
nth slots k = nth_of Ud2 (guard slots) k

-- the first instructions of the guard, the last one first
abbrev back : ℕ → ℕ → List Instr
back slots zero = []
back slots (suc k) = nth slots k ∷ back slots k

abbrev first_of : List ℕ → ℕ
first_of [] = 0
first_of (n ∷ ns) = n

-- the guard's first instruction is no other one of it
other_begins : (slots k : ℕ) → first_of (encoding (nth slots (suc k))) ≡ 0x4D → ⊥
other_begins slots zero e = absurd (omega (arith, e))
other_begins slots (suc zero) e = absurd (omega (arith, e))
other_begins slots (suc (suc zero)) e = absurd (omega (arith, e))
other_begins slots (suc (suc (suc zero))) e = absurd (omega (arith, e))
other_begins slots (suc (suc (suc (suc zero)))) e = absurd (omega (arith, e))
other_begins slots (suc (suc (suc (suc (suc zero))))) e = absurd (omega (arith, e))
other_begins slots (suc (suc (suc (suc (suc (suc zero)))))) e = absurd (omega (arith, e))
other_begins slots (suc (suc (suc (suc (suc (suc (suc zero))))))) e = absurd (omega (arith, e))
other_begins slots (suc (suc (suc (suc (suc (suc (suc (suc zero)))))))) e = absurd (omega (arith, e))
other_begins slots (suc (suc (suc (suc (suc (suc (suc (suc (suc k))))))))) e = absurd (omega (arith, e))

apart : (slots k : ℕ) (i : Instr) → is_same (nth slots 0) i ≡ true → is_same (nth slots (suc k)) i ≡ true → ⊥
apart slots k i h g =
    let one : encoding (nth slots 0) ≡ encoding i = same_numbers _ _ h in
    let other : encoding (nth slots (suc k)) ≡ encoding i = same_numbers _ _ g in
    other_begins slots k (ap first_of (other ∙ sym one))

module _ (slots c k : ℕ) (i : Instr) (low : k < 10) where
  abbrev chosen : Bool → Bool → ℕ
  chosen t u = if t then c + 1 else (if u then 1 else 0)

  counts_on : (t : Bool) → (nat_lt c 10 && is_same (nth slots c) i) ≡ t → c < 10 → is_same (nth slots c) i ≡ true → t ≡ true
  counts_on t e lt s = sym e ∙ and_both _ _ (lt-ltb c 10 lt) s

  -- the first instruction stands here
  at_first : (t u : Bool) → (nat_lt c 10 && is_same (nth slots c) i) ≡ t → is_same (nth slots 0) i ≡ u → is_same (nth slots 0) i ≡ true → chosen t u ≡ 1
  at_first true u e f s = by_count c (and_parts _ _ e).1
    where
      by_count : (n : ℕ) → is_same (nth slots n) i ≡ true → n + 1 ≡ 1
      by_count zero g = refl
      by_count (suc n) g = absurd (apart slots n i s g)
  at_first false true e f s = refl
  at_first false false e f s = absurd (cc)

  goes_up : (t u : Bool) → (nat_lt c 10 && is_same (nth slots c) i) ≡ t → is_same (nth slots 0) i ≡ u → (is_same (nth slots k) i && (nat_eq k 0 || nat_eq c k)) ≡ true → nat_eq (chosen t u) (suc k) ≡ true
  goes_up t u e f h =
      let both = and_parts _ _ h in
      elim (or_cases (nat_eq k 0) (nat_eq c k) both.1) [
        | inl z ↦
            let none : k ≡ 0 = eqb-true k 0 z in
            let s : is_same (nth slots 0) i ≡ true = ap (λ n. is_same (nth slots n) i) (sym none) ∙ both.0 in
            let one : chosen t u ≡ 1 = at_first t u e f s in
            eq-eqb (chosen t u) (suc k) (omega (arith, none, one))
        | inr z ↦
            let same : c ≡ k = eqb-true c k z in
            let s : is_same (nth slots c) i ≡ true = ap (λ n. is_same (nth slots n) i) same ∙ both.0 in
            let on : t ≡ true = counts_on t e (omega (arith, same, low)) s in
            eq-eqb (chosen t u) (suc k) (ap (λ b. chosen b u) on ∙ (omega (arith, same)))
      ]

  came_from : (t u : Bool) → (nat_lt c 10 && is_same (nth slots c) i) ≡ t → is_same (nth slots 0) i ≡ u → nat_eq (chosen t u) (suc k) ≡ true → (is_same (nth slots k) i && (nat_eq k 0 || nat_eq c k)) ≡ true
  came_from true u e f h =
      let same : c + 1 ≡ suc k = eqb-true (c + 1) (suc k) h in
      let even : k ≡ c = omega (arith, same) in
      let s : is_same (nth slots k) i ≡ true = ap (λ n. is_same (nth slots n) i) even ∙ (and_parts _ _ e).1 in
      and_both _ _ s (or_right (nat_eq k 0) (nat_eq c k) (eq-eqb c k (omega (arith, same))))
  came_from false true e f h =
      let same : 1 ≡ suc k = eqb-true 1 (suc k) h in
      let none : k ≡ 0 = omega (arith, same) in
      let s : is_same (nth slots k) i ≡ true = ap (λ n. is_same (nth slots n) i) none ∙ f in
      and_both _ _ s (ap (λ b. b || nat_eq c k) (eq-eqb k 0 none))
  came_from false false e f h = absurd (let same : 0 ≡ suc k = eqb-true 0 (suc k) h in omega (arith, same))

  one_more : (is_same (nth slots k) i && (nat_eq k 0 || nat_eq c k)) ≡ nat_eq (next_of slots c i) (suc k)
  one_more = same_bool _ _ (goes_up _ _ refl refl) (came_from _ _ refl refl)

none_counted : (k : ℕ) → false ≡ (nat_eq (suc k) 0 || nat_eq 0 (suc k))
none_counted k = sym (ap (λ t. t || nat_eq 0 (suc k)) (ne_eqb (suc k) 0 (λ e. omega (arith, e))) ∙ ne_eqb 0 (suc k) (λ e. omega (arith, e)))

-- a row ends with the first k instructions of the guard where so many are counted
ends_by_count : (slots k : ℕ) (behind : List Instr) → k ≤ 10 → begins (back slots k) behind ≡ (nat_eq k 0 || nat_eq (count_of slots behind) k)
ends_by_count slots zero behind le = ap (λ t. t || nat_eq (count_of slots behind) 0) (sym (eq-eqb 0 0 refl))
ends_by_count slots (suc k) [] le = none_counted k
ends_by_count slots (suc k) (i ∷ behind) le =
    ap (λ t. is_same (nth slots k) i && t) (ends_by_count slots k behind (omega (arith, le))) ∙
    one_more slots (count_of slots behind) k i (omega (arith, le)) ∙
    sym (ap (λ t. t || nat_eq (count_of slots (i ∷ behind)) (suc k)) (ne_eqb (suc k) 0 (λ e. omega (arith, e))))

guard_back : (slots : ℕ) → turned (guard slots) [] ≡ back slots 10
guard_back slots = refl

pub follows_by_count : (slots : ℕ) (behind : List Instr) → follows_guard slots behind ≡ nat_eq (count_of slots behind) 10
follows_by_count slots behind = ap (λ r. begins r behind) (guard_back slots) ∙ ends_by_count slots 10 behind (lit≤ tt)

next_few : (t u : Bool) (c : ℕ) → (t ≡ true → c < 10) → (if t then c + 1 else (if u then 1 else 0)) ≤ 10
next_few true u c h = let lt = h refl in omega (arith, lt)
next_few false true c h = omega arith
next_few false false c h = omega arith

pub count_few : (slots : ℕ) (behind : List Instr) → count_of slots behind ≤ 10
count_few slots [] = omega arith
count_few slots (i ∷ behind) = next_few _ _ (count_of slots behind) (λ e. ltb-true _ _ (and_parts _ _ e).0)
