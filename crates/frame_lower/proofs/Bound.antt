-- Parameters that have come home: of registers that hold them alone, each word is in its home.
use Rattle.std.proofs.Common.{◌≡◌, ◌≢◌, ℕ, zero, suc, ◌^◌, ◌<◌, List, [], ◌∷◌, drop, length, Option, None, Ok, Err, inl, inr, refl, sym, ◌∙◌, subst, replicate}
use Rattle.ir_core.specs.declared.memory.Reason.TheVariants.{Unset}
use Rattle.ir_core.specs.Stops.{Answer, Left}
use Rattle.std.proofs.lemmas.List.Elements.{All-head, All-tail}
use Rattle.x86_core.specs.declared.reg.Reg.{Reg}
use Rattle.x86_core.specs.declared.image.Segment.{Segment}
use Rattle.low_core.specs.SelParts.{IsOneOf}
use Rattle.low_core.specs.SelShaped.{IsNoneOf, AreApart}
use Rattle.low_core.specs.SelState.{word_in, bound}
use Rattle.frame_rows.specs.declared.spot.Spot.{Spot}
use Rattle.frame_rows.specs.Ties.{Differ, Keeps}
use Rattle.frame_rows.specs.Words.{Words}
use Rattle.frame_rows.proofs.Kept.{from_assigned}
use Rattle.frame_lower.proofs.Arguments.{AreSmall}

-- in a list that has no register with a word
pub none_set : (count x n : ℕ) → word_in (replicate count None) x ≡ Ok n → ⊥
none_set zero x n e = let none : Answer ℕ = Err (Left Unset) in let z : none ≡ Ok n = e in absurd (cc)
none_set (suc count) zero n e = let none : Answer ℕ = Err (Left Unset) in let z : none ≡ Ok n = e in absurd (cc)
none_set (suc count) (suc x) n e = none_set count x n e

-- as many from the front as there are processor registers
abbrev pub firsts : List Reg → List ℕ → List ℕ
firsts [] xs = []
firsts (t ∷ ts) [] = []
firsts (t ∷ ts) (x ∷ xs) = x ∷ firsts ts xs

pub first_one : (ts : List Reg) (xs : List ℕ) (x : ℕ) → IsOneOf x (firsts ts xs) → IsOneOf x xs
first_one [] xs x i = absurd i
first_one (t ∷ ts) [] x i = absurd i
first_one (t ∷ ts) (y ∷ xs) x (inl e) = inl e
first_one (t ∷ ts) (y ∷ xs) x (inr i) = inr (first_one ts xs x i)

pub later_one : (k : ℕ) (xs : List ℕ) (x : ℕ) → IsOneOf x (drop k xs) → IsOneOf x xs
later_one zero xs x i = i
later_one (suc k) [] x i = i
later_one (suc k) (y ∷ xs) x i = inr (later_one k xs x i)

module _ (homes : ℕ → Spot) where
  -- each home differs from those behind it
  abbrev pub HomesApart : List ℕ → Type 0
  HomesApart [] = Unit {0}
  HomesApart (x ∷ xs) = ((y : ℕ) → IsOneOf y xs → Differ (homes x) (homes y)) × HomesApart xs

  not_one : (xs : List ℕ) (x y : ℕ) → IsNoneOf x xs → IsOneOf y xs → y ≢ x
  not_one [] x y none i = absurd i
  not_one (z ∷ xs) x y none (inl e) = λ same. All-head (λ m. m ≡ x → ⊥) z xs none (sym e ∙ same)
  not_one (z ∷ xs) x y none (inr i) = not_one xs x y (All-tail (λ m. m ≡ x → ⊥) z xs none) i

  pub homes_apart : (xs : List ℕ) → AreApart xs → ((x y : ℕ) → IsOneOf x xs → IsOneOf y xs → x ≢ y → Differ (homes x) (homes y)) → HomesApart xs
  homes_apart [] apart differ = tt
  homes_apart (x ∷ xs) apart differ = (
    λ y i. let ne = not_one xs x y apart.0 i in differ x y (inl refl) (inr i) (λ e. ne (sym e)),
    homes_apart xs apart.1 (λ a b i j. differ a b (inr i) (inr j)),
  )

  pub apart_firsts : (ts : List Reg) (xs : List ℕ) → HomesApart xs → HomesApart (firsts ts xs)
  apart_firsts [] xs apart = tt
  apart_firsts (t ∷ ts) [] apart = tt
  apart_firsts (t ∷ ts) (x ∷ xs) apart = (λ y i. apart.0 y (first_one ts xs y i), apart_firsts ts xs apart.1)

  pub apart_behind : (k : ℕ) (xs : List ℕ) → HomesApart xs → HomesApart (drop k xs)
  apart_behind zero xs apart = apart
  apart_behind (suc k) [] apart = tt
  apart_behind (suc k) (x ∷ xs) apart = apart_behind k xs apart.1

  pub apart_between : (ts : List Reg) (xs : List ℕ) (x y : ℕ) → HomesApart xs → IsOneOf x (firsts ts xs) → IsOneOf y (drop (length ts) xs) → Differ (homes x) (homes y)
  apart_between [] xs x y apart i j = absurd i
  apart_between (t ∷ ts) [] x y apart i j = absurd i
  apart_between (t ∷ ts) (z ∷ xs) x y apart (inl e) j = subst (λ a. Differ (homes a) (homes y)) (sym e) (apart.0 y (later_one (length ts) xs y j))
  apart_between (t ∷ ts) (z ∷ xs) x y apart (inr i) j = apart_between ts xs x y apart.1 i j

  -- each of the registers has its word at home, as many as there are of both
  abbrev pub AreHome : Words → List Segment → List ℕ → List ℕ → Type 0
  AreHome w ss [] ns = Unit {0}
  AreHome w ss (x ∷ xs) [] = Unit {0}
  AreHome w ss (x ∷ xs) (n ∷ ns) = Keeps w ss (homes x) n × AreHome w ss xs ns

  pub home_stays : (w v : Words) (ss ts : List Segment) (xs ns : List ℕ) → ((x n : ℕ) → IsOneOf x xs → Keeps w ss (homes x) n → Keeps v ts (homes x) n) → AreHome w ss xs ns → AreHome v ts xs ns
  home_stays w v ss ts [] ns stays home = tt
  home_stays w v ss ts (x ∷ xs) [] stays home = tt
  home_stays w v ss ts (x ∷ xs) (n ∷ ns) stays home = (stays x n (inl refl) home.0, home_stays w v ss ts xs ns (λ y m i. stays y m (inr i)) home.1)

  pub home_joined : (w : Words) (ss : List Segment) (ts : List Reg) (xs ns : List ℕ) → AreHome w ss (firsts ts xs) (firsts ts ns) → AreHome w ss (drop (length ts) xs) (drop (length ts) ns) → AreHome w ss xs ns
  home_joined w ss [] xs ns first behind = behind
  home_joined w ss (t ∷ ts) [] ns first behind = tt
  home_joined w ss (t ∷ ts) (x ∷ xs) [] first behind = tt
  home_joined w ss (t ∷ ts) (x ∷ xs) (n ∷ ns) first behind = (first.0, home_joined w ss ts xs ns first.1 behind)

  -- so a register that holds a word has it at home
  pub bound_home : (w : Words) (ss : List Segment) (xs ns : List ℕ) (registers : List (Option ℕ)) (x n : ℕ) → AreHome w ss xs ns → ((y m : ℕ) → word_in registers y ≡ Ok m → Keeps w ss (homes y) m) →
      word_in (bound xs ns registers) x ≡ Ok n → Keeps w ss (homes x) n
  bound_home w ss [] ns registers x n home old e = old x n e
  bound_home w ss (y ∷ ys) [] registers x n home old e = old x n e
  bound_home w ss (y ∷ ys) (m ∷ ms) registers x n home old e = elim (from_assigned (bound ys ms registers) y m x n e) [
    | inl p ↦ subst (λ z. Keeps w ss (homes z) n) (sym p.0) (subst (λ k. Keeps w ss (homes y) k) (sym p.1) home.0)
    | inr q ↦ bound_home w ss ys ms registers x n home.1 old q.0
  ]

-- and it is a word
pub bound_small : (xs ns : List ℕ) (registers : List (Option ℕ)) (x n : ℕ) → AreSmall ns → ((y m : ℕ) → word_in registers y ≡ Ok m → m < 2 ^ 64) → word_in (bound xs ns registers) x ≡ Ok n → n < 2 ^ 64
bound_small [] ns registers x n small old e = old x n e
bound_small (y ∷ ys) [] registers x n small old e = old x n e
bound_small (y ∷ ys) (m ∷ ms) registers x n small old e = elim (from_assigned (bound ys ms registers) y m x n e) [
  | inl p ↦ subst (λ k. k < 2 ^ 64) (sym p.1) small.0
  | inr q ↦ bound_small ys ms registers x n small.1 old q.0
]
