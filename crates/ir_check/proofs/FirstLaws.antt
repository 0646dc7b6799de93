-- The first refusal of one reason or else of those behind it.
use Rattle.std.proofs.Common.{◌≡◌, List, [], ◌∷◌, ◌++◌, map, Option, Some, None, Result, Ok, Err, refl, ap, sym, ◌∙◌, subst}
use Rattle.std.specs.Prelude.{slice_get, option_map, MatchResult}
use Rattle.std.specs.Result.{IsErrAnd}
use Rattle.std.specs.Option.{option_or}
use Rattle.ir_core.specs.Refusals.{Fault}
use Rattle.ir_check.specs.declared.CheckFault.{CheckFault}
use Rattle.ir_check.specs.Answers.{refusal_of, first_of, IsFirst, Decides}

-- the first of two lists
first_append : (xs ys : List Fault) → first_of (xs ++ ys) ≡ option_or (first_of xs) (first_of ys)
first_append [] ys = refl
first_append (x ∷ xs) ys = refl

-- of two lists without one
pub none_behind : (xs ys : List Fault) → first_of xs ≡ None → first_of ys ≡ None → first_of (xs ++ ys) ≡ None
none_behind xs ys e f = first_append xs ys ∙ ap (λ o. option_or o (first_of ys)) e ∙ f

-- the first of a list is that of it and what stands behind it
pub first_before : (xs ys : List Fault) (o : Option Fault) → IsFirst (first_of xs) o → IsFirst (first_of (xs ++ ys)) o
first_before xs ys (Some fault) e = first_append xs ys ∙ ap (λ p. option_or p (first_of ys)) e
first_before xs ys None e = tt

-- and of what stands in front, without one there
pub first_behind : (xs ys : List Fault) (o : Option Fault) → first_of xs ≡ None → IsFirst (first_of ys) o → IsFirst (first_of (xs ++ ys)) o
first_behind xs ys (Some fault) e f = first_append xs ys ∙ ap (λ p. option_or p (first_of ys)) e ∙ f
first_behind xs ys None e f = tt

-- what decides the last list decides all
pub decides_behind : (xs ys : List Fault) (r : Result Unit CheckFault) → first_of xs ≡ None → Decides (first_of ys) r → Decides (first_of (xs ++ ys)) r
decides_behind xs ys (Ok done) e d = none_behind xs ys e d
decides_behind xs ys (Err fault) e d = first_behind xs ys (refusal_of fault) e d

-- what a `?` hands on
pub decides_exit : (first : Option Fault) (r : Result Unit CheckFault) (fault : CheckFault) → IsErrAnd r (λ e. e ≡ fault) → IsFirst first (refusal_of fault) → Decides first r
decides_exit first (Ok done) fault is f = absurd is
decides_exit first (Err e) fault is f = subst (λ d. IsFirst first (refusal_of d)) (sym is) f

-- without a first of mapped items there is no item
pub mapped_none : {X : Type 0} (f : X → Fault) (xs : List X) → first_of (map f xs) ≡ None → xs ≡ []
mapped_none f [] e = refl
mapped_none f (x ∷ xs) e = absurd (cc)

-- the first of mapped items
pub first_mapped : {X : Type 0} (f : X → Fault) (xs : List X) → first_of (map f xs) ≡ option_map f (slice_get xs 0)
first_mapped f [] = refl
first_mapped f (x ∷ xs) = refl
