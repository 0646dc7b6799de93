-- Lists of faults that are empty: what each of their parts says then.
use Rattle.std.proofs.Common.{◌≡◌, ℕ, zero, suc, ◌+◌, Bool, true, false, List, [], ◌∷◌, ◌++◌, map, Some, None, refl, ap, sym, ◌∙◌, arith}
use Rattle.std.specs.Prelude.{slice_get, if◌then◌else◌}
use Rattle.std.specs.List.{flat_map, enumerate_from}
use Rattle.ir_core.specs.declared.limit.Spot.{Spot}
use Rattle.ir_core.specs.declared.module.Module.{Module}
use Rattle.ir_core.specs.Definitions.{doubled}
use Rattle.ir_core.specs.Valid.{unless, type_faults}
use Rattle.ir_core.specs.Refusals.{NoMain, Doubled, Unknown, External, BadType, unknown, limited, external, without_main, refusals, first_fault, main_of, has_main}
use Rattle.ir_sound.specs.WellTyped.{Each}
use Rattle.ir_sound.proofs.SameLaws.{none_is, some_is}

-- a row that has an item isn't empty
pub not_empty : {A X : Type 0} (x : X) (xs : List X) → x ∷ xs ≡ [] → A
not_empty x xs e = absurd (cc)

-- a row without a first item is empty
first_none : {X : Type 0} (xs : List X) → slice_get xs 0 ≡ None → xs ≡ []
first_none [] e = refl
first_none (x ∷ xs) e = none_is x (sym e)

-- of an empty row both parts are empty
pub both_empty : {X : Type 0} (xs ys : List X) → xs ++ ys ≡ [] → (xs ≡ []) × (ys ≡ [])
both_empty [] ys e = (refl, e)
both_empty (x ∷ xs) ys e = not_empty x (xs ++ ys) e

-- nothing comes of nothing
pub map_empty : {A B : Type 0} (f : A → B) (xs : List A) → map f xs ≡ [] → xs ≡ []
map_empty f [] e = refl
map_empty f (x ∷ xs) e = not_empty (f x) (map f xs) e

-- a test that is asked of a spot and has no fault passes
pub unless_passes : (b : Bool) (s : Spot) → unless b s ≡ [] → b ≡ true
unless_passes true s e = refl
unless_passes false s e = not_empty s [] e

-- no item has a fault
pub each_empty : {X S : Type 0} (faults : X → List S) (xs : List X) → flat_map faults xs ≡ [] → Each (λ x. faults x ≡ []) xs
each_empty faults [] e = tt
each_empty faults (x ∷ xs) e = let p = both_empty (faults x) (flat_map faults xs) e in (p.0, each_empty faults xs p.1)

-- nor has the item at a place, with its number
pub empty_at : {X S : Type 0} (faults : ℕ × X → List S) (xs : List X) (k i : ℕ) (x : X) → flat_map faults (enumerate_from k xs) ≡ [] → slice_get xs i ≡ Some x → faults (k + i, x) ≡ []
empty_at faults [] k i x e at = none_is x at
empty_at faults (y ∷ ys) k zero x e at =
    let n : k + 0 ≡ k = omega arith in
    ap (λ m. faults (m, x)) n ∙ ap (λ z. faults (k, z)) (sym (some_is y x at)) ∙ (both_empty (faults (k, y)) (flat_map faults (enumerate_from (k + 1) ys)) e).0
empty_at faults (y ∷ ys) k (suc i) x e at =
    let n : k + suc i ≡ k + 1 + i = omega arith in
    ap (λ m. faults (m, x)) n ∙ empty_at faults ys (k + 1) i x (both_empty (faults (k, y)) (flat_map faults (enumerate_from (k + 1) ys)) e).1 at

-- a module with nothing doubled, nothing unknown, no limit passed, a `main` and no fault of types
pub record Unrefused (m : Module) : Type 0 where
  pub doubled : doubled m ≡ []
  pub unknown : unknown m ≡ []
  pub limited : limited m ≡ []
  pub main : has_main (main_of m) ≡ true
  pub typed : type_faults m ≡ []

-- is one that nothing refuses
pub unrefused : (m : Module) → first_fault m ≡ None → Unrefused m
unrefused m none =
    let types = both_empty _ (map BadType (type_faults m)) (first_none (refusals m) none) in
    let main = both_empty _ (without_main m) types.0 in
    let outside = both_empty _ (map External (external m)) main.0 in
    let limits = both_empty _ (limited m) outside.0 in
    let names = both_empty (map Doubled (doubled m)) (map Unknown (unknown m)) limits.0 in
    record {
      doubled = map_empty Doubled (doubled m) names.0;
      unknown = map_empty Unknown (unknown m) names.1;
      limited = limits.1;
      main = there (has_main (main_of m)) main.1;
      typed = map_empty BadType (type_faults m) types.1;
    }
  where
    there : (b : Bool) → (if b then [] else NoMain ∷ []) ≡ [] → b ≡ true
    there true e = refl
    there false e = not_empty NoMain [] e
