-- Names that are added to a set, one row behind another.
use Rattle.std.proofs.Common.{◌≡◌, Bor, ℕ, ◌+◌, ◌<◌, ◌≤◌, Bool, true, false, List, [], ◌∷◌, ◌++◌, length, get_or, take, drop, Option, Some, None, refl, ap, sym, ◌∙◌, subst, if◌then◌else◌}
use Rattle.std.specs.List.{flat_map}
use Rattle.std.specs.Option.{option_or, option_copied}
use Rattle.std.proofs.lemmas.List.{append_assoc, append-nil, take-append-drop}
use Rattle.std.proofs.lemmas.Grind.{flat_map-append}
use Rattle.ir_core.proofs.LoopLaws.{drop_item, flat_take, flat_drop}
use Rattle.ir_types.proofs.FirstLaws.{first-append}
use Rattle.ir_core.specs.declared.module.Function.{Function}
use Rattle.ir_core.specs.Definitions.{is_among, repeated, repeated_in}
use Rattle.ir_names.specs.Firsts.{first_name, Adds, repeated_by}

-- a name that is found is not none
some_none : {A : Type 0} (s : List ℕ) → Some s ≡ None → A
some_none s e = absurd (cc)

-- what a row repeats comes first in a longer row
repeated_stop : (before xs ys : List (List ℕ)) (s : List ℕ) → Some s ≡ first_name (repeated before xs) → Some s ≡ first_name (repeated before (xs ++ ys))
repeated_stop before [] ys s e = some_none s e
repeated_stop before (x ∷ xs) ys s e = of_bool (is_among before x) e (repeated_stop (before ++ x ∷ []) xs ys s)
  where
    of_bool : (b : Bool) → Some s ≡ first_name (if b then x ∷ repeated before xs else repeated (before ++ x ∷ []) xs)
        → (Some s ≡ first_name (repeated (before ++ x ∷ []) xs) → Some s ≡ first_name (repeated (before ++ x ∷ []) (xs ++ ys)))
        → Some s ≡ first_name (if b then x ∷ repeated before (xs ++ ys) else repeated (before ++ x ∷ []) (xs ++ ys))
    of_bool true e go = e
    of_bool false e go = go e

-- where a row repeats nothing, what is behind it counts
repeated_go : (before xs ys : List (List ℕ)) → None ≡ first_name (repeated before xs) → first_name (repeated (before ++ xs) ys) ≡ first_name (repeated before (xs ++ ys))
repeated_go before [] ys e = ap (λ b. first_name (repeated b ys)) (append-nil before)
repeated_go before (x ∷ xs) ys e = of_bool (is_among before x) e (λ n. ap (λ b. first_name (repeated b ys)) (sym (append_assoc before (x ∷ []) xs)) ∙ repeated_go (before ++ x ∷ []) xs ys n)
  where
    of_bool : (b : Bool) → None ≡ first_name (if b then x ∷ repeated before xs else repeated (before ++ x ∷ []) xs)
        → (None ≡ first_name (repeated (before ++ x ∷ []) xs) → first_name (repeated (before ++ x ∷ xs) ys) ≡ first_name (repeated (before ++ x ∷ []) (xs ++ ys)))
        → first_name (repeated (before ++ x ∷ xs) ys) ≡ first_name (if b then x ∷ repeated before (xs ++ ys) else repeated (before ++ x ∷ []) (xs ++ ys))
    of_bool true e go = some_none x (sym e)
    of_bool false e go = go e

-- no name is added
pub adds_none : (names : List (List ℕ)) → Adds names names [] None
adds_none names = record { first = refl; added = λ e. sym (append-nil names) }

-- one that is found stops the rest
pub adds_stop : (a b c xs ys : List (List ℕ)) (s : List ℕ) → Adds a b xs (Some s) → Adds a c (xs ++ ys) (Some s)
adds_stop a b c xs ys s l = record { first = repeated_stop a xs ys s l.first; added = λ e. some_none s e }

-- behind a row of which all are new
pub adds_more : (a b c xs ys : List (List ℕ)) (r : Option (List ℕ)) → Adds a b xs None → Adds b c ys r → Adds a c (xs ++ ys) r
adds_more a b c xs ys r l m = record {
  first = m.first ∙ ap (λ s. first_name (repeated s ys)) (l.added refl) ∙ repeated_go a xs ys l.first;
  added = λ e. m.added e ∙ ap (λ s. s ++ ys) (l.added refl) ∙ append_assoc a xs ys;
}

-- names of a row that were added until one was there
pub adds_of : (a b xs ys : List (List ℕ)) (r : Option (Bor (List ℕ))) → xs ≡ ys → option_copied r ≡ first_name (repeated a xs) → (r ≡ None → b ≡ a ++ xs) → Adds a b ys (option_copied r)
adds_of a b xs ys None same first added = record { first = first ∙ ap (λ ns. first_name (repeated a ns)) same; added = λ e. added refl ∙ ap (λ ns. a ++ ns) same }
adds_of a b xs ys (Some n) same first added = record { first = first ∙ ap (λ ns. first_name (repeated a ns)) same; added = λ e. some_none n.now e }

module _ {X : Type 0} (f : X → List (List ℕ)) (xs : List X) (k : ℕ) (x : X) (inside : k < length xs) (item : x ≡ get_or xs k x) (a b c : List (List ℕ)) (so_far : Adds a b (flat_map f (take k xs)) None) where
  -- a name of the item stops the loop
  pub loop_found : (s : List ℕ) → Adds b c (f x) (Some s) → Adds a c (flat_map f xs) (Some s)
  loop_found s l =
      let whole : (flat_map f (take k xs) ++ f x) ++ flat_map f (drop (k + 1) xs) ≡ flat_map f xs = append_assoc (flat_map f (take k xs)) (f x) (flat_map f (drop (k + 1) xs)) ∙ ap (λ ys. flat_map f (take k xs) ++ ys) (sym (flat_drop xs k x inside item f)) ∙ sym (flat_map-append f (take k xs) (drop k xs)) ∙ ap (flat_map f) (take-append-drop k xs) in
      subst (λ ns. Adds a c ns (Some s)) whole (adds_stop a c c (flat_map f (take k xs) ++ f x) (flat_map f (drop (k + 1) xs)) s (adds_more a b c (flat_map f (take k xs)) (f x) (Some s) so_far l))

  -- without one it goes on
  pub loop_passed : Adds b c (f x) None → Adds a c (flat_map f (take (k + 1) xs)) None
  loop_passed l = subst (λ ns. Adds a c ns None) (sym (flat_take xs k x inside item f)) (adds_more a b c (flat_map f (take k xs)) (f x) None so_far l)

module _ (b : List (List ℕ)) (fs : List Function) (k : ℕ) (f : Function) (inside : k < length fs) (item : f ≡ get_or fs k f) (whole : Option (List ℕ)) (so_far : first_name (repeated_in b (drop k fs)) ≡ whole) where
  -- what the function repeats, or else the rest
  here : option_or (first_name (repeated_by b f)) (first_name (repeated_in (b ++ f.name ∷ []) (drop (k + 1) fs))) ≡ whole
  here =
      sym (first-append (repeated_by b f) (repeated_in (b ++ f.name ∷ []) (drop (k + 1) fs)))
      ∙ sym (ap (λ gs. first_name (repeated_in b gs)) (drop_item fs k f inside item)) ∙ so_far

  -- a name of the function is the first
  pub function_found : (s : List ℕ) → Some s ≡ first_name (repeated_by b f) → Some s ≡ whole
  function_found s e = ap (λ o. option_or o (first_name (repeated_in (b ++ f.name ∷ []) (drop (k + 1) fs)))) e ∙ here

  -- without one it is that of the rest
  pub function_passed : (c : List (List ℕ)) → None ≡ first_name (repeated_by b f) → c ≡ b ++ f.name ∷ [] → first_name (repeated_in c (drop (k + 1) fs)) ≡ whole
  function_passed c none is =
      ap (λ ns. first_name (repeated_in ns (drop (k + 1) fs))) is
      ∙ ap (λ o. option_or o (first_name (repeated_in (b ++ f.name ∷ []) (drop (k + 1) fs)))) none ∙ here
