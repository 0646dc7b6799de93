-- What is found among the first entries of a phi is what is found among all.
use Rattle.std.proofs.Common.{◌≡◌, ℕ, zero, suc, Bool, true, false, List, [], ◌∷◌, ◌++◌, map, fold, Option, Some, None, refl, ap, sym, ◌∙◌, if◌then◌else◌, Bor}
use Rattle.std.specs.Prelude.{◌||◌, option_map, option_and_then, slice_get, is_some}
use Rattle.std.specs.Option.{option_or}
use Rattle.std.proofs.lemmas.List.Folds.{find-append}
use Rattle.ir_core.specs.declared.instruction.Entry.{Entry}
use Rattle.ir_core.specs.Names.{same_name, number_where, first_where}
use Rattle.ir_core.specs.Definitions.{is_among}
use Rattle.ir_core.proofs.NameSets.{same_name-sym}
use Rattle.ir_core.proofs.LookupLaws.{item_found}
use Rattle.ir_sound.proofs.SameLaws.{name_is}
use Rattle.phi_lower.specs.Entries.{entry_names, with_first, firsts_in}

-- an entry for a block that is among the names
found_among : (firsts : List Entry) (q : List ℕ) → is_among (entry_names firsts) q ≡ true → is_some (first_where (λ (g : Entry). same_name g.from q) firsts) ≡ true
found_among [] q e = absurd (cc)
found_among (g ∷ gs) q e = of_bool (same_name g.from q) (ap (λ b. b || is_among (entry_names gs) q) (same_name-sym g.from q) ∙ e) (found_among gs q)
  where
    of_bool : (b : Bool) → (b || is_among (entry_names gs) q) ≡ true → (is_among (entry_names gs) q ≡ true → is_some (first_where (λ (h : Entry). same_name h.from q) gs) ≡ true) → is_some (if b then Some g else first_where (λ (h : Entry). same_name h.from q) gs) ≡ true
    of_bool true e go = refl
    of_bool false e go = go e

-- one that is there comes first
or_some : {X : Type 0} (o p : Option X) → is_some o ≡ true → o ≡ option_or o p
or_some (Some x) p e = refl
or_some None p e = absurd (cc)

-- none comes after
or_none : {X : Type 0} (o : Option X) → o ≡ option_or o None
or_none (Some x) = refl
or_none None = refl

-- one entry for a block or none
one_first : (q : List ℕ) (firsts : List Entry) (e : Entry) → first_where (λ (g : Entry). same_name g.from q) (with_first firsts e) ≡ option_or (first_where (λ (g : Entry). same_name g.from q) firsts) (first_where (λ (g : Entry). same_name g.from q) (e ∷ []))
one_first q firsts e = of_bool (is_among (entry_names firsts) e.from) refl
  where
    kept : (b : Bool) → same_name e.from q ≡ b → is_among (entry_names firsts) e.from ≡ true → first_where (λ (g : Entry). same_name g.from q) firsts ≡ option_or (first_where (λ (g : Entry). same_name g.from q) firsts) (if b then Some e else None)
    kept true same among = or_some (first_where (λ (g : Entry). same_name g.from q) firsts) (Some e) (found_among firsts q (ap (is_among (entry_names firsts)) (sym (name_is e.from q same)) ∙ among))
    kept false same among = or_none (first_where (λ (g : Entry). same_name g.from q) firsts)

    of_bool : (b : Bool) → is_among (entry_names firsts) e.from ≡ b → first_where (λ (g : Entry). same_name g.from q) (if b then firsts else firsts ++ e ∷ []) ≡ option_or (first_where (λ (g : Entry). same_name g.from q) firsts) (first_where (λ (g : Entry). same_name g.from q) (e ∷ []))
    of_bool true among = kept (same_name e.from q) refl among
    of_bool false among = find-append (λ (g : Entry). same_name g.from q) firsts (e ∷ [])

-- one of three
or_assoc : {X : Type 0} (a b c : Option X) → option_or (option_or a b) c ≡ option_or a (option_or b c)
or_assoc None b c = refl
or_assoc (Some x) b c = refl

-- the first entry for a block behind first entries
firsts_where : (q : List ℕ) (es firsts : List Entry) → first_where (λ (g : Entry). same_name g.from q) (fold with_first firsts es) ≡ option_or (first_where (λ (g : Entry). same_name g.from q) firsts) (first_where (λ (g : Entry). same_name g.from q) es)
firsts_where q [] firsts = or_none (first_where (λ (g : Entry). same_name g.from q) firsts)
firsts_where q (e ∷ es) firsts =
    firsts_where q es (with_first firsts e) ∙ ap (λ o. option_or o (first_where (λ (g : Entry). same_name g.from q) es)) (one_first q firsts e)
    ∙ or_assoc (first_where (λ (g : Entry). same_name g.from q) firsts) (first_where (λ (g : Entry). same_name g.from q) (e ∷ [])) (first_where (λ (g : Entry). same_name g.from q) es)
    ∙ ap (option_or (first_where (λ (g : Entry). same_name g.from q) firsts)) (sym (find-append (λ (g : Entry). same_name g.from q) (e ∷ []) es))

-- among first entries the first is that among all
pub first_is : (es : List Entry) (q : List ℕ) → first_where (λ (g : Entry). same_name g.from q) (firsts_in es) ≡ first_where (λ (g : Entry). same_name g.from q) es
first_is es q = firsts_where q es []

-- an item of references
get_now : (rs : List (Bor Entry)) (k : ℕ) → option_map (λ (r : Bor Entry). r.now) (slice_get rs k) ≡ slice_get (map (λ (r : Bor Entry). r.now) rs) k
get_now [] k = refl
get_now (r ∷ rs) zero = refl
get_now (r ∷ rs) (suc k) = get_now rs k

-- the first entry for a block by its number among the names
pub entry_found : (rs : List (Bor Entry)) (names : List (List ℕ)) (name : List ℕ) (o : Option ℕ) → names ≡ entry_names (map (λ (r : Bor Entry). r.now) rs) → o ≡ number_where (λ n. same_name n name) names → option_map (λ (r : Bor Entry). r.now) (option_and_then (slice_get rs) o) ≡ first_where (λ (g : Entry). same_name g.from name) (map (λ (r : Bor Entry). r.now) rs)
entry_found rs names name o are found = of_option o ∙ item_found (λ (g : Entry). g.from) (map (λ (r : Bor Entry). r.now) rs) names name o are found
  where
    of_option : (o : Option ℕ) → option_map (λ (r : Bor Entry). r.now) (option_and_then (slice_get rs) o) ≡ option_and_then (slice_get (map (λ (r : Bor Entry). r.now) rs)) o
    of_option None = refl
    of_option (Some k) = get_now rs k
