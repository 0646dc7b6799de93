-- What is found among the first entries of a phi is what is found among all.
use Rattle.std.proofs.Common.{◌≡◌, ℕ, zero, suc, Bool, true, false, List, [], ◌∷◌, ◌++◌, map, fold, Option, Some, None, refl, ap, sym, ◌∙◌, if◌then◌else◌, Bor}
use Rattle.std.specs.Prelude.{◌||◌, option_map, option_and_then, slice_get, is_some}
use Rattle.std.specs.Option.{option_or}
use Rattle.std.specs.List.{list_all, list_any}
use Rattle.std.proofs.lemmas.List.{map-append}
use Rattle.std.proofs.lemmas.List.Folds.{find-append}
use Rattle.ir_core.specs.declared.instruction.Entry.{Entry}
use Rattle.ir_core.specs.Names.{same_name, number_where, first_where}
use Rattle.ir_core.specs.Definitions.{is_among}
use Rattle.ir_core.proofs.NameSets.{same_name-sym}
use Rattle.ir_core.proofs.LookupLaws.{item_found}
use Rattle.ir_types.specs.Flow.{with_name}
use Rattle.ir_types.specs.Entries.{entry_names, with_first, firsts_in}
use Rattle.ir_types.proofs.FlowLaws.{name_is, with_any, all_agree}

-- the names of one more first entry
first_names : (firsts : List Entry) (e : Entry) → entry_names (with_first firsts e) ≡ with_name (entry_names firsts) e.from
first_names firsts e = of_bool (is_among (entry_names firsts) e.from)
  where
    of_bool : (b : Bool) → entry_names (if b then firsts else firsts ++ e ∷ []) ≡ (if b then entry_names firsts else entry_names firsts ++ e.from ∷ [])
    of_bool true = refl
    of_bool false = map-append (λ (g : Entry). g.from) firsts (e ∷ [])

-- a test of the names of first entries
firsts_any : (p : List ℕ → Bool) (es firsts : List Entry) → list_any p (entry_names (fold with_first firsts es)) ≡ (list_any p (entry_names firsts) || list_any (λ (e : Entry). p e.from) es)
firsts_any p [] firsts = last (list_any p (entry_names firsts))
  where
    last : (b : Bool) → b ≡ (b || false)
    last true = refl
    last false = refl
firsts_any p (e ∷ es) firsts =
    firsts_any p es (with_first firsts e) ∙ ap (λ b. b || list_any (λ (g : Entry). p g.from) es) (ap (list_any p) (first_names firsts e) ∙ with_any p (entry_names firsts) e.from)
    ∙ grouped (list_any p (entry_names firsts)) (p e.from) (list_any (λ (g : Entry). p g.from) es)
  where
    grouped : (a b c : Bool) → ((a || b) || c) ≡ (a || (b || c))
    grouped true b c = refl
    grouped false b c = refl

-- tests of items that agree
any_agree : {X : Type 0} (p r : X → Bool) (xs : List X) → ((x : X) → p x ≡ r x) → list_any p xs ≡ list_any r xs
any_agree p r [] same = refl
any_agree p r (x ∷ xs) same = ap (λ b. b || list_any p xs) (same x) ∙ ap (λ b. r x || b) (any_agree p r xs same)

-- a name is among the names of first entries where an entry is for it
pub among_firsts : (es : List Entry) (l : List ℕ) → is_among (entry_names (firsts_in es)) l ≡ list_any (λ (e : Entry). same_name e.from l) es
among_firsts es l = firsts_any (same_name l) es [] ∙ any_agree (λ (e : Entry). same_name l e.from) (λ (e : Entry). same_name e.from l) es (λ (e : Entry). same_name-sym l e.from)

-- so all names of a row are where there is an entry for each
pub row_among : (names row : List (List ℕ)) (es : List Entry) → names ≡ entry_names (firsts_in es) → list_all (is_among names) row ≡ list_all (λ (l : List ℕ). list_any (λ (e : Entry). same_name e.from l) es) row
row_among names row es e = ap (λ ns. list_all (is_among ns) row) e ∙ all_agree (is_among (entry_names (firsts_in es))) (λ (l : List ℕ). list_any (λ (g : Entry). same_name g.from l) es) row (among_firsts es)

-- an entry for a block that is among the names
found_among : (firsts : List Entry) (q : List ℕ) → is_among (entry_names firsts) q ≡ true → is_some (first_where (λ (g : Entry). same_name g.from q) firsts) ≡ true
found_among [] q e = absurd (cc)
found_among (g ∷ gs) q e = of_bool (same_name g.from q) (ap (λ b. b || is_among (entry_names gs) q) (same_name-sym g.from q) ∙ e) (found_among gs q)
  where
    of_bool : (b : Bool) → (b || is_among (entry_names gs) q) ≡ true → (is_among (entry_names gs) q ≡ true → is_some (first_where (λ (h : Entry). same_name h.from q) gs) ≡ true) → is_some (if b then Some g else first_where (λ (h : Entry). same_name h.from q) gs) ≡ true
    of_bool true e go = refl
    of_bool false e go = go e

-- one that is there comes first
or_some : {X : Type 0} (o p : Option X) → is_some o ≡ true → o ≡ option_or o p
or_some (Some x) p e = refl
or_some None p e = absurd (cc)

-- none comes after
or_none : {X : Type 0} (o : Option X) → o ≡ option_or o None
or_none (Some x) = refl
or_none None = refl

-- one entry for a block or none
one_first : (q : List ℕ) (firsts : List Entry) (e : Entry) → first_where (λ (g : Entry). same_name g.from q) (with_first firsts e) ≡ option_or (first_where (λ (g : Entry). same_name g.from q) firsts) (first_where (λ (g : Entry). same_name g.from q) (e ∷ []))
one_first q firsts e = of_bool (is_among (entry_names firsts) e.from) refl
  where
    kept : (b : Bool) → same_name e.from q ≡ b → is_among (entry_names firsts) e.from ≡ true → first_where (λ (g : Entry). same_name g.from q) firsts ≡ option_or (first_where (λ (g : Entry). same_name g.from q) firsts) (if b then Some e else None)
    kept true same among = or_some (first_where (λ (g : Entry). same_name g.from q) firsts) (Some e) (found_among firsts q (ap (is_among (entry_names firsts)) (sym (name_is e.from q same)) ∙ among))
    kept false same among = or_none (first_where (λ (g : Entry). same_name g.from q) firsts)

    of_bool : (b : Bool) → is_among (entry_names firsts) e.from ≡ b → first_where (λ (g : Entry). same_name g.from q) (if b then firsts else firsts ++ e ∷ []) ≡ option_or (first_where (λ (g : Entry). same_name g.from q) firsts) (first_where (λ (g : Entry). same_name g.from q) (e ∷ []))
    of_bool true among = kept (same_name e.from q) refl among
    of_bool false among = find-append (λ (g : Entry). same_name g.from q) firsts (e ∷ [])

-- one of three
or_assoc : {X : Type 0} (a b c : Option X) → option_or (option_or a b) c ≡ option_or a (option_or b c)
or_assoc None b c = refl
or_assoc (Some x) b c = refl

-- the first entry for a block behind first entries
firsts_where : (q : List ℕ) (es firsts : List Entry) → first_where (λ (g : Entry). same_name g.from q) (fold with_first firsts es) ≡ option_or (first_where (λ (g : Entry). same_name g.from q) firsts) (first_where (λ (g : Entry). same_name g.from q) es)
firsts_where q [] firsts = or_none (first_where (λ (g : Entry). same_name g.from q) firsts)
firsts_where q (e ∷ es) firsts =
    firsts_where q es (with_first firsts e) ∙ ap (λ o. option_or o (first_where (λ (g : Entry). same_name g.from q) es)) (one_first q firsts e)
    ∙ or_assoc (first_where (λ (g : Entry). same_name g.from q) firsts) (first_where (λ (g : Entry). same_name g.from q) (e ∷ [])) (first_where (λ (g : Entry). same_name g.from q) es)
    ∙ ap (option_or (first_where (λ (g : Entry). same_name g.from q) firsts)) (sym (find-append (λ (g : Entry). same_name g.from q) (e ∷ []) es))

-- among first entries the first is that among all
pub first_is : (es : List Entry) (q : List ℕ) → first_where (λ (g : Entry). same_name g.from q) (firsts_in es) ≡ first_where (λ (g : Entry). same_name g.from q) es
first_is es q = firsts_where q es []

-- an item of references
get_now : (rs : List (Bor Entry)) (k : ℕ) → option_map (λ (r : Bor Entry). r.now) (slice_get rs k) ≡ slice_get (map (λ (r : Bor Entry). r.now) rs) k
get_now [] k = refl
get_now (r ∷ rs) zero = refl
get_now (r ∷ rs) (suc k) = get_now rs k

-- the first entry for a block by its number among the names
pub entry_found : (rs : List (Bor Entry)) (names : List (List ℕ)) (name : List ℕ) (o : Option ℕ) → names ≡ entry_names (map (λ (r : Bor Entry). r.now) rs) → o ≡ number_where (λ n. same_name n name) names → option_map (λ (r : Bor Entry). r.now) (option_and_then (slice_get rs) o) ≡ first_where (λ (g : Entry). same_name g.from name) (map (λ (r : Bor Entry). r.now) rs)
entry_found rs names name o are found = of_option o ∙ item_found (λ (g : Entry). g.from) (map (λ (r : Bor Entry). r.now) rs) names name o are found
  where
    of_option : (o : Option ℕ) → option_map (λ (r : Bor Entry). r.now) (option_and_then (slice_get rs) o) ≡ option_and_then (slice_get (map (λ (r : Bor Entry). r.now) rs)) o
    of_option None = refl
    of_option (Some k) = get_now rs k
