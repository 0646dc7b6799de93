-- The row of a block has the labels of its predecessors.
use Rattle.std.proofs.Common.{◌≡◌, ◌≢◌, ℕ, zero, suc, ◌<◌, Bool, true, false, List, [], ◌∷◌, ◌++◌, length, get_or, replicate, map, Option, Some, None, refl, ap, sym, ◌∙◌, subst, arith, if◌then◌else◌, cond}
use Rattle.std.specs.Prelude.{◌&&◌, ◌||◌, not, option_map, slice_set, filter}
use Rattle.std.specs.List.{list_all, list_any, flat_map}
use Rattle.std.proofs.lemmas.Bool.{and_parts, eqb-true, eq-eqb}
use Rattle.std.proofs.lemmas.List.Folds.{list_any-append}
use Rattle.ir_core.specs.declared.instruction.Entry.{Entry}
use Rattle.ir_core.specs.declared.module.Block.{Block}
use Rattle.ir_core.specs.Names.{same_name}
use Rattle.ir_core.specs.Definitions.{is_among}
use Rattle.ir_core.specs.Typing.{labels_of}
use Rattle.ir_core.specs.Valid.{leads_to, predecessors, entries_fit}
use Rattle.ir_types.specs.Flow.{Edge, Rows, edges_to, edges_of, with_name, row_at, noted_at, label_number, noted, noted_all, rows_of}

-- names that are the same are one name
pub name_is : (a b : List ℕ) → same_name a b ≡ true → a ≡ b
name_is [] [] e = refl
name_is [] (b ∷ bs) e = absurd (cc)
name_is (a ∷ as') [] e = absurd (cc)
name_is (a ∷ as') (b ∷ bs) e = let p = and_parts _ _ e in let q = eqb-true a b p.0 in let r = name_is as' bs p.1 in cc

-- a name is the same as itself
pub same_itself : (a : List ℕ) → same_name a a ≡ true
same_itself [] = refl
same_itself (a ∷ as') = ap (λ b. b && same_name as' as') (eq-eqb a a refl) ∙ same_itself as'

-- some number is there or isn't
none_is_some : {A : Type 0} (n : ℕ) → let o : Option ℕ = None in o ≡ Some n → A
none_is_some n e = absurd (cc)

-- the number of what comes behind is no zero
not_zero : {A : Type 0} (o : Option ℕ) → option_map (λ n. suc n) o ≡ Some 0 → A
not_zero None e = absurd (cc)
not_zero (Some n) e = absurd (cc)

-- zero is the number of nothing that comes behind
not_suc : {A : Type 0} (n : ℕ) → Some 0 ≡ Some (suc n) → A
not_suc n e = absurd (cc)

-- one place less
one_less : (o : Option ℕ) (n : ℕ) → option_map (λ k. suc k) o ≡ Some (suc n) → o ≡ Some n
one_less None n e = absurd (cc)
one_less (Some k) n e = cc

-- labels of one number are the same
same_number : (labels : List (List ℕ)) (a b : List ℕ) (t : ℕ) → label_number labels a ≡ Some t → label_number labels b ≡ Some t → same_name a b ≡ true
same_number [] a b t ea eb = none_is_some t ea
same_number (x ∷ xs) a b t ea eb = of_bools (same_name x a) (same_name x b) refl refl t ea eb (same_number xs a b)
  where
    both : same_name x a ≡ true → same_name x b ≡ true → same_name a b ≡ true
    both p q = subst (λ n. same_name n b ≡ true) (name_is x a p) q

    of_bools : (p q : Bool) → same_name x a ≡ p → same_name x b ≡ q → (t : ℕ) → (if p then Some 0 else option_map (λ n. suc n) (label_number xs a)) ≡ Some t → (if q then Some 0 else option_map (λ n. suc n) (label_number xs b)) ≡ Some t → ((s : ℕ) → label_number xs a ≡ Some s → label_number xs b ≡ Some s → same_name a b ≡ true) → same_name a b ≡ true
    of_bools true true p q t ea eb go = both p q
    of_bools true false p q zero ea eb go = not_zero (label_number xs b) eb
    of_bools true false p q (suc t) ea eb go = not_suc t ea
    of_bools false true p q zero ea eb go = not_zero (label_number xs a) ea
    of_bools false true p q (suc t) ea eb go = not_suc t eb
    of_bools false false p q zero ea eb go = not_zero (label_number xs a) ea
    of_bools false false p q (suc t) ea eb go = go t (one_less (label_number xs a) t ea) (one_less (label_number xs b) t eb)

-- the number of a label is that of one of them
number_within : (labels : List (List ℕ)) (a : List ℕ) (t : ℕ) → label_number labels a ≡ Some t → t < length labels
number_within [] a t e = none_is_some t e
number_within (x ∷ xs) a t e = of_bool (same_name x a) t e (number_within xs a)
  where
    of_bool : (p : Bool) (t : ℕ) → (if p then Some 0 else option_map (λ n. suc n) (label_number xs a)) ≡ Some t → ((s : ℕ) → label_number xs a ≡ Some s → s < length xs) → t < suc (length xs)
    of_bool true zero e go = omega arith
    of_bool true (suc t) e go = not_suc t e
    of_bool false zero e go = not_zero (label_number xs a) e
    of_bool false (suc t) e go = let l = go t (one_less (label_number xs a) t e) in omega arith

-- a row that was set
set_here : (rows : Rows) (t : ℕ) (v : List (List ℕ)) → t < length rows → row_at (slice_set rows t v) (Some t) ≡ v
set_here [] t v inside = absurd (omega arith)
set_here (r ∷ rs) zero v inside = refl
set_here (r ∷ rs) (suc t) v inside = set_here rs t v (omega arith)

-- and another
set_there : (rows : Rows) (s t : ℕ) (v : List (List ℕ)) → s ≢ t → row_at (slice_set rows s v) (Some t) ≡ row_at rows (Some t)
set_there [] s t v other = refl
set_there (r ∷ rs) zero zero v other = absurd (other refl)
set_there (r ∷ rs) zero (suc t) v other = refl
set_there (r ∷ rs) (suc s) zero v other = refl
set_there (r ∷ rs) (suc s) (suc t) v other = set_there rs s t v (λ e. other (ap (λ n. suc n) e))

-- setting a row keeps their number
set_length : (rows : Rows) (t : ℕ) (v : List (List ℕ)) → length (slice_set rows t v) ≡ length rows
set_length [] t v = refl
set_length (r ∷ rs) zero v = refl
set_length (r ∷ rs) (suc t) v = ap (λ n. suc n) (set_length rs t v)

-- so does one more edge
noted_length : (labels : List (List ℕ)) (rows : Rows) (e : Edge) → length (noted labels rows e) ≡ length rows
noted_length labels rows e = of_option (label_number labels e.to)
  where
    of_option : (o : Option ℕ) → length (noted_at rows e.from o) ≡ length rows
    of_option None = refl
    of_option (Some t) = set_length rows t (with_name (row_at rows (Some t)) e.from)

-- what passes among names where one of them does
pub among_any : (p : List ℕ → Bool) (set : List (List ℕ)) (n : List ℕ) → is_among set n ≡ true → p n ≡ true → list_any p set ≡ true
among_any p [] n e passes = absurd (cc)
among_any p (x ∷ xs) n e passes = of_bool (same_name n x) refl e (λ rest. among_any p xs n rest passes)
  where
    or_true : (b : Bool) → (b || true) ≡ true
    or_true true = refl
    or_true false = refl

    of_bool : (b : Bool) → same_name n x ≡ b → (b || is_among xs n) ≡ true → (is_among xs n ≡ true → list_any p xs ≡ true) → (p x || list_any p xs) ≡ true
    of_bool true same e go = ap (λ b. b || list_any p xs) (subst (λ y. p y ≡ true) (name_is n x same) passes)
    of_bool false same e go = ap (λ b. p x || b) (go e) ∙ or_true (p x)

-- a test of a set with one more name
pub with_any : (p : List ℕ → Bool) (set : List (List ℕ)) (n : List ℕ) → list_any p (with_name set n) ≡ (list_any p set || p n)
with_any p set n = of_bool (is_among set n) refl
  where
    last : (b : Bool) → (b || false) ≡ b
    last true = refl
    last false = refl

    kept : (a b : Bool) → (b ≡ true → a ≡ true) → a ≡ (a || b)
    kept true b go = refl
    kept false true go = go refl
    kept false false go = refl

    of_bool : (b : Bool) → is_among set n ≡ b → list_any p (if b then set else set ++ n ∷ []) ≡ (list_any p set || p n)
    of_bool true e = kept (list_any p set) (p n) (λ passes. among_any p set n e passes)
    of_bool false e = list_any-append p set (n ∷ []) ∙ ap (λ b. list_any p set || b) (last (p n))

-- whether an edge leads to a label from one that passes
abbrev passes_to : (List ℕ → Bool) → List ℕ → Edge → Bool
passes_to p q e = same_name e.to q && p e.from

module _ (labels : List (List ℕ)) (q : List ℕ) (t : ℕ) (known : label_number labels q ≡ Some t) (p : List ℕ → Bool) where
  -- a row after one more edge
  noted_any : (rows : Rows) (e : Edge) → length rows ≡ length labels → list_any p (row_at (noted labels rows e) (Some t)) ≡ (list_any p (row_at rows (Some t)) || passes_to p q e)
  noted_any rows e long = of_bool (same_name e.to q) refl
    where
      last : (b : Bool) → b ≡ (b || false)
      last true = refl
      last false = refl

      inside : t < length rows
      inside = let l = number_within labels q t known in omega arith

      elsewhere : (o : Option ℕ) → label_number labels e.to ≡ o → same_name e.to q ≡ false → row_at (noted_at rows e.from o) (Some t) ≡ row_at rows (Some t)
      elsewhere None n other = refl
      elsewhere (Some s) n other = set_there rows s t (with_name (row_at rows (Some s)) e.from) (λ same. (let r = same_number labels e.to q t (n ∙ ap Some same) known in absurd (cc)))

      of_bool : (b : Bool) → same_name e.to q ≡ b → list_any p (row_at (noted labels rows e) (Some t)) ≡ (list_any p (row_at rows (Some t)) || (b && p e.from))
      of_bool true same =
          ap (λ o. list_any p (row_at (noted_at rows e.from o) (Some t))) (ap (label_number labels) (name_is e.to q same) ∙ known)
          ∙ ap (list_any p) (set_here rows t (with_name (row_at rows (Some t)) e.from) inside) ∙ with_any p (row_at rows (Some t)) e.from
      of_bool false other = ap (list_any p) (elsewhere (label_number labels e.to) refl other) ∙ last (list_any p (row_at rows (Some t)))

  -- after many
  all_any : (edges : List Edge) (rows : Rows) → length rows ≡ length labels → list_any p (row_at (noted_all labels rows edges) (Some t)) ≡ (list_any p (row_at rows (Some t)) || list_any (passes_to p q) edges)
  all_any [] rows long = last (list_any p (row_at rows (Some t)))
    where
      last : (b : Bool) → b ≡ (b || false)
      last true = refl
      last false = refl
  all_any (e ∷ es) rows long =
      all_any es (noted labels rows e) (noted_length labels rows e ∙ long) ∙ ap (λ b. b || list_any (passes_to p q) es) (noted_any rows e long) ∙ grouped (list_any p (row_at rows (Some t))) (passes_to p q e) (list_any (passes_to p q) es)
    where
      grouped : (a b c : Bool) → ((a || b) || c) ≡ (a || (b || c))
      grouped true b c = refl
      grouped false b c = refl

-- edges from one block
from_one : (p : List ℕ → Bool) (q from : List ℕ) (labels : List (List ℕ)) → list_any (passes_to p q) (edges_to from labels) ≡ (list_any (λ to. same_name to q) labels && p from)
from_one p q from [] = refl
from_one p q from (l ∷ ls) = ap (λ b. (same_name l q && p from) || b) (from_one p q from ls) ∙ shared (same_name l q) (list_any (λ to. same_name to q) ls) (p from)
  where
    shared : (a b c : Bool) → ((a && c) || (b && c)) ≡ ((a || b) && c)
    shared true true true = refl
    shared true true false = refl
    shared true false true = refl
    shared true false false = refl
    shared false b c = refl

-- edges from blocks come from the predecessors
from_blocks : (p : List ℕ → Bool) (q : List ℕ) (bs : List Block) → list_any (passes_to p q) (flat_map edges_of bs) ≡ list_any p (predecessors bs q)
from_blocks p q [] = refl
from_blocks p q (b ∷ bs) =
    list_any-append (passes_to p q) (edges_of b) (flat_map edges_of bs) ∙ ap (λ x. list_any (passes_to p q) (edges_of b) || x) (from_blocks p q bs)
    ∙ ap (λ x. x || list_any p (predecessors bs q)) (from_one p q b.label (labels_of b.end)) ∙ of_bool (leads_to q b)
  where
    of_bool : (x : Bool) → ((x && p b.label) || list_any p (predecessors bs q)) ≡ list_any p (map (λ (c : Block). c.label) (cond x (b ∷ filter (leads_to q) bs) (filter (leads_to q) bs)))
    of_bool true = refl
    of_bool false = refl

-- rows are empty at first
empty_row : (n t : ℕ) → row_at (replicate n []) (Some t) ≡ []
empty_row zero t = refl
empty_row (suc n) zero = refl
empty_row (suc n) (suc t) = empty_row n t

-- as many rows as there are blocks
empty_length : (bs : List Block) → let rows : Rows = replicate (length bs) [] in length rows ≡ length (map (λ (b : Block). b.label) bs)
empty_length [] = refl
empty_length (b ∷ bs) = ap (λ n. suc n) (empty_length bs)

-- a test of what none fails
all_not_any : {X : Type 0} (p : X → Bool) (xs : List X) → list_all p xs ≡ not (list_any (λ x. not (p x)) xs)
all_not_any p [] = refl
all_not_any p (x ∷ xs) = ap (λ b. p x && b) (all_not_any p xs) ∙ of_bool (p x)
  where
    of_bool : (b : Bool) → (b && not (list_any (λ y. not (p y)) xs)) ≡ not (not b || list_any (λ y. not (p y)) xs)
    of_bool true = refl
    of_bool false = refl

-- tests that agree
pub all_agree : {X : Type 0} (p r : X → Bool) (xs : List X) → ((x : X) → p x ≡ r x) → list_all p xs ≡ list_all r xs
all_agree p r [] same = refl
all_agree p r (x ∷ xs) same = ap (λ b. b && list_all p xs) (same x) ∙ ap (λ b. r x && b) (all_agree p r xs same)

-- entries fit the row of a label where they fit its predecessors
pub row_fits : (bs : List Block) (q : List ℕ) (t : ℕ) (entries : List Entry) → label_number (map (λ (b : Block). b.label) bs) q ≡ Some t → entries_fit (row_at (rows_of bs) (Some t)) entries ≡ entries_fit (predecessors bs q) entries
row_fits bs q t entries known =
    let labels = map (λ (b : Block). b.label) bs in
    let row = row_at (rows_of bs) (Some t) in
    let any = λ (p : List ℕ → Bool). all_any labels q t known p (flat_map edges_of bs) (replicate (length bs) []) (empty_length bs) ∙ ap (λ r. list_any p r || list_any (passes_to p q) (flat_map edges_of bs)) (empty_row (length bs) t) ∙ from_blocks p q bs in
    let has = λ (l : List ℕ). list_any (λ (e : Entry). same_name e.from l) entries in
    let first : list_all has row ≡ list_all has (predecessors bs q) = all_not_any has row ∙ ap not (any (λ l. not (has l))) ∙ sym (all_not_any has (predecessors bs q)) in
    let second : list_all (λ (e : Entry). is_among row e.from) entries ≡ list_all (λ (e : Entry). is_among (predecessors bs q) e.from) entries = all_agree (λ (e : Entry). is_among row e.from) (λ (e : Entry). is_among (predecessors bs q) e.from) entries (λ (e : Entry). any (same_name e.from)) in
    ap (λ b. b && list_all (λ (e : Entry). is_among row e.from) entries) first ∙ ap (λ b. list_all has (predecessors bs q) && b) second

-- the label of a block is that of one
pub label_known : (bs : List Block) (j : ℕ) (d : Block) → j < length bs → label_number (map (λ (b : Block). b.label) bs) (get_or bs j d).label ≢ None
label_known [] j d inside = absurd (omega arith)
label_known (b ∷ bs) zero d inside = λ e. (let s = same_itself b.label in let f : (let o : Option ℕ = Some 0 in o ≡ None) = sym (ap (λ x. if x then Some 0 else option_map (λ n. suc n) (label_number (map (λ (c : Block). c.label) bs) b.label)) s) ∙ e in absurd (cc))
label_known (b ∷ bs) (suc j) d inside = λ e. label_known bs j d (omega arith) (of_bool (same_name b.label (get_or bs j d).label) (label_number (map (λ (c : Block). c.label) bs) (get_or bs j d).label) e)
  where
    of_bool : (x : Bool) (o : Option ℕ) → (if x then Some 0 else option_map (λ n. suc n) o) ≡ None → o ≡ None
    of_bool true o e = absurd (cc)
    of_bool false None e = refl
    of_bool false (Some n) e = absurd (cc)
