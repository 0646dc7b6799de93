-- One argument more of the words that are read.
use Rattle.std.proofs.Common.{◌≡◌, ℕ, ◌+◌, Bool, true, false, List, [], ◌∷◌, length, Option, Some, None, refl, sym, ◌∙◌, ap, arith}
use Rattle.std.specs.Prelude.{if◌then◌else◌, nat_eq, map}
use Rattle.std.proofs.lemmas.Bool.{eqb-true}
use Rattle.std.specs.Option.{option_to_list}
use Rattle.rd_words.specs.Arguments.{Argument, File, Given, same, is_plain}
use Rattle.rd_words.specs.Read.{Next, next_of, has_dashes, has_equals, with_equals, put, arguments_of, file_behind, value_behind, count_behind, FileGoesOn, ValueGoesOn}

-- what an argument and the words behind it are
abbrev all_from : Next → Option (List Argument)
all_from x = put x.argument (arguments_of x.rest)

-- the first argument of one word, and of more, by what the tests say
abbrev last_next : List ℕ → Bool → Bool → Bool → Option Next
last_next w p d e = if p then Some (record { argument = File w; rest = [] }) else (if d then (if e then Some (record { argument = with_equals w; rest = [] }) else None) else None)

abbrev two_next : List ℕ → List ℕ → List (List ℕ) → Bool → Bool → Bool → Bool → Option Next
two_next w v rest p d e q = if p then Some (record { argument = File w; rest = v ∷ rest }) else (if d then (if e then Some (record { argument = with_equals w; rest = v ∷ rest }) else (if q then Some (record { argument = Given w v; rest = rest }) else None)) else None)

next_some : (words : List (List ℕ)) (x : Next) → next_of words ≡ Some x → arguments_of words ≡ all_from x
unfolding arguments_of
next_some [] x h = absurd (cc)
next_some (w ∷ []) x h = by (is_plain w) (has_dashes w) (has_equals w) h
  where
    by : (p d e : Bool) → last_next w p d e ≡ Some x →
        (if p then Some (File w ∷ []) else (if d then (if e then Some (with_equals w ∷ []) else None) else None)) ≡ all_from x
    by true d e k = let same : record { argument = File w; rest = [] } ≡ x = cc in ap all_from same
    by false true true k = let same : record { argument = with_equals w; rest = [] } ≡ x = cc in ap all_from same
    by false true false k = absurd (cc)
    by false false e k = absurd (cc)
next_some (w ∷ v ∷ rest) x h = by (is_plain w) (has_dashes w) (has_equals w) (is_plain v) h
  where
    by : (p d e q : Bool) → two_next w v rest p d e q ≡ Some x →
        (if p then put (File w) (arguments_of (v ∷ rest)) else (if d then (if e then put (with_equals w) (arguments_of (v ∷ rest)) else (if q then put (Given w v) (arguments_of rest) else None)) else None)) ≡ all_from x
    by true d e q k = let same : record { argument = File w; rest = v ∷ rest } ≡ x = cc in ap all_from same
    by false true true q k = let same : record { argument = with_equals w; rest = v ∷ rest } ≡ x = cc in ap all_from same
    by false true false true k = let same : record { argument = Given w v; rest = rest } ≡ x = cc in ap all_from same
    by false true false false k = absurd (cc)
    by false false e q k = absurd (cc)

next_none : (w : List ℕ) (words : List (List ℕ)) → next_of (w ∷ words) ≡ None → arguments_of (w ∷ words) ≡ None
unfolding arguments_of
next_none w [] h = by (is_plain w) (has_dashes w) (has_equals w) h
  where
    by : (p d e : Bool) → last_next w p d e ≡ None →
        (if p then Some (File w ∷ []) else (if d then (if e then Some (with_equals w ∷ []) else None) else None)) ≡ None
    by true d e k = absurd (cc)
    by false true true k = absurd (cc)
    by false true false k = refl
    by false false e k = refl
next_none w (v ∷ rest) h = by (is_plain w) (has_dashes w) (has_equals w) (is_plain v) h
  where
    by : (p d e q : Bool) → two_next w v rest p d e q ≡ None →
        (if p then put (File w) (arguments_of (v ∷ rest)) else (if d then (if e then put (with_equals w) (arguments_of (v ∷ rest)) else (if q then put (Given w v) (arguments_of rest) else None)) else None)) ≡ None
    by true d e q k = absurd (cc)
    by false true true q k = absurd (cc)
    by false true false true k = absurd (cc)
    by false true false false k = refl
    by false false e q k = refl

pub stuck : (words : List (List ℕ)) → (words ≡ [] → ⊥) → next_of words ≡ None → arguments_of words ≡ None
stuck [] some h = absurd (some refl)
stuck (w ∷ words) some h = next_none w words h

pub one_more : (words rest : List (List ℕ)) (a : Argument) → next_of words ≡ Some (record { argument = a; rest = rest }) → arguments_of words ≡ put a (arguments_of rest)
one_more words rest a h = next_some words (record { argument = a; rest = rest }) h

pub file_stuck : (before words : List (List ℕ)) → (words ≡ [] → ⊥) → next_of words ≡ None → file_behind before (arguments_of words) ≡ None
file_stuck before words some h = ap (file_behind before) (stuck words some h)

pub value_stuck : (option : List ℕ) (before words : List (List ℕ)) → (words ≡ [] → ⊥) → next_of words ≡ None → value_behind option before (arguments_of words) ≡ None
value_stuck option before words some h = ap (value_behind option before) (stuck words some h)

pub count_stuck : (n : ℕ) (words : List (List ℕ)) → (words ≡ [] → ⊥) → next_of words ≡ None → count_behind n (arguments_of words) ≡ None
count_stuck n words some h = ap (count_behind n) (stuck words some h)

counted : (n : ℕ) (a : Argument) (args : Option (List Argument)) → count_behind n (put a args) ≡ count_behind (n + 1) args
counted n a None = refl
counted n a (Some args) = let e : n + length (a ∷ args) ≡ n + 1 + length args = omega arith in ap Some e

pub count_more : (n : ℕ) (words rest : List (List ℕ)) (a : Argument) → next_of words ≡ Some (record { argument = a; rest = rest }) → count_behind (n + 1) (arguments_of rest) ≡ count_behind n (arguments_of words)
count_more n words rest a h = sym (counted n a (arguments_of rest)) ∙ ap (count_behind n) (sym (one_more words rest a h))

pub file_end : (found : Option (List ℕ)) → found ≡ file_behind (option_to_list found) (arguments_of [])
unfolding arguments_of
file_end None = refl
file_end (Some f) = refl

pub value_end : (option : List ℕ) (found : Option (List ℕ)) → found ≡ value_behind option (option_to_list found) (arguments_of [])
unfolding arguments_of
value_end option None = refl
value_end option (Some f) = refl

pub count_end : (n : ℕ) → Some n ≡ count_behind n (arguments_of [])
unfolding arguments_of
count_end n = let e : n ≡ n + 0 = omega arith in ap Some e

-- a file behind others
pub file_first : (name : List ℕ) → FileGoesOn None (File name) (Some (Some name))
file_first name None = refl
file_first name (Some args) = refl

pub file_second : (f name : List ℕ) → FileGoesOn (Some f) (File name) None
file_second f name None = refl
file_second f name (Some args) = refl

pub file_skips : (found : Option (List ℕ)) (option value : List ℕ) → FileGoesOn found (Given option value) (Some found)
file_skips found option value None = refl
file_skips found option value (Some args) = refl

-- a value behind others
pub value_first : (option other value : List ℕ) → same option other ≡ true → ValueGoesOn option None (Given other value) (Some (Some value))
value_first option other value h None = refl
value_first option other value h (Some args) = rw h refl

pub value_second : (option other f value : List ℕ) → same option other ≡ true → ValueGoesOn option (Some f) (Given other value) None
value_second option other f value h None = refl
value_second option other f value h (Some args) = rw h refl

pub value_skips : (option : List ℕ) (found : Option (List ℕ)) (other value : List ℕ) → same option other ≡ false → ValueGoesOn option found (Given other value) (Some found)
value_skips option found other value h None = refl
value_skips option found other value h (Some args) = rw h refl

pub value_skips_file : (option : List ℕ) (found : Option (List ℕ)) (name : List ℕ) → ValueGoesOn option found (File name) (Some found)
value_skips_file option found name None = refl
value_skips_file option found name (Some args) = refl

-- words that are left
pub left : {A : Type 0} (f : A → List ℕ) (words : List A) → nat_eq (length words) 0 ≡ false → map f words ≡ [] → ⊥
left f [] h e = absurd (cc)
left f (w ∷ words) h e = absurd (cc)

-- no words that are left
pub none_left : {A : Type 0} (f : A → List ℕ) (words : List A) → nat_eq (length words) 0 ≡ true → map f words ≡ []
none_left f [] h = refl
none_left f (w ∷ words) h = let n : length (w ∷ words) ≡ 0 = eqb-true (length (w ∷ words)) 0 h in absurd (omega arith)
