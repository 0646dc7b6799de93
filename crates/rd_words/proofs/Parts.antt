-- Words as arguments, there and back.
use Rattle.std.proofs.Common.{◌≡◌, ◌≢◌, ℕ, zero, suc, ◌+◌, ◌<◌, ◌≤◌, min, Bool, true, false, List, [], ◌∷◌, ◌++◌, length, take, drop, get_or, Option, Some, None, refl, sym, ◌∙◌, ap, subst, arith, inl, inr, length-append}
use Rattle.std.specs.Prelude.{if◌then◌else◌, nat_eq, nat_lt, ◌==◌, ◌&&◌, All}
use Rattle.std.specs.List.{position_or_len, before_first, after_first}
use Rattle.std.proofs.lemmas.Bool.{eqb-true, eqb-false, ltb-true, ne_eqb}
use Rattle.std.proofs.lemmas.Bool.Decides.{nat_tests}
use Rattle.std.proofs.lemmas.List.{get_or-take, length-take}
use Rattle.std.proofs.lemmas.List.Sums.{split_at_first, fails_before_first, passes_at_first, position_or_len_is}
use Rattle.std.proofs.Math.ListN.{get_or-append}
use Rattle.std.proofs.Math.Seq.{take-append_seam, drop-append-add, get_or-append_seam}
use Rattle.rd_words.specs.Arguments.{Argument, File, Given, is_plain, IsOption, Spells, AreArguments}
use Rattle.rd_words.specs.Read.{Next, has_dashes, has_equals, with_equals, valued, next_option, next_of, put, arguments_of}
use Rattle.rd_words.proofs.Steps.{one_more, stuck}

-- the test for `=`
abbrev is_equals : ℕ → Bool
is_equals c = c == 61

and_both : (a b : Bool) → (a && b) ≡ true → (a ≡ true) × (b ≡ true)
and_both true b h = (refl, h)
and_both false b h = absurd (cc)

dashes_are : (w : List ℕ) → has_dashes w ≡ true → (name : List ℕ) × (w ≡ 45 ∷ 45 ∷ name)
dashes_are [] h = absurd (cc)
dashes_are (c ∷ []) h = absurd (cc)
dashes_are (c ∷ d ∷ name) h =
    let both = and_both (nat_eq c 45) (nat_eq d 45) h in
    (name, ap (λ x. x ∷ d ∷ name) (eqb-true c 45 both.0) ∙ ap (λ x. 45 ∷ x ∷ name) (eqb-true d 45 both.1))

-- what stands before a `=` has both dashes
dashes_before : (b a name : List ℕ) → b ++ 61 ∷ a ≡ 45 ∷ 45 ∷ name → (front : List ℕ) × (b ≡ 45 ∷ 45 ∷ front)
dashes_before [] a name h = let x : ℕ = 61 in let e : x ≡ 45 = cc in absurd (omega (arith, e))
dashes_before (c ∷ []) a name h = let x : ℕ = 61 in let e : x ≡ 45 = cc in absurd (omega (arith, e))
dashes_before (c ∷ d ∷ front) a name h =
    let first : c ≡ 45 = cc in
    let second : d ≡ 45 = cc in
    (front, ap (λ x. x ∷ d ∷ front) first ∙ ap (λ x. 45 ∷ x ∷ front) second)

-- an option without a value in it
bare : (w : List ℕ) → has_dashes w ≡ true → has_equals w ≡ false → IsOption w
bare w h e =
    let all : length w ≤ position_or_len is_equals w = grind (arith, nat_tests, e) in
    let d = dashes_are w h in
    record { name = d.0; dashes = d.1; no_equals = λ k x lt. eqb-false (get_or w k x) 61 (fails_before_first is_equals w k x (omega arith)) }

-- a word with a value in it
pub record Parts (w : List ℕ) : Type 0 where
  pub is_option : IsOption (before_first is_equals w)
  pub whole : w ≡ before_first is_equals w ++ 61 ∷ after_first is_equals w

full : (w : List ℕ) → has_dashes w ≡ true → has_equals w ≡ true → Parts w
full w h e =
    let n : ℕ = position_or_len is_equals w in
    let within : n < length w = ltb-true n (length w) e in
    let at : get_or w n 0 ≡ 61 = eqb-true (get_or w n 0) 61 (passes_at_first is_equals w 0 within) in
    let whole : w ≡ before_first is_equals w ++ 61 ∷ after_first is_equals w = split_at_first is_equals w 0 within ∙ ap (λ c. before_first is_equals w ++ c ∷ after_first is_equals w) at in
    let d = dashes_are w h in
    let b = dashes_before (before_first is_equals w) (after_first is_equals w) d.0 (sym whole ∙ d.1) in
    record {
      is_option = record {
        name = b.0;
        dashes = b.1;
        no_equals = λ k x lt.
            let is : length (take n w) ≡ min n (length w) = length-take n w in
            let short : length (take n w) ≤ n = omega arith in
            let below : k < n = omega arith in
            let same : get_or (take n w) k x ≡ get_or w k x = get_or-take n w k x below in
            let no : get_or w k x ≢ 61 = eqb-false (get_or w k x) 61 (fails_before_first is_equals w k x below) in
            λ found. no (sym same ∙ found);
      };
      whole = whole;
    }

-- an option before a `=` ends there
ends : (option value : List ℕ) → All (λ c. c ≢ 61) option → position_or_len is_equals (option ++ 61 ∷ value) ≡ length option
ends option value none =
    position_or_len_is is_equals (option ++ 61 ∷ value) (length option) 0 (let e = length-append option (61 ∷ value) in omega (arith, e))
    (λ k lt. ap is_equals (get_or-append option (61 ∷ value) 0 k lt) ∙ ne_eqb (get_or option k 0) 61 (none k 0 lt))
    (λ lt. ap is_equals (get_or-append_seam option 61 value 0))

no_value : (option : List ℕ) → All (λ c. c ≢ 61) option → position_or_len is_equals option ≡ length option
no_value option none =
    position_or_len_is is_equals option (length option) 0 (omega arith) (λ k lt. ne_eqb (get_or option k 0) 61 (none k 0 lt)) (λ lt. absurd (omega arith))

lt_self : (n : ℕ) → nat_lt n n ≡ false
lt_self n = grind (arith, nat_tests)

lt_is : (m n : ℕ) → m < n → nat_lt m n ≡ true
lt_is m n h = grind (arith, nat_tests)

-- a word that begins as an option does is read as one
abbrev Rest : List ℕ → List (List ℕ) → Option Next
Rest w others = if has_equals w then Some (record { argument = with_equals w; rest = others }) else valued w others

as_option : (w name : List ℕ) (others : List (List ℕ)) → w ≡ 45 ∷ 45 ∷ name → next_of (w ∷ others) ≡ Rest w others
as_option w name others e = let P : List ℕ → Type 0 = λ u. next_of (u ∷ others) ≡ Rest u others in subst P (sym e) refl

with_value_is : (option value : List ℕ) → All (λ c. c ≢ 61) option → with_equals (option ++ 61 ∷ value) ≡ Given option value
with_value_is option value none =
    let w : List ℕ = option ++ 61 ∷ value in
    let at = ends option value none in
    ap (λ n. Given (take n w) (drop (n + 1) w)) at ∙
    ap (λ b. Given b (drop (length option + 1) w)) (take-append_seam option (61 ∷ value)) ∙
    ap (λ v. Given option v) (drop-append-add option (61 ∷ value) 1)

-- the words of one argument are read as it
pub read_one : (front back : List (List ℕ)) (a : Argument) → Spells front a → next_of (front ++ back) ≡ Some (record { argument = a; rest = back })
read_one front back (File name) h =
    ap (λ ws. next_of (ws ++ back)) h.1 ∙ ap (λ b. if b then Some (record { argument = File name; rest = back }) else next_option name back) h.0
read_one front back (Given option value) (o, inl h) =
    let none : has_equals option ≡ false = ap (λ n. nat_lt n (length option)) (no_value option o.no_equals) ∙ lt_self (length option) in
    ap (λ ws. next_of (ws ++ back)) h.1 ∙ as_option option o.name (value ∷ back) o.dashes ∙
    ap (λ b. if b then Some (record { argument = with_equals option; rest = value ∷ back }) else valued option (value ∷ back)) none ∙
    ap (λ b. if b then Some (record { argument = Given option value; rest = back }) else None) h.0
read_one front back (Given option value) (o, inr h) =
    let w : List ℕ = option ++ 61 ∷ value in
    let long : length option < length w = (let e = length-append option (61 ∷ value) in omega (arith, e)) in
    let some : has_equals w ≡ true = ap (λ n. nat_lt n (length w)) (ends option value o.no_equals) ∙ lt_is (length option) (length w) long in
    ap (λ ws. next_of (ws ++ back)) h ∙ as_option w (o.name ++ 61 ∷ value) back (ap (λ u. u ++ 61 ∷ value) o.dashes) ∙
    ap (λ b. if b then Some (record { argument = with_equals w; rest = back }) else valued w back) some ∙
    ap (λ a. Some (record { argument = a; rest = back })) (with_value_is option value o.no_equals)

nothing : arguments_of [] ≡ Some []
unfolding arguments_of
nothing = refl

-- words of arguments are read as them
pub arguments_back : (args : List Argument) (words : List (List ℕ)) → AreArguments words args → arguments_of words ≡ Some args
arguments_back [] words h = ap arguments_of h ∙ nothing
arguments_back (a ∷ rest) words (front, back, h) =
    let go = arguments_back rest back h.2 in
    ap arguments_of h.0 ∙ one_more (front ++ back) back a (read_one front back a h.1) ∙ ap (put a) go

-- what is read is an argument, and the words behind it
record Split (words : List (List ℕ)) (x : Next) : Type 0 where
  front : List (List ℕ)
  whole : words ≡ front ++ x.rest
  spells : Spells front x.argument
  shorter : length x.rest < length words

behind_option : (w : List ℕ) (rest : List (List ℕ)) (x : Next) → has_dashes w ≡ true → has_equals w ≡ false → valued w rest ≡ Some x → Split (w ∷ rest) x
behind_option w [] x d e h = absurd (cc)
behind_option w (v ∷ rest) x d e h = by (is_plain v) refl h
  where
    by : (q : Bool) → is_plain v ≡ q → (if q then Some (record { argument = Given w v; rest = rest }) else None) ≡ Some x → Split (w ∷ v ∷ rest) x
    by true p k =
        let y : Next = record { argument = Given w v; rest = rest } in
        let same : y ≡ x = cc in
        subst (Split (w ∷ v ∷ rest)) same (record { front = w ∷ v ∷ []; whole = refl; spells = (bare w d e, inl (p, refl)); shorter = omega arith })
    by false p k = absurd (cc)

split_is : (w : List ℕ) (rest : List (List ℕ)) (x : Next) → next_of (w ∷ rest) ≡ Some x → Split (w ∷ rest) x
split_is w rest x h = by (is_plain w) (has_dashes w) (has_equals w) refl refl refl h
  where
    by : (p d e : Bool) → is_plain w ≡ p → has_dashes w ≡ d → has_equals w ≡ e → (if p then Some (record { argument = File w; rest = rest }) else (if d then (if e then Some (record { argument = with_equals w; rest = rest }) else valued w rest) else None)) ≡ Some x → Split (w ∷ rest) x
    by true d e hp hd he k =
        let y : Next = record { argument = File w; rest = rest } in
        let same : y ≡ x = cc in
        subst (Split (w ∷ rest)) same (record { front = w ∷ []; whole = refl; spells = (hp, refl); shorter = omega arith })
    by false true true hp hd he k =
        let y : Next = record { argument = with_equals w; rest = rest } in
        let same : y ≡ x = cc in
        let p = full w hd he in
        subst (Split (w ∷ rest)) same (record { front = w ∷ []; whole = refl; spells = (p.is_option, inr (ap (λ u. u ∷ []) p.whole)); shorter = omega arith })
    by false true false hp hd he k = behind_option w rest x hd he k
    by false false e hp hd he k = absurd (cc)

no_words : (args : List Argument) → arguments_of [] ≡ Some args → AreArguments [] args
no_words [] h = refl
no_words (a ∷ args) h = let e = nothing in absurd (cc)

upto : (n : ℕ) (words : List (List ℕ)) (args : List Argument) → length words ≤ n → arguments_of words ≡ Some args → AreArguments words args
upto n [] args le h = no_words args h
upto zero (w ∷ words) args le h = absurd (omega arith)
upto (suc n) (w ∷ words) args le h = by (next_of (w ∷ words)) refl (λ rest more short g. upto n rest more short g)
  where
    by_rest : (x : Next) (o : Option (List Argument)) → arguments_of x.rest ≡ o → put x.argument o ≡ Some args → Split (w ∷ words) x → ((rest : List (List ℕ)) (more : List Argument) → length rest ≤ n → arguments_of rest ≡ Some more → AreArguments rest more) → AreArguments (w ∷ words) args
    by_rest x None e k s go = absurd (cc)
    by_rest x (Some more) e k s go =
        let same : x.argument ∷ more ≡ args = cc in
        let short : length x.rest < length (w ∷ words) = s.shorter in
        subst (AreArguments (w ∷ words)) same (s.front, x.rest, (s.whole, s.spells, go x.rest more (omega arith) e))

    by : (o : Option Next) → next_of (w ∷ words) ≡ o → ((rest : List (List ℕ)) (more : List Argument) → length rest ≤ n → arguments_of rest ≡ Some more → AreArguments rest more) → AreArguments (w ∷ words) args
    by None e go = let none : arguments_of (w ∷ words) ≡ None = stuck (w ∷ words) (λ c. absurd (cc)) e in absurd (cc)
    by (Some x) e go = by_rest x (arguments_of x.rest) refl (sym (one_more (w ∷ words) x.rest x.argument e) ∙ h) (split_is w words x e) go

-- what is read of words are their arguments
pub arguments_are : (words : List (List ℕ)) (args : List Argument) → arguments_of words ≡ Some args → AreArguments words args
arguments_are words args h = upto (length words) words args (omega arith) h
