-- What holds of each value that tokens of a small text derive, by the parts of the grammar.
use Rattle.std.proofs.Common.{◌≡◌, ℕ, ◌^◌, ◌<◌, ◌≤◌, Bool, true, false, List, [], ◌∷◌, ◌++◌, length, length-append, refl, sym, ◌∙◌, ap, subst, inl, inr, arith, Option, Some, None}
use Rattle.std.specs.Prelude.{nat_lt}
use Rattle.std.specs.List.{list_all}
use Rattle.std.proofs.lemmas.Bool.{and_from, and_parts, lt-ltb}
use Rattle.ir_core.specs.Built.{built_all}
use Rattle.ir_lex.specs.declared.token.TokenKind.{TokenKind}
use Rattle.ir_grammar.specs.Tokens.{Sort, has, sort_of}
use Rattle.ir_grammar.specs.Grammar.{Grammar, give, token, either, many, Row, Derives, ◌▸◌, ◌▹◌, optional}
use Rattle.ir_grammar.specs.Parts.{behind_comma, listed}
use Rattle.ir_grammar.specs.Reading.{null}
use Rattle.ir_grammar.proofs.Heads.{nulls}
use Rattle.ir_built.proofs.Small.{is_small, AreSmall, small_left, small_right}

-- each value has the property
pub record Always {A : Type 0} (g : Grammar A) (P : A → Type 0) : Type 0 where
  pub holds : (v : A) (ts : List TokenKind) → AreSmall ts → Derives g v ts → P v

-- each value passes the test
abbrev pub Passes : {A : Type 0} → Grammar A → (A → Bool) → Type 0
Passes {A} g test = Always g (λ (v : A). test v ≡ true)

-- one value
pub given : {A : Type 0} {P : A → Type 0} (a : A) → P a → Always (give a) P
given {P = P} a p = record { holds = λ v ts small d. subst P (sym d.0) p }

-- a token
pub tokened : {A : Type 0} {P : A → Type 0} (s : Sort) (ss : List Sort) (f : TokenKind → A) → ((t : TokenKind) → is_small t ≡ true → has (s ∷ ss) (sort_of t) ≡ true → P (f t)) → Always (token s ss f) P
tokened {A} {P = P} s ss f go = record { holds = holds }
  where
    holds : (v : A) (ts : List TokenKind) → AreSmall ts → Derives (token s ss f) v ts → P v
    holds v ts small (t, s_is, is, one) =
        let all : list_all is_small (t ∷ []) ≡ true = subst (λ us. list_all is_small us ≡ true) one small.1 in
        subst P (sym is) (go t (and_parts (is_small t) true all).0 s_is)

-- a function behind which an argument with a property stands
pub with_such : {A B : Type 0} {g : Grammar (A → B)} {h : Grammar A} {P : B → Type 0} (Q : A → Type 0) → Always g (λ f. (a : A) → Q a → P (f a)) → Always h Q → Always (g ▸ h) P
with_such {A} {B} {g} {h} {P} Q x y = record { holds = holds }
  where
    holds : (v : B) (ts : List TokenKind) → AreSmall ts → Derives (g ▸ h) v ts → P v
    holds v ts small (f, a, front, rest, cut, dg, dh, is) =
        subst P (sym is) (x.holds f front (small_left ts front rest cut small) dg a (y.holds a rest (small_right ts front rest cut small) dh))

-- one that passes a test
pub with : {A B : Type 0} {g : Grammar (A → B)} {h : Grammar A} {P : B → Type 0} (test : A → Bool) → Always g (λ f. (a : A) → test a ≡ true → P (f a)) → Passes h test → Always (g ▸ h) P
with {A} test x y = with_such (λ (a : A). test a ≡ true) x y

-- any
pub with_any : {A B : Type 0} {g : Grammar (A → B)} {h : Grammar A} {P : B → Type 0} → Always g (λ f. (a : A) → P (f a)) → Always (g ▸ h) P
with_any {A} {B} {g} {h} {P} x = record { holds = holds }
  where
    holds : (v : B) (ts : List TokenKind) → AreSmall ts → Derives (g ▸ h) v ts → P v
    holds v ts small (f, a, front, rest, cut, dg, dh, is) = subst P (sym is) (x.holds f front (small_left ts front rest cut small) dg a)

-- something in front of what has no value
pub before : {A B : Type 0} {g : Grammar A} {h : Grammar B} {P : A → Type 0} → Always g P → Always (g ▹ h) P
before {A} {B} {g} {h} {P} x = record { holds = holds }
  where
    holds : (v : A) (ts : List TokenKind) → AreSmall ts → Derives (g ▹ h) v ts → P v
    holds v ts small (a, b, front, rest, cut, dg, dh, is) = subst P (sym is) (x.holds a front (small_left ts front rest cut small) dg)

-- one of two
pub one_of_two : {A : Type 0} {g h : Grammar A} {P : A → Type 0} → Always g P → Always h P → Always (either g h) P
one_of_two {A} {g} {h} {P} x y = record { holds = holds }
  where
    holds : (v : A) (ts : List TokenKind) → AreSmall ts → Derives (either g h) v ts → P v
    holds v ts small (inl d) = x.holds v ts small d
    holds v ts small (inr d) = y.holds v ts small d

-- a weaker property
pub weaker : {A : Type 0} {g : Grammar A} {P : A → Type 0} (Q : A → Type 0) → Always g Q → ((v : A) → Q v → P v) → Always g P
weaker Q x go = record { holds = λ v ts small d. go v (x.holds v ts small d) }

-- of something, where there is one
abbrev pub WhereSome : {A : Type 0} → (A → Type 0) → Option A → Type 0
WhereSome P None = Unit {0}
WhereSome P (Some v) = P v

pub perhaps : {A : Type 0} {g : Grammar A} {P : A → Type 0} → Always g P → Always (optional g) (WhereSome P)
perhaps {A} {g} {P} x = one_of_two (with_such P (given Some (λ a p. p)) x) (given None tt)

-- of each of a list
abbrev pub Each : {A : Type 0} → (A → Type 0) → List A → Type 0
Each P [] = Unit {0}
Each P (x ∷ xs) = P x × Each P xs

-- of each of a list of fewer than 2^32
abbrev pub FewEach : {A : Type 0} → (A → Type 0) → List A → Type 0
FewEach P xs = (length xs < 2 ^ 32) × Each P xs

pub all_each : {A : Type 0} (test : A → Bool) (xs : List A) → Each (λ (x : A). test x ≡ true) xs → list_all test xs ≡ true
all_each test [] h = refl
all_each test (x ∷ xs) h = and_from (test x) (list_all test xs) h.0 (all_each test xs h.1)

pub built_each : {A : Type 0} (test : A → Bool) (xs : List A) → FewEach (λ (x : A). test x ≡ true) xs → built_all test xs ≡ true
built_each test xs h = and_from (nat_lt (length xs) (2 ^ 32)) (list_all test xs) (lt-ltb (length xs) (2 ^ 32) h.0) (all_each test xs h.1)

-- a word with a value
pub worded : {A : Type 0} {P : A → Type 0} {s : Sort} {ss : List Sort} {v : A} → P v → Always (token s ss (λ _. v)) P
worded {s = s} {ss = ss} {v = v} x = tokened s ss (λ _. v) (λ t small e. x)

-- what isn't empty has a token
pub some_tokens : {A : Type 0} (g : Grammar A) (v : A) (ts : List TokenKind) → null g ≡ false → Derives g v ts → 0 < length ts
some_tokens g v [] some d = absurd (let none = nulls g v [] refl d in let e : true ≡ false = sym none ∙ some in cc)
some_tokens g v (t ∷ ts) some d = omega arith

-- several, of which none is empty
pub row_each : {A : Type 0} (P : A → Type 0) (D : A → List TokenKind → Type 0) → ((v : A) (ts : List TokenKind) → AreSmall ts → D v ts → P v × (0 < length ts))
    → (vs : List A) (ts : List TokenKind) → AreSmall ts → Row D vs ts → (length vs ≤ length ts) × Each P vs
row_each P D one [] ts small d = (omega arith, tt)
row_each P D one (v ∷ vs) ts small (front, rest, cut, d, more) =
    let first = one v front (small_left ts front rest cut small) d in
    let tail = row_each P D one vs rest (small_right ts front rest cut small) more in
    let l = ap length cut in
    let parts = length-append front rest in
    let some : 0 < length front = first.1 in
    let few : length vs ≤ length rest = tail.0 in
    (omega arith, (first.0, tail.1))

pub rows : {A : Type 0} {g : Grammar A} {P : A → Type 0} → null g ≡ false → Always g P → (vs : List A) (ts : List TokenKind) → AreSmall ts → Derives (many g) vs ts → (length vs ≤ length ts) × Each P vs
rows {A} {g} {P} some x vs ts small d = row_each P (λ (a : A) (us : List TokenKind). Derives g a us) (λ v us k e. (x.holds v us k e, some_tokens g v us some e)) vs ts small d

pub several : {A : Type 0} {g : Grammar A} {P : A → Type 0} → null g ≡ false → Always g P → Always (many g) (FewEach P)
several {A} {g} {P} some x = record {
  holds = λ vs ts small d. (let r = rows some x vs ts small d in let few : length vs ≤ length ts = r.0 in let n : length ts < 2 ^ 32 = small.0 in (omega arith, r.1));
}

-- behind a comma
pub comma_before : {A : Type 0} {g : Grammar A} {P : A → Type 0} → Always g P → Always (behind_comma g) P
comma_before {P = P} x = with_such P (before (given (λ y. y) (λ a p. p))) x

-- one and several, each with a token at least
pub some_each : {A : Type 0} (P : A → Type 0) (x : A) (xs : List A) (front rest ts : List TokenKind) → ts ≡ front ++ rest → AreSmall ts → 0 < length front → length xs ≤ length rest → P x → Each P xs
    → FewEach P (x ∷ xs)
some_each P x xs front rest ts cut small some few p more =
    let l = ap length cut in let parts = length-append front rest in let n : length ts < 2 ^ 32 = small.0 in (omega arith, (p, more))

-- with commas between, and a mark behind
pub commas : {A : Type 0} {g : Grammar A} {P : A → Type 0} (close : ℕ) → Always g P → Always (listed close g) (FewEach P)
commas {A} {g} {P} close x = record { holds = holds }
  where
    holds : (v : List A) (ts : List TokenKind) → AreSmall ts → Derives (listed close g) v ts → FewEach P v
    holds v ts small (inl (e, m, front, rest, cut, (is, none), mark, same)) = subst (FewEach P) (sym (same ∙ is)) (omega arith, tt)
    holds v ts small (inr (vs, m, front, rest, cut, (f, xs, left, right, parts, (k, a, none, first, here, (k_is, empty), d, f_is), more, made), (t, mark, tt_is, one), same)) =
        let inside = small_left ts front rest cut small in
        let l = ap length cut in
        let n = length-append front rest in
        let r = rows refl (comma_before x) xs right (small_right front left right parts inside) more in
        let few : length xs ≤ length right = r.0 in
        let p = x.holds a first (small_right left none first here (small_left front left right parts inside)) d in
        let is : v ≡ a ∷ xs = same ∙ made ∙ ap (λ z. z xs) f_is ∙ ap (λ z. z a xs) k_is in
        let lp = ap length parts in
        let np = length-append left right in
        let lm = ap length one in
        let most : length ts < 2 ^ 32 = small.0 in
        subst (FewEach P) (sym is) (omega arith, (p, r.1))
