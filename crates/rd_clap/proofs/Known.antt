-- A line has no options but those that are wanted.
use Rattle.std.proofs.Common.{◌≡◌, ℕ, zero, suc, ◌+◌, ◌≤◌, Bool, true, false, List, [], ◌∷◌, length, refl, sym, ◌∙◌, ap, subst, arith}
use Rattle.std.specs.Cmp.Lexicographic.{same_text}
use Rattle.clap.specs.Simple.{Shape}
use Rattle.clap.specs.Walk.{Text}
use Rattle.rd_words.specs.Arguments.{Argument, File, Given, AllGiven, IsLine, files, same, values, with_value}
use Rattle.rd_clap.proofs.Walks.{AllKnown, IsKnown}

abbrev pub hits : Bool → ℕ
hits true = 1
hits false = 0

-- how often an option is among options
abbrev pub count_in : List Text → Text → ℕ
count_in [] o = 0
count_in (x ∷ rest) o = hits (same x o) + count_in rest o

abbrev pub total : List Text → List Argument → ℕ
total [] args = 0
total (x ∷ rest) args = length (values x args) + total rest args

abbrev pub misses : ℕ → ℕ
misses zero = 1
misses (suc n) = 0

-- how many arguments are other options
abbrev pub strange : List Text → List Argument → ℕ
strange os [] = 0
strange os (File name ∷ rest) = strange os rest
strange os (Given o v ∷ rest) = misses (count_in os o) + strange os rest

length_more : (v : Text) (vs : List Text) → length (v ∷ vs) ≡ 1 + length vs
length_more v vs = omega arith

zero_more : (n : ℕ) → n ≡ 0 + n
zero_more n = omega arith

value_counts : (b : Bool) (v : Text) (vs : List Text) → length (with_value b v vs) ≡ hits b + length vs
value_counts true v vs = length_more v vs
value_counts false v vs = zero_more (length vs)

total_more : (os : List Text) (o v : Text) (args : List Argument) → total os (Given o v ∷ args) ≡ count_in os o + total os args
total_more [] o v args = refl
total_more (x ∷ rest) o v args =
    let a = value_counts (same x o) v (values x args) in
    let b = total_more rest o v args in
    omega (arith, a, b)

total_file : (os : List Text) (name : Text) (args : List Argument) → total os (File name ∷ args) ≡ total os args
total_file [] name args = refl
total_file (x ∷ rest) name args = ap (λ n. length (values x args) + n) (total_file rest name args)

total_none : (os : List Text) → total os [] ≡ 0
total_none [] = refl
total_none (x ∷ rest) = let e = total_none rest in omega (arith, e)

abbrev pub AreApart : List Text → Type 0
AreApart os = (o : Text) → count_in os o ≤ 1

few : 1 ≤ 1
few = omega arith

once_or_missed : (n : ℕ) → n ≤ 1 → n + misses n ≤ 1
once_or_missed zero h = few
once_or_missed (suc zero) h = few
once_or_missed (suc (suc n)) h = absurd (omega arith)

bound : (os : List Text) → AreApart os → (args : List Argument) → length (files args) + total os args + strange os args ≤ length args
bound os apart [] = let e = total_none os in omega (arith, e)
bound os apart (File name ∷ rest) =
    let e = total_file os name rest in
    let more = bound os apart rest in
    omega (arith, e, more)
bound os apart (Given o v ∷ rest) =
    let e = total_more os o v rest in
    let few = once_or_missed (count_in os o) (apart o) in
    let more = bound os apart rest in
    omega (arith, e, few, more)

pub none_apart : AreApart []
none_apart o = omega arith

-- one option more, which isn't among the others
pub more_apart : (x : Text) (rest : List Text) → AreApart rest → count_in rest x ≡ 0 → AreApart (x ∷ rest)
more_apart x rest apart new o = by (same x o) refl
  where
    by : (b : Bool) → same x o ≡ b → hits b + count_in rest o ≤ 1
    by true e =
        let is : x ≡ o = same_text x o (sym e) in
        let none : count_in rest o ≡ 0 = subst (λ y. count_in rest y ≡ 0) is new in
        omega (arith, none)
    by false e = let few = apart o in omega (arith, few)

abbrev pub KnownOptions : Shape → List Text → Type 0
KnownOptions s [] = Unit {0}
KnownOptions s (x ∷ rest) = IsKnown s x × KnownOptions s rest

known_one : (s : Shape) (os : List Text) (o : Text) → KnownOptions s os → misses (count_in os o) ≡ 0 → IsKnown s o
known_one s [] o known h = absurd (omega (arith, h))
known_one s (x ∷ rest) o known h = by (same x o) refl h (λ k. known_one s rest o known.1 k)
  where
    by : (b : Bool) → same x o ≡ b → misses (hits b + count_in rest o) ≡ 0 → (misses (count_in rest o) ≡ 0 → IsKnown s o) → IsKnown s o
    by true e k go = subst (IsKnown s) (same_text x o (sym e)) known.0
    by false e k go = go (ap misses (zero_more (count_in rest o)) ∙ k)

known_all : (s : Shape) (os : List Text) (args : List Argument) → KnownOptions s os → strange os args ≡ 0 → AllKnown s args
known_all s os [] known h = tt
known_all s os (File name ∷ rest) known h = known_all s os rest known h
known_all s os (Given o v ∷ rest) known h =
    let here : misses (count_in os o) ≡ 0 = omega (arith, h) in
    let there : strange os rest ≡ 0 = omega (arith, h) in
    (known_one s os o known here, known_all s os rest known there)

-- the options among arguments
abbrev pub options : List Argument → List Text
options [] = []
options (File name ∷ rest) = options rest
options (Given o v ∷ rest) = o ∷ options rest

total_is : (args wanted : List Argument) → AllGiven args wanted → total (options wanted) args ≡ length (options wanted)
total_is args [] h = refl
total_is args (File name ∷ wanted) h = total_is args wanted h.1
total_is args (Given o v ∷ wanted) h =
    let one : length (values o args) ≡ 1 = ap (λ (vs : List Text). length vs) h.0 in
    let more = total_is args wanted h.1 in
    omega (arith, one, more)

-- a line with a file and these options alone has options that the command knows
pub line_is_known : (s : Shape) (words : List Text) (command name : Text) (wanted : List Argument) → (l : IsLine words command (File name ∷ wanted)) → length wanted ≡ length (options wanted) → AreApart (options wanted) → KnownOptions s (options wanted) → AllKnown s l.args
line_is_known s words command name wanted l same_length apart known =
    let one : length (files l.args) ≡ 1 = ap (λ (ws : List Text). length ws) l.each_once.0 in
    let all = total_is l.args wanted l.each_once.1 in
    let most = bound (options wanted) apart l.args in
    let count = l.no_more in
    let none : strange (options wanted) l.args ≡ 0 = omega (arith, one, all, most, count, same_length) in
    known_all s (options wanted) l.args known none

no_files : (args : List Argument) → length (files args) ≡ 0 → files args ≡ []
no_files args h = by (files args) refl h
  where
    by : (fs : List Text) → files args ≡ fs → length fs ≡ 0 → files args ≡ []
    by [] e k = e
    by (f ∷ fs) e k = absurd (omega (arith, k))

-- the arguments of a line with these options alone: known options, and no file
pub record AreBare (s : Shape) (args : List Argument) : Type 0 where
  pub known : AllKnown s args
  pub none : files args ≡ []

pub line_is_bare : (s : Shape) (words : List Text) (command : Text) (wanted : List Argument) → (l : IsLine words command wanted) → length wanted ≡ length (options wanted) → AreApart (options wanted) → KnownOptions s (options wanted) → AreBare s l.args
line_is_bare s words command wanted l same_length apart known =
    let all = total_is l.args wanted l.each_once in
    let most = bound (options wanted) apart l.args in
    let count = l.no_more in
    let strangers : strange (options wanted) l.args ≡ 0 = omega (arith, all, most, count, same_length) in
    let one : length (files l.args) ≡ 0 = omega (arith, all, most, count, same_length) in
    record { known = known_all s (options wanted) l.args known strangers; none = no_files l.args one }
