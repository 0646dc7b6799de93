-- Sorts, and lists of them.
use Rattle.std.proofs.Common.{◌≡◌, ℕ, Bool, true, false, List, [], ◌∷◌, ◌++◌, refl, sym, ◌∙◌, ap}
use Rattle.std.specs.Prelude.{◌&&◌, ◌||◌, not, ◌==◌}
use Rattle.std.specs.List.{list_all}
use Rattle.std.proofs.lemmas.Bool.{eqb-true, eq-eqb}
use Rattle.ir_lex.specs.declared.token.TokenKind.{TokenKind}
use Rattle.ir_grammar.specs.Tokens.{Sort, word, mark, label, cstr, str, count, number, local, global, debug_global, meta, meta_number, hash, debug_hash, same_word, same_sort, has, starts, sort_of, example}
use Rattle.ir_grammar.specs.Reading.{apart}

pub and_left : (a b : Bool) → a && b ≡ true → a ≡ true
and_left true b e = refl
and_left false b e = absurd (cc)

pub and_right : (a b : Bool) → a && b ≡ true → b ≡ true
and_right true b e = e
and_right false b e = absurd (cc)

pub not_true : (a : Bool) → not a ≡ true → a ≡ false
not_true true e = absurd (cc)
not_true false e = refl

pub same_word-refl : (w : List ℕ) → same_word w w ≡ true
same_word-refl [] = refl
same_word-refl (x ∷ xs) = rw (eq-eqb x x refl) (same_word-refl xs)

pub same_word-true : (v w : List ℕ) → same_word v w ≡ true → v ≡ w
same_word-true [] [] e = refl
same_word-true [] (y ∷ ys) e = absurd (cc)
same_word-true (x ∷ xs) [] e = absurd (cc)
same_word-true (x ∷ xs) (y ∷ ys) e =
    let h = eqb-true x y (and_left (x == y) (same_word xs ys) e) in
    let t = same_word-true xs ys (and_right (x == y) (same_word xs ys) e) in
    cc

pub same_sort-refl : (s : Sort) → same_sort s s ≡ true
same_sort-refl (word w) = same_word-refl w
same_sort-refl (mark m) = eq-eqb m m refl
same_sort-refl label = refl
same_sort-refl cstr = refl
same_sort-refl str = refl
same_sort-refl count = refl
same_sort-refl number = refl
same_sort-refl local = refl
same_sort-refl global = refl
same_sort-refl debug_global = refl
same_sort-refl meta = refl
same_sort-refl meta_number = refl
same_sort-refl hash = refl
same_sort-refl debug_hash = refl

pub same_sort-true : (r s : Sort) → same_sort r s ≡ true → r ≡ s
same_sort-true (word v) (word w) e = ap word (same_word-true v w e)
same_sort-true (mark m) (mark n) e = ap mark (eqb-true m n e)
same_sort-true label label e = refl
same_sort-true cstr cstr e = refl
same_sort-true str str e = refl
same_sort-true count count e = refl
same_sort-true number number e = refl
same_sort-true local local e = refl
same_sort-true global global e = refl
same_sort-true debug_global debug_global e = refl
same_sort-true meta meta e = refl
same_sort-true meta_number meta_number e = refl
same_sort-true hash hash e = refl
same_sort-true debug_hash debug_hash e = refl
same_sort-true _ _ e = absurd (cc)

pub sort_of-example : (s : Sort) → sort_of (example s) ≡ s
sort_of-example (word w) = refl
sort_of-example (mark m) = refl
sort_of-example label = refl
sort_of-example cstr = refl
sort_of-example str = refl
sort_of-example count = refl
sort_of-example number = refl
sort_of-example local = refl
sort_of-example global = refl
sort_of-example debug_global = refl
sort_of-example meta = refl
sort_of-example meta_number = refl
sort_of-example hash = refl
sort_of-example debug_hash = refl

pub or_true : (a b : Bool) → a ≡ true → a || b ≡ true
or_true true b e = refl
or_true false b e = absurd (cc)

pub or_right : (a b : Bool) → b ≡ true → a || b ≡ true
or_right true b e = refl
or_right false b e = e

pub or_false : (a b : Bool) → a || b ≡ false → (a ≡ false) × (b ≡ false)
or_false true b e = absurd (cc)
or_false false b e = (refl, e)

pub or_none : (a b : Bool) → a ≡ false → b ≡ false → a || b ≡ false
or_none true b e f = absurd (cc)
or_none false b e f = f

pub all-append : {A : Type 0} (test : A → Bool) (xs ys : List A) → list_all test xs ≡ true → list_all test ys ≡ true → list_all test (xs ++ ys) ≡ true
all-append test [] ys e f = f
all-append test (x ∷ xs) ys e f =
    let more = all-append test xs ys (and_right (test x) (list_all test xs) e) f in
    rw (and_left (test x) (list_all test xs) e) more

or_assoc : (a b c : Bool) → (a || b) || c ≡ a || (b || c)
or_assoc true b c = refl
or_assoc false b c = refl

pub has-append : (rs ss : List Sort) (s : Sort) → has (rs ++ ss) s ≡ has rs s || has ss s
has-append [] ss s = refl
has-append (r ∷ rs) ss s = ap (λ b. same_sort r s || b) (has-append rs ss s) ∙ sym (or_assoc (same_sort r s) (has rs s) (has ss s))

pub starts-append : (rs ss : List Sort) (ts : List TokenKind) → starts (rs ++ ss) ts ≡ starts rs ts || starts ss ts
starts-append rs ss [] = refl
starts-append rs ss (t ∷ ts) = has-append rs ss (sort_of t)

-- none of both lists
pub starts_neither : (rs ss : List Sort) (ts : List TokenKind) → starts (rs ++ ss) ts ≡ false → (starts rs ts ≡ false) × (starts ss ts ≡ false)
starts_neither rs ss ts e = or_false (starts rs ts) (starts ss ts) (sym (starts-append rs ss ts) ∙ e)

pub in_left : (rs ss : List Sort) (s : Sort) → has rs s ≡ true → has (rs ++ ss) s ≡ true
in_left rs ss s e = has-append rs ss s ∙ or_true (has rs s) (has ss s) e

pub in_right : (rs ss : List Sort) (s : Sort) → has ss s ≡ true → has (rs ++ ss) s ≡ true
in_right rs ss s e = has-append rs ss s ∙ or_right (has rs s) (has ss s) e

-- a sort of the one list is not in the other
pub apart_has : (rs ss : List Sort) (s : Sort) → apart rs ss ≡ true → has ss s ≡ true → has rs s ≡ false
apart_has [] ss s e h = refl
apart_has (r ∷ rs) ss s e h = or_none (same_sort r s) (has rs s) (other_by (same_sort r s) refl) (apart_has rs ss s (and_right (not (has ss r)) (apart rs ss) e) h)
  where
    other_by : (b : Bool) → same_sort r s ≡ b → b ≡ false
    other_by false q = refl
    other_by true q =
        let same = same_sort-true r s q in
        let out = not_true (has ss r) (and_left (not (has ss r)) (apart rs ss) e) in
        let inside : has ss r ≡ true = ap (has ss) same ∙ h in
        absurd (let both : true ≡ false = sym inside ∙ out in cc)
