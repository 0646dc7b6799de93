-- What derivations begin with, and one that each grammar has.
use Rattle.std.proofs.Common.{◌≡◌, Bool, true, false, List, [], ◌∷◌, ◌++◌, refl, sym, ◌∙◌, ap, subst, inl, inr, map, Option, Some, None}
use Rattle.std.specs.Prelude.{◌&&◌, not}
use Rattle.std.specs.List.{list_all}
use Rattle.ir_lex.specs.declared.token.TokenKind.{TokenKind}
use Rattle.ir_lex.specs.declared.token.TokenKind.TheVariants as kind
use Rattle.ir_grammar.specs.Brackets.{mark_shape, none}
use Rattle.ir_grammar.specs.Tokens.{mark, Sort, same_sort, has, sort_of, example, is_spellable}
use Rattle.ir_grammar.specs.Grammar.{Grammar, give, token, both, either, many, nest, loop, Row, Behind, Perhaps, Derives}
use Rattle.ir_grammar.specs.Reading.{null, first, next, where_null, apart, is_closing, fine, ending, ending_value}
use Rattle.ir_grammar.proofs.Sets.{same_sort-refl, sort_of-example, and_left, and_right, or_true, or_right, all-append, in_left, in_right}

pub map-append : {A B : Type 0} (f : A → B) (xs ys : List A) → map f (xs ++ ys) ≡ map f xs ++ map f ys
map-append f [] ys = refl
map-append f (x ∷ xs) ys = ap (λ zs. f x ∷ zs) (map-append f xs ys)

-- the parts of no tokens are none
pub none_left : (front rest : List TokenKind) → [] ≡ front ++ rest → front ≡ []
none_left [] rest e = refl
none_left (t ∷ front) rest e = absurd (cc)

pub none_right : (front rest : List TokenKind) → [] ≡ front ++ rest → rest ≡ []
none_right [] rest e = sym e
none_right (t ∷ front) rest e = absurd (cc)

-- what derives to no tokens
pub nulls : {A : Type 0} (g : Grammar A) (v : A) (ts : List TokenKind) → ts ≡ [] → Derives g v ts → null g ≡ true
nulls (give a) v ts e d = refl
nulls (token s ss f) v ts e (t, s_is, f_is, one) = absurd (cc)
nulls (both f g h) v ts e (a, b, front, rest, cut, dg, dh, is) =
    let whole : [] ≡ front ++ rest = sym e ∙ cut in
    let left = nulls g a front (none_left front rest whole) dg in
    let right = nulls h b rest (none_right front rest whole) dh in
    rw left right
nulls (either g h) v ts e (inl d) = or_true (null g) (null h) (nulls g v ts e d)
nulls (either g h) v ts e (inr d) = or_right (null g) (null h) (nulls h v ts e d)
nulls (many g) v ts e d = refl
nulls (nest o c) v ts e (t, rest, cut, s, k) = absurd (cc)
nulls (loop s g h) v ts e d = refl

in_where : (b : Bool) (ss : List Sort) (s : Sort) → b ≡ true → has ss s ≡ true → has (where_null b ss) s ≡ true
in_where true ss s e h = h
in_where false ss s e h = absurd (cc)

-- a row begins as its items do
heads_row : {A : Type 0} (g : Grammar A) (vs : List A) (t : TokenKind) (ts : List TokenKind)
    → ((v : A) (us : List TokenKind) → Derives g v (t ∷ us) → has (first g) (sort_of t) ≡ true)
    → Row (λ (a : A) (us : List TokenKind). Derives g a us) vs (t ∷ ts) → has (first g) (sort_of t) ≡ true
heads_row g [] t ts head d = absurd (cc)
heads_row g (v ∷ vs) t ts head ([], rest, cut, d, more) = heads_row g vs t ts head (subst (Row (λ (a : _) (us : List TokenKind). Derives g a us) vs) (sym cut) more)
heads_row g (v ∷ vs) t ts head (u ∷ front, rest, cut, d, more) =
    let same : u ≡ t = cc in
    head v front (subst (λ x. Derives g v (x ∷ front)) same d)

-- what stands behind a separator begins as it does, or as the separator
heads_behind : {A : Type 0} (s : Grammar (Unit {0})) (g : Grammar A) (others : List Sort) (v : A) (t : TokenKind) (ts : List TokenKind)
    → ((v : Unit {0}) (us : List TokenKind) → Derives s v (t ∷ us) → has (first s) (sort_of t) ≡ true)
    → ((v : A) (us : List TokenKind) → Derives g v (t ∷ us) → has others (sort_of t) ≡ true)
    → Behind (λ us. Derives s tt us) (λ (a : A) (us : List TokenKind). Derives g a us) v (t ∷ ts) → has (first s ++ where_null (null s) others) (sort_of t) ≡ true
heads_behind s g others v t ts head_s head_g ([], rest, cut, ds, dg) =
    in_right (first s) (where_null (null s) others) (sort_of t) (in_where (null s) others (sort_of t) (nulls s tt [] refl ds) (head_g v ts (subst (Derives g v) (sym cut) dg)))
heads_behind s g others v t ts head_s head_g (u ∷ front, rest, cut, ds, dg) =
    let same : u ≡ t = cc in
    in_left (first s) (where_null (null s) others) (sort_of t) (head_s tt front (subst (λ x. Derives s tt (x ∷ front)) same ds))

-- a row of such things begins so
heads_rounds : {A : Type 0} (D : A → List TokenKind → Type 0) (sorts : List Sort) (vs : List A) (t : TokenKind) (front rest ts : List TokenKind)
    → ((v : A) (us : List TokenKind) → D v (t ∷ us) → has sorts (sort_of t) ≡ true) → (rest ≡ t ∷ ts → has sorts (sort_of t) ≡ true)
    → t ∷ ts ≡ front ++ rest → Row D vs front → has sorts (sort_of t) ≡ true
heads_rounds D sorts [] t front rest ts head last cut d = last (sym (cut ∙ ap (λ x. x ++ rest) d))
heads_rounds D sorts (v ∷ vs) t front rest ts head last cut ([], right, parts, d, more) =
    heads_rounds D sorts vs t right rest ts head last (cut ∙ ap (λ x. x ++ rest) parts) more
heads_rounds D sorts (v ∷ vs) t front rest ts head last cut (u ∷ left, right, parts, d, more) =
    let whole : t ∷ ts ≡ u ∷ (left ++ right) ++ rest = cut ∙ ap (λ x. x ++ rest) parts in
    let same : u ≡ t = cc in
    head v left (subst (λ x. D v (x ∷ left)) same d)

heads_last : {B : Type 0} (D : B → List TokenKind → Type 0) (sorts : List Sort) (v : Option B) (t : TokenKind) (rest ts : List TokenKind)
    → ((v : B) (us : List TokenKind) → D v (t ∷ us) → has sorts (sort_of t) ≡ true) → Perhaps D v rest → rest ≡ t ∷ ts → has sorts (sort_of t) ≡ true
heads_last D sorts None t rest ts head d e = absurd (cc)
heads_last D sorts (Some v) t rest ts head d e = head v ts (subst (D v) e d)

-- what derives begins with one of the first sorts
pub heads : {A : Type 0} (g : Grammar A) (v : A) (t : TokenKind) (ts : List TokenKind) → Derives g v (t ∷ ts) → has (first g) (sort_of t) ≡ true
heads (give a) v t ts d = absurd (let none = d.1 in cc)
heads (token s ss f) v t ts (u, s_is, f_is, one) =
    let same : u ≡ t = cc in
    subst (λ x. has (s ∷ ss) (sort_of x) ≡ true) same s_is
heads (both f g h) v t ts (a, b, [], rest, cut, dg, dh, is) =
    in_right (first g) (where_null (null g) (first h)) (sort_of t)
    (in_where (null g) (first h) (sort_of t) (nulls g a [] refl dg) (heads h b t ts (subst (Derives h b) (sym cut) dh)))
heads (both f g h) v t ts (a, b, u ∷ front, rest, cut, dg, dh, is) =
    let same : u ≡ t = cc in
    in_left (first g) (where_null (null g) (first h)) (sort_of t) (heads g a t front (subst (λ x. Derives g a (x ∷ front)) same dg))
heads (either g h) v t ts (inl d) = in_left (first g) (first h) (sort_of t) (heads g v t ts d)
heads (either g h) v t ts (inr d) = in_right (first g) (first h) (sort_of t) (heads h v t ts d)
heads (many g) v t ts d = heads_row g v t ts (λ w us. heads g w t us) d
heads (nest o c) v t ts (u, rest, cut, s, k) =
    let same : u ≡ t = cc in
    let is : mark o ≡ sort_of t = sym s ∙ ap sort_of same in
    or_true (same_sort (mark o) (sort_of t)) false (subst (λ x. same_sort (mark o) x ≡ true) is (same_sort-refl (mark o)))
heads (loop {A} {B} s g h) v t ts (front, rest, cut, row, last) =
    let sorts = first s ++ where_null (null s) (first g ++ first h) in
    heads_rounds (Behind (λ us. Derives s tt us) (λ (a : A) (us : List TokenKind). Derives g a us)) sorts v.0 t front rest ts
    (λ a us d. heads_behind s g (first g ++ first h) a t us (λ w xs. heads s w t xs) (λ w xs e. in_left (first g) (first h) (sort_of t) (heads g w t xs e)) d)
    (λ e. heads_last (Behind (λ us. Derives s tt us) (λ (b : B) (us : List TokenKind). Derives h b us)) sorts v.1 t rest ts
    (λ b us d. heads_behind s h (first g ++ first h) b t us (λ w xs. heads s w t xs) (λ w xs e. in_right (first g) (first h) (sort_of t) (heads h w t xs e)) d)
    last e)
    cut row

-- the example of a sort is of it
pub has-example : (s : Sort) (ss : List Sort) → has (s ∷ ss) (sort_of (example s)) ≡ true
has-example s ss = or_true (same_sort s (sort_of (example s))) (has ss (sort_of (example s))) (subst (λ x. same_sort s x ≡ true) (sym (sort_of-example s)) (same_sort-refl s))

-- each grammar has a text
pub ends : {A : Type 0} (g : Grammar A) → Derives g (ending_value g) (map example (ending g))
ends (give a) = (refl, refl)
ends (token s ss f) = (example s, has-example s ss, refl, refl)
ends (both f g h) =
    (ending_value g, ending_value h, map example (ending g), map example (ending h), map-append example (ending g) (ending h), ends g, ends h, refl)
ends (either g h) = inl (ends g)
ends (many g) = refl
ends (nest o c) = (kind.Mark o, kind.Mark c ∷ [], refl, refl, ([], refl, none))
ends (loop s g h) = ([], [], refl, refl, refl)

-- that text has a spelling
pub spelled-ending : {A : Type 0} (g : Grammar A) → fine g ≡ true → list_all is_spellable (ending g) ≡ true
spelled-ending (give a) ok = refl
spelled-ending (token s ss f) ok = rw ok refl
spelled-ending (both f g h) ok =
    let more = and_right (fine g) (fine h && apart (next g) (first h)) ok in
    all-append is_spellable (ending g) (ending h) (spelled-ending g (and_left (fine g) (fine h && apart (next g) (first h)) ok))
    (spelled-ending h (and_left (fine h) (apart (next g) (first h)) more))
spelled-ending (either g h) ok = spelled-ending g (and_left (fine g) (fine h && (not (null g) && apart (first g) (first h))) ok)
spelled-ending (many g) ok = refl
spelled-ending (nest o c) ok =
    let a = and_left (is_spellable (mark o)) (is_spellable (mark c) && is_closing (mark_shape c)) ok in
    let b = and_left (is_spellable (mark c)) (is_closing (mark_shape c)) (and_right (is_spellable (mark o)) (is_spellable (mark c) && is_closing (mark_shape c)) ok) in
    rw a (rw b refl)
spelled-ending (loop s g h) ok = refl
