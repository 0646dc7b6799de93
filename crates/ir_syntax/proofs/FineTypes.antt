-- One token ahead is enough for types.
use Rattle.std.proofs.Common.{◌≡◌, ℕ, zero, suc, false, [], ◌∷◌, ◌++◌, refl, append-nil}
use Rattle.std.specs.Prelude.{codes}
use Rattle.ir_core.specs.declared.ty.Ty.{Ty}
use Rattle.ir_grammar.specs.Tokens.{word, mark, local, has}
use Rattle.ir_grammar.specs.Grammar.{Grammar, either}
use Rattle.ir_grammar.specs.Parts.{behind_comma}
use Rattle.ir_grammar.specs.Reading.{first}
use Rattle.ir_grammar.proofs.Closed.{Closed}
use Rattle.ir_grammar.proofs.Rows.{Item}
use Rattle.ir_syntax.specs.Words.{words_from}
use Rattle.ir_syntax.specs.Types.{itype, simple_type, array_type, plain_struct, packed_struct, struct_type, type_at, ty, fields_type, rtype}

pub closed-itype : Closed itype
unfolding itype
closed-itype = record { good = refl; some = refl; ends = refl }

pub closed-simple_type : Closed simple_type
unfolding simple_type
closed-simple_type = record { good = refl; some = refl; ends = refl }

closed-array_type : (g : Grammar Ty) → Closed g → Closed (array_type g)
unfolding array_type
closed-array_type g c = let f = c.good in let s = c.some in let e = c.ends in record { good = simp (f, s, e); some = refl; ends = refl }

closed-plain_struct : (g : Grammar Ty) → Closed g → has (first g) (mark 125) ≡ false → Closed (plain_struct g)
unfolding plain_struct
closed-plain_struct g c h =
    let f = c.good in let s = c.some in let e = c.ends in record { good = simp (f, s, e, append-nil, h); some = refl; ends = simp s }

closed-packed_struct : (g : Grammar Ty) → Closed g → has (first g) (mark 125) ≡ false → Closed (packed_struct g)
unfolding packed_struct
closed-packed_struct g c h =
    let f = c.good in let s = c.some in let e = c.ends in record { good = simp (f, s, e, append-nil, h); some = refl; ends = refl }

first-plain_struct : (g : Grammar Ty) → first (plain_struct g) ≡ mark 123 ∷ []
unfolding plain_struct
first-plain_struct g = refl

first-packed_struct : (g : Grammar Ty) → first (packed_struct g) ≡ mark 60 ∷ []
unfolding packed_struct
first-packed_struct g = refl

first-array_type : (g : Grammar Ty) → first (array_type g) ≡ mark 91 ∷ []
unfolding array_type
first-array_type g = refl

closed-either : (a b : Grammar Ty) (m n : ℕ) → Closed a → Closed b → first a ≡ mark m ∷ [] → first b ≡ mark n ∷ [] → has (mark n ∷ []) (mark m) ≡ false → Closed (either a b)
closed-either a b m n x y e f h =
    let xg = x.good in let xs = x.some in let xe = x.ends in let yg = y.good in let ys = y.some in let ye = y.ends in
    record { good = simp (e, f, xg, xs, yg, h); some = simp (xs, ys); ends = simp (xe, ye, xs, ys) }

closed-struct_type : (g : Grammar Ty) → Closed g → has (first g) (mark 125) ≡ false → Closed (struct_type g)
unfolding struct_type
closed-struct_type g c h =
    closed-either (plain_struct g) (packed_struct g) 123 60 (closed-plain_struct g c h) (closed-packed_struct g c h) (first-plain_struct g) (first-packed_struct g) refl

pub first-struct_type : (g : Grammar Ty) → first (struct_type g) ≡ mark 123 ∷ mark 60 ∷ []
unfolding struct_type plain_struct packed_struct
first-struct_type g = refl

closed-deep : (a t : Grammar Ty) → Closed a → Closed t → first a ≡ mark 91 ∷ [] → first t ≡ mark 123 ∷ mark 60 ∷ [] → Closed (either simple_type (either a t))
unfolding simple_type
closed-deep a t x y e f =
    let xg = x.good in let xs = x.some in let xe = x.ends in let yg = y.good in let ys = y.some in let ye = y.ends in
    record { good = simp (e, f, xg, xs, yg); some = simp (xs, ys); ends = simp (xe, ye, xs, ys) }

no_brace : (n : ℕ) → has (first (type_at n)) (mark 125) ≡ false
unfolding type_at simple_type array_type struct_type plain_struct packed_struct
no_brace zero = refl
no_brace (suc n) = refl

pub closed-type_at : (n : ℕ) → Closed (type_at n)
unfolding type_at
closed-type_at zero = closed-simple_type
closed-type_at (suc n) =
    closed-deep (array_type (type_at n)) (struct_type (type_at n)) (closed-array_type (type_at n) (closed-type_at n))
    (closed-struct_type (type_at n) (closed-type_at n) (no_brace n)) (first-array_type (type_at n)) (first-struct_type (type_at n))

pub first-ty : first ty ≡ words_from [] (codes "i1 i8 i16 i32 i64 ptr") ++ local ∷ mark 91 ∷ mark 123 ∷ mark 60 ∷ []
unfolding ty type_at simple_type array_type struct_type plain_struct packed_struct
first-ty = refl

pub closed-ty : Closed ty
unfolding ty
closed-ty = closed-type_at 64

pub closed-fields_type : Closed fields_type
unfolding fields_type
closed-fields_type = closed-struct_type (type_at 63) (closed-type_at 63) (no_brace 63)

pub closed-rtype : Closed rtype
unfolding rtype
closed-rtype = let f = closed-ty.good in let s = closed-ty.some in let e = closed-ty.ends in record { good = simp (f, s, e, first-ty); some = simp s; ends = simp (s, e) }

pub first-rtype : first rtype ≡ word (codes "void") ∷ first ty
unfolding rtype
first-rtype = refl

-- a field of a struct with so many levels left, behind a comma
pub item-field : (n : ℕ) → Item (behind_comma (type_at n))
item-field n = let c = closed-type_at n in let f = c.good in record { good = simp f; some = refl }
