-- Types.
use Rattle.std.specs.Prelude.{ℕ, zero, suc, [], ◌∷◌, codes}
use Rattle.rd_num.specs.declared.width.Width.TheVariants.{W1, W8, W16, W32, W64}
use Rattle.ir_core.specs.declared.ty.Ty.{Ty}
use Rattle.ir_core.specs.declared.ty.Ty.TheVariants as type_of
use Rattle.ir_grammar.specs.Grammar.{Grammar, give, either, ◌▸◌, ◌▹◌}
use Rattle.ir_grammar.specs.Parts.{the_word, the_mark, a_count, a_local, listed}
use Rattle.ir_syntax.specs.Words.{by_word}

-- itype = "i8" | "i16" | "i32" | "i64"
unfoldable pub itype : Grammar Ty
itype =
    by_word (codes "i8", type_of.Int W8) ((codes "i16", type_of.Int W16) ∷ (codes "i32", type_of.Int W32) ∷ (codes "i64", type_of.Int W64) ∷ [])

-- "i1" | itype | "ptr" | Local
unfoldable pub simple_type : Grammar Ty
simple_type =
    either
    (by_word (codes "i1", type_of.Int W1)
    ((codes "i8", type_of.Int W8) ∷ (codes "i16", type_of.Int W16) ∷ (codes "i32", type_of.Int W32) ∷ (codes "i64", type_of.Int W64)
    ∷ (codes "ptr", type_of.Ptr) ∷ []))
    (give type_of.Named ▸ a_local)

-- "[" Int "x" type "]", by the grammar of its element
unfoldable pub array_type : Grammar Ty → Grammar Ty
array_type g = give type_of.Array ▹ the_mark 91 ▸ a_count ▹ the_word (codes "x") ▸ g ▹ the_mark 93

-- "{" [ type { "," type } ] "}"
unfoldable pub plain_struct : Grammar Ty → Grammar Ty
plain_struct g = give type_of.Struct ▹ the_mark 123 ▸ listed 125 g

-- "<" "{" [ type { "," type } ] "}" ">"
unfoldable pub packed_struct : Grammar Ty → Grammar Ty
packed_struct g = give type_of.Packed ▹ the_mark 60 ▹ the_mark 123 ▸ listed 125 g ▹ the_mark 62

-- struct = "{" [ type { "," type } ] "}" | "<" "{" [ type { "," type } ] "}" ">"
unfoldable pub struct_type : Grammar Ty → Grammar Ty
struct_type g = either (plain_struct g) (packed_struct g)

-- a type of so many levels at most
unfoldable pub type_at : ℕ → Grammar Ty
type_at zero = simple_type
type_at (suc n) = either simple_type (either (array_type (type_at n)) (struct_type (type_at n)))

-- type = "i1" | itype | "ptr" | Local | struct | "[" Int "x" type "]"
unfoldable pub ty : Grammar Ty
ty = type_at 64

-- the struct of a named type
unfoldable pub fields_type : Grammar Ty
fields_type = struct_type (type_at 63)

-- rtype = type | "void"
unfoldable pub rtype : Grammar Ty
rtype = either (give type_of.Void ▹ the_word (codes "void")) ty
