-- Types.
use Rattle.std.specs.Prelude.{ℕ, List, [], ◌∷◌, ◌++◌, codes, decimal}
use Rattle.rd_num.specs.declared.width.Width.{Width}
use Rattle.rd_num.specs.declared.width.Width.TheVariants.{W1, W8, W16, W32, W64}
use Rattle.ir_core.specs.declared.ty.Ty.{Ty, fold-Ty}
use Rattle.ir_core.specs.declared.ty.Ty.TheOpen.{Ty-F}
use Rattle.ir_print.specs.Names.{local_text, with_commas}

abbrev pub width_text : Width → List ℕ
width_text W1 = codes "i1"
width_text W8 = codes "i8"
width_text W16 = codes "i16"
width_text W32 = codes "i32"
width_text W64 = codes "i64"

-- `{}`, or `{ i32, ptr }`
abbrev pub braced : List (List ℕ) → List ℕ
braced [] = codes "{}"
braced (t ∷ ts) = codes "{ " ++ with_commas (λ x. x) (t ∷ ts) ++ codes " }"

-- one level, with the texts of its parts
abbrev pub type_level : Ty-F (List ℕ) → List ℕ
type_level Ty-F.Void = codes "void"
type_level (Ty-F.Int w) = width_text w
type_level Ty-F.Ptr = codes "ptr"
type_level (Ty-F.Array n t) = codes "[" ++ decimal n ++ codes " x " ++ t ++ codes "]"
type_level (Ty-F.Struct ts) = braced ts
type_level (Ty-F.Packed ts) = codes "<" ++ braced ts ++ codes ">"
type_level (Ty-F.Named name) = local_text name

abbrev pub type_text : Ty → List ℕ
type_text = fold-Ty (List ℕ) type_level
