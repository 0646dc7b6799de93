-- How types lie in memory: size, alignment, and where their parts stand.
use Rattle.std.specs.Prelude.{ℕ, zero, suc, ◌+◌, ◌*◌, ◌-◌, ◌/◌, max, map, List, [], ◌∷◌, Option, Some, None, option_map}
use Rattle.rd_num.specs.declared.width.Width.{Width}
use Rattle.rd_num.specs.Number.{bits}
use Rattle.ir_core.specs.declared.ty.Ty.{Ty, fold-Ty}
use Rattle.ir_core.specs.declared.ty.Ty.TheOpen.{Ty-F}
use Rattle.ir_core.specs.declared.ty.NamedTy.{NamedTy}
use Rattle.ir_core.specs.declared.limit.TheConstants.{MAX_NESTING}
use Rattle.ir_core.specs.Names.{same_name, first_where}

-- bytes, and the place of the part that a row of indices leads to, where there is one
pub record Shape : Type 0 where
  pub size : ℕ
  pub align : ℕ
  pub part : List ℕ → Option ℕ

-- the least multiple of a number that isn't below n
abbrev pub rounded : ℕ → ℕ → ℕ
rounded n to = (n + (to - 1)) / to * to

-- bytes of a number of a width
abbrev pub bytes_of : Width → ℕ
bytes_of w = (bits w + 7) / 8

-- no index leads to the whole
abbrev pub whole_part : List ℕ → Option ℕ
whole_part [] = Some 0
whole_part (i ∷ is) = None

-- a number or a pointer has no parts, and is aligned to its size
abbrev pub single : ℕ → Shape
single n = record { size = n; align = n; part = whole_part }

-- what has no bytes
abbrev pub nothing : Shape
nothing = record { size = 0; align = 1; part = whole_part }

-- elements one after another; an index may be any number, also past the last element
abbrev pub part_of_array : Shape → List ℕ → Option ℕ
part_of_array of [] = Some 0
part_of_array of (i ∷ is) = option_map (λ at. i * of.size + at) (of.part is)

-- an array is aligned as its elements
abbrev pub array : ℕ → Shape → Shape
array n of = record { size = n * of.size; align = of.align; part = part_of_array of }

-- where fields end that begin at a place, each at the next multiple of its alignment
abbrev pub fields_end : ℕ → List Shape → ℕ
fields_end at [] = at
fields_end at (f ∷ fs) = fields_end (rounded at f.align + f.size) fs

-- the alignment of a struct
abbrev pub greatest_align : List Shape → ℕ
greatest_align [] = 1
greatest_align (f ∷ fs) = max f.align (greatest_align fs)

-- into field i of those that begin at a place
abbrev pub part_of_field : ℕ → List Shape → ℕ → List ℕ → Option ℕ
part_of_field at [] i is = None
part_of_field at (f ∷ fs) zero is = option_map (λ n. rounded at f.align + n) (f.part is)
part_of_field at (f ∷ fs) (suc i) is = part_of_field (rounded at f.align + f.size) fs i is

-- into a struct
abbrev pub part_of_struct : List Shape → List ℕ → Option ℕ
part_of_struct fields [] = Some 0
part_of_struct fields (i ∷ is) = part_of_field 0 fields i is

-- a struct, whose size is rounded up to its alignment
abbrev pub struct : List Shape → Shape
struct fields = record { size = rounded (fields_end 0 fields) (greatest_align fields); align = greatest_align fields; part = part_of_struct fields }

-- the fields of a packed struct stand as if each were aligned to one byte
abbrev pub unaligned : List Shape → List Shape
unaligned fields = map (λ (f : Shape). record f { align = 1 }) fields

-- one level, whose parts have these shapes
abbrev pub shape_at : (List ℕ → Shape) → Ty-F Shape → Shape
shape_at named Ty-F.Void = nothing
shape_at named (Ty-F.Int w) = single (bytes_of w)
shape_at named Ty-F.Ptr = single 8
shape_at named (Ty-F.Array n of) = array n of
shape_at named (Ty-F.Struct fields) = struct fields
shape_at named (Ty-F.Packed fields) = struct (unaligned fields)
shape_at named (Ty-F.Named name) = named name

-- the shape of a named type, if there is one
abbrev pub shape_or_nothing : (Ty → Shape) → Option NamedTy → Shape
shape_or_nothing shape (Some t) = shape t.fields
shape_or_nothing shape None = nothing

-- the shape of a named type, with names replaced as often as n times, one inside another
abbrev pub named_shape : List NamedTy → ℕ → List ℕ → Shape
named_shape types zero name = nothing
named_shape types (suc n) name = shape_or_nothing (fold-Ty Shape (shape_at (named_shape types n))) (first_where (λ (t : NamedTy). same_name t.name name) types)

-- types nest no deeper than the limit, and a named type is a struct
unfoldable pub shape_of : List NamedTy → Ty → Shape
shape_of types = fold-Ty Shape (shape_at (named_shape types MAX_NESTING))
