-- Sizes, alignments and depths as far as 64 bits tell them, and rounds over the named types of a module.
use Rattle.std.specs.Prelude.{ℕ, zero, suc, ◌+◌, ◌*◌, List, Bool, true, false, max, map, fold, nat_lt, slice_get, unwrap_or, Option, Some, None, if◌then◌else◌}
use Rattle.rd_num.specs.declared.width.Width.{Width}
use Rattle.rd_num.specs.declared.width.Width.TheVariants.{W1, W8, W16, W32, W64}
use Rattle.ir_core.specs.declared.limit.TheConstants.{MAX_NESTING}
use Rattle.ir_core.specs.declared.size.Align.{Align}
use Rattle.ir_core.specs.declared.size.Align.TheVariants.{One, Two, Four, Eight}
use Rattle.ir_core.specs.declared.size.Extent.{Extent}
use Rattle.ir_core.specs.declared.ty.Ty.{Ty, fold-Ty}
use Rattle.ir_core.specs.declared.ty.Ty.TheOpen.{Ty-F}
use Rattle.ir_core.specs.declared.ty.NamedTy.{NamedTy}
use Rattle.ir_core.specs.Names.{same_name, number_where}
use Rattle.ir_core.specs.Shapes.{rounded}
use Rattle.ir_core.specs.Counts.{told, deeper}

-- bytes of an alignment
abbrev pub align_bytes : Align → ℕ
align_bytes One = 1
align_bytes Two = 2
align_bytes Four = 4
align_bytes Eight = 8

-- the greater of two
abbrev pub wider : Align → Align → Align
wider a b = if nat_lt (align_bytes a) (align_bytes b) then b else a

-- what has no bytes
abbrev pub empty_extent : Extent
empty_extent = record { size = 0; align = One; depth = 0 }

-- a number or a pointer
abbrev pub single_extent : Align → Extent
single_extent a = record { size = align_bytes a; align = a; depth = 0 }

-- elements one after another
abbrev pub array_extent : ℕ → Extent → Extent
array_extent n of = record { size = told (n * of.size); align = of.align; depth = deeper of.depth }

-- the alignment that a field keeps
abbrev pub field_align : Bool → Extent → Align
field_align packed field = if packed then One else field.align

-- fields that end somewhere, with one more behind them
abbrev pub with_field : Bool → Extent → Extent → Extent
with_field packed all field = record {
  size = told (rounded all.size (align_bytes (field_align packed field)) + field.size);
  align = wider all.align (field_align packed field);
  depth = max all.depth field.depth;
}

-- all fields, with the gap behind them
abbrev pub finished_extent : Extent → Extent
finished_extent all = record { size = told (rounded all.size (align_bytes all.align) + 0); align = all.align; depth = deeper all.depth }

-- a struct
abbrev pub struct_extent : Bool → List Extent → Extent
struct_extent packed fields = finished_extent (fold (with_field packed) empty_extent fields)

-- the alignment of a number
abbrev pub width_align : Width → Align
width_align W1 = One
width_align W8 = One
width_align W16 = Two
width_align W32 = Four
width_align W64 = Eight

-- one level of a type, over the extents of names
abbrev pub extent_at : (List ℕ → Extent) → Ty-F Extent → Extent
extent_at named Ty-F.Void = empty_extent
extent_at named (Ty-F.Int w) = single_extent (width_align w)
extent_at named Ty-F.Ptr = single_extent Eight
extent_at named (Ty-F.Array n of) = array_extent n of
extent_at named (Ty-F.Struct fields) = struct_extent false fields
extent_at named (Ty-F.Packed fields) = struct_extent true fields
extent_at named (Ty-F.Named name) = named name

-- the row of that number
abbrev pub row_at : List Extent → Option ℕ → Extent
row_at rows (Some k) = unwrap_or (slice_get rows k) empty_extent
row_at rows None = empty_extent

-- the row of a name among names
abbrev pub row_in : List (List ℕ) → List Extent → List ℕ → Extent
row_in names rows name = row_at rows (number_where (λ n. same_name n name) names)

-- a type over rows of named types
abbrev pub extent_in : List (List ℕ) → List Extent → Ty → Extent
extent_in names rows = fold-Ty Extent (extent_at (row_in names rows))

-- what is known of named types when nothing was replaced
abbrev pub first_rows : List NamedTy → List Extent
first_rows types = map (λ (t : NamedTy). record { size = 0; align = One; depth = MAX_NESTING + 1 }) types

-- names of types
abbrev pub names_in : List NamedTy → List (List ℕ)
names_in types = map (λ (t : NamedTy). t.name) types

-- with names replaced once more
abbrev pub next_rows : List NamedTy → List Extent → List Extent
next_rows types rows = map (λ (t : NamedTy). extent_in (names_in types) rows t.fields) types

-- with names replaced n times
unfoldable pub rows_after : List NamedTy → ℕ → List Extent
rows_after types zero = first_rows types
rows_after types (suc n) = next_rows types (rows_after types n)
