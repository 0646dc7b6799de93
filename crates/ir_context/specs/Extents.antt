-- How much room types take, and where fields stand.
use Rattle.std.specs.Prelude.{ℕ, ◌+◌, List, Bool, fold}
use Rattle.ir_core.specs.declared.limit.TheConstants.{MAX_NESTING}
use Rattle.ir_core.specs.declared.size.Extent.{Extent}
use Rattle.ir_core.specs.declared.ty.Ty.{Ty}
use Rattle.ir_core.specs.declared.ty.NamedTy.{NamedTy}
use Rattle.ir_core.specs.Shapes.{rounded}
use Rattle.ir_core.specs.Counts.{told}
use Rattle.ir_core.specs.Sizes.{align_bytes, empty_extent, field_align, with_field, names_in, extent_in, rows_after}

-- a type over the named types of a module
abbrev pub extent_of : List NamedTy → Ty → Extent
extent_of types ty = extent_in (names_in types) (rows_after types MAX_NESTING) ty

-- where a field begins behind those in front of it
abbrev pub field_place : Bool → List Extent → Extent → ℕ
field_place packed before field = told (rounded (fold (with_field packed) empty_extent before).size (align_bytes (field_align packed field)) + 0)
