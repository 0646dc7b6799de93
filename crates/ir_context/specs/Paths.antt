-- How far rows of indices lead, with what is known before the run in one number.
use Rattle.std.specs.Prelude.{ℕ, ◌+◌, ◌*◌, ◌%◌, ◌^◌, List, [], ◌∷◌, ◌++◌, Bool, true, false, map, take, slice_get, Option, Some, None, Ok, Err}
use Rattle.ir_core.specs.declared.ty.Ty.{Ty, out-Ty}
use Rattle.ir_core.specs.declared.ty.Ty.TheOpen.{Ty-F}
use Rattle.ir_core.specs.declared.ty.NamedTy.{NamedTy}
use Rattle.ir_core.specs.Stops.{Answer}
use Rattle.ir_core.specs.Operands.{index_word}
use Rattle.ir_core.specs.Valid.{opened}
use Rattle.ir_core.specs.Words.{low_word}
use Rattle.ir_context.specs.declared.origin.Origin.{Origin}
use Rattle.ir_context.specs.declared.origin.Origin.TheVariants.{Known, Register, Unset, Malformed}
use Rattle.ir_context.specs.declared.path.Path.{Path}
use Rattle.ir_context.specs.Extents.{extent_of, field_place}

-- no byte
abbrev pub empty_path : Path
empty_path = record { constant = 0; strides = [] }

-- so many bytes more
abbrev pub farther : ℕ → Path → Path
farther by p = record p { constant = (p.constant + by) % 2 ^ 64 }

-- one more index that is read
abbrev pub with_stride : Origin → ℕ → Path → Path
with_stride index size p = record p { strides = p.strides ++ (record { index = index; size = size }) ∷ [] }

-- by so many elements of a size, where their number is a number
abbrev pub by_word : Origin → Answer ℕ → ℕ → Path → Path
by_word index (Ok n) size p = farther ((n * size) % 2 ^ 64) p
by_word index (Err stop) size p = with_stride index size p

-- over elements of a size
abbrev pub over_elements : Origin → ℕ → Path → Path
over_elements (Known v) size p = by_word (Known v) (low_word (index_word v)) size p
over_elements (Register k) size p = with_stride (Register k) size p
over_elements Unset size p = with_stride Unset size p
over_elements Malformed size p = with_stride Malformed size p

-- a part of a type, and the path that leads to it
pub record Led : Type 0 where
  pub part : Ty
  pub path : Path

-- where there is a part
abbrev pub led : Option Ty → Path → Option Led
led (Some part) p = Some (record { part = part; path = p })
led None p = None

-- into a field, where there is one
abbrev pub into_found : List NamedTy → Bool → List Ty → ℕ → Option Ty → Path → Option Led
into_found types packed fields k None p = None
into_found types packed fields k (Some ty) p =
    Some (record { part = ty; path = farther (field_place packed (map (extent_of types) (take k fields)) (extent_of types ty)) p })

-- into the field of a number
abbrev pub into_number : List NamedTy → Bool → List Ty → Answer ℕ → Path → Option Led
into_number types packed fields (Ok k) p = into_found types packed fields k (slice_get fields k) p
into_number types packed fields (Err stop) p = None

-- into the field of an index that is known
abbrev pub into_field : List NamedTy → Bool → List Ty → Origin → Path → Option Led
into_field types packed fields (Known v) p = into_number types packed fields (low_word (index_word v)) p
into_field types packed fields (Register k) p = None
into_field types packed fields Unset p = None
into_field types packed fields Malformed p = None

-- one index into a type
abbrev pub into_type : List NamedTy → Ty-F Ty → Origin → Path → Option Led
into_type types Ty-F.Void i p = None
into_type types (Ty-F.Int w) i p = None
into_type types Ty-F.Ptr i p = None
into_type types (Ty-F.Array n of) i p = Some (record { part = of; path = over_elements i (extent_of types of).size p })
into_type types (Ty-F.Struct fields) i p = into_field types false fields i p
into_type types (Ty-F.Packed fields) i p = into_field types true fields i p
into_type types (Ty-F.Named name) i p = None

-- on from a part, where there is one
abbrev pub onward : Option Led → (Ty → Path → Option Path) → Option Path
onward (Some l) go = go l.part l.path
onward None go = None

-- a row of indices into a type, behind a path to it
abbrev pub path_into : List NamedTy → Ty → List Origin → Path → Option Path
path_into types ty [] p = Some p
path_into types ty (i ∷ is) p = onward (into_type types (opened types (out-Ty ty)) i p) (λ part q. path_into types part is q)

-- a row of indices from a pointer to a type: the first counts whole ones of it
abbrev pub path_of : List NamedTy → Ty → List Origin → Option Path
path_of types ty [] = Some empty_path
path_of types ty (i ∷ is) = path_into types ty is (over_elements i (extent_of types ty).size empty_path)
