-- Types whose sizes and depths are within the limits, with all that stands in them.
use Rattle.std.specs.Prelude.{◌≡◌, Bool, true, false, ◌≤◌, List, [], ◌∷◌}
use Rattle.ir_core.specs.declared.limit.TheConstants.{MAX_NESTING, MAX_SIZE}
use Rattle.ir_core.specs.declared.ty.Ty.{Ty, out-Ty}
use Rattle.ir_core.specs.declared.ty.Ty.TheOpen.{Ty-F}
use Rattle.ir_core.specs.declared.ty.NamedTy.{NamedTy}
use Rattle.ir_core.specs.Counts.{depth_of, size_count}
use Rattle.ir_core.specs.Mentions.{Mention, OfType, parts_of}

-- each type of a row is small
abbrev pub AreSmall : List NamedTy → List Ty → Type 0
AreSmall types [] = Unit {0}
AreSmall types (ty ∷ tys) = (size_count types ty ≤ MAX_SIZE) × AreSmall types tys

-- a type with the types in it
pub record IsSmall (types : List NamedTy) (ty : Ty) : Type 0 where
  pub depth : depth_of types ty ≤ MAX_NESTING
  pub parts : AreSmall types (parts_of ty)

-- no name of a type
abbrev pub is_plain : Ty-F Ty → Bool
is_plain Ty-F.Void = true
is_plain (Ty-F.Int w) = true
is_plain Ty-F.Ptr = true
is_plain (Ty-F.Array n of) = true
is_plain (Ty-F.Struct fields) = true
is_plain (Ty-F.Packed fields) = true
is_plain (Ty-F.Named name) = false

-- the fields of named types are small, and are no name
abbrev pub FieldsAreSmall : List NamedTy → List NamedTy → Type 0
FieldsAreSmall types [] = Unit {0}
FieldsAreSmall types (t ∷ ts) = ((is_plain (out-Ty t.fields) ≡ true) × AreSmall types (parts_of t.fields)) × FieldsAreSmall types ts

-- a type that is mentioned is small
abbrev pub IsSmallMention : List NamedTy → Mention → Type 0
IsSmallMention types (OfType ty) = IsSmall types ty
IsSmallMention types other = Unit {0}

-- all types among what is mentioned are small
abbrev pub AreSmallMentions : List NamedTy → List Mention → Type 0
AreSmallMentions types [] = Unit {0}
AreSmallMentions types (x ∷ xs) = IsSmallMention types x × AreSmallMentions types xs
