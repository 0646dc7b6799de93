-- The types, names and depths in a type, one form of type after another.
use Rattle.std.proofs.Common.{◌≡◌, ℕ, List, [], ◌∷◌, ◌++◌, map, refl, ap, sym, ◌∙◌, subst}
use Rattle.std.proofs.lemmas.List.{append-nil}
use Rattle.std.specs.List.{flat_map}
use denote.Hole.Holds.{Such}
use Rattle.rd_num.specs.declared.width.Width.{Width}
use Rattle.ir_core.specs.declared.ty.Ty.{Ty, fold-Ty, ind-Ty, roll-Ty, fold-roll-Ty}
use Rattle.ir_core.specs.declared.ty.Ty.TheVariants.{Void, Int, Ptr, Array, Struct, Packed, Named, rolls-Void, rolls-Int, rolls-Ptr, rolls-Array, rolls-Struct, rolls-Packed, rolls-Named}
use Rattle.ir_core.specs.declared.ty.Ty.TheOpen.{Ty-F}
use Rattle.ir_core.specs.declared.ty.Ty.TheBlock.{the_family, member-Ty}
use Rattle.ir_core.specs.declared.ty.Ty.TheFolds.{claims, map-Ty}
use Rattle.ir_core.specs.declared.ty.NamedTy.{NamedTy}
use Rattle.ir_core.specs.declared.limit.TheConstants.{MAX_NESTING}
use Rattle.ir_core.specs.Mentions.{Written, types_written, written_at, parts_of, names_at, names_of}
use Rattle.ir_core.specs.Counts.{deeper, deepest, depth_at, named_depth, depth_of}

-- a type with those that are written in it
abbrev spread : Ty → Written
spread = fold-Ty Written written_at

-- the type itself stands first
abbrev IsFirst : Ty → Type 0
IsFirst ty = (spread ty).ty ≡ ty

-- a type within another
abbrev Within : Type 0
Within = Such the_family (claims IsFirst) member-Ty

-- rows of them
rows_first : (es : List Within) → types_written (map spread (map (λ (e : Within). e.0) es)) ≡ map (λ (e : Within). e.0) es
rows_first [] = refl
rows_first (e ∷ es) = ap (λ t. t ∷ types_written (map spread (map (λ (k : Within). k.0) es))) e.1 ∙ ap (λ ts. e.0 ∷ ts) (rows_first es)

-- one level
level_first : (y : Ty-F Within) → (written_at (map-Ty Ty Written spread (map-Ty Within Ty (λ e. e.0) y))).ty ≡ roll-Ty (map-Ty Within Ty (λ e. e.0) y)
level_first Ty-F.Void = sym rolls-Void
level_first (Ty-F.Int w) = sym (rolls-Int w)
level_first Ty-F.Ptr = sym rolls-Ptr
level_first (Ty-F.Array n e) = ap (λ t. Array n t) e.1 ∙ sym (rolls-Array n e.0)
level_first (Ty-F.Struct es) = ap Struct (rows_first es) ∙ sym (rolls-Struct (map (λ (e : Within). e.0) es))
level_first (Ty-F.Packed es) = ap Packed (rows_first es) ∙ sym (rolls-Packed (map (λ (e : Within). e.0) es))
level_first (Ty-F.Named name) = sym (rolls-Named name)

-- any type stands first among its parts
first_of : (ty : Ty) → IsFirst ty
first_of = ind-Ty IsFirst (λ x y e. subst (λ z. IsFirst (roll-Ty z)) e (ap (λ (w : Written). w.ty) (fold-roll-Ty Written written_at (map-Ty Within Ty (λ k. k.0) y)) ∙ level_first y))

-- so have several types
firsts_of : (ts : List Ty) → types_written (map spread ts) ≡ ts
firsts_of [] = refl
firsts_of (t ∷ ts) = ap (λ u. u ∷ types_written (map spread ts)) (first_of t) ∙ ap (λ us. t ∷ us) (firsts_of ts)

-- the parts of several types
parts_of_all : (ts : List Ty) → flat_map (λ (w : Written). w.parts) (map spread ts) ≡ flat_map parts_of ts
unfolding parts_of
parts_of_all [] = refl
parts_of_all (t ∷ ts) = ap (λ ps. (spread t).parts ++ ps) (parts_of_all ts)

-- an integer type has no other part
pub parts-int : (w : Width) → parts_of (Int w) ≡ Int w ∷ []
unfolding parts_of
parts-int w = ap (λ t. (spread t).parts) (sym (rolls-Int w)) ∙ ap (λ (v : Written). v.parts) (fold-roll-Ty Written written_at (Ty-F.Int w))

-- nor has the pointer type
pub parts-ptr : parts_of Ptr ≡ Ptr ∷ []
unfolding parts_of
parts-ptr = ap (λ t. (spread t).parts) (sym rolls-Ptr) ∙ ap (λ (v : Written). v.parts) (fold-roll-Ty Written written_at Ty-F.Ptr)

-- nor void
pub parts-void : parts_of Void ≡ Void ∷ []
unfolding parts_of
parts-void = ap (λ t. (spread t).parts) (sym rolls-Void) ∙ ap (λ (v : Written). v.parts) (fold-roll-Ty Written written_at Ty-F.Void)

-- nor a named type
pub parts-named : (name : List ℕ) → parts_of (Named name) ≡ Named name ∷ []
unfolding parts_of
parts-named name = ap (λ t. (spread t).parts) (sym (rolls-Named name)) ∙ ap (λ (v : Written). v.parts) (fold-roll-Ty Written written_at (Ty-F.Named name))

-- an array has the parts of its elements' type
pub parts-array : (n : ℕ) (of : Ty) → parts_of (Array n of) ≡ Array n of ∷ parts_of of
unfolding parts_of
parts-array n of =
    ap (λ t. (spread t).parts) (sym (rolls-Array n of)) ∙ ap (λ (v : Written). v.parts) (fold-roll-Ty Written written_at (Ty-F.Array n of))
    ∙ ap (λ t. Array n t ∷ ((spread of).parts ++ [])) (first_of of) ∙ ap (λ ps. Array n of ∷ ps) (append-nil (spread of).parts)

-- a struct has the parts of its fields
pub parts-struct : (fields : List Ty) → parts_of (Struct fields) ≡ Struct fields ∷ flat_map parts_of fields
unfolding parts_of
parts-struct fields =
    ap (λ t. (spread t).parts) (sym (rolls-Struct fields)) ∙ ap (λ (v : Written). v.parts) (fold-roll-Ty Written written_at (Ty-F.Struct fields))
    ∙ ap (λ ts. Struct ts ∷ flat_map (λ (w : Written). w.parts) (map spread fields)) (firsts_of fields) ∙ ap (λ ps. Struct fields ∷ ps) (parts_of_all fields)

-- so has a packed one
pub parts-packed : (fields : List Ty) → parts_of (Packed fields) ≡ Packed fields ∷ flat_map parts_of fields
unfolding parts_of
parts-packed fields =
    ap (λ t. (spread t).parts) (sym (rolls-Packed fields)) ∙ ap (λ (v : Written). v.parts) (fold-roll-Ty Written written_at (Ty-F.Packed fields))
    ∙ ap (λ ts. Packed ts ∷ flat_map (λ (w : Written). w.parts) (map spread fields)) (firsts_of fields) ∙ ap (λ ps. Packed fields ∷ ps) (parts_of_all fields)

-- the depth of a type of one level
depth-roll : (types : List NamedTy) (x : Ty-F Ty) → depth_of types (roll-Ty x) ≡ depth_at (named_depth types MAX_NESTING) (map-Ty Ty ℕ (depth_of types) x)
unfolding depth_of
depth-roll types x = fold-roll-Ty ℕ (depth_at (named_depth types MAX_NESTING)) x

-- an integer type has none
pub depth-int : (types : List NamedTy) (w : Width) → depth_of types (Int w) ≡ 0
depth-int types w = ap (depth_of types) (sym (rolls-Int w)) ∙ depth-roll types (Ty-F.Int w)

-- nor has the pointer type
pub depth-ptr : (types : List NamedTy) → depth_of types Ptr ≡ 0
depth-ptr types = ap (depth_of types) (sym rolls-Ptr) ∙ depth-roll types Ty-F.Ptr

-- nor void
pub depth-void : (types : List NamedTy) → depth_of types Void ≡ 0
depth-void types = ap (depth_of types) (sym rolls-Void) ∙ depth-roll types Ty-F.Void

-- an array is one deeper than its elements
pub depth-array : (types : List NamedTy) (n : ℕ) (of : Ty) → depth_of types (Array n of) ≡ deeper (depth_of types of)
depth-array types n of = ap (depth_of types) (sym (rolls-Array n of)) ∙ depth-roll types (Ty-F.Array n of)

-- a struct one deeper than its fields
pub depth-struct : (types : List NamedTy) (fields : List Ty) → depth_of types (Struct fields) ≡ deeper (deepest (map (depth_of types) fields))
depth-struct types fields = ap (depth_of types) (sym (rolls-Struct fields)) ∙ depth-roll types (Ty-F.Struct fields)

-- so is a packed one
pub depth-packed : (types : List NamedTy) (fields : List Ty) → depth_of types (Packed fields) ≡ deeper (deepest (map (depth_of types) fields))
depth-packed types fields = ap (depth_of types) (sym (rolls-Packed fields)) ∙ depth-roll types (Ty-F.Packed fields)

-- a name is as deep as what it names
pub depth-named : (types : List NamedTy) (name : List ℕ) → depth_of types (Named name) ≡ named_depth types MAX_NESTING name
depth-named types name = ap (depth_of types) (sym (rolls-Named name)) ∙ depth-roll types (Ty-F.Named name)

-- a name stands in a name alone
pub names-named : (name : List ℕ) → names_of (Named name) ≡ name ∷ []
names-named name = ap names_of (sym (rolls-Named name)) ∙ fold-roll-Ty (List (List ℕ)) names_at (Ty-F.Named name)

-- in no integer type
pub names-int : (w : Width) → names_of (Int w) ≡ []
names-int w = ap names_of (sym (rolls-Int w)) ∙ fold-roll-Ty (List (List ℕ)) names_at (Ty-F.Int w)

-- nor in the pointer type
pub names-ptr : names_of Ptr ≡ []
names-ptr = ap names_of (sym rolls-Ptr) ∙ fold-roll-Ty (List (List ℕ)) names_at Ty-F.Ptr

-- nor in void
pub names-void : names_of Void ≡ []
names-void = ap names_of (sym rolls-Void) ∙ fold-roll-Ty (List (List ℕ)) names_at Ty-F.Void

-- in an array those of its elements' type
pub names-array : (n : ℕ) (of : Ty) → names_of (Array n of) ≡ names_of of
names-array n of = ap names_of (sym (rolls-Array n of)) ∙ fold-roll-Ty (List (List ℕ)) names_at (Ty-F.Array n of)

-- the names of several types, as a fold has them
names_of_all : (ts : List Ty) → flat_map (λ (ns : List (List ℕ)). ns) (map names_of ts) ≡ flat_map names_of ts
names_of_all [] = refl
names_of_all (t ∷ ts) = ap (λ ns. names_of t ++ ns) (names_of_all ts)

-- in a struct those of its fields
pub names-struct : (fields : List Ty) → names_of (Struct fields) ≡ flat_map names_of fields
names-struct fields = ap names_of (sym (rolls-Struct fields)) ∙ fold-roll-Ty (List (List ℕ)) names_at (Ty-F.Struct fields) ∙ names_of_all fields

-- so in a packed one
pub names-packed : (fields : List Ty) → names_of (Packed fields) ≡ flat_map names_of fields
names-packed fields = ap names_of (sym (rolls-Packed fields)) ∙ fold-roll-Ty (List (List ℕ)) names_at (Ty-F.Packed fields) ∙ names_of_all fields
