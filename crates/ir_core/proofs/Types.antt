-- Kinds and shapes of types, one form of type after another.
use Rattle.std.proofs.Common.{◌≡◌, ℕ, List, map, refl, ap, sym, ◌∙◌}
use denote.Hole.Carrier.{out}
use Rattle.rd_num.specs.declared.width.Width.{Width}
use Rattle.ir_core.specs.declared.ty.Ty.{Ty, out-Ty, fold-roll-Ty}
use Rattle.ir_core.specs.declared.ty.Ty.TheVariants.{Array, Struct, Packed, rolls-Int, rolls-Ptr, rolls-Array, rolls-Struct, rolls-Packed}
use Rattle.ir_core.specs.declared.ty.Ty.TheOpen.{Ty-F}
use Rattle.ir_core.specs.declared.ty.NamedTy.{NamedTy}
use Rattle.ir_core.specs.Kinds.{Number, Pointer, kind_of}
use Rattle.ir_core.specs.Shapes.{Shape, single, bytes_of, array, struct, unaligned, shape_at, named_shape, shape_of}

-- an integer type has numbers of its width
pub kind-int : (w : Width) → kind_of (Ty.Int w) ≡ Number w
unfolding out-Ty out
kind-int w = refl

-- the pointer type has pointers
pub kind-ptr : kind_of Ty.Ptr ≡ Pointer
unfolding out-Ty out
kind-ptr = refl

-- an integer type
pub shape-int : (types : List NamedTy) (w : Width) → shape_of types (Ty.Int w) ≡ single (bytes_of w)
unfolding shape_of
shape-int types w = ap (shape_of types) (sym (rolls-Int w)) ∙ fold-roll-Ty Shape (shape_at (named_shape types 64)) (Ty-F.Int w)

-- the pointer type
pub shape-ptr : (types : List NamedTy) → shape_of types Ty.Ptr ≡ single 8
unfolding shape_of
shape-ptr types = ap (shape_of types) (sym rolls-Ptr) ∙ fold-roll-Ty Shape (shape_at (named_shape types 64)) Ty-F.Ptr

-- an array
pub shape-array : (types : List NamedTy) (n : ℕ) (of : Ty) → shape_of types (Array n of) ≡ array n (shape_of types of)
unfolding shape_of
shape-array types n of = ap (shape_of types) (sym (rolls-Array n of)) ∙ fold-roll-Ty Shape (shape_at (named_shape types 64)) (Ty-F.Array n of)

-- a struct
pub shape-struct : (types : List NamedTy) (fields : List Ty) → shape_of types (Struct fields) ≡ struct (map (shape_of types) fields)
unfolding shape_of
shape-struct types fields = ap (shape_of types) (sym (rolls-Struct fields)) ∙ fold-roll-Ty Shape (shape_at (named_shape types 64)) (Ty-F.Struct fields)

-- a packed struct
pub shape-packed : (types : List NamedTy) (fields : List Ty) → shape_of types (Packed fields) ≡ struct (unaligned (map (shape_of types) fields))
unfolding shape_of
shape-packed types fields = ap (shape_of types) (sym (rolls-Packed fields)) ∙ fold-roll-Ty Shape (shape_at (named_shape types 64)) (Ty-F.Packed fields)
