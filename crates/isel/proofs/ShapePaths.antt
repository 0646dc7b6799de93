-- What holds of a path, as it is made of one index after another.
use Rattle.std.proofs.Common.{◌≡◌, ℕ, suc, ◌+◌, ◌^◌, ◌<◌, Bool, true, false, List, [], ◌∷◌, length, Option, Some, None, Ok, Err, slice_get, refl, subst, arith}
use Rattle.ir_core.specs.declared.ty.Ty.{Ty, out-Ty}
use Rattle.ir_core.specs.declared.ty.Ty.TheOpen.{Ty-F}
use Rattle.ir_core.specs.declared.ty.NamedTy.{NamedTy}
use Rattle.ir_core.specs.Counts.{told}
use Rattle.ir_core.specs.Operands.{index_word}
use Rattle.ir_core.specs.Shapes.{shape_of}
use Rattle.ir_core.specs.Stops.{Answer}
use Rattle.ir_core.specs.Valid.{opened}
use Rattle.ir_core.specs.Words.{low_word}
use Rattle.ir_sound.specs.WellTyped.{Each}
use Rattle.ir_context.specs.declared.origin.Origin.{Origin}
use Rattle.ir_context.specs.declared.origin.Origin.TheVariants.{Known, Register, Unset, Malformed}
use Rattle.ir_context.specs.declared.path.Path.{Path}
use Rattle.ir_context.specs.Extents.{extent_of}
use Rattle.ir_context.specs.Paths.{empty_path, farther, with_stride, by_word, over_elements, Led, into_found, into_number, into_field, into_type, onward, path_into, path_of}
use Rattle.ir_context.proofs.ShapeLaws.{tells}

-- the size of a type is told as a word
told_word : (n s : ℕ) → n ≡ told s → n < 2 ^ 64
told_word n s is = omega arith

-- so it is below 2^64
size_word : (types : List NamedTy) (ty : Ty) → (extent_of types ty).size < 2 ^ 64
size_word types ty = told_word (extent_of types ty).size (shape_of types ty).size (tells types ty).0

-- a property of paths of so many indices: the empty one has it, and each index keeps it
module _ (I : Origin → Type 0) (Q : ℕ → Path → Type 0) (none : Q 0 empty_path) (far : (n by : ℕ) (p : Path) → Q n p → Q (n + 1) (farther by p))
    (stride : (n : ℕ) (o : Origin) (size : ℕ) (p : Path) → I o → size < 2 ^ 64 → Q n p → Q (n + 1) (with_stride o size p)) where
  -- an index over elements, where its number may be known
  word_has : (n : ℕ) (o : Origin) (a : Answer ℕ) (size : ℕ) (p : Path) → I o → size < 2 ^ 64 → Q n p → Q (n + 1) (by_word o a size p)
  word_has n o (Ok k) size p fits small has = far n _ p has
  word_has n o (Err stop) size p fits small has = stride n o size p fits small has

  -- any index over elements
  over_has : (n : ℕ) (o : Origin) (size : ℕ) (p : Path) → I o → size < 2 ^ 64 → Q n p → Q (n + 1) (over_elements o size p)
  over_has n (Known v) size p fits small has = word_has n (Known v) (low_word (index_word v)) size p fits small has
  over_has n (Register k) size p fits small has = stride n (Register k) size p fits small has
  over_has n Unset size p fits small has = stride n Unset size p fits small has
  over_has n Malformed size p fits small has = stride n Malformed size p fits small has

  module _ (types : List NamedTy) where
    -- what is found has it
    led_has : (n : ℕ) (ty : Ty) (q : Path) (l : Led) → Some (record { part = ty; path = q }) ≡ Some l → Q n q → Q n l.path
    led_has n ty q l e has = let same : record { part = ty; path = q } ≡ l = cc in subst (λ (x : Led). Q n x.path) same has

    number_has : (n : ℕ) (packed : Bool) (fields : List Ty) (a : Answer ℕ) (p : Path) (l : Led) → Q n p → into_number types packed fields a p ≡ Some l → Q (n + 1) l.path
    number_has n packed fields (Ok k) p l has e = of_field (slice_get fields k) e
      where
        of_field : (o : Option Ty) → into_found types packed fields k o p ≡ Some l → Q (n + 1) l.path
        of_field None h = absurd (cc)
        of_field (Some ty) h = led_has (n + 1) ty _ l h (far n _ p has)
    number_has n packed fields (Err stop) p l has e = absurd (cc)

    field_has : (n : ℕ) (packed : Bool) (fields : List Ty) (o : Origin) (p : Path) (l : Led) → Q n p → into_field types packed fields o p ≡ Some l → Q (n + 1) l.path
    field_has n packed fields (Known v) p l has e = number_has n packed fields (low_word (index_word v)) p l has e
    field_has n packed fields (Register k) p l has e = absurd (cc)
    field_has n packed fields Unset p l has e = absurd (cc)
    field_has n packed fields Malformed p l has e = absurd (cc)

    type_has : (n : ℕ) (t : Ty-F Ty) (o : Origin) (p : Path) (l : Led) → I o → Q n p → into_type types t o p ≡ Some l → Q (n + 1) l.path
    type_has n Ty-F.Void o p l fits has e = absurd (cc)
    type_has n (Ty-F.Int w) o p l fits has e = absurd (cc)
    type_has n Ty-F.Ptr o p l fits has e = absurd (cc)
    type_has n (Ty-F.Array count of) o p l fits has e = led_has (n + 1) of _ l e (over_has n o (extent_of types of).size p fits (size_word types of) has)
    type_has n (Ty-F.Struct fields) o p l fits has e = field_has n false fields o p l has e
    type_has n (Ty-F.Packed fields) o p l fits has e = field_has n true fields o p l has e
    type_has n (Ty-F.Named name) o p l fits has e = absurd (cc)

    into_has : (n : ℕ) (os : List Origin) (ty : Ty) (p q : Path) → Each I os → Q n p → path_into types ty os p ≡ Some q → Q (n + length os) q
    into_has n [] ty p q fits has e =
        let same : p ≡ q = cc in
        let z : n ≡ n + 0 = omega arith in
        subst (λ k. Q k q) z (subst (Q n) same has)
    into_has n (o ∷ os) ty p q fits has e = of_led (into_type types (opened types (out-Ty ty)) o p) refl e (λ part r. into_has (n + 1) os part r q fits.1)
      where
        of_led : (x : Option Led) → into_type types (opened types (out-Ty ty)) o p ≡ x → onward x (λ part r. path_into types part os r) ≡ Some q
            → ((part : Ty) (r : Path) → Q (n + 1) r → path_into types part os r ≡ Some q → Q (n + 1 + length os) q) → Q (n + suc (length os)) q
        of_led (Some l) is h others =
            let z : n + 1 + length os ≡ n + suc (length os) = omega arith in
            subst (λ k. Q k q) z (others l.part l.path (type_has n (opened types (out-Ty ty)) o p l fits.0 has is) h)
        of_led None is h others = absurd (cc)

    -- each path that is found has it
    pub path_has : (ty : Ty) (os : List Origin) (p : Path) → Each I os → path_of types ty os ≡ Some p → Q (length os) p
    path_has ty [] p fits e = let same : empty_path ≡ p = cc in subst (Q 0) same none
    path_has ty (o ∷ os) p fits e =
        let z : 0 + 1 + length os ≡ suc (length os) = omega arith in
        subst (λ k. Q k p) z (into_has (0 + 1) os ty (over_elements o (extent_of types ty).size empty_path) p fits.1 (over_has 0 o (extent_of types ty).size empty_path fits.0 (size_word types ty) none) e)
