-- What the strides of a path read: no index that is known, but variables.
use Rattle.std.proofs.Common.{◌≡◌, ℕ, ◌<◌, List, [], ◌∷◌, ◌++◌, Bool, true, false, Option, Some, None, Ok, Err, slice_get, refl, subst}
use Rattle.rd_num.specs.declared.width.Width.{Width}
use Rattle.ir_core.specs.declared.memory.Value.{Value}
use Rattle.ir_core.specs.declared.memory.Value.TheVariants.{Num, Null, At, Fun}
use Rattle.ir_core.specs.declared.ty.Ty.{Ty, out-Ty}
use Rattle.ir_core.specs.declared.ty.Ty.TheOpen.{Ty-F}
use Rattle.ir_core.specs.declared.ty.NamedTy.{NamedTy}
use Rattle.ir_core.specs.Arithmetic.{modulus}
use Rattle.ir_core.specs.Operands.{index_word}
use Rattle.ir_core.specs.Stops.{Answer}
use Rattle.ir_core.specs.Valid.{LocalKind, opened}
use Rattle.ir_core.specs.Words.{low_word}
use Rattle.ir_context.specs.declared.origin.Origin.{Origin}
use Rattle.ir_context.specs.declared.origin.Origin.TheVariants.{Known, Register, Unset, Malformed}
use Rattle.ir_context.specs.declared.path.Path.{Path}
use Rattle.ir_context.specs.declared.path.Stride.{Stride}
use Rattle.ir_context.specs.Extents.{extent_of}
use Rattle.ir_context.specs.Paths.{empty_path, over_elements, Led, into_found, into_number, into_field, into_type, onward, path_into, path_of}
use Rattle.ir_context.specs.Registers.{register}
use Rattle.isel_rows.specs.Variables.{width_in}
use Rattle.isel.proofs.Moving.{IsRead, AreRead}

module _ (vs : List LocalKind) (values : List (Option Value)) where
  -- an index that is a variable has a number of the variable's width
  abbrev pub IsIndex : Origin → Type 0
  IsIndex (Register k) = (w : Width) (n : ℕ) → register values k ≡ Some (Num w n) → (width_in (slice_get vs k) ≡ w) × (n < modulus w)
  IsIndex other = Unit {0}

  abbrev pub AreIndices : List Origin → Type 0
  AreIndices [] = Unit {0}
  AreIndices (o ∷ os) = IsIndex o × AreIndices os

  abbrev read_path : Path → Type 0
  read_path p = AreRead vs values p.strides

  -- one more stride
  one_more : (ss : List Stride) (s : Stride) → AreRead vs values ss → IsRead vs values s.index → AreRead vs values (ss ++ s ∷ [])
  one_more [] s all one = (one, tt)
  one_more (t ∷ ss) s all one = (all.0, one_more ss s all.1 one)

  over_read : (o : Origin) (size : ℕ) (p : Path) → IsIndex o → read_path p → read_path (over_elements o size p)
  over_read (Known (Num w n)) size p index all = all
  over_read (Known Null) size p index all = one_more p.strides _ all (λ n e. absurd (cc))
  over_read (Known (At o d)) size p index all = one_more p.strides _ all (λ n e. absurd (cc))
  over_read (Known (Fun f)) size p index all = one_more p.strides _ all (λ n e. absurd (cc))
  over_read (Register k) size p index all = one_more p.strides _ all index
  over_read Unset size p index all = one_more p.strides _ all tt
  over_read Malformed size p index all = one_more p.strides _ all tt

  module _ (types : List NamedTy) where
    number_read : (packed : Bool) (fields : List Ty) (a : Answer ℕ) (p : Path) (l : Led) → read_path p → into_number types packed fields a p ≡ Some l → read_path l.path
    number_read packed fields (Ok k) p l all e = of_field (slice_get fields k) e
      where
        of_field : (o : Option Ty) → into_found types packed fields k o p ≡ Some l → read_path l.path
        of_field None h = absurd (cc)
        of_field (Some ty) h = let same : _ ≡ l = some_is _ l h in subst (λ (x : Led). read_path x.path) same all
          where
            some_is : (x y : Led) → Some x ≡ Some y → x ≡ y
            some_is x y e = cc
    number_read packed fields (Err stop) p l all e = absurd (cc)

    field_read : (packed : Bool) (fields : List Ty) (o : Origin) (p : Path) (l : Led) → read_path p → into_field types packed fields o p ≡ Some l → read_path l.path
    field_read packed fields (Known v) p l all e = number_read packed fields (low_word (index_word v)) p l all e
    field_read packed fields (Register k) p l all e = absurd (cc)
    field_read packed fields Unset p l all e = absurd (cc)
    field_read packed fields Malformed p l all e = absurd (cc)

    type_read : (t : Ty-F Ty) (o : Origin) (p : Path) (l : Led) → IsIndex o → read_path p → into_type types t o p ≡ Some l → read_path l.path
    type_read Ty-F.Void o p l index all e = absurd (cc)
    type_read (Ty-F.Int w) o p l index all e = absurd (cc)
    type_read Ty-F.Ptr o p l index all e = absurd (cc)
    type_read (Ty-F.Array n of) o p l index all e = led_read (over_elements o (extent_of types of).size p) e (over_read o (extent_of types of).size p index all)
      where
        led_read : (q : Path) → Some (record { part = of; path = q }) ≡ Some l → read_path q → read_path l.path
        led_read q h r = let same : record { part = of; path = q } ≡ l = cc in subst (λ (x : Led). read_path x.path) same r
    type_read (Ty-F.Struct fields) o p l index all e = field_read false fields o p l all e
    type_read (Ty-F.Packed fields) o p l index all e = field_read true fields o p l all e
    type_read (Ty-F.Named name) o p l index all e = absurd (cc)

    into_read : (os : List Origin) (ty : Ty) (p q : Path) → AreIndices os → read_path p → path_into types ty os p ≡ Some q → read_path q
    into_read [] ty p q indices all e = let same : p ≡ q = cc in subst read_path same all
    into_read (o ∷ os) ty p q indices all e = of_led (into_type types (opened types (out-Ty ty)) o p) refl e (λ part r. into_read os part r q indices.1)
      where
        of_led : (x : Option Led) → into_type types (opened types (out-Ty ty)) o p ≡ x → onward x (λ part r. path_into types part os r) ≡ Some q → ((part : Ty) (r : Path) → read_path r → path_into types part os r ≡ Some q → read_path q) → read_path q
        of_led (Some l) is h others = others l.part l.path (type_read (opened types (out-Ty ty)) o p l indices.0 all is) h
        of_led None is h others = absurd (cc)

    -- all strides of a path
    pub path_read : (ty : Ty) (os : List Origin) (p : Path) → AreIndices os → path_of types ty os ≡ Some p → AreRead vs values p.strides
    path_read ty [] p indices e = let same : empty_path ≡ p = cc in subst read_path same tt
    path_read ty (o ∷ os) p indices e = into_read os ty (over_elements o (extent_of types ty).size empty_path) p indices.1 (over_read o (extent_of types ty).size empty_path indices.0 tt) e
