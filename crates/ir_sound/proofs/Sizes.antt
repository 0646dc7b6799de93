-- Initialisers that fit a type have as many cells as the type has bytes.
use Rattle.std.proofs.Common.{◌≡◌, ◌≢◌, ℕ, zero, suc, ◌+◌, ◌*◌, ◌-◌, ◌/◌, ◌<◌, ◌≤◌, Bool, true, false, List, [], ◌∷◌, ◌++◌, length, map, Option, Some, None, Ok, Err, refl, ap, sym, ◌∙◌, subst, arith, length-append}
use Rattle.std.specs.Prelude.{◌&&◌, max}
use Rattle.std.proofs.lemmas.Bool.{and_parts, and_from, eqb-true, eq-eqb}
use Rattle.std.proofs.lemmas.List.{length-replicate}
use Rattle.std.proofs.Math.Nat.{mod-lt}
use Rattle.std.proofs.lemmas.Nat.{div-add-mod'}
use Rattle.rd_num.specs.declared.width.Width.{Width}
use Rattle.rd_num.specs.declared.width.Width.TheVariants.{W1, W8, W16, W32, W64}
use Rattle.rd_num.specs.Number.{le_bytes}
use Rattle.ir_core.specs.declared.ty.Ty.{Ty, out-Ty, roll-Ty, fold-Ty, ind-Ty, fold-roll-Ty, roll-out-Ty}
use Rattle.ir_core.specs.declared.ty.Ty.TheOpen.{Ty-F}
use Rattle.ir_core.specs.declared.ty.Ty.TheFolds.{map-Ty}
use Rattle.ir_core.specs.declared.ty.NamedTy.{NamedTy}
use Rattle.ir_core.specs.declared.operand.Operand.{Operand}
use Rattle.ir_core.specs.declared.operand.Operand.TheVariants.{Undef, Poison}
use Rattle.ir_core.specs.declared.init.Init.{Init, ind-Init, roll-Init, fold-roll-Init}
use Rattle.ir_core.specs.declared.init.Elem.{Elem, fold-Elem, roll-Elem, fold-roll-Elem}
use Rattle.ir_core.specs.declared.init.Init.TheOpen.{Init-F, Elem-F}
use Rattle.ir_core.specs.declared.init.Init.TheBlock.{the_family, member-Init, member-Elem}
use Rattle.ir_core.specs.declared.init.Init.TheFolds.{claims, map-Init, map-Elem}
use denote.Hole.Holds.{Such}
use Rattle.ir_core.specs.declared.module.Module.{Module}
use Rattle.ir_core.specs.declared.module.GlobalVar.{GlobalVar}
use Rattle.ir_core.specs.declared.memory.Value.{Value}
use Rattle.ir_core.specs.declared.memory.Value.TheVariants.{Num, Null, At, Fun}
use Rattle.ir_core.specs.declared.memory.Cell.{Cell}
use Rattle.ir_core.specs.declared.memory.Cell.TheVariants.{Byte}
use Rattle.ir_core.specs.Names.{same_name, first_where}
use Rattle.ir_core.specs.Stops.{Answer}
use Rattle.ir_core.specs.declared.kind.Kind.{Kind}
use Rattle.ir_core.specs.declared.kind.Kind.TheVariants.{NoValue, Number, Pointer}
use Rattle.ir_core.specs.Kinds.{kind_of, kind_at, zero_of}
use Rattle.ir_core.specs.Shapes.{Shape, rounded, bytes_of, fields_end, greatest_align, struct, unaligned, shape_at, shape_or_nothing, named_shape, shape_of}
use Rattle.ir_core.specs.Memory.{cells_of, kind_size}
use Rattle.ir_core.specs.Operands.{value_of}
use Rattle.ir_core.specs.Globals.{Part, zeros, end_to_end, spread, cells_or_zeros, init_at, element_at, cells_of_init, part_of}
use Rattle.std.specs.List.{list_all}
use Rattle.ir_core.specs.Typing.{operand_fits}
use Rattle.ir_core.specs.Valid.{Fitted, same_ty, array_fits, text_fits, fields_fit, struct_fits, named_fields, opened, value_fits, init_fits_at, init_fits}
use Rattle.ir_core.specs.Counts.{depth_of}
use Rattle.ir_core.specs.Built.{is_struct_at}
use Rattle.ir_core.specs.declared.limit.TheConstants.{MAX_NESTING}
use Rattle.ir_core.specs.declared.ty.Ty.TheBlock as types
use Rattle.ir_core.specs.declared.ty.Ty.TheFolds as type_folds
use Rattle.ir_sound.specs.Typed.{is_sized}
use Rattle.ir_sound.specs.WellTyped.{Properly, Present, IsOfKind}
use Rattle.ir_sound.proofs.Nesting.{shape_stable}
use Rattle.ir_sound.proofs.Operands.{Covers, value_gives}
use Rattle.ir_sound.proofs.RowLaws.{length_map}
use Rattle.ir_sound.proofs.SameLaws.{kind_is, not_true}
use Rattle.ir_sound.proofs.SameTypes.{ty_is}

-- an alignment of at least one byte
max_positive : (a b : ℕ) → 0 < b → 0 < max a b
max_positive a b p = omega arith

-- a struct has one
align_positive : (fs : List Shape) → 0 < greatest_align fs
align_positive [] = omega arith
align_positive (f ∷ fs) = max_positive f.align (greatest_align fs) (align_positive fs)

-- bytes of a width
bytes_positive : (w : Width) → 0 < bytes_of w
bytes_positive W1 = omega arith
bytes_positive W8 = omega arith
bytes_positive W16 = omega arith
bytes_positive W32 = omega arith
bytes_positive W64 = omega arith

-- a multiple that isn't below
rounded_up : (n to : ℕ) → 0 < to → n ≤ rounded n to
rounded_up n to p =
    let k = n + (to - 1) in
    let e = div-add-mod' k to in
    let l = mod-lt k p in
    omega arith

module _ (named : List ℕ → Shape) (names : (name : List ℕ) → 0 < (named name).align) where
  -- a type's alignment is at least one byte
  abbrev Aligned : Ty → Type 0
  Aligned ty = 0 < (fold-Ty Shape (shape_at named) ty).align

  -- a type within another
  abbrev WithinTy : Type 0
  WithinTy = Such types.the_family (type_folds.claims Aligned) types.member-Ty

  -- one level
  level_aligned : (y : Ty-F WithinTy) → 0 < (shape_at named (map-Ty Ty Shape (fold-Ty Shape (shape_at named)) (map-Ty WithinTy Ty (λ e. e.0) y))).align
  level_aligned Ty-F.Void = omega arith
  level_aligned (Ty-F.Int w) = bytes_positive w
  level_aligned Ty-F.Ptr = omega arith
  level_aligned (Ty-F.Array n e) = e.1
  level_aligned (Ty-F.Struct es) = align_positive _
  level_aligned (Ty-F.Packed es) = align_positive _
  level_aligned (Ty-F.Named name) = names name

  -- all types
  ty_aligned : (ty : Ty) → Aligned ty
  ty_aligned = ind-Ty Aligned (λ x y e. subst (λ z. Aligned (roll-Ty z)) e (subst (λ (s : Shape). 0 < s.align) (sym (fold-roll-Ty Shape (shape_at named) (map-Ty WithinTy Ty (λ k. k.0) y))) (level_aligned y)))

-- named types
named_aligned : (types : List NamedTy) (n : ℕ) (name : List ℕ) → 0 < (named_shape types n name).align
named_aligned types zero name = omega arith
named_aligned types (suc n) name = of_option (first_where (λ (t : NamedTy). same_name t.name name) types) (ty_aligned (named_shape types n) (named_aligned types n))
  where
    of_option : (o : Option NamedTy) → ((ty : Ty) → 0 < (fold-Ty Shape (shape_at (named_shape types n)) ty).align) → 0 < (shape_or_nothing (fold-Ty Shape (shape_at (named_shape types n))) o).align
    of_option (Some t) go = go t.fields
    of_option None go = omega arith

-- any type
shape_aligned : (types : List NamedTy) (ty : Ty) → 0 < (shape_of types ty).align
unfolding shape_of
shape_aligned types ty = ty_aligned (named_shape types 64) (named_aligned types 64) ty

-- a type by its outermost word
shape_out : (types : List NamedTy) (ty : Ty) → shape_of types ty ≡ shape_at (named_shape types 64) (map-Ty Ty Shape (shape_of types) (out-Ty ty))
unfolding shape_of
shape_out types ty = ap (fold-Ty Shape (shape_at (named_shape types 64))) (sym (roll-out-Ty ty)) ∙ fold-roll-Ty Shape (shape_at (named_shape types 64)) (out-Ty ty)

-- parts that are as their shapes say
abbrev Matches : List Part → List Shape → Type 0
Matches [] [] = Unit {0}
Matches (p ∷ ps) (f ∷ fs) = ((p.align ≡ f.align) × (length p.cells ≡ f.size) × (0 < f.align)) × Matches ps fs
Matches [] (f ∷ fs) = ⊥
Matches (p ∷ ps) [] = ⊥

-- fields end no earlier than they begin
end_above : (at : ℕ) (ps : List Part) (fs : List Shape) → Matches ps fs → at ≤ fields_end at fs
end_above at [] [] m = omega arith
end_above at [] (f ∷ fs) m = absurd m
end_above at (p ∷ ps) [] m = absurd m
end_above at (p ∷ ps) (f ∷ fs) m = let l = rounded_up at f.align m.0.2 in let r = end_above (rounded at f.align + f.size) ps fs m.1 in omega arith

-- fields with zeros between them fill a struct
spread_length : (at size : ℕ) (ps : List Part) (fs : List Shape) → Matches ps fs → fields_end at fs ≤ size → length (spread at size ps) ≡ size - at
spread_length at size [] [] m inside = length-replicate (size - at) (Byte 0)
spread_length at size [] (f ∷ fs) m inside = absurd m
spread_length at size (p ∷ ps) [] m inside = absurd m
spread_length at size (p ∷ ps) (f ∷ fs) m inside =
    let next = rounded at f.align + f.size in
    let l = rounded_up at f.align m.0.2 in
    let r = end_above next ps fs m.1 in
    let same : rounded at p.align ≡ rounded at f.align = ap (rounded at) m.0.0 in
    let go : length (spread (rounded at p.align + length p.cells) size ps) ≡ size - next =
    ap (λ n. length (spread n size ps)) (ap (λ n. n + length p.cells) same ∙ ap (λ n. rounded at f.align + n) m.0.1) ∙ spread_length next size ps fs m.1 inside in
    let z = length-replicate (rounded at p.align - at) (Byte 0) in
    let a1 = length-append (zeros (rounded at p.align - at)) p.cells in
    let a2 = length-append (zeros (rounded at p.align - at) ++ p.cells) (spread (rounded at p.align + length p.cells) size ps) in
    let size_is = m.0.1 in
    omega arith

-- a type of a kind has the kind's size
size_as : (types : List NamedTy) (ty : Ty) (k : Kind) → kind_of ty ≡ k → (k ≢ NoValue) → (shape_of types ty).size ≡ kind_size k
size_as types ty k is value = ap (λ (s : Shape). s.size) (shape_out types ty) ∙ of_layer (out-Ty ty) k is value
  where
    of_layer : (z : Ty-F Ty) (j : Kind) → kind_at z ≡ j → (j ≢ NoValue) → (shape_at (named_shape types 64) (map-Ty Ty Shape (shape_of types) z)).size ≡ kind_size j
    of_layer (Ty-F.Int w) j e v = ap kind_size e
    of_layer Ty-F.Ptr j e v = ap kind_size e
    of_layer z j e v = absurd (v (sym e))

-- bytes of a number
bytes_length : (k n : ℕ) → length (le_bytes k n) ≡ k
bytes_length zero n = refl
bytes_length (suc k) n = ap (λ l. suc l) (bytes_length k (n / 256))

-- cells of a value
value_length : (x : Present) (kind : Kind) (v : Value) → IsOfKind x kind v → length (cells_of v) ≡ kind_size kind
value_length x (Number w) (Num u n) is = length_map Byte (le_bytes (bytes_of u) n) ∙ bytes_length (bytes_of u) n ∙ ap bytes_of is.0
value_length x (Number w) Null is = absurd is
value_length x (Number w) (At o d) is = absurd is
value_length x (Number w) (Fun f) is = absurd is
value_length x Pointer (Num u n) is = absurd is
value_length x Pointer Null is = refl
value_length x Pointer (At o d) is = refl
value_length x Pointer (Fun f) is = refl
value_length x NoValue v is = absurd is

-- cells of an answer
answer_length : (x : Present) (kind : Kind) (size : ℕ) (r : Answer Value) → Properly (IsOfKind x kind) r → (size ≡ kind_size kind) → length (cells_or_zeros size r) ≡ size
answer_length x kind size (Ok v) is e = value_length x kind v is ∙ sym e
answer_length x kind size (Err stop) is e = length-replicate size (Byte 0)

module _ (m : Module) (x : Present) (c : Covers m x) where
  -- zeros, as undef and poison are
  zero_length : (ty : Ty) → length (cells_or_zeros (shape_of m.types ty).size (zero_of (kind_of ty))) ≡ (shape_of m.types ty).size
  zero_length ty = of_kind (kind_of ty) refl
    where
      of_kind : (k : Kind) → kind_of ty ≡ k → length (cells_or_zeros (shape_of m.types ty).size (zero_of k)) ≡ (shape_of m.types ty).size
      of_kind NoValue e = length-replicate (shape_of m.types ty).size (Byte 0)
      of_kind (Number w) e = length_map Byte (le_bytes (bytes_of w) 0) ∙ bytes_length (bytes_of w) 0 ∙ sym (size_as m.types ty (Number w) e (λ f. absurd (cc)))
      of_kind Pointer e = sym (size_as m.types ty Pointer e (λ f. absurd (cc)))

  -- an operand
  operand_length : (ty : Ty) (v : Operand) → operand_fits m (λ name. None) (kind_of ty) v ≡ true → length (cells_or_zeros (shape_of m.types ty).size (value_of m [] (kind_of ty) v)) ≡ (shape_of m.types ty).size
  operand_length ty v fits = of_kind (kind_of ty) refl (value_gives m x (λ name. None) [] c tt (kind_of ty) v fits)
    where
      none_of : (r : Answer Value) → Properly (IsOfKind x NoValue) r → length (cells_or_zeros (shape_of m.types ty).size r) ≡ (shape_of m.types ty).size
      none_of (Ok v2) is = absurd is
      none_of (Err e) is = length-replicate (shape_of m.types ty).size (Byte 0)

      of_kind : (k : Kind) → kind_of ty ≡ k → Properly (IsOfKind x (kind_of ty)) (value_of m [] (kind_of ty) v) → length (cells_or_zeros (shape_of m.types ty).size (value_of m [] (kind_of ty) v)) ≡ (shape_of m.types ty).size
      of_kind NoValue e is = none_of (value_of m [] (kind_of ty) v) (subst (λ k. Properly (IsOfKind x k) (value_of m [] (kind_of ty) v)) e is)
      of_kind (Number w) e is = answer_length x (Number w) (shape_of m.types ty).size (value_of m [] (kind_of ty) v) (subst (λ k. Properly (IsOfKind x k) (value_of m [] (kind_of ty) v)) e is) (size_as m.types ty (Number w) e (λ f. absurd (cc)))
      of_kind Pointer e is = answer_length x Pointer (shape_of m.types ty).size (value_of m [] (kind_of ty) v) (subst (λ k. Properly (IsOfKind x k) (value_of m [] (kind_of ty) v)) e is) (size_as m.types ty Pointer e (λ f. absurd (cc)))

  -- a value
  init_value_length : (ty : Ty) (v : Operand) → value_fits m ty v ≡ true → length (cells_or_zeros (shape_of m.types ty).size (value_of m [] (kind_of ty) v)) ≡ (shape_of m.types ty).size
  init_value_length ty Undef fits = zero_length ty
  init_value_length ty Poison fits = zero_length ty
  init_value_length ty v fits = operand_length ty v fits

  -- a type by its outermost word
  abbrev layer : Ty-F Ty → Shape
  layer z = shape_at (named_shape m.types 64) (map-Ty Ty Shape (shape_of m.types) z)

  -- a text
  text_length : (bytes : List ℕ) (z : Ty-F Ty) → text_fits bytes z ≡ true → length (map Byte bytes) ≡ (layer z).size
  text_length bytes (Ty-F.Array n of) fits =
      let p = and_parts _ _ fits in
      let many = eqb-true (length bytes) n p.0 in
      let one = size_as m.types of (Number W8) (kind_is (kind_of of) (Number W8) p.1) (λ f. absurd (cc)) in
      length_map Byte bytes ∙ many ∙ (let e : n ≡ n * 1 = omega arith in e) ∙ ap (λ k. n * k) (sym one)
  text_length bytes z fits = not_true fits

  -- an initialiser of a type it fits has the type's size
  abbrev Sized : Init → Type 0
  Sized i = (ty : Ty) → init_fits m i ty ≡ true → length (cells_of_init m i ty) ≡ (shape_of m.types ty).size

  -- an element with its type
  abbrev fitted_elem : Elem → Fitted
  fitted_elem = fold-Elem (Ty → Bool) Fitted (init_fits_at m) (λ (e : Elem-F (Ty → Bool) Fitted). record { ty = e.ty; fits = e.init e.ty })

  -- has the type's size and alignment
  abbrev ElementSized : Elem → Type 0
  ElementSized e = (fitted_elem e).fits ≡ true → ((part_of m e).align ≡ (shape_of m.types (fitted_elem e).ty).align) × (length (part_of m e).cells ≡ (shape_of m.types (fitted_elem e).ty).size)

  -- initialisers and elements within others
  abbrev WithinInit : Type 0
  WithinInit = Such the_family (claims Sized ElementSized) member-Init

  abbrev WithinElem : Type 0
  WithinElem = Such the_family (claims Sized ElementSized) member-Elem

  -- elements of one type, end to end
  array_length : (of : Ty) (es : List WithinElem) → list_all (λ (e : Fitted). same_ty e.ty of && e.fits) (map fitted_elem (map (λ (k : WithinElem). k.0) es)) ≡ true → length (end_to_end (map (part_of m) (map (λ (k : WithinElem). k.0) es))) ≡ length es * (shape_of m.types of).size
  array_length of [] fits = omega arith
  array_length of (e ∷ es) fits =
      let p = and_parts _ _ fits in
      let q = and_parts _ _ p.0 in
      let one = (e.1 q.1).1 ∙ ap (λ (t : Ty). (shape_of m.types t).size) (ty_is (fitted_elem e.0).ty of q.0) in
      let go = array_length of es p.1 in
      let size = (shape_of m.types of).size in
      length-append (part_of m e.0).cells (end_to_end (map (part_of m) (map (λ (k : WithinElem). k.0) es))) ∙ ap (λ n. n + length (end_to_end (map (part_of m) (map (λ (k : WithinElem). k.0) es)))) one ∙ ap (λ n. size + n) go ∙ grind arith

  -- fields of a struct
  fields_match : (es : List WithinElem) (fields : List Ty) → fields_fit (map fitted_elem (map (λ (k : WithinElem). k.0) es)) fields ≡ true → Matches (map (part_of m) (map (λ (k : WithinElem). k.0) es)) (map (shape_of m.types) fields)
  fields_match [] [] fits = tt
  fields_match [] (t ∷ ts) fits = not_true fits
  fields_match (e ∷ es) [] fits = not_true fits
  fields_match (e ∷ es) (t ∷ ts) fits =
      let p = and_parts _ _ fits in
      let q = and_parts _ _ p.0 in
      let same = ty_is (fitted_elem e.0).ty t q.0 in
      let one = e.1 q.1 in
      ((one.0 ∙ ap (λ (u : Ty). (shape_of m.types u).align) same, one.1 ∙ ap (λ (u : Ty). (shape_of m.types u).size) same, shape_aligned m.types t), fields_match es ts p.1)

  -- as many elements
  fitted_length : (es : List WithinElem) → length (map fitted_elem (map (λ (k : WithinElem). k.0) es)) ≡ length es
  fitted_length es = length_map fitted_elem (map (λ (k : WithinElem). k.0) es) ∙ length_map (λ (k : WithinElem). k.0) es

  -- an array
  array_layer : (es : List WithinElem) (z : Ty-F Ty) → array_fits (map fitted_elem (map (λ (k : WithinElem). k.0) es)) z ≡ true → length (end_to_end (map (part_of m) (map (λ (k : WithinElem). k.0) es))) ≡ (layer z).size
  array_layer es (Ty-F.Array n of) fits =
      let p = and_parts _ _ fits in
      let many = sym (fitted_length es) ∙ eqb-true (length (map fitted_elem (map (λ (k : WithinElem). k.0) es))) n p.0 in
      array_length of es p.1 ∙ ap (λ k. k * (shape_of m.types of).size) many
  array_layer es z fits = not_true fits

  -- a struct
  struct_layer : (es : List WithinElem) (z : Ty-F Ty) → struct_fits false (map fitted_elem (map (λ (k : WithinElem). k.0) es)) z ≡ true → length (spread 0 (layer z).size (map (part_of m) (map (λ (k : WithinElem). k.0) es))) ≡ (layer z).size
  struct_layer es (Ty-F.Struct fields) fits =
      let fs = map (shape_of m.types) fields in
      spread_length 0 (struct fs).size (map (part_of m) (map (λ (k : WithinElem). k.0) es)) fs (fields_match es fields fits) (rounded_up (fields_end 0 fs) (greatest_align fs) (align_positive fs))
      ∙ (let e : (struct fs).size - 0 ≡ (struct fs).size = omega arith in e)
  struct_layer es (Ty-F.Packed fields) fits = not_true fits
  struct_layer es z fits = not_true fits

  -- fields of a packed struct, one behind the other
  packed_end : (at : ℕ) (ps : List Part) (fs : List Shape) → Matches ps fs → fields_end at (unaligned fs) ≡ at + length (end_to_end ps)
  packed_end at [] [] f = omega arith
  packed_end at [] (s ∷ ss) f = absurd f
  packed_end at (p ∷ ps) [] f = absurd f
  packed_end at (p ∷ ps) (s ∷ ss) f =
      let one = rounded_one at in
      let go = packed_end (rounded at 1 + s.size) ps ss f.1 in
      let a = length-append p.cells (end_to_end ps) in
      let size_is = f.0.1 in
      omega arith
    where
      rounded_one : (n : ℕ) → rounded n 1 ≡ n
      rounded_one n = let e = div-add-mod' (n + (1 - 1)) 1 in let l = mod-lt (n + (1 - 1)) (let q : 0 < 1 = omega arith in q) in omega arith

  -- their alignment
  packed_align : (fs : List Shape) → greatest_align (unaligned fs) ≡ 1
  packed_align [] = refl
  packed_align (f ∷ fs) = let r = packed_align fs in omega arith

  -- a packed struct
  packed_layer : (es : List WithinElem) (z : Ty-F Ty) → struct_fits true (map fitted_elem (map (λ (k : WithinElem). k.0) es)) z ≡ true → length (end_to_end (map (part_of m) (map (λ (k : WithinElem). k.0) es))) ≡ (layer z).size
  packed_layer es (Ty-F.Packed fields) fits =
      let fs = map (shape_of m.types) fields in
      let ps = map (part_of m) (map (λ (k : WithinElem). k.0) es) in
      let ends = packed_end 0 ps fs (fields_match es fields fits) in
      let l = rounded_up (fields_end 0 (unaligned fs)) 1 (let q : 0 < 1 = omega arith in q) in
      let d = div-add-mod' (fields_end 0 (unaligned fs) + (1 - 1)) 1 in
      let r = mod-lt (fields_end 0 (unaligned fs) + (1 - 1)) (let q : 0 < 1 = omega arith in q) in
      let exact : length (end_to_end ps) ≡ rounded (fields_end 0 (unaligned fs)) 1 = omega arith in
      exact ∙ ap (λ a. rounded (fields_end 0 (unaligned fs)) a) (sym (packed_align fs))
  packed_layer es (Ty-F.Struct fields) fits = not_true fits
  packed_layer es z fits = not_true fits

-- a named type is a struct that nests within the limit
pub record IsWithin (types : List NamedTy) (t : NamedTy) : Type 0 where
  pub is_struct : is_struct_at (out-Ty t.fields) ≡ true
  pub depth : depth_of types t.fields ≤ MAX_NESTING

-- so are all types of a module that names find
abbrev pub AreWithin : List NamedTy → Type 0
AreWithin types = (name : List ℕ) (t : NamedTy) → first_where (λ (u : NamedTy). same_name u.name name) types ≡ Some t → IsWithin types t

module _ (m : Module) (x : Present) (c : Covers m x) (nest : AreWithin m.types) where
  -- a named type has the shape of its fields
  opened_shape : (packed : Bool) (es : List Fitted) (z : Ty-F Ty) → struct_fits packed es (opened m.types z) ≡ true → layer m x c z ≡ layer m x c (opened m.types z)
  opened_shape packed es (Ty-F.Named name) fits = of_option (first_where (λ (t : NamedTy). same_name t.name name) m.types) refl fits
    where
      of_option : (o : Option NamedTy) → first_where (λ (t : NamedTy). same_name t.name name) m.types ≡ o → struct_fits packed es (named_fields o) ≡ true → shape_or_nothing (fold-Ty Shape (shape_at (named_shape m.types 63))) (first_where (λ (t : NamedTy). same_name t.name name) m.types) ≡ layer m x c (named_fields (first_where (λ (t : NamedTy). same_name t.name name) m.types))
      of_option (Some t) e f =
          let n = nest name t e in
          ap (shape_or_nothing (fold-Ty Shape (shape_at (named_shape m.types 63)))) e ∙ shape_stable m.types (λ name2 u found. (nest name2 u found).is_struct) t.fields n.is_struct n.depth ∙ shape_out m.types t.fields ∙ ap (λ o. layer m x c (named_fields o)) (sym e)
      of_option None e f = not_true f
  opened_shape packed es z fits = refl

  -- one level
  at_init : (y : Init-F Init Elem) → ((ty : Ty) → init_fits_at m (map-Init Init Elem (Ty → Bool) Fitted (init_fits m) (fitted_elem m x c) y) ty ≡ true → length (init_at m (map-Init Init Elem (Ty → List Cell) Part (cells_of_init m) (part_of m) y) ty) ≡ (shape_of m.types ty).size) → Sized m x c (roll-Init y)
  at_init y go ty e =
      ap (λ (f : Ty → List Cell). length (f ty)) (fold-roll-Init (Ty → List Cell) Part (init_at m) (element_at m) y)
      ∙ go ty (sym (ap (λ (f : Ty → Bool). f ty) (fold-roll-Init (Ty → Bool) Fitted (init_fits_at m) (λ (k : Elem-F (Ty → Bool) Fitted). record { ty = k.ty; fits = k.init k.ty }) y)) ∙ e)

  -- by the outermost word of the type
  by_out : (ty : Ty) (n : ℕ) → n ≡ (layer m x c (out-Ty ty)).size → n ≡ (shape_of m.types ty).size
  by_out ty n e = e ∙ ap (λ (s : Shape). s.size) (sym (shape_out m.types ty))

  -- a level of initialisers
  of_init : (y : Init-F (WithinInit m x c) (WithinElem m x c)) → Sized m x c (roll-Init (map-Init (WithinInit m x c) (WithinElem m x c) Init Elem (λ e. e.0) (λ e. e.0) y))
  of_init (Init-F.Value v) = at_init (Init-F.Value v) (λ ty e. init_value_length m x c ty v e)
  of_init Init-F.Zero = at_init Init-F.Zero (λ ty e. length-replicate (shape_of m.types ty).size (Byte 0))
  of_init (Init-F.Text bytes) = at_init (Init-F.Text bytes) (λ ty e. by_out ty (length (map Byte bytes)) (text_length m x c bytes (out-Ty ty) e))
  of_init (Init-F.Array es) = at_init (Init-F.Array (map (λ (e : WithinElem m x c). e.0) es)) (λ ty e. by_out ty _ (array_layer m x c es (out-Ty ty) e))
  of_init (Init-F.Struct es) = at_init (Init-F.Struct (map (λ (e : WithinElem m x c). e.0) es)) (λ ty e.
      let opens = ap (λ (s : Shape). s.size) (shape_out m.types ty ∙ opened_shape false (map (fitted_elem m x c) (map (λ (k : WithinElem m x c). k.0) es)) (out-Ty ty) e) in
      ap (λ n. length (spread 0 n (map (part_of m) (map (λ (k : WithinElem m x c). k.0) es)))) opens ∙ struct_layer m x c es (opened m.types (out-Ty ty)) e ∙ sym opens)
  of_init (Init-F.Packed es) = at_init (Init-F.Packed (map (λ (e : WithinElem m x c). e.0) es)) (λ ty e.
      packed_layer m x c es (opened m.types (out-Ty ty)) e ∙ sym (ap (λ (s : Shape). s.size) (shape_out m.types ty ∙ opened_shape true (map (fitted_elem m x c) (map (λ (k : WithinElem m x c). k.0) es)) (out-Ty ty) e)))

  -- a level of elements
  of_elem : (y : Elem-F (WithinInit m x c) (WithinElem m x c)) → ElementSized m x c (roll-Elem (map-Elem (WithinInit m x c) (WithinElem m x c) Init Elem (λ e. e.0) (λ e. e.0) y))
  of_elem y e =
      let z = map-Elem (WithinInit m x c) (WithinElem m x c) Init Elem (λ k. k.0) (λ k. k.0) y in
      let part = fold-roll-Elem (Ty → List Cell) Part (init_at m) (element_at m) z in
      let fit = fold-roll-Elem (Ty → Bool) Fitted (init_fits_at m) (λ (k : Elem-F (Ty → Bool) Fitted). record { ty = k.ty; fits = k.init k.ty }) z in
      let own = y.init.1 y.ty (sym (ap (λ (f : Fitted). f.fits) fit) ∙ e) in (
        ap (λ (p : Part). p.align) part ∙ sym (ap (λ (f : Fitted). (shape_of m.types f.ty).align) fit),
        ap (λ (p : Part). length p.cells) part ∙ own ∙ sym (ap (λ (f : Fitted). (shape_of m.types f.ty).size) fit),
      )

  -- any initialiser that fits a type has its size
  pub init_sized : (i : Init) → Sized m x c i
  init_sized = ind-Init (Sized m x c) (ElementSized m x c) (λ z y e. subst (λ k. Sized m x c (roll-Init k)) e (of_init y)) (λ z y e. subst (λ k. ElementSized m x c (roll-Elem k)) e (of_elem y))

-- globals of a valid module begin with as many cells as their types have bytes
pub globals_sized : (m : Module) (x : Present) → Covers m x → AreWithin m.types → (gs : List GlobalVar) → list_all (λ (g : GlobalVar). init_fits m g.init g.ty) gs ≡ true → list_all (is_sized m) gs ≡ true
globals_sized m x c nest [] fits = refl
globals_sized m x c nest (g ∷ gs) fits =
    let p = and_parts _ _ fits in
    and_from _ _ (eq-eqb _ _ (init_sized m x c nest g.init g.ty p.0)) (globals_sized m x c nest gs p.1)
