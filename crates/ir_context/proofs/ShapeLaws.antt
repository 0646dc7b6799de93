-- What is told of types by their extents, the places of fields included.
use Rattle.std.proofs.Common.{◌≡◌, ℕ, zero, suc, ◌+◌, ◌-◌, ◌^◌, ◌<◌, ◌≤◌, Bool, true, false, List, [], ◌∷◌, map, fold, take, Option, Some, None, refl, ap, sym, ◌∙◌, subst, arith, inl, inr, if◌then◌else◌}
use Rattle.std.specs.Prelude.{option_map, slice_get}
use Rattle.std.proofs.lemmas.Bool.{cases_lt}
use Rattle.std.proofs.Math.Nat.{mod-lt}
use Rattle.std.proofs.lemmas.Nat.{div-add-mod'}
use Rattle.ir_core.specs.declared.limit.TheConstants.{MAX_NESTING}
use Rattle.ir_core.specs.declared.size.Align.{Align}
use Rattle.ir_core.specs.declared.size.Align.TheVariants.{One, Two, Four, Eight}
use Rattle.ir_core.specs.declared.size.Extent.{Extent}
use Rattle.ir_core.specs.declared.ty.Ty.{Ty, fold-Ty}
use Rattle.ir_core.specs.declared.ty.NamedTy.{NamedTy}
use Rattle.ir_core.specs.Names.{same_name, number_where, first_where}
use Rattle.ir_core.specs.Shapes.{Shape, rounded, fields_end, greatest_align, struct, part_of_field, shape_at, shape_or_nothing, named_shape, shape_of, nothing}
use Rattle.ir_core.specs.Counts.{told, depth_at, depth_or_none, named_depth, depth_of}
use Rattle.ir_core.specs.Sizes.{align_bytes, empty_extent, field_align, with_field, row_at, row_in, extent_in, names_in, rows_after}
use Rattle.ir_core.proofs.ExtentLaws.{Tells, tells_ty}
use Rattle.ir_context.specs.Extents.{extent_of, field_place}

-- the row that a type has, if there is one
abbrev row_of : (NamedTy → Extent) → Option NamedTy → Extent
row_of extent (Some t) = extent t
row_of extent None = empty_extent

-- one place further in rows that are one longer
row_further : (e : Extent) (rows : List Extent) (o : Option ℕ) → row_at (e ∷ rows) (option_map (λ n. suc n) o) ≡ row_at rows o
row_further e rows None = refl
row_further e rows (Some n) = refl

-- the row of a name is that of the first type of that name
row_found : (extent : NamedTy → Extent) (types : List NamedTy) (name : List ℕ) → row_in (names_in types) (map extent types) name ≡ row_of extent (first_where (λ (t : NamedTy). same_name t.name name) types)
row_found extent [] name = refl
row_found extent (t ∷ ts) name = of_bool (same_name t.name name) (row_found extent ts name)
  where
    of_bool : (b : Bool) → row_in (names_in ts) (map extent ts) name ≡ row_of extent (first_where (λ (u : NamedTy). same_name u.name name) ts)
        → row_at (extent t ∷ map extent ts) (if b then Some 0 else option_map (λ n. suc n) (number_where (λ n. same_name n name) (names_in ts))) ≡ row_of extent (if b then Some t else first_where (λ (u : NamedTy). same_name u.name name) ts)
    of_bool true go = refl
    of_bool false go = row_further (extent t) (map extent ts) (number_where (λ n. same_name n name) (names_in ts)) ∙ go

-- rows tell names that were replaced as often
rows_tell : (types : List NamedTy) (n : ℕ) (name : List ℕ) → Tells (row_in (names_in types) (rows_after types n) name) (named_shape types n name) (named_depth types n name)
unfolding rows_after
rows_tell types zero name = subst (λ e. Tells e nothing (named_depth types zero name)) (sym (row_found (λ t. record { size = 0; align = One; depth = MAX_NESTING + 1 }) types name)) (of_option (first_where (λ (t : NamedTy). same_name t.name name) types))
  where
    of_option : (o : Option NamedTy) → Tells (row_of (λ t. record { size = 0; align = One; depth = MAX_NESTING + 1 }) o) nothing (depth_or_none (λ ty. MAX_NESTING + 1) o)
    of_option (Some t) = (refl, refl, refl)
    of_option None = (refl, refl, refl)
rows_tell types (suc n) name =
    let extent = λ (t : NamedTy). extent_in (names_in types) (rows_after types n) t.fields in
    subst (λ e. Tells e (named_shape types (suc n) name) (named_depth types (suc n) name)) (sym (row_found extent types name))
    (of_option (first_where (λ (t : NamedTy). same_name t.name name) types) (λ ty. tells_ty (row_in (names_in types) (rows_after types n)) (named_shape types n) (named_depth types n) (rows_tell types n) ty))
  where
    of_option : (o : Option NamedTy) → ((ty : Ty) → Tells (extent_in (names_in types) (rows_after types n) ty) (fold-Ty Shape (shape_at (named_shape types n)) ty) (fold-Ty ℕ (depth_at (named_depth types n)) ty))
        → Tells (row_of (λ (t : NamedTy). extent_in (names_in types) (rows_after types n) t.fields) o) (shape_or_nothing (fold-Ty Shape (shape_at (named_shape types n))) o) (depth_or_none (fold-Ty ℕ (depth_at (named_depth types n))) o)
    of_option (Some t) go = go t.fields
    of_option None go = (refl, refl, refl)

-- what the extents say of any type
pub tells : (types : List NamedTy) (ty : Ty) → Tells (extent_of types ty) (shape_of types ty) (depth_of types ty)
unfolding shape_of depth_of
tells types ty = tells_ty (row_in (names_in types) (rows_after types MAX_NESTING)) (named_shape types MAX_NESTING) (named_depth types MAX_NESTING) (rows_tell types MAX_NESTING) ty

-- an alignment is a byte at least
align_positive : (a : Align) → 0 < align_bytes a
align_positive One = omega arith
align_positive Two = omega arith
align_positive Four = omega arith
align_positive Eight = omega arith

-- a multiple that isn't below
pub rounded_up : (n to : ℕ) → 0 < to → n ≤ rounded n to
rounded_up n to p =
    let k = n + (to - 1) in
    let e = div-add-mod' k to in
    let l = mod-lt k p in
    omega arith

-- a sum of what is told
told_sum : (x s : ℕ) → told (x + told s) ≡ told (x + s)
told_sum x s = omega arith

-- where what is told ends
told_end : (at a s : ℕ) → 0 < a → told (rounded (told at) a + told s) ≡ told (rounded at a + s)
told_end at a s p =
    elim (cases_lt at (2 ^ 64)) [
      | inl below ↦ (let e : told at ≡ at = omega arith in ap (λ n. told (rounded n a + told s)) e ∙ told_sum (rounded at a) s)
      | inr above ↦ (let e : told at ≡ 2 ^ 64 - 1 = omega arith in
          let l = rounded_up (2 ^ 64 - 1) a p in
          let r = rounded_up at a p in
          let same : told (rounded (2 ^ 64 - 1) a + told s) ≡ told (rounded at a + s) = omega arith in
          ap (λ n. told (rounded n a + told s)) e ∙ same)
    ]

-- a field as a struct lays it out: a packed one as if aligned to one byte
abbrev pub laid : Bool → Shape → Shape
laid true s = record s { align = 1 }
laid false s = s

-- what is told of it
laid_tells : (packed : Bool) (e : Extent) (s : Shape) (d : ℕ) → Tells e s d → (e.size ≡ told (laid packed s).size) × (align_bytes (field_align packed e) ≡ (laid packed s).align)
laid_tells true e s d t = (t.0, refl)
laid_tells false e s d t = (t.0, t.1)

module _ (types : List NamedTy) (packed : Bool) where
  -- the shape of a field
  abbrev shape : Ty → Shape
  shape f = laid packed (shape_of types f)

  -- what is told of a field
  field_tells : (f : Ty) → ((extent_of types f).size ≡ told (shape f).size) × (align_bytes (field_align packed (extent_of types f)) ≡ (shape f).align)
  field_tells f = laid_tells packed (extent_of types f) (shape_of types f) (depth_of types f) (tells types f)

  -- its alignment
  positive : (f : Ty) → 0 < (shape f).align
  positive f = subst (λ a. 0 < a) (field_tells f).1 (align_positive (field_align packed (extent_of types f)))

  -- where fields end
  fields_size : (fs : List Ty) (all : Extent) (at : ℕ) → all.size ≡ told at → (fold (with_field packed) all (map (extent_of types) fs)).size ≡ told (fields_end at (map shape fs))
  fields_size [] all at e = e
  fields_size (f ∷ fs) all at e =
      let a = field_align packed (extent_of types f) in
      let t = field_tells f in
      let ends : told (rounded all.size (align_bytes a) + (extent_of types f).size) ≡ told (rounded at (shape f).align + (shape f).size) =
      ap (λ n. told (rounded n (align_bytes a) + (extent_of types f).size)) e ∙ ap (λ n. told (rounded (told at) (align_bytes a) + n)) t.0 ∙ told_end at (align_bytes a) (shape f).size (align_positive a) ∙ ap (λ n. told (rounded at n + (shape f).size)) t.1 in
      fields_size fs (with_field packed all (extent_of types f)) (rounded at (shape f).align + (shape f).size) ends

  -- where a field begins
  place_told : (fs : List Ty) (f : Ty) → field_place packed (map (extent_of types) fs) (extent_of types f) ≡ told (rounded (fields_end 0 (map shape fs)) (shape f).align)
  place_told fs f =
      let a = field_align packed (extent_of types f) in
      let at = fields_end 0 (map shape fs) in
      let zeros : rounded at (align_bytes a) + 0 ≡ rounded at (align_bytes a) = omega arith in
      ap (λ n. told (rounded n (align_bytes a) + 0)) (fields_size fs empty_extent 0 refl) ∙ told_end at (align_bytes a) 0 (align_positive a) ∙ ap told zeros
      ∙ ap (λ n. told (rounded at n)) (field_tells f).1

  -- fields end behind where they begin
  ends_behind : (fs : List Ty) (at : ℕ) → at ≤ fields_end at (map shape fs)
  ends_behind [] at = omega arith
  ends_behind (f ∷ fs) at =
      let up = rounded_up at (shape f).align (positive f) in
      let go = ends_behind fs (rounded at (shape f).align + (shape f).size) in
      omega arith

  -- a field begins in front of where all end
  begins_before : (fs : List Ty) (at k : ℕ) (f : Ty) → slice_get fs k ≡ Some f → rounded (fields_end at (map shape (take k fs))) (shape f).align ≤ fields_end at (map shape fs)
  begins_before [] at k f e = absurd (cc)
  begins_before (g ∷ fs) at zero f e =
      let same : g ≡ f = cc in
      let go = ends_behind fs (rounded at (shape g).align + (shape g).size) in
      subst (λ h. rounded at (shape h).align ≤ fields_end at (map shape (g ∷ fs))) same (let le : rounded at (shape g).align ≤ fields_end at (map shape (g ∷ fs)) = omega arith in le)
  begins_before (g ∷ fs) at (suc k) f e = begins_before fs (rounded at (shape g).align + (shape g).size) k f e

  -- indices into a field
  pub part_field : (fs : List Ty) (at k : ℕ) (f : Ty) (is : List ℕ) → slice_get fs k ≡ Some f → part_of_field at (map shape fs) k is ≡ option_map (λ n. rounded (fields_end at (map shape (take k fs))) (shape f).align + n) ((shape f).part is)
  part_field [] at k f is e = absurd (cc)
  part_field (g ∷ fs) at zero f is e = let same : g ≡ f = cc in ap (λ h. option_map (λ n. rounded at (shape h).align + n) ((shape h).part is)) same
  part_field (g ∷ fs) at (suc k) f is e = part_field fs (rounded at (shape g).align + (shape g).size) k f is e

  -- an alignment of a struct is a byte at least
  greatest_positive : (fs : List Shape) → 0 < greatest_align fs
  greatest_positive [] = omega arith
  greatest_positive (f ∷ fs) = let go = greatest_positive fs in omega arith

  -- the place of a field in a struct of fewer than 2^64 bytes
  pub place_is : (fs : List Ty) (k : ℕ) (f : Ty) → slice_get fs k ≡ Some f → (struct (map shape fs)).size < 2 ^ 64 → field_place packed (map (extent_of types) (take k fs)) (extent_of types f) ≡ rounded (fields_end 0 (map shape (take k fs))) (shape f).align
  place_is fs k f e small =
      let before = begins_before fs 0 k f e in
      let whole = rounded_up (fields_end 0 (map shape fs)) (greatest_align (map shape fs)) (greatest_positive (map shape fs)) in
      place_told (take k fs) f ∙ (let is : told (rounded (fields_end 0 (map shape (take k fs))) (shape f).align) ≡ rounded (fields_end 0 (map shape (take k fs))) (shape f).align = omega arith in is)
