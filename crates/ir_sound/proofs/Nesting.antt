-- A named type that nests within the limit has the shape of its fields.
use Rattle.std.proofs.Common.{◌≡◌, ℕ, zero, suc, ◌+◌, ◌≤◌, true, List, [], ◌∷◌, map, Option, Some, None, refl, ap, sym, ◌∙◌, subst, arith}
use Rattle.std.specs.Prelude.{max}
use denote.Hole.Holds.{Such}
use Rattle.ir_core.specs.declared.limit.TheConstants.{MAX_NESTING}
use Rattle.ir_core.specs.declared.ty.Ty.{Ty, out-Ty, roll-Ty, fold-Ty, ind-Ty, fold-roll-Ty, roll-out-Ty}
use Rattle.ir_core.specs.declared.ty.Ty.TheOpen.{Ty-F}
use Rattle.ir_core.specs.declared.ty.Ty.TheBlock.{the_family, member-Ty}
use Rattle.ir_core.specs.declared.ty.Ty.TheFolds.{claims, map-Ty}
use Rattle.ir_core.specs.declared.ty.NamedTy.{NamedTy}
use Rattle.ir_core.specs.Names.{same_name, first_where}
use Rattle.ir_core.specs.Shapes.{Shape, array, struct, unaligned, shape_at, shape_or_nothing, named_shape, shape_of}
use Rattle.ir_core.specs.Counts.{deeper, deepest, depth_at, depth_or_none, named_depth, depth_of}
use Rattle.ir_core.specs.Built.{is_struct_at}
use Rattle.ir_sound.proofs.SameLaws.{not_true}

-- what is one level deeper and within the limit is no deeper than one less
shallower : (n k : ℕ) → k ≤ MAX_NESTING → deeper n ≤ k → n + 1 ≤ k
shallower n k limit e = omega arith

-- the first of two
max_first : (a b k : ℕ) → max a b ≤ k → a ≤ k
max_first a b k e = omega arith

-- the second
max_second : (a b k : ℕ) → max a b ≤ k → b ≤ k
max_second a b k e = omega arith

module _ (a b : List ℕ → Shape) (depth : List ℕ → ℕ) (k : ℕ) (limit : k ≤ MAX_NESTING) (same : (name : List ℕ) → depth name ≤ k → a name ≡ b name) where
  -- where names are the same as deep as a type goes, so are shapes
  abbrev Stable : Ty → Type 0
  Stable ty = fold-Ty ℕ (depth_at depth) ty ≤ k → fold-Ty Shape (shape_at a) ty ≡ fold-Ty Shape (shape_at b) ty

  -- a type within another
  abbrev Within : Type 0
  Within = Such the_family (claims Stable) member-Ty

  -- fields
  fields_stable : (es : List Within) → deepest (map (fold-Ty ℕ (depth_at depth)) (map (λ (e : Within). e.0) es)) ≤ k → map (fold-Ty Shape (shape_at a)) (map (λ (e : Within). e.0) es) ≡ map (fold-Ty Shape (shape_at b)) (map (λ (e : Within). e.0) es)
  fields_stable [] e = refl
  fields_stable (w ∷ ws) e =
      let n = fold-Ty ℕ (depth_at depth) w.0 in
      let rest = deepest (map (fold-Ty ℕ (depth_at depth)) (map (λ (v : Within). v.0) ws)) in
      let q = w.1 (max_first n rest k e) in
      let r = fields_stable ws (max_second n rest k e) in
      cc

  -- one level
  level_stable : (y : Ty-F Within) → depth_at depth (map-Ty Ty ℕ (fold-Ty ℕ (depth_at depth)) (map-Ty Within Ty (λ e. e.0) y)) ≤ k → shape_at a (map-Ty Ty Shape (fold-Ty Shape (shape_at a)) (map-Ty Within Ty (λ e. e.0) y)) ≡ shape_at b (map-Ty Ty Shape (fold-Ty Shape (shape_at b)) (map-Ty Within Ty (λ e. e.0) y))
  level_stable Ty-F.Void e = refl
  level_stable (Ty-F.Int w) e = refl
  level_stable Ty-F.Ptr e = refl
  level_stable (Ty-F.Array n w) e = let l = shallower (fold-Ty ℕ (depth_at depth) w.0) k limit e in ap (array n) (w.1 (omega arith))
  level_stable (Ty-F.Struct ws) e = let l = shallower (deepest (map (fold-Ty ℕ (depth_at depth)) (map (λ (v : Within). v.0) ws))) k limit e in ap struct (fields_stable ws (omega arith))
  level_stable (Ty-F.Packed ws) e = let l = shallower (deepest (map (fold-Ty ℕ (depth_at depth)) (map (λ (v : Within). v.0) ws))) k limit e in ap (λ fs. struct (unaligned fs)) (fields_stable ws (omega arith))
  level_stable (Ty-F.Named name) e = same name e

  -- all types
  ty_stable : (ty : Ty) → Stable ty
  ty_stable = ind-Ty Stable (λ x y e. subst (λ z. Stable (roll-Ty z)) e (λ t.
      fold-roll-Ty Shape (shape_at a) (map-Ty Within Ty (λ w. w.0) y)
      ∙ level_stable y (subst (λ n. n ≤ k) (fold-roll-Ty ℕ (depth_at depth) (map-Ty Within Ty (λ w. w.0) y)) t)
      ∙ sym (fold-roll-Ty Shape (shape_at b) (map-Ty Within Ty (λ w. w.0) y))))

  -- rows of types
  tys_stable : (ts : List Ty) → deepest (map (fold-Ty ℕ (depth_at depth)) ts) ≤ k → map (fold-Ty Shape (shape_at a)) ts ≡ map (fold-Ty Shape (shape_at b)) ts
  tys_stable [] e = refl
  tys_stable (t ∷ ts) e =
      let n = fold-Ty ℕ (depth_at depth) t in
      let rest = deepest (map (fold-Ty ℕ (depth_at depth)) ts) in
      let q = ty_stable t (max_first n rest k e) in
      let r = tys_stable ts (max_second n rest k e) in
      cc

  -- a struct may be one deeper, since its fields aren't
  layer_stable : k + 1 ≤ MAX_NESTING → (z : Ty-F Ty) → is_struct_at z ≡ true → depth_at depth (map-Ty Ty ℕ (fold-Ty ℕ (depth_at depth)) z) ≤ k + 1 → shape_at a (map-Ty Ty Shape (fold-Ty Shape (shape_at a)) z) ≡ shape_at b (map-Ty Ty Shape (fold-Ty Shape (shape_at b)) z)
  layer_stable more (Ty-F.Struct fields) is e = let l = shallower (deepest (map (fold-Ty ℕ (depth_at depth)) fields)) (k + 1) more e in ap struct (tys_stable fields (omega arith))
  layer_stable more (Ty-F.Packed fields) is e = let l = shallower (deepest (map (fold-Ty ℕ (depth_at depth)) fields)) (k + 1) more e in ap (λ fs. struct (unaligned fs)) (tys_stable fields (omega arith))
  layer_stable more z is e = not_true is

  -- so by its outermost word
  struct_stable : k + 1 ≤ MAX_NESTING → (ty : Ty) → is_struct_at (out-Ty ty) ≡ true → fold-Ty ℕ (depth_at depth) ty ≤ k + 1 → fold-Ty Shape (shape_at a) ty ≡ fold-Ty Shape (shape_at b) ty
  struct_stable more ty is e =
      ap (fold-Ty Shape (shape_at a)) (sym (roll-out-Ty ty)) ∙ fold-roll-Ty Shape (shape_at a) (out-Ty ty)
      ∙ layer_stable more (out-Ty ty) is (subst (λ n. n ≤ k + 1) (ap (fold-Ty ℕ (depth_at depth)) (sym (roll-out-Ty ty)) ∙ fold-roll-Ty ℕ (depth_at depth) (out-Ty ty)) e)
      ∙ sym (ap (fold-Ty Shape (shape_at b)) (sym (roll-out-Ty ty)) ∙ fold-roll-Ty Shape (shape_at b) (out-Ty ty))

-- a struct has at least one level
struct_deep : (depth : List ℕ → ℕ) (ty : Ty) → is_struct_at (out-Ty ty) ≡ true → 1 ≤ fold-Ty ℕ (depth_at depth) ty
struct_deep depth ty is = subst (λ n. 1 ≤ n) (sym (ap (fold-Ty ℕ (depth_at depth)) (sym (roll-out-Ty ty)) ∙ fold-roll-Ty ℕ (depth_at depth) (out-Ty ty))) (of_layer (out-Ty ty) is)
  where
    of_layer : (z : Ty-F Ty) → is_struct_at z ≡ true → 1 ≤ depth_at depth (map-Ty Ty ℕ (fold-Ty ℕ (depth_at depth)) z)
    of_layer (Ty-F.Struct fields) e = omega arith
    of_layer (Ty-F.Packed fields) e = omega arith
    of_layer z e = not_true e

-- named types are structs
abbrev pub AreStructs : List NamedTy → Type 0
AreStructs types = (name : List ℕ) (t : NamedTy) → first_where (λ (u : NamedTy). same_name u.name name) types ≡ Some t → is_struct_at (out-Ty t.fields) ≡ true

-- one replacement more changes nothing at what is less deep
names_stable : (types : List NamedTy) → AreStructs types → (n : ℕ) → n + 1 ≤ MAX_NESTING → (name : List ℕ) → named_depth types (suc n) name ≤ n → named_shape types n name ≡ named_shape types (suc n) name
names_stable types are zero limit name e = of_option (first_where (λ (t : NamedTy). same_name t.name name) types) refl e
  where
    of_option : (o : Option NamedTy) → first_where (λ (t : NamedTy). same_name t.name name) types ≡ o → depth_or_none (fold-Ty ℕ (depth_at (named_depth types 0))) o ≤ 0 → named_shape types 0 name ≡ shape_or_nothing (fold-Ty Shape (shape_at (named_shape types 0))) o
    of_option (Some t) f g = let l = struct_deep (named_depth types 0) t.fields (are name t f) in absurd (omega arith)
    of_option None f g = refl
names_stable types are (suc n) limit name e =
    let less : n + 1 ≤ MAX_NESTING = omega arith in
    let here : n ≤ MAX_NESTING = omega arith in
    of_option (first_where (λ (t : NamedTy). same_name t.name name) types) refl e (struct_stable (named_shape types n) (named_shape types (suc n)) (named_depth types (suc n)) n here (names_stable types are n less) less)
  where
    of_option : (o : Option NamedTy) → first_where (λ (t : NamedTy). same_name t.name name) types ≡ o → depth_or_none (fold-Ty ℕ (depth_at (named_depth types (suc n)))) o ≤ suc n
        → ((ty : Ty) → is_struct_at (out-Ty ty) ≡ true → fold-Ty ℕ (depth_at (named_depth types (suc n))) ty ≤ n + 1 → fold-Ty Shape (shape_at (named_shape types n)) ty ≡ fold-Ty Shape (shape_at (named_shape types (suc n))) ty)
        → shape_or_nothing (fold-Ty Shape (shape_at (named_shape types n))) o ≡ shape_or_nothing (fold-Ty Shape (shape_at (named_shape types (suc n)))) o
    of_option (Some t) f g go = go t.fields (are name t f) (omega arith)
    of_option None f g go = refl

-- a named type within the limit has the shape of its fields
pub shape_stable : (types : List NamedTy) → AreStructs types → (ty : Ty) → is_struct_at (out-Ty ty) ≡ true → depth_of types ty ≤ MAX_NESTING → fold-Ty Shape (shape_at (named_shape types 63)) ty ≡ shape_of types ty
unfolding shape_of depth_of
shape_stable types are ty is within =
    struct_stable (named_shape types 63) (named_shape types 64) (named_depth types 64) 63 (omega arith) (names_stable types are 63 (omega arith)) (omega arith) ty is within
