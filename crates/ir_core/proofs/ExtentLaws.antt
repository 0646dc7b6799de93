-- The extents that are counted in 64 bits tell the sizes, alignments and depths of types.
use Rattle.std.proofs.Common.{◌≡◌, ℕ, zero, suc, ◌+◌, ◌*◌, ◌-◌, ◌^◌, ◌<◌, ◌≤◌, Bool, true, false, List, [], ◌∷◌, map, fold, refl, ap, sym, ◌∙◌, subst, arith, inl, inr}
use Rattle.std.specs.Prelude.{max}
use Rattle.std.proofs.lemmas.Bool.{cases_lt}
use Rattle.std.proofs.Math.Nat.{mod-lt}
use Rattle.std.proofs.lemmas.Nat.{div-add-mod', mul-le}
use denote.Hole.Holds.{Such}
use Rattle.rd_num.specs.declared.width.Width.{Width}
use Rattle.rd_num.specs.declared.width.Width.TheVariants.{W1, W8, W16, W32, W64}
use Rattle.ir_core.specs.declared.size.Align.{Align}
use Rattle.ir_core.specs.declared.size.Align.TheVariants.{One, Two, Four, Eight}
use Rattle.ir_core.specs.declared.size.Extent.{Extent}
use Rattle.ir_core.specs.declared.ty.Ty.{Ty, fold-Ty, ind-Ty, roll-Ty, fold-roll-Ty}
use Rattle.ir_core.specs.declared.ty.Ty.TheOpen.{Ty-F}
use Rattle.ir_core.specs.declared.ty.Ty.TheBlock.{the_family, member-Ty}
use Rattle.ir_core.specs.declared.ty.Ty.TheFolds.{claims, map-Ty}
use Rattle.ir_core.specs.Shapes.{Shape, rounded, bytes_of, single, fields_end, greatest_align, struct, unaligned, shape_at}
use Rattle.ir_core.specs.Counts.{told, deeper, deepest, depth_at}
use Rattle.ir_core.specs.Sizes.{align_bytes, wider, empty_extent, single_extent, field_align, with_field, struct_extent, width_align, extent_at}

-- an extent is what is told of a shape and a depth
abbrev pub Tells : Extent → Shape → ℕ → Type 0
Tells e s d = (e.size ≡ told s.size) × (align_bytes e.align ≡ s.align) × (e.depth ≡ d)

-- an alignment is a byte at least
align_positive : (a : Align) → 0 < align_bytes a
align_positive One = omega arith
align_positive Two = omega arith
align_positive Four = omega arith
align_positive Eight = omega arith

-- the greater of two
wider_bytes : (a b : Align) → align_bytes (wider a b) ≡ max (align_bytes a) (align_bytes b)
wider_bytes One One = refl
wider_bytes One Two = refl
wider_bytes One Four = refl
wider_bytes One Eight = refl
wider_bytes Two One = refl
wider_bytes Two Two = refl
wider_bytes Two Four = refl
wider_bytes Two Eight = refl
wider_bytes Four One = refl
wider_bytes Four Two = refl
wider_bytes Four Four = refl
wider_bytes Four Eight = refl
wider_bytes Eight One = refl
wider_bytes Eight Two = refl
wider_bytes Eight Four = refl
wider_bytes Eight Eight = refl

-- a multiple that isn't below
rounded_up : (n to : ℕ) → 0 < to → n ≤ rounded n to
rounded_up n to p =
    let k = n + (to - 1) in
    let e = div-add-mod' k to in
    let l = mod-lt k p in
    omega arith

-- a sum of what is told
told_sum : (x s : ℕ) → told (x + told s) ≡ told (x + s)
told_sum x s = omega arith

-- where what is told ends
told_end : (at a s : ℕ) → 0 < a → told (rounded (told at) a + told s) ≡ told (rounded at a + s)
told_end at a s p =
    elim (cases_lt at (2 ^ 64)) [
      | inl below ↦ (let e : told at ≡ at = omega arith in ap (λ n. told (rounded n a + told s)) e ∙ told_sum (rounded at a) s)
      | inr above ↦ (let e : told at ≡ 2 ^ 64 - 1 = omega arith in
          let l = rounded_up (2 ^ 64 - 1) a p in
          let r = rounded_up at a p in
          let same : told (rounded (2 ^ 64 - 1) a + told s) ≡ told (rounded at a + s) = omega arith in
          ap (λ n. told (rounded n a + told s)) e ∙ same)
    ]

-- a product of what is told
told_product : (n s : ℕ) → told (n * told s) ≡ told (n * s)
told_product zero s = omega arith
told_product (suc n) s =
    elim (cases_lt s (2 ^ 64)) [
      | inl below ↦ (let e : told s ≡ s = omega arith in ap (λ k. told (suc n * k)) e)
      | inr above ↦ (let e : told s ≡ 2 ^ 64 - 1 = omega arith in
          let one : 1 ≤ suc n = omega arith in
          let less : 2 ^ 64 - 1 ≤ s = omega arith in
          let all : 2 ^ 64 - 1 ≤ 2 ^ 64 - 1 = omega arith in
          let l = mul-le 1 (2 ^ 64 - 1) (suc n) (2 ^ 64 - 1) one all in
          let r = mul-le 1 (2 ^ 64 - 1) (suc n) s one less in
          let same : told (suc n * (2 ^ 64 - 1)) ≡ told (suc n * s) = omega arith in
          ap (λ k. told (suc n * k)) e ∙ same)
    ]

-- fields as a struct lays them out: packed ones as if aligned to one byte
abbrev FieldTells : Bool → Extent → Shape → ℕ → Type 0
FieldTells packed e s d = (e.size ≡ told s.size) × (align_bytes (field_align packed e) ≡ s.align) × (e.depth ≡ d)

-- rows of them
abbrev FieldsTell : Bool → List Extent → List Shape → List ℕ → Type 0
FieldsTell packed [] [] [] = Unit {0}
FieldsTell packed (e ∷ es) (s ∷ ss) (d ∷ ds) = FieldTells packed e s d × FieldsTell packed es ss ds
FieldsTell packed es ss ds = ⊥

-- fields that are laid out behind others
fields_told : (packed : Bool) (es : List Extent) (ss : List Shape) (ds : List ℕ) → FieldsTell packed es ss ds → (all : Extent) (at a d : ℕ) → (all.size ≡ told at) → (align_bytes all.align ≡ a) → (all.depth ≡ d)
    → let r = fold (with_field packed) all es in (r.size ≡ told (fields_end at ss)) × (align_bytes r.align ≡ max a (greatest_align ss)) × (r.depth ≡ max d (deepest ds))
fields_told packed [] [] [] tells all at a d size align depth =
    let p = align_positive all.align in
    (size, (let e : align_bytes all.align ≡ max a 1 = omega arith in e), (let e : all.depth ≡ max d 0 = omega arith in e))
fields_told packed (e ∷ es) (s ∷ ss) (k ∷ ks) tells all at a d size align depth =
    let f = field_align packed e in
    let ends : told (rounded all.size (align_bytes f) + e.size) ≡ told (rounded at s.align + s.size) =
    ap (λ n. told (rounded n (align_bytes f) + e.size)) size ∙ ap (λ n. told (rounded (told at) (align_bytes f) + n)) tells.0.0 ∙ told_end at (align_bytes f) s.size (align_positive f) ∙ ap (λ n. told (rounded at n + s.size)) tells.0.1 in
    let widest : align_bytes (wider all.align f) ≡ max a s.align = wider_bytes all.align f ∙ ap (λ n. max n (align_bytes f)) align ∙ ap (λ n. max a n) tells.0.1 in
    let deep : max all.depth e.depth ≡ max d k = ap (λ n. max n e.depth) depth ∙ ap (λ n. max d n) tells.0.2 in
    let go = fields_told packed es ss ks tells.1 (with_field packed all e) (rounded at s.align + s.size) (max a s.align) (max d k) ends widest deep in
    (go.0, go.1 ∙ (let m : max (max a s.align) (greatest_align ss) ≡ max a (max s.align (greatest_align ss)) = omega arith in m), go.2 ∙ (let m : max (max d k) (deepest ks) ≡ max d (max k (deepest ks)) = omega arith in m))
fields_told packed [] [] (k ∷ ks) tells all at a d size align depth = absurd tells
fields_told packed [] (s ∷ ss) ks tells all at a d size align depth = absurd tells
fields_told packed (e ∷ es) [] ks tells all at a d size align depth = absurd tells
fields_told packed (e ∷ es) (s ∷ ss) [] tells all at a d size align depth = absurd tells

-- a struct
struct_told : (packed : Bool) (es : List Extent) (ss : List Shape) (ds : List ℕ) → FieldsTell packed es ss ds → Tells (struct_extent packed es) (struct ss) (deeper (deepest ds))
struct_told packed es ss ds tells =
    let r = fields_told packed es ss ds tells empty_extent 0 1 0 refl refl refl in
    let all = fold (with_field packed) empty_extent es in
    let widest : max 1 (greatest_align ss) ≡ greatest_align ss = one_at_least ss in
    let ends : told (rounded all.size (align_bytes all.align) + 0) ≡ told (rounded (fields_end 0 ss) (align_bytes all.align) + 0) =
    ap (λ n. told (rounded n (align_bytes all.align) + 0)) r.0 ∙ told_end (fields_end 0 ss) (align_bytes all.align) 0 (align_positive all.align) in
    (ends ∙ (let z : rounded (fields_end 0 ss) (align_bytes all.align) + 0 ≡ rounded (fields_end 0 ss) (align_bytes all.align) = omega arith in ap told z) ∙ ap (λ n. told (rounded (fields_end 0 ss) n)) (r.1 ∙ widest), r.1 ∙ widest, ap deeper (r.2 ∙ (let m : max 0 (deepest ds) ≡ deepest ds = omega arith in m)))
  where
    one_at_least : (fs : List Shape) → max 1 (greatest_align fs) ≡ greatest_align fs
    one_at_least [] = refl
    one_at_least (f ∷ fs) = let go = one_at_least fs in omega arith

module _ (row : List ℕ → Extent) (named : List ℕ → Shape) (depths : List ℕ → ℕ) (names : (q : List ℕ) → Tells (row q) (named q) (depths q)) where
  -- what is told of a type
  abbrev TellsTy : Ty → Type 0
  TellsTy ty = Tells (fold-Ty Extent (extent_at row) ty) (fold-Ty Shape (shape_at named) ty) (fold-Ty ℕ (depth_at depths) ty)

  -- a type within another
  abbrev Within : Type 0
  Within = Such the_family (claims TellsTy) member-Ty

  -- the fields of a struct
  fields_within : (es : List Within) → let ts = map (λ (e : Within). e.0) es in FieldsTell false (map (fold-Ty Extent (extent_at row)) ts) (map (fold-Ty Shape (shape_at named)) ts) (map (fold-Ty ℕ (depth_at depths)) ts)
  fields_within [] = tt
  fields_within (e ∷ es) = (e.1, fields_within es)

  -- those of a packed one
  packed_within : (es : List Within) → let ts = map (λ (e : Within). e.0) es in FieldsTell true (map (fold-Ty Extent (extent_at row)) ts) (unaligned (map (fold-Ty Shape (shape_at named)) ts)) (map (fold-Ty ℕ (depth_at depths)) ts)
  packed_within [] = tt
  packed_within (e ∷ es) = ((e.1.0, refl, e.1.2), packed_within es)

  -- a number
  width_told : (w : Width) → Tells (single_extent (width_align w)) (single (bytes_of w)) 0
  width_told W1 = (refl, refl, refl)
  width_told W8 = (refl, refl, refl)
  width_told W16 = (refl, refl, refl)
  width_told W32 = (refl, refl, refl)
  width_told W64 = (refl, refl, refl)

  -- one level
  at_level : (x : Ty-F Ty) → Tells (extent_at row (map-Ty Ty Extent (fold-Ty Extent (extent_at row)) x)) (shape_at named (map-Ty Ty Shape (fold-Ty Shape (shape_at named)) x)) (depth_at depths (map-Ty Ty ℕ (fold-Ty ℕ (depth_at depths)) x)) → TellsTy (roll-Ty x)
  at_level x go =
      subst (λ e. Tells e (fold-Ty Shape (shape_at named) (roll-Ty x)) (fold-Ty ℕ (depth_at depths) (roll-Ty x))) (sym (fold-roll-Ty Extent (extent_at row) x))
      (subst (λ s. Tells (extent_at row (map-Ty Ty Extent (fold-Ty Extent (extent_at row)) x)) s (fold-Ty ℕ (depth_at depths) (roll-Ty x))) (sym (fold-roll-Ty Shape (shape_at named) x))
      (subst (λ d. Tells (extent_at row (map-Ty Ty Extent (fold-Ty Extent (extent_at row)) x)) (shape_at named (map-Ty Ty Shape (fold-Ty Shape (shape_at named)) x)) d) (sym (fold-roll-Ty ℕ (depth_at depths) x)) go))

  -- a level of types of which it is known
  of_level : (y : Ty-F Within) → TellsTy (roll-Ty (map-Ty Within Ty (λ e. e.0) y))
  of_level Ty-F.Void = at_level Ty-F.Void (refl, refl, refl)
  of_level (Ty-F.Int w) = at_level (Ty-F.Int w) (width_told w)
  of_level Ty-F.Ptr = at_level Ty-F.Ptr (refl, refl, refl)
  of_level (Ty-F.Array n e) = at_level (Ty-F.Array n e.0) (ap (λ k. told (n * k)) e.1.0 ∙ told_product n (fold-Ty Shape (shape_at named) e.0).size, e.1.1, ap deeper e.1.2)
  of_level (Ty-F.Struct es) = at_level (Ty-F.Struct (map (λ (e : Within). e.0) es)) (struct_told false _ _ _ (fields_within es))
  of_level (Ty-F.Packed es) = at_level (Ty-F.Packed (map (λ (e : Within). e.0) es)) (struct_told true _ _ _ (packed_within es))
  of_level (Ty-F.Named name) = at_level (Ty-F.Named name) (names name)

  -- any type
  pub tells_ty : (ty : Ty) → TellsTy ty
  tells_ty = ind-Ty TellsTy (λ x y e. subst (λ z. TellsTy (roll-Ty z)) e (of_level y))
