-- Names that were replaced often enough stand for the same however often they are replaced.
use Rattle.std.proofs.Common.{◌≡◌, ℕ, zero, suc, ◌+◌, ◌≤◌, List, [], ◌∷◌, map, Option, Some, None, refl, ap, sym, ◌∙◌, subst, arith}
use denote.Hole.Holds.{Such}
use Rattle.ir_core.specs.declared.limit.TheConstants.{MAX_NESTING}
use Rattle.ir_core.specs.declared.ty.Ty.{Ty, fold-Ty, ind-Ty, roll-Ty, fold-roll-Ty}
use Rattle.ir_core.specs.declared.ty.Ty.TheVariants.{Named, rolls-Named}
use Rattle.ir_core.specs.declared.ty.Ty.TheOpen.{Ty-F}
use Rattle.ir_core.specs.declared.ty.Ty.TheBlock.{the_family, member-Ty}
use Rattle.ir_core.specs.declared.ty.Ty.TheFolds.{claims, map-Ty}
use Rattle.ir_core.specs.declared.ty.NamedTy.{NamedTy}
use Rattle.ir_core.specs.Names.{same_name, first_where}
use Rattle.ir_core.specs.Shapes.{Shape, nothing, array, struct, unaligned, shape_at, shape_or_nothing, named_shape, shape_of}
use Rattle.ir_core.specs.Typing.{Leads, leads_whole, leads_array, leads_struct, leads_at, leads_or_none, leads_named, leads_into}
use Rattle.ir_core.specs.Counts.{deeper, deepest, depth_at, depth_or_none, named_depth, depth_of}

module _ (types : List NamedTy) where
  -- shapes with names replaced n times
  abbrev shape_in : ℕ → Ty → Shape
  shape_in n = fold-Ty Shape (shape_at (named_shape types n))

  -- depths
  abbrev depth_in : ℕ → Ty → ℕ
  depth_in n = fold-Ty ℕ (depth_at (named_depth types n))

  -- where indices lead
  abbrev leads_in : ℕ → Ty → Leads
  leads_in n = fold-Ty Leads (leads_at (leads_named types n))

  -- two shapes are the same, two depths, and where indices lead
  abbrev Same : Shape → Shape → ℕ → ℕ → Leads → Leads → Type 0
  Same s t d e l k = (s ≡ t) × (d ≡ e) × (l ≡ k)

  -- the names
  abbrev NamesSettle : ℕ → Type 0
  NamesSettle n = (name : List ℕ) → named_depth types n name ≤ MAX_NESTING → Same (named_shape types n name) (named_shape types (suc n) name) (named_depth types n name) (named_depth types (suc n) name) (leads_named types n name) (leads_named types (suc n) name)

  -- a type
  abbrev Settles : ℕ → Ty → Type 0
  Settles n ty = depth_in n ty ≤ MAX_NESTING → Same (shape_in n ty) (shape_in (suc n) ty) (depth_in n ty) (depth_in (suc n) ty) (leads_in n ty) (leads_in (suc n) ty)

  module _ (n : ℕ) (names : NamesSettle n) where
    -- a type within another
    abbrev Within : Type 0
    Within = Such the_family (claims (Settles n)) member-Ty

    -- fields
    fields_settle : (es : List Within) → let ts = map (λ (e : Within). e.0) es in deepest (map (depth_in n) ts) ≤ MAX_NESTING → (map (shape_in n) ts ≡ map (shape_in (suc n)) ts) × (map (depth_in n) ts ≡ map (depth_in (suc n)) ts) × (map (leads_in n) ts ≡ map (leads_in (suc n)) ts)
    fields_settle [] small = (refl, refl, refl)
    fields_settle (e ∷ es) small =
        let here : depth_in n e.0 ≤ MAX_NESTING = omega arith in
        let rest : deepest (map (depth_in n) (map (λ (k : Within). k.0) es)) ≤ MAX_NESTING = omega arith in
        let one = e.1 here in
        let go = fields_settle es rest in (
          ap (λ s. s ∷ map (shape_in n) (map (λ (k : Within). k.0) es)) one.0 ∙ ap (λ ss. shape_in (suc n) e.0 ∷ ss) go.0,
          ap (λ d. d ∷ map (depth_in n) (map (λ (k : Within). k.0) es)) one.1 ∙ ap (λ ds. depth_in (suc n) e.0 ∷ ds) go.1,
          ap (λ l. l ∷ map (leads_in n) (map (λ (k : Within). k.0) es)) one.2 ∙ ap (λ ls. leads_in (suc n) e.0 ∷ ls) go.2,
        )

    -- what is deeper than something within the limit
    shallower : (d : ℕ) → deeper d ≤ MAX_NESTING → d ≤ MAX_NESTING
    shallower d small = omega arith

    -- one level
    at_level : (x : Ty-F Ty) → (depth_at (named_depth types n) (map-Ty Ty ℕ (depth_in n) x) ≤ MAX_NESTING → Same (shape_at (named_shape types n) (map-Ty Ty Shape (shape_in n) x)) (shape_at (named_shape types (suc n)) (map-Ty Ty Shape (shape_in (suc n)) x)) (depth_at (named_depth types n) (map-Ty Ty ℕ (depth_in n) x)) (depth_at (named_depth types (suc n)) (map-Ty Ty ℕ (depth_in (suc n)) x)) (leads_at (leads_named types n) (map-Ty Ty Leads (leads_in n) x)) (leads_at (leads_named types (suc n)) (map-Ty Ty Leads (leads_in (suc n)) x)))
        → Settles n (roll-Ty x)
    at_level x go small =
        let depth = fold-roll-Ty ℕ (depth_at (named_depth types n)) x in
        let deep = fold-roll-Ty ℕ (depth_at (named_depth types (suc n))) x in
        let shape = fold-roll-Ty Shape (shape_at (named_shape types n)) x in
        let shaped = fold-roll-Ty Shape (shape_at (named_shape types (suc n))) x in
        let lead = fold-roll-Ty Leads (leads_at (leads_named types n)) x in
        let led = fold-roll-Ty Leads (leads_at (leads_named types (suc n))) x in
        let r = go (subst (λ d. d ≤ MAX_NESTING) depth small) in
        (shape ∙ r.0 ∙ sym shaped, depth ∙ r.1 ∙ sym deep, lead ∙ r.2 ∙ sym led)

    -- a level of types that settle
    of_level : (y : Ty-F Within) → Settles n (roll-Ty (map-Ty Within Ty (λ e. e.0) y))
    of_level Ty-F.Void = at_level Ty-F.Void (λ small. (refl, refl, refl))
    of_level (Ty-F.Int w) = at_level (Ty-F.Int w) (λ small. (refl, refl, refl))
    of_level Ty-F.Ptr = at_level Ty-F.Ptr (λ small. (refl, refl, refl))
    of_level (Ty-F.Array k e) = at_level (Ty-F.Array k e.0) (λ small. let r = e.1 (shallower (depth_in n e.0) small) in (ap (array k) r.0, ap deeper r.1, ap leads_array r.2))
    of_level (Ty-F.Struct es) =
        at_level (Ty-F.Struct (map (λ (e : Within). e.0) es)) (λ small.
        let r = fields_settle es (shallower (deepest (map (depth_in n) (map (λ (e : Within). e.0) es))) small) in (ap struct r.0, ap (λ ds. deeper (deepest ds)) r.1, ap leads_struct r.2))
    of_level (Ty-F.Packed es) =
        at_level (Ty-F.Packed (map (λ (e : Within). e.0) es)) (λ small.
        let r = fields_settle es (shallower (deepest (map (depth_in n) (map (λ (e : Within). e.0) es))) small) in (ap (λ fs. struct (unaligned fs)) r.0, ap (λ ds. deeper (deepest ds)) r.1, ap leads_struct r.2))
    of_level (Ty-F.Named name) = at_level (Ty-F.Named name) (names name)

    -- any type
    settles : (ty : Ty) → Settles n ty
    settles = ind-Ty (Settles n) (λ x y e. subst (λ z. Settles n (roll-Ty z)) e (of_level y))

  -- names that were replaced any number of times
  names_settle : (n : ℕ) → NamesSettle n
  names_settle zero name small = by (first_where (λ (t : NamedTy). same_name t.name name) types) small
    where
      by : (o : Option NamedTy) → depth_or_none (λ ty. MAX_NESTING + 1) o ≤ MAX_NESTING → Same nothing (shape_or_nothing (shape_in zero) o) (depth_or_none (λ ty. MAX_NESTING + 1) o) (depth_or_none (depth_in zero) o) leads_whole (leads_or_none (leads_in zero) o)
      by None small = (refl, refl, refl)
      by (Some t) small = absurd (omega arith)
  names_settle (suc n) name small = by (first_where (λ (t : NamedTy). same_name t.name name) types) small (settles n (names_settle n))
    where
      by : (o : Option NamedTy) → depth_or_none (depth_in n) o ≤ MAX_NESTING → ((ty : Ty) → Settles n ty) → Same (shape_or_nothing (shape_in n) o) (shape_or_nothing (shape_in (suc n)) o) (depth_or_none (depth_in n) o) (depth_or_none (depth_in (suc n)) o) (leads_or_none (leads_in n) o) (leads_or_none (leads_in (suc n)) o)
      by None small go = (refl, refl, refl)
      by (Some t) small go = go t.fields small

  -- a name that was replaced stands for its fields
  opened_in : (n : ℕ) (o : Option NamedTy) → depth_or_none (depth_in n) o ≤ MAX_NESTING → Same (shape_or_nothing (shape_in n) o) (shape_or_nothing (shape_in (suc n)) o) (depth_or_none (depth_in n) o) (depth_or_none (depth_in (suc n)) o) (leads_or_none (leads_in n) o) (leads_or_none (leads_in (suc n)) o)
  opened_in n None small = (refl, refl, refl)
  opened_in n (Some t) small = settles n (names_settle n) t.fields small

  -- a name by one replacement more
  named_in : (n : ℕ) (name : List ℕ) → depth_in (suc n) (Named name) ≤ MAX_NESTING
      → Same (shape_in (suc n) (Named name)) (shape_or_nothing (shape_in (suc n)) (first_where (λ (t : NamedTy). same_name t.name name) types)) (depth_in (suc n) (Named name)) (depth_or_none (depth_in (suc n)) (first_where (λ (t : NamedTy). same_name t.name name) types)) (leads_in (suc n) (Named name)) (leads_or_none (leads_in (suc n)) (first_where (λ (t : NamedTy). same_name t.name name) types))
  named_in n name small =
      let depth = ap (depth_in (suc n)) (sym (rolls-Named name)) ∙ fold-roll-Ty ℕ (depth_at (named_depth types (suc n))) (Ty-F.Named name) in
      let shape = ap (shape_in (suc n)) (sym (rolls-Named name)) ∙ fold-roll-Ty Shape (shape_at (named_shape types (suc n))) (Ty-F.Named name) in
      let lead = ap (leads_in (suc n)) (sym (rolls-Named name)) ∙ fold-roll-Ty Leads (leads_at (leads_named types (suc n))) (Ty-F.Named name) in
      let r = opened_in n (first_where (λ (t : NamedTy). same_name t.name name) types) (subst (λ d. d ≤ MAX_NESTING) depth small) in
      (shape ∙ r.0, depth ∙ r.1, lead ∙ r.2)

  -- a named type has the shape and the depth of its fields
  pub named_opens : (name : List ℕ) → depth_of types (Named name) ≤ MAX_NESTING
      → (shape_of types (Named name) ≡ shape_or_nothing (shape_of types) (first_where (λ (t : NamedTy). same_name t.name name) types)) × (depth_of types (Named name) ≡ depth_or_none (depth_of types) (first_where (λ (t : NamedTy). same_name t.name name) types))
      × (leads_into types (Named name) ≡ leads_or_none (leads_into types) (first_where (λ (t : NamedTy). same_name t.name name) types))
  unfolding shape_of depth_of leads_into
  named_opens name small = named_in 63 name small
