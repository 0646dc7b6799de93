-- Indices that fit a type lead to a part of it.
use Rattle.std.proofs.Common.{◌≡◌, ℕ, zero, suc, ◌+◌, ◌*◌, true, List, [], ◌∷◌, map, Option, Some, None, sym, subst}
use Rattle.std.specs.Prelude.{option_map}
use Rattle.ir_core.specs.declared.ty.Ty.{Ty, fold-Ty, ind-Ty, roll-Ty, fold-roll-Ty}
use Rattle.ir_core.specs.declared.ty.Ty.TheOpen.{Ty-F}
use Rattle.ir_core.specs.declared.ty.Ty.TheBlock.{the_family, member-Ty}
use Rattle.ir_core.specs.declared.ty.Ty.TheFolds.{claims, map-Ty}
use denote.Hole.Holds.{Such}
use Rattle.ir_core.specs.declared.ty.NamedTy.{NamedTy}
use Rattle.ir_core.specs.Names.{first_where, same_name}
use Rattle.ir_core.specs.Shapes.{Shape, rounded, whole_part, part_of_array, part_of_field, part_of_struct, unaligned, shape_at, shape_or_nothing, named_shape, shape_of}
use Rattle.ir_core.specs.Typing.{Leads, leads_whole, leads_array, leads_field, leads_struct, leads_at, leads_or_none, leads_named, leads_into}
use Rattle.ir_sound.proofs.SameLaws.{not_true}

-- numbers that agree with what was known of them
abbrev pub Agree : List (Option ℕ) → List ℕ → Type 0
Agree [] [] = Unit {0}
Agree (Some k ∷ ks) (n ∷ ns) = (n ≡ k) × Agree ks ns
Agree (None ∷ ks) (n ∷ ns) = Agree ks ns
Agree [] (n ∷ ns) = ⊥
Agree (k ∷ ks) [] = ⊥

-- something is there
abbrev pub Exists : {A : Type 0} → Option A → Type 0
Exists (Some x) = Unit {0}
Exists None = ⊥

-- also after a change
exists_map : {A B : Type 0} (f : A → B) (o : Option A) → Exists o → Exists (option_map f o)
exists_map f (Some x) e = tt
exists_map f None e = e

-- where indices lead, there is a part
abbrev Goes : (List ℕ → Option ℕ) → Leads → Type 0
Goes part leads = (known : List (Option ℕ)) (ns : List ℕ) → Agree known ns → leads known ≡ true → Exists (part ns)

-- to the whole
goes_whole : Goes whole_part leads_whole
goes_whole [] [] agree e = tt
goes_whole [] (n ∷ ns) agree e = absurd agree
goes_whole (k ∷ ks) ns agree e = not_true e

-- into an array
goes_array : (of : Shape) (l : Leads) → Goes of.part l → Goes (part_of_array of) (leads_array l)
goes_array of l go [] [] agree e = tt
goes_array of l go [] (n ∷ ns) agree e = absurd agree
goes_array of l go (k ∷ ks) [] agree e = absurd agree
goes_array of l go (Some k ∷ ks) (n ∷ ns) agree e = exists_map (λ at. n * of.size + at) (of.part ns) (go ks ns agree.1 e)
goes_array of l go (None ∷ ks) (n ∷ ns) agree e = exists_map (λ at. n * of.size + at) (of.part ns) (go ks ns agree e)

-- fields, each with where it leads
abbrev Fields : List Shape → List Leads → Type 0
Fields [] [] = Unit {0}
Fields (f ∷ fs) (l ∷ ls) = Goes f.part l × Fields fs ls
Fields [] (l ∷ ls) = ⊥
Fields (f ∷ fs) [] = ⊥

-- into a field
goes_field : (fs : List Shape) (ls : List Leads) → Fields fs ls → (at i : ℕ) (known : List (Option ℕ)) (ns : List ℕ) → Agree known ns → leads_field ls i known ≡ true → Exists (part_of_field at fs i ns)
goes_field fs [] both at i known ns agree e = not_true e
goes_field [] (l ∷ ls) both at i known ns agree e = absurd both
goes_field (f ∷ fs) (l ∷ ls) both at zero known ns agree e = exists_map (λ n. rounded at f.align + n) (f.part ns) (both.0 known ns agree e)
goes_field (f ∷ fs) (l ∷ ls) both at (suc i) known ns agree e = goes_field fs ls both.1 (rounded at f.align + f.size) i known ns agree e

-- into a struct
goes_struct : (fs : List Shape) (ls : List Leads) → Fields fs ls → Goes (part_of_struct fs) (leads_struct ls)
goes_struct fs ls both [] [] agree e = tt
goes_struct fs ls both [] (n ∷ ns) agree e = absurd agree
goes_struct fs ls both (k ∷ ks) [] agree e = absurd agree
goes_struct fs ls both (None ∷ ks) (n ∷ ns) agree e = not_true e
goes_struct fs ls both (Some k ∷ ks) (n ∷ ns) agree e = subst (λ i. Exists (part_of_field 0 fs i ns)) (sym agree.0) (goes_field fs ls both 0 k ks ns agree.1 e)

-- fields without alignment
fields_unaligned : (fs : List Shape) (ls : List Leads) → Fields fs ls → Fields (unaligned fs) ls
fields_unaligned [] [] both = tt
fields_unaligned (f ∷ fs) (l ∷ ls) both = (both.0, fields_unaligned fs ls both.1)
fields_unaligned [] (l ∷ ls) both = absurd both
fields_unaligned (f ∷ fs) [] both = absurd both

module _ (named : List ℕ → Shape) (leads : List ℕ → Leads) (names : (name : List ℕ) → Goes (named name).part (leads name)) where
  -- where the indices of a type lead
  abbrev GoesIn : Ty → Type 0
  GoesIn ty = Goes (fold-Ty Shape (shape_at named) ty).part (fold-Ty Leads (leads_at leads) ty)

  -- a type within another, of which it is known
  abbrev Within : Type 0
  Within = Such the_family (claims GoesIn) member-Ty

  -- one level
  at_level : (x : Ty-F Ty) → Goes (shape_at named (map-Ty Ty Shape (fold-Ty Shape (shape_at named)) x)).part (leads_at leads (map-Ty Ty Leads (fold-Ty Leads (leads_at leads)) x)) → GoesIn (roll-Ty x)
  at_level x go =
      subst (λ l. Goes (fold-Ty Shape (shape_at named) (roll-Ty x)).part l) (sym (fold-roll-Ty Leads (leads_at leads) x))
      (subst (λ (s : Shape). Goes s.part (leads_at leads (map-Ty Ty Leads (fold-Ty Leads (leads_at leads)) x))) (sym (fold-roll-Ty Shape (shape_at named) x)) go)

  -- fields
  fields_within : (es : List Within) → Fields (map (fold-Ty Shape (shape_at named)) (map (λ (e : Within). e.0) es)) (map (fold-Ty Leads (leads_at leads)) (map (λ (e : Within). e.0) es))
  fields_within [] = tt
  fields_within (e ∷ es) = (e.1, fields_within es)

  -- a level of types of which it is known
  of_level : (y : Ty-F Within) → GoesIn (roll-Ty (map-Ty Within Ty (λ e. e.0) y))
  of_level Ty-F.Void = at_level Ty-F.Void goes_whole
  of_level (Ty-F.Int w) = at_level (Ty-F.Int w) goes_whole
  of_level Ty-F.Ptr = at_level Ty-F.Ptr goes_whole
  of_level (Ty-F.Array n e) = at_level (Ty-F.Array n e.0) (goes_array (fold-Ty Shape (shape_at named) e.0) (fold-Ty Leads (leads_at leads) e.0) e.1)
  of_level (Ty-F.Struct es) = at_level (Ty-F.Struct (map (λ (e : Within). e.0) es)) (goes_struct _ _ (fields_within es))
  of_level (Ty-F.Packed es) = at_level (Ty-F.Packed (map (λ (e : Within). e.0) es)) (goes_struct _ _ (fields_unaligned _ _ (fields_within es)))
  of_level (Ty-F.Named name) = at_level (Ty-F.Named name) (names name)

  -- types, where names are what they are
  goes_type : (ty : Ty) → GoesIn ty
  goes_type = ind-Ty GoesIn (λ x y e. subst (λ z. GoesIn (roll-Ty z)) e (of_level y))

-- named types, with names replaced n times
goes_named : (types : List NamedTy) (n : ℕ) (name : List ℕ) → Goes (named_shape types n name).part (leads_named types n name)
goes_named types zero name = goes_whole
goes_named types (suc n) name = of_option (first_where (λ (t : NamedTy). same_name t.name name) types) (goes_type (named_shape types n) (leads_named types n) (goes_named types n))
  where
    of_option : (o : Option NamedTy) → ((ty : Ty) → Goes (fold-Ty Shape (shape_at (named_shape types n)) ty).part (fold-Ty Leads (leads_at (leads_named types n)) ty)) → Goes (shape_or_nothing (fold-Ty Shape (shape_at (named_shape types n))) o).part (leads_or_none (fold-Ty Leads (leads_at (leads_named types n))) o)
    of_option (Some t) go = go t.fields
    of_option None go = goes_whole

-- the part is there
pub leads_part : (types : List NamedTy) (ty : Ty) (known : List (Option ℕ)) (ns : List ℕ) → Agree known ns → leads_into types ty known ≡ true → Exists ((shape_of types ty).part ns)
unfolding shape_of leads_into
leads_part types ty known ns agree leads = goes_type (named_shape types 64) (leads_named types 64) (goes_named types 64) ty known ns agree leads
