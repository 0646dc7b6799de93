-- Where indices lead, one index after another.
use Rattle.std.proofs.Common.{◌≡◌, ℕ, zero, suc, ◌+◌, ◌-◌, ◌<◌, arith, Bool, true, false, List, [], ◌∷◌, length, get_or, drop, ◌≤◌, map, Option, Some, None, refl, ap, sym, ◌∙◌}
use Rattle.std.specs.Prelude.{slice_get, option_map}
use Rattle.std.proofs.Math.Seq.{drop-nil}
use Rattle.ir_core.proofs.LoopLaws.{drop_item}
use Rattle.ir_core.specs.declared.ty.Ty.{Ty, fold-Ty, roll-Ty, out-Ty, roll-out-Ty, fold-roll-Ty}
use Rattle.ir_core.specs.declared.ty.Ty.TheOpen.{Ty-F}
use Rattle.ir_core.specs.declared.ty.Ty.TheFolds.{map-Ty}
use Rattle.ir_core.specs.declared.ty.NamedTy.{NamedTy}
use Rattle.ir_core.specs.declared.limit.TheConstants.{MAX_NESTING}
use Rattle.ir_core.specs.Names.{same_name, first_where}
use Rattle.ir_core.specs.Typing.{Leads, leads_field, leads_struct, leads_at, leads_or_none, leads_named, leads_into}
use Rattle.ir_types.specs.Fitting.{leads_within, Part, field_part, part_at, part_or_none, part_named, part_in}

-- a type by its outermost word
leads-roll : (types : List NamedTy) (n : ℕ) (x : Ty-F Ty) → leads_within types n (roll-Ty x) ≡ leads_at (leads_named types n) (map-Ty Ty Leads (leads_within types n) x)
unfolding leads_within
leads-roll types n x = fold-roll-Ty Leads (leads_at (leads_named types n)) x

-- on from a part, if there is one
abbrev pub lead_on : List NamedTy → List (Option ℕ) → Option Part → Bool
lead_on types ks (Some p) = leads_within types p.names p.ty ks
lead_on types ks None = false

-- into a field
field_law : (types : List NamedTy) (n i : ℕ) (ks : List (Option ℕ)) (fs : List Ty) → leads_field (map (leads_within types n) fs) i ks ≡ lead_on types ks (option_map (λ (t : Ty). record { ty = t; names = n }) (slice_get fs i))
field_law types n i ks [] = refl
field_law types n zero ks (f ∷ fs) = refl
field_law types n (suc i) ks (f ∷ fs) = field_law types n i ks fs

-- into a struct
struct_law : (types : List NamedTy) (n : ℕ) (k : Option ℕ) (ks : List (Option ℕ)) (fs : List Ty) → leads_struct (map (leads_within types n) fs) (k ∷ ks) ≡ lead_on types ks (field_part fs n k)
struct_law types n (Some i) ks fs = field_law types n i ks fs
struct_law types n None ks fs = refl

-- one level, where it is known of names
level_law : (types : List NamedTy) (n : ℕ) (k : Option ℕ) (ks : List (Option ℕ)) → ((q : List ℕ) → leads_named types n q (k ∷ ks) ≡ lead_on types ks (part_named types k n q)) → (z : Ty-F Ty) → leads_at (leads_named types n) (map-Ty Ty Leads (leads_within types n) z) (k ∷ ks) ≡ lead_on types ks (part_at (part_named types k n) n k z)
level_law types n k ks names Ty-F.Void = refl
level_law types n k ks names (Ty-F.Int w) = refl
level_law types n k ks names Ty-F.Ptr = refl
level_law types n k ks names (Ty-F.Array count of) = refl
level_law types n k ks names (Ty-F.Struct fs) = struct_law types n k ks fs
level_law types n k ks names (Ty-F.Packed fs) = struct_law types n k ks fs
level_law types n k ks names (Ty-F.Named q) = names q

-- any type, where it is known of names
type_law : (types : List NamedTy) (n : ℕ) (k : Option ℕ) (ks : List (Option ℕ)) → ((q : List ℕ) → leads_named types n q (k ∷ ks) ≡ lead_on types ks (part_named types k n q)) → (ty : Ty) → leads_within types n ty (k ∷ ks) ≡ lead_on types ks (part_in types k n ty)
type_law types n k ks names ty =
    ap (λ t. leads_within types n t (k ∷ ks)) (sym (roll-out-Ty ty)) ∙ ap (λ (l : Leads). l (k ∷ ks)) (leads-roll types n (out-Ty ty)) ∙ level_law types n k ks names (out-Ty ty)

-- names that are replaced
names_law : (types : List NamedTy) (k : Option ℕ) (ks : List (Option ℕ)) (n : ℕ) (q : List ℕ) → leads_named types n q (k ∷ ks) ≡ lead_on types ks (part_named types k n q)
unfolding leads_within
names_law types k ks zero q = refl
names_law types k ks (suc n) q = of_option (first_where (λ (t : NamedTy). same_name t.name q) types) (type_law types n k ks (names_law types k ks n))
  where
    of_option : (o : Option NamedTy) → ((ty : Ty) → leads_within types n ty (k ∷ ks) ≡ lead_on types ks (part_in types k n ty)) → leads_or_none (fold-Ty Leads (leads_at (leads_named types n))) o (k ∷ ks) ≡ lead_on types ks (part_or_none (part_at (part_named types k n) n k) o)
    of_option (Some t) go = go t.fields
    of_option None go = refl

-- one more index
pub leads-more : (types : List NamedTy) (n : ℕ) (ty : Ty) (k : Option ℕ) (ks : List (Option ℕ)) → leads_within types n ty (k ∷ ks) ≡ lead_on types ks (part_in types k n ty)
leads-more types n ty k ks = type_law types n k ks (names_law types k ks n) ty

-- no index stays where it is: one level
none_at : (types : List NamedTy) (n : ℕ) → ((q : List ℕ) → leads_named types n q [] ≡ true) → (z : Ty-F Ty) → leads_at (leads_named types n) (map-Ty Ty Leads (leads_within types n) z) [] ≡ true
none_at types n names Ty-F.Void = refl
none_at types n names (Ty-F.Int w) = refl
none_at types n names Ty-F.Ptr = refl
none_at types n names (Ty-F.Array count of) = refl
none_at types n names (Ty-F.Struct fs) = refl
none_at types n names (Ty-F.Packed fs) = refl
none_at types n names (Ty-F.Named q) = names q

-- a type, where it is known of names
none_in : (types : List NamedTy) (n : ℕ) → ((q : List ℕ) → leads_named types n q [] ≡ true) → (ty : Ty) → leads_within types n ty [] ≡ true
none_in types n names ty = ap (λ t. leads_within types n t []) (sym (roll-out-Ty ty)) ∙ ap (λ (l : Leads). l []) (leads-roll types n (out-Ty ty)) ∙ none_at types n names (out-Ty ty)

-- names
none_named : (types : List NamedTy) (n : ℕ) (q : List ℕ) → leads_named types n q [] ≡ true
unfolding leads_within
none_named types zero q = refl
none_named types (suc n) q = of_option (first_where (λ (t : NamedTy). same_name t.name q) types) (none_in types n (none_named types n))
  where
    of_option : (o : Option NamedTy) → ((ty : Ty) → leads_within types n ty [] ≡ true) → leads_or_none (fold-Ty Leads (leads_at (leads_named types n))) o [] ≡ true
    of_option (Some t) go = go t.fields
    of_option None go = refl

-- no index leads to the whole
pub leads-none : (types : List NamedTy) (n : ℕ) (ty : Ty) → leads_within types n ty [] ≡ true
leads-none types n ty = none_in types n (none_named types n) ty

-- into a type, with names replaced as often as types may nest
pub leads-all : (types : List NamedTy) (ty : Ty) (ks : List (Option ℕ)) → leads_into types ty ks ≡ leads_within types MAX_NESTING ty ks
unfolding leads_into leads_within
leads-all types ty ks = refl

-- a name that can be replaced stands for its type
pub part-replaced : (types : List NamedTy) (known : Option ℕ) (n : ℕ) (name : List ℕ) → 0 < n → part_named types known n name ≡ part_or_none (part_at (part_named types known (n - 1)) (n - 1) known) (first_where (λ (t : NamedTy). same_name t.name name) types)
part-replaced types known zero name some = absurd (omega arith)
part-replaced types known (suc n) name some = let e : n ≡ suc n - 1 = omega arith in ap (λ k. part_or_none (part_at (part_named types known k) k known) (first_where (λ (t : NamedTy). same_name t.name name) types)) e

module _ {X : Type 0} (types : List NamedTy) (n : ℕ) (ty : Ty) (known : X → Option ℕ) (xs : List X) (i : ℕ) (x : X) (inside : i < length xs) (item : x ≡ get_or xs i x) (whole : Bool) (so_far : leads_within types n ty (map known (drop i xs)) ≡ whole) where
  -- where the item and those behind it lead
  here : lead_on types (map known (drop (i + 1) xs)) (part_in types (known x) n ty) ≡ whole
  here = sym (leads-more types n ty (known x) (map known (drop (i + 1) xs))) ∙ sym (ap (λ ys. leads_within types n ty (map known ys)) (drop_item xs i x inside item)) ∙ so_far

  -- into the part of the item, and on from there
  pub lead_step : (next : Part) → Some next ≡ part_in types (known x) n ty → leads_within types next.names next.ty (map known (drop (i + 1) xs)) ≡ whole
  lead_step next e = ap (lead_on types (map known (drop (i + 1) xs))) e ∙ here

  -- there is no such part
  pub lead_stop : None ≡ part_in types (known x) n ty → false ≡ whole
  lead_stop e = ap (lead_on types (map known (drop (i + 1) xs))) e ∙ here

-- past the end nothing is left
drop_past : {X : Type 0} (xs : List X) (i : ℕ) → length xs ≤ i → drop i xs ≡ []
drop_past [] i past = drop-nil i
drop_past (x ∷ xs) zero past = absurd (omega arith)
drop_past (x ∷ xs) (suc i) past = drop_past xs i (omega arith)

-- once no index is left
pub lead_end : {X : Type 0} (types : List NamedTy) (n : ℕ) (ty top : Ty) (known : X → Option ℕ) (xs : List X) (i : ℕ) → length xs ≤ i → leads_within types n ty (map known (drop i xs)) ≡ leads_within types MAX_NESTING top (map known xs) → true ≡ leads_into types top (map known xs)
lead_end types n ty top known xs i past e = sym (leads-none types n ty) ∙ ap (λ ys. leads_within types n ty (map known ys)) (sym (drop_past xs i past)) ∙ e ∙ sym (leads-all types top (map known xs))
