-- Indices that lead to a part of a type have a path.
use Rattle.std.proofs.Common.{◌≡◌, ℕ, zero, suc, ◌%◌, ◌^◌, ◌<◌, Bool, true, false, List, [], ◌∷◌, map, take, Option, Some, None, Ok, refl, ap, sym, ◌∙◌, subst, arith}
use Rattle.std.specs.Prelude.{slice_get}
use Rattle.ir_core.specs.declared.limit.TheConstants.{MAX_NESTING}
use Rattle.ir_core.specs.declared.ty.Ty.{Ty, roll-Ty, out-Ty, roll-out-Ty, fold-roll-Ty}
use Rattle.ir_core.specs.declared.ty.Ty.TheVariants.{Array, Struct, Packed, rolls-Array, rolls-Struct, rolls-Packed}
use Rattle.ir_core.specs.declared.ty.Ty.TheOpen.{Ty-F}
use Rattle.ir_core.specs.declared.ty.Ty.TheFolds.{map-Ty}
use Rattle.ir_core.specs.declared.ty.NamedTy.{NamedTy}
use Rattle.ir_core.specs.declared.memory.Value.{Value}
use Rattle.ir_core.specs.Operands.{index_word}
use Rattle.ir_core.specs.Typing.{Leads, leads_field, leads_struct, leads_at, leads_named, leads_into, leads_from}
use Rattle.ir_core.specs.Words.{low_word}
use Rattle.ir_context.specs.declared.origin.Origin.{Origin}
use Rattle.ir_context.specs.declared.origin.Origin.TheVariants.{Known}
use Rattle.ir_context.specs.declared.path.Path.{Path}
use Rattle.ir_context.specs.Extents.{extent_of, field_place}
use Rattle.ir_context.specs.Paths.{empty_path, farther, over_elements, into_found, into_number, into_field, into_type, onward, path_into, path_of}
use Rattle.ir_context.specs.Small.{IsSmall, FieldsAreSmall, is_plain}
use Rattle.ir_context.proofs.OpenLaws.{opens, elements_small, field_small, packed_small}

-- an index that is known to be a number
pub record IsNumber (n : ℕ) (o : Origin) : Type 0 where
  pub value : Value
  pub known : o ≡ Known value
  pub word : index_word value ≡ Ok n
  pub low : n < 2 ^ 64

-- what is known of indices holds of where they come from
abbrev pub KnownAs : List (Option ℕ) → List Origin → Type 0
KnownAs [] [] = Unit {0}
KnownAs (None ∷ ks) (o ∷ os) = KnownAs ks os
KnownAs (Some n ∷ ks) (o ∷ os) = IsNumber n o × KnownAs ks os
KnownAs [] (o ∷ os) = ⊥
KnownAs (k ∷ ks) [] = ⊥

-- a path that is there
pub record HasPath (o : Option Path) : Type 0 where
  pub path : Path
  pub is : o ≡ Some path

-- one level of a type that is unrolled
leads_roll : (types : List NamedTy) (ty : Ty) (l : Ty-F Ty) → out-Ty ty ≡ l → leads_into types ty ≡ leads_at (leads_named types MAX_NESTING) (map-Ty Ty Leads (leads_into types) l)
unfolding leads_into
leads_roll types ty l is =
    ap (leads_into types) (sym (roll-out-Ty ty)) ∙ ap (λ x. leads_into types (roll-Ty x)) is ∙ fold-roll-Ty Leads (leads_at (leads_named types MAX_NESTING)) l

-- the indices that are left have a path from any part into which they lead
abbrev Goes : List NamedTy → List (Option ℕ) → List Origin → Type 0
Goes types ks os = (part : Ty) (r : Path) → IsSmall types part → leads_into types part ks ≡ true → HasPath (path_into types part os r)

-- a field to which they lead
found_field : (types : List NamedTy) (fields : List Ty) (n : ℕ) (ks : List (Option ℕ)) (A : Type 0) → ((f : Ty) → slice_get fields n ≡ Some f → leads_into types f ks ≡ true → A) → leads_field (map (leads_into types) fields) n ks ≡ true → A
found_field types [] n ks A go e = absurd (cc)
found_field types (f ∷ fs) zero ks A go e = go f refl e
found_field types (f ∷ fs) (suc n) ks A go e = found_field types fs n ks A go e

module _ (types : List NamedTy) (ks : List (Option ℕ)) (os : List Origin) (go : Goes types ks os) (packed : Bool) (fields : List Ty) (small : (k : ℕ) (f : Ty) → slice_get fields k ≡ Some f → IsSmall types f) (p : Path) where
  -- by a number
  by_number : (n : ℕ) (o : Origin) → IsNumber n o → leads_field (map (leads_into types) fields) n ks ≡ true → HasPath (onward (into_field types packed fields o p) (λ part r. path_into types part os r))
  by_number n o number e = found_field types fields n ks (HasPath (onward (into_field types packed fields o p) (λ part r. path_into types part os r))) found e
    where
      found : (f : Ty) → slice_get fields n ≡ Some f → leads_into types f ks ≡ true → HasPath (onward (into_field types packed fields o p) (λ part r. path_into types part os r))
      found f get leads =
          let far = farther (field_place packed (map (extent_of types) (take n fields)) (extent_of types f)) p in
          let h = go f far (small n f get) leads in
          let low : n % 2 ^ 64 ≡ n = (let below = number.low in omega arith) in
          record {
            path = h.path;
            is =
                ap (λ x. onward (into_field types packed fields x p) (λ part r. path_into types part os r)) number.known
                ∙ ap (λ w. onward (into_number types packed fields (low_word w) p) (λ part r. path_into types part os r)) number.word
                ∙ ap (λ k. onward (into_found types packed fields k (slice_get fields k) p) (λ part r. path_into types part os r)) low
                ∙ ap (λ x. onward (into_found types packed fields n x p) (λ part r. path_into types part os r)) get ∙ h.is;
          }

  -- by what is known
  by_known : (k : Option ℕ) (o : Origin) → KnownAs (k ∷ ks) (o ∷ os) → leads_struct (map (leads_into types) fields) (k ∷ ks) ≡ true → HasPath (onward (into_field types packed fields o p) (λ part r. path_into types part os r))
  by_known None o known e = absurd (cc)
  by_known (Some n) o known e = by_number n o known.0 e

-- what is known of the others
others : (k : Option ℕ) (ks : List (Option ℕ)) (o : Origin) (os : List Origin) → KnownAs (k ∷ ks) (o ∷ os) → KnownAs ks os
others None ks o os known = known
others (Some n) ks o os known = known.1

-- one index into a type without a name
level_path : (types : List NamedTy) (k : Option ℕ) (ks : List (Option ℕ)) (o : Origin) (os : List Origin) (ty : Ty) (p : Path) → KnownAs (k ∷ ks) (o ∷ os) → IsSmall types ty → Goes types ks os → (l : Ty-F Ty) → out-Ty ty ≡ l → is_plain l ≡ true
    → leads_into types ty (k ∷ ks) ≡ true → HasPath (onward (into_type types l o p) (λ part r. path_into types part os r))
level_path types k ks o os ty p known small go l is plain e = by l is plain (sym (ap (λ (f : Leads). f (k ∷ ks)) (leads_roll types ty l is)) ∙ e)
  where
    outer : (t : Ty) → t ≡ ty → IsSmall types t
    outer t same = subst (IsSmall types) (sym same) small

    by : (l : Ty-F Ty) → out-Ty ty ≡ l → is_plain l ≡ true → leads_at (leads_named types MAX_NESTING) (map-Ty Ty Leads (leads_into types) l) (k ∷ ks) ≡ true → HasPath (onward (into_type types l o p) (λ part r. path_into types part os r))
    by Ty-F.Void is plain e = absurd (cc)
    by (Ty-F.Int w) is plain e = absurd (cc)
    by Ty-F.Ptr is plain e = absurd (cc)
    by (Ty-F.Named name) is plain e = absurd (cc)
    by (Ty-F.Array n of) is plain e = go of (over_elements o (extent_of types of).size p) (elements_small types n of (outer (Array n of) (sym (rolls-Array n of) ∙ sym (ap roll-Ty is) ∙ roll-out-Ty ty))) e
    by (Ty-F.Struct fields) is plain e =
        by_known types ks os go false fields (λ j f. λ get. field_small types fields j f get (outer (Struct fields) (sym (rolls-Struct fields) ∙ sym (ap roll-Ty is) ∙ roll-out-Ty ty))) p k o known e
    by (Ty-F.Packed fields) is plain e =
        by_known types ks os go true fields (λ j f. λ get. packed_small types fields j f get (outer (Packed fields) (sym (rolls-Packed fields) ∙ sym (ap roll-Ty is) ∙ roll-out-Ty ty))) p k o known e

-- a row of indices into a type
has_path : (types : List NamedTy) (all : FieldsAreSmall types types) (ks : List (Option ℕ)) (os : List Origin) → KnownAs ks os → Goes types ks os
has_path types all [] [] known ty p small e = record { path = p; is = refl }
has_path types all [] (o ∷ os) known ty p small e = absurd known
has_path types all (k ∷ ks) [] known ty p small e = record { path = p; is = refl }
has_path types all (k ∷ ks) (o ∷ os) known ty p small e =
    let x = opens types ty all small in
    let h = level_path types k ks o os x.is p known x.small (has_path types all ks os (others k ks o os known)) (out-Ty x.is) refl x.plain (sym (ap (λ (f : Leads). f (k ∷ ks)) x.leads) ∙ e) in
    record { path = h.path; is = ap (λ l. onward (into_type types l o p) (λ part r. path_into types part os r)) x.level ∙ h.is }

-- a row of indices from a pointer to a type
pub has_path_from : (types : List NamedTy) (all : FieldsAreSmall types types) (ks : List (Option ℕ)) (os : List Origin) (ty : Ty) → KnownAs ks os → IsSmall types ty → leads_from types ty ks ≡ true → HasPath (path_of types ty os)
has_path_from types all [] [] ty known small e = record { path = empty_path; is = refl }
has_path_from types all [] (o ∷ os) ty known small e = absurd known
has_path_from types all (k ∷ ks) [] ty known small e = record { path = empty_path; is = refl }
has_path_from types all (k ∷ ks) (o ∷ os) ty known small e = has_path types all ks os (others k ks o os known) ty (over_elements o (extent_of types ty).size empty_path) small e
