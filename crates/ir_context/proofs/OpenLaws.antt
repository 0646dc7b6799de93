-- A type with its name replaced has the same shape, and what stands in it is small too.
use Rattle.std.proofs.Common.{◌≡◌, ℕ, zero, suc, ◌≤◌, Bool, true, false, List, [], ◌∷◌, ◌++◌, map, Option, Some, None, refl, ap, sym, ◌∙◌, subst, arith, if◌then◌else◌}
use Rattle.std.specs.Prelude.{slice_get}
use Rattle.std.specs.List.{flat_map}
use Rattle.ir_core.specs.declared.limit.TheConstants.{MAX_NESTING, MAX_SIZE}
use Rattle.ir_core.specs.declared.ty.Ty.{Ty, roll-Ty, out-Ty, roll-out-Ty, out-roll-Ty, fold-roll-Ty}
use Rattle.ir_core.specs.declared.ty.Ty.TheVariants.{Void, Int, Ptr, Array, Struct, Packed, Named, rolls-Void, rolls-Int, rolls-Ptr, rolls-Array, rolls-Struct, rolls-Packed, rolls-Named}
use Rattle.ir_core.specs.declared.ty.Ty.TheOpen.{Ty-F}
use Rattle.ir_core.specs.declared.ty.NamedTy.{NamedTy}
use Rattle.ir_core.specs.Names.{same_name, first_where}
use Rattle.ir_core.specs.Shapes.{Shape, nothing, shape_at, shape_or_nothing, named_shape, shape_of}
use Rattle.ir_core.specs.Counts.{told, deeper, deepest, depth_or_none, depth_of, size_count}
use Rattle.ir_core.specs.Typing.{Leads, leads_whole, leads_at, leads_or_none, leads_named, leads_into}
use Rattle.ir_core.specs.Mentions.{parts_of}
use Rattle.ir_core.specs.Valid.{opened, named_fields}
use Rattle.ir_core.proofs.WrittenTypes.{parts-void, parts-int, parts-ptr, parts-named, parts-array, parts-struct, parts-packed, depth-void, depth-array, depth-struct, depth-packed}
use Rattle.ir_context.specs.Small.{AreSmall, IsSmall, FieldsAreSmall, is_plain}
use Rattle.ir_context.proofs.SettleLaws.{named_opens}

-- void has no bytes
shape_void : (types : List NamedTy) → shape_of types Void ≡ nothing
unfolding shape_of
shape_void types = ap (shape_of types) (sym rolls-Void) ∙ fold-roll-Ty Shape (shape_at (named_shape types 64)) Ty-F.Void

-- no index leads into it
leads_void : (types : List NamedTy) → leads_into types Void ≡ leads_whole
unfolding leads_into
leads_void types = ap (leads_into types) (sym rolls-Void) ∙ fold-roll-Ty Leads (leads_at (leads_named types 64)) Ty-F.Void

-- so it is small
void_small : (types : List NamedTy) → IsSmall types Void
void_small types = record {
  depth = subst (λ d. d ≤ MAX_NESTING) (sym (depth-void types)) (omega arith);
  parts = subst (AreSmall types) (sym parts-void) ((let size : size_count types Void ≡ 0 = ap (λ (s : Shape). told s.size) (shape_void types) in omega arith), tt);
}

-- a type, once a name is replaced by its fields
pub record Opens (types : List NamedTy) (ty : Ty) : Type 0 where
  pub is : Ty
  pub level : opened types (out-Ty ty) ≡ out-Ty is
  pub shape : shape_of types ty ≡ shape_of types is
  pub leads : leads_into types ty ≡ leads_into types is
  pub small : IsSmall types is
  pub plain : is_plain (out-Ty is) ≡ true

-- one that stays as it is
stays : (types : List NamedTy) (ty : Ty) → opened types (out-Ty ty) ≡ out-Ty ty → is_plain (out-Ty ty) ≡ true → IsSmall types ty → Opens types ty
stays types ty same plain small = record { is = ty; level = same; shape = refl; leads = refl; small = small; plain = plain }

-- the fields of a named type that is found
found_small : (types ts : List NamedTy) (p : NamedTy → Bool) (t : NamedTy) → FieldsAreSmall types ts → first_where p ts ≡ Some t → (is_plain (out-Ty t.fields) ≡ true) × AreSmall types (parts_of t.fields)
found_small types [] p t all e = absurd (cc)
found_small types (u ∷ us) p t all e = by (p u) (found_small types us p t all.1) e
  where
    by : (b : Bool) → (first_where p us ≡ Some t → (is_plain (out-Ty t.fields) ≡ true) × AreSmall types (parts_of t.fields)) → (if b then Some u else first_where p us) ≡ Some t → (is_plain (out-Ty t.fields) ≡ true) × AreSmall types (parts_of t.fields)
    by true go e = let same : u ≡ t = cc in subst (λ (v : NamedTy). (is_plain (out-Ty v.fields) ≡ true) × AreSmall types (parts_of v.fields)) same all.0
    by false go e = go e

-- a name
named_case : (types : List NamedTy) (name : List ℕ) → FieldsAreSmall types types → IsSmall types (Named name) → Opens types (Named name)
named_case types name all small = by (first_where (λ (t : NamedTy). same_name t.name name) types) refl
  where
    opens : shape_of types (Named name) ≡ shape_or_nothing (shape_of types) (first_where (λ (t : NamedTy). same_name t.name name) types)
    opens = (named_opens types name small.depth).0

    deep : depth_of types (Named name) ≡ depth_or_none (depth_of types) (first_where (λ (t : NamedTy). same_name t.name name) types)
    deep = (named_opens types name small.depth).1

    leads : leads_into types (Named name) ≡ leads_or_none (leads_into types) (first_where (λ (t : NamedTy). same_name t.name name) types)
    leads = (named_opens types name small.depth).2

    outer : opened types (out-Ty (Named name)) ≡ named_fields (first_where (λ (t : NamedTy). same_name t.name name) types)
    outer = ap (λ t. opened types (out-Ty t)) (sym (rolls-Named name)) ∙ ap (opened types) (out-roll-Ty (Ty-F.Named name))

    by : (o : Option NamedTy) → first_where (λ (t : NamedTy). same_name t.name name) types ≡ o → Opens types (Named name)
    by (Some t) e = record {
      is = t.fields;
      level = outer ∙ ap named_fields e;
      shape = opens ∙ ap (shape_or_nothing (shape_of types)) e;
      leads = leads ∙ ap (leads_or_none (leads_into types)) e;
      small = record {
        depth = subst (λ d. d ≤ MAX_NESTING) (deep ∙ ap (depth_or_none (depth_of types)) e) small.depth;
        parts = (found_small types types (λ (u : NamedTy). same_name u.name name) t all e).1;
      };
      plain = (found_small types types (λ (u : NamedTy). same_name u.name name) t all e).0;
    }
    by None e = record {
      is = Void;
      level = outer ∙ ap named_fields e ∙ sym (ap out-Ty (sym rolls-Void) ∙ out-roll-Ty Ty-F.Void);
      shape = opens ∙ ap (shape_or_nothing (shape_of types)) e ∙ sym (shape_void types);
      leads = leads ∙ ap (leads_or_none (leads_into types)) e ∙ sym (leads_void types);
      small = void_small types;
      plain = ap is_plain (ap out-Ty (sym rolls-Void) ∙ out-roll-Ty Ty-F.Void);
    }

-- any type
pub opens : (types : List NamedTy) (ty : Ty) → FieldsAreSmall types types → IsSmall types ty → Opens types ty
opens types ty all small = by (out-Ty ty) refl
  where
    same : (x : Ty-F Ty) → out-Ty ty ≡ x → opened types x ≡ x → is_plain x ≡ true → Opens types ty
    same x e is plain = stays types ty (ap (opened types) e ∙ is ∙ sym e) (ap is_plain e ∙ plain) small

    by : (x : Ty-F Ty) → out-Ty ty ≡ x → Opens types ty
    by (Ty-F.Named name) e = let is : Named name ≡ ty = sym (rolls-Named name) ∙ sym (ap roll-Ty e) ∙ roll-out-Ty ty in subst (Opens types) is (named_case types name all (subst (IsSmall types) (sym is) small))
    by Ty-F.Void e = same Ty-F.Void e refl refl
    by (Ty-F.Int w) e = same (Ty-F.Int w) e refl refl
    by Ty-F.Ptr e = same Ty-F.Ptr e refl refl
    by (Ty-F.Array n of) e = same (Ty-F.Array n of) e refl refl
    by (Ty-F.Struct fields) e = same (Ty-F.Struct fields) e refl refl
    by (Ty-F.Packed fields) e = same (Ty-F.Packed fields) e refl refl

-- the first of a row and the rest
small_front : (types : List NamedTy) (xs ys : List Ty) → AreSmall types (xs ++ ys) → AreSmall types xs × AreSmall types ys
small_front types [] ys all = (tt, all)
small_front types (x ∷ xs) ys all = let go = small_front types xs ys all.1 in ((all.0, go.0), go.1)

-- what is no deeper than the limit, one level further in
shallower : (d : ℕ) → deeper d ≤ MAX_NESTING → d ≤ MAX_NESTING
shallower d small = omega arith

-- the elements of an array
pub elements_small : (types : List NamedTy) (n : ℕ) (of : Ty) → IsSmall types (Array n of) → IsSmall types of
elements_small types n of small = record {
  depth = shallower (depth_of types of) (subst (λ d. d ≤ MAX_NESTING) (depth-array types n of) small.depth);
  parts = (subst (AreSmall types) (parts-array n of) small.parts).1;
}

-- of fields, one
field_parts : (types : List NamedTy) (fields : List Ty) (k : ℕ) (f : Ty) → slice_get fields k ≡ Some f → AreSmall types (flat_map parts_of fields) → AreSmall types (parts_of f)
field_parts types [] k f e all = absurd (cc)
field_parts types (g ∷ gs) zero f e all = let same : g ≡ f = cc in subst (λ h. AreSmall types (parts_of h)) same (small_front types (parts_of g) (flat_map parts_of gs) all).0
field_parts types (g ∷ gs) (suc k) f e all = field_parts types gs k f e (small_front types (parts_of g) (flat_map parts_of gs) all).1

-- its depth
field_depth : (types : List NamedTy) (fields : List Ty) (k : ℕ) (f : Ty) → slice_get fields k ≡ Some f → deepest (map (depth_of types) fields) ≤ MAX_NESTING → depth_of types f ≤ MAX_NESTING
field_depth types [] k f e small = absurd (cc)
field_depth types (g ∷ gs) zero f e small = let same : g ≡ f = cc in subst (λ h. depth_of types h ≤ MAX_NESTING) same (let le : depth_of types g ≤ MAX_NESTING = omega arith in le)
field_depth types (g ∷ gs) (suc k) f e small = field_depth types gs k f e (let le : deepest (map (depth_of types) gs) ≤ MAX_NESTING = omega arith in le)

-- a field of a struct
pub field_small : (types : List NamedTy) (fields : List Ty) (k : ℕ) (f : Ty) → slice_get fields k ≡ Some f → IsSmall types (Struct fields) → IsSmall types f
field_small types fields k f e small = record {
  depth = field_depth types fields k f e (shallower (deepest (map (depth_of types) fields)) (subst (λ d. d ≤ MAX_NESTING) (depth-struct types fields) small.depth));
  parts = field_parts types fields k f e (subst (AreSmall types) (parts-struct fields) small.parts).1;
}

-- of a packed one
pub packed_small : (types : List NamedTy) (fields : List Ty) (k : ℕ) (f : Ty) → slice_get fields k ≡ Some f → IsSmall types (Packed fields) → IsSmall types f
packed_small types fields k f e small = record {
  depth = field_depth types fields k f e (shallower (deepest (map (depth_of types) fields)) (subst (λ d. d ≤ MAX_NESTING) (depth-packed types fields) small.depth));
  parts = field_parts types fields k f e (subst (AreSmall types) (parts-packed fields) small.parts).1;
}

-- the size of a struct that is small
pub struct_size : (types : List NamedTy) (fields : List Ty) → IsSmall types (Struct fields) → size_count types (Struct fields) ≤ MAX_SIZE
struct_size types fields small = (subst (AreSmall types) (parts-struct fields) small.parts).0

pub packed_size : (types : List NamedTy) (fields : List Ty) → IsSmall types (Packed fields) → size_count types (Packed fields) ≤ MAX_SIZE
packed_size types fields small = (subst (AreSmall types) (parts-packed fields) small.parts).0

-- any type that is small has few bytes
pub size_small : (types : List NamedTy) (ty : Ty) → IsSmall types ty → size_count types ty ≤ MAX_SIZE
size_small types ty small = by (out-Ty ty) refl
  where
    first : (t : Ty) (rest : List Ty) → t ≡ ty → parts_of t ≡ t ∷ rest → size_count types ty ≤ MAX_SIZE
    first t rest is parts = subst (λ (u : Ty). size_count types u ≤ MAX_SIZE) is (subst (AreSmall types) parts (subst (λ (u : Ty). AreSmall types (parts_of u)) (sym is) small.parts)).0

    rolled : (x : Ty-F Ty) → out-Ty ty ≡ x → roll-Ty x ≡ ty
    rolled x e = sym (ap roll-Ty e) ∙ roll-out-Ty ty

    by : (x : Ty-F Ty) → out-Ty ty ≡ x → size_count types ty ≤ MAX_SIZE
    by Ty-F.Void e = first Void [] (sym rolls-Void ∙ rolled Ty-F.Void e) parts-void
    by (Ty-F.Int w) e = first (Int w) [] (sym (rolls-Int w) ∙ rolled (Ty-F.Int w) e) (parts-int w)
    by Ty-F.Ptr e = first Ptr [] (sym rolls-Ptr ∙ rolled Ty-F.Ptr e) parts-ptr
    by (Ty-F.Array n of) e = first (Array n of) (parts_of of) (sym (rolls-Array n of) ∙ rolled (Ty-F.Array n of) e) (parts-array n of)
    by (Ty-F.Struct fields) e = first (Struct fields) (flat_map parts_of fields) (sym (rolls-Struct fields) ∙ rolled (Ty-F.Struct fields) e) (parts-struct fields)
    by (Ty-F.Packed fields) e = first (Packed fields) (flat_map parts_of fields) (sym (rolls-Packed fields) ∙ rolled (Ty-F.Packed fields) e) (parts-packed fields)
    by (Ty-F.Named name) e = first (Named name) [] (sym (rolls-Named name) ∙ rolled (Ty-F.Named name) e) (parts-named name)
