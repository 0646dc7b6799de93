-- Named types of a module that passes no limit: structs that nest within it.
use Rattle.std.proofs.Common.{◌≡◌, ℕ, ◌≤◌, Bool, true, false, List, [], ◌∷◌, ◌++◌, map, refl, ap, sym, ◌∙◌, subst, arith}
use Rattle.std.specs.Prelude.{◌&&◌, nat_lt, if◌then◌else◌}
use Rattle.std.specs.List.{list_all, filter, flat_map}
use Rattle.std.proofs.lemmas.Bool.{and_parts, ltb-false}
use Rattle.ir_core.specs.declared.limit.Limit.{Limit}
use Rattle.ir_core.specs.declared.limit.TheConstants.{MAX_NESTING}
use Rattle.ir_core.specs.declared.ty.Ty.{Ty, out-Ty, roll-Ty, roll-out-Ty}
use Rattle.ir_core.specs.declared.ty.Ty.TheVariants.{Struct, Packed, rolls-Struct, rolls-Packed}
use Rattle.ir_core.specs.declared.ty.Ty.TheOpen.{Ty-F}
use Rattle.ir_core.specs.declared.ty.NamedTy.{NamedTy}
use Rattle.ir_core.specs.declared.module.Module.{Module}
use Rattle.ir_core.specs.Names.{same_name}
use Rattle.ir_core.specs.Mentions.{Mention, OfType, parts_of, of_global, of_extern, of_function, outside_functions, mentions, types_in, written_types}
use Rattle.ir_core.specs.Counts.{depth_of}
use Rattle.ir_core.specs.Built.{name_built, is_struct_at, type_built, named_built}
use Rattle.ir_core.specs.Refusals.{past, limited}
use Rattle.ir_core.proofs.WrittenTypes.{parts-struct, parts-packed}
use Rattle.ir_sound.specs.WellTyped.{Each}
use Rattle.ir_sound.proofs.NoFaults.{both_empty, map_empty, not_empty}
use Rattle.ir_sound.proofs.RowLaws.{Each_parts, Each_rows, each_mapped, first_has}
use Rattle.ir_sound.proofs.SameLaws.{not_true}
use Rattle.ir_sound.proofs.Sizes.{AreWithin, IsWithin}

-- counts none of which is past a limit
none_past : (most : ℕ) (counts : List ℕ) → filter (λ n. nat_lt most n) counts ≡ [] → Each (λ n. n ≤ most) counts
none_past most [] e = tt
none_past most (n ∷ ns) e = by_test (nat_lt most n) refl e (none_past most ns)
  where
    by_test : (b : Bool) → nat_lt most n ≡ b → (if b then n ∷ filter (λ k. nat_lt most k) ns else filter (λ k. nat_lt most k) ns) ≡ [] → (filter (λ k. nat_lt most k) ns ≡ [] → Each (λ k. k ≤ most) ns) → Each (λ k. k ≤ most) (n ∷ ns)
    by_test true f g go = not_empty n (filter (λ k. nat_lt most k) ns) g
    by_test false f g go = (let l = ltb-false most n f in omega arith, go g)

-- no type that is written is deeper than the limit
written_within : (m : Module) → limited m ≡ [] → Each (λ (ty : Ty). depth_of m.types ty ≤ MAX_NESTING) (written_types m)
written_within m none =
    let depths = map (depth_of m.types) (written_types m) in
    let code = both_empty _ _ none in
    let bytes = both_empty _ _ code.0 in
    let frame = both_empty _ _ bytes.0 in
    let parameters = both_empty _ _ frame.0 in
    let total = both_empty _ _ parameters.0 in
    let instructions = both_empty _ _ total.0 in
    let functions = both_empty _ _ instructions.0 in
    let sizes = both_empty (past Limit.Nesting MAX_NESTING depths) _ functions.0 in
    each_mapped (λ n. n ≤ MAX_NESTING) (depth_of m.types) (written_types m) (none_past MAX_NESTING depths (map_empty _ (filter (λ n. nat_lt MAX_NESTING n) depths) sizes.0))

-- a struct is the first of its own parts
struct_first : (P : Ty → Type 0) (ty : Ty) → is_struct_at (out-Ty ty) ≡ true → Each P (parts_of ty) → P ty
struct_first P ty is all = of_layer (out-Ty ty) refl is
  where
    of_layer : (z : Ty-F Ty) → out-Ty ty ≡ z → is_struct_at z ≡ true → P ty
    of_layer (Ty-F.Struct fields) e i =
        let same : ty ≡ Struct fields = sym (roll-out-Ty ty) ∙ ap roll-Ty e ∙ rolls-Struct fields in
        subst P (sym same) (subst (Each P) (ap parts_of same ∙ parts-struct fields) all).0
    of_layer (Ty-F.Packed fields) e i =
        let same : ty ≡ Packed fields = sym (roll-out-Ty ty) ∙ ap roll-Ty e ∙ rolls-Packed fields in
        subst P (sym same) (subst (Each P) (ap parts_of same ∙ parts-packed fields) all).0
    of_layer z e i = not_true i

-- named types whose parts are within the limit are so
each_within : (types ts : List NamedTy) → list_all named_built ts ≡ true → Each (λ (t : NamedTy). Each (λ (ty : Ty). depth_of types ty ≤ MAX_NESTING) (parts_of t.fields)) ts → Each (IsWithin types) ts
each_within types [] built all = tt
each_within types (t ∷ ts) built all =
    let p = and_parts (named_built t) (list_all named_built ts) built in
    let is = (and_parts (is_struct_at (out-Ty t.fields)) (type_built t.fields) (and_parts (name_built t.name) (is_struct_at (out-Ty t.fields) && type_built t.fields) p.0).1).0 in
    (record { is_struct = is; depth = struct_first (λ (ty : Ty). depth_of types ty ≤ MAX_NESTING) t.fields is all.0 }, each_within types ts p.1 all.1)

-- the named types of a built module that passes no limit
pub types_within : (m : Module) → limited m ≡ [] → list_all named_built m.types ≡ true → AreWithin m.types
types_within m none built name t found =
    let P : Ty → Type 0 = λ ty. depth_of m.types ty ≤ MAX_NESTING in
    let rows = Each_rows P types_in (mentions m) (written_within m none) in
    let Q : Mention → Type 0 = λ mention. Each P (types_in mention) in
    let outer = (Each_parts Q (outside_functions m) (flat_map of_function m.functions) rows).0 in
    let named = (Each_parts Q (map (λ (u : NamedTy). OfType u.fields) m.types) (flat_map of_global m.globals ++ flat_map of_extern m.externs) outer).0 in
    let parts = each_mapped Q (λ (u : NamedTy). OfType u.fields) m.types named in
    first_has (IsWithin m.types) (λ (u : NamedTy). same_name u.name name) m.types t (each_within m.types m.types built parts) found
