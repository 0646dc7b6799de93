-- The types that a valid module mentions are small, and so are the frames of its functions.
use Rattle.std.proofs.Common.{◌≡◌, ℕ, ◌≤◌, Bool, true, false, List, [], ◌∷◌, ◌++◌, map, length, refl, ap, sym, ◌∙◌, subst, arith}
use Rattle.std.specs.Prelude.{◌&&◌, nat_lt, ◌^◌, if◌then◌else◌}
use Rattle.std.specs.List.{list_all, filter, flat_map}
use Rattle.std.proofs.lemmas.Bool.{and_parts, ltb-false}
use Rattle.ir_core.specs.declared.limit.Limit.{Limit}
use Rattle.ir_core.specs.declared.limit.TheConstants.{MAX_NESTING, MAX_SIZE, MAX_FRAME, MAX_BYTES}
use Rattle.ir_core.specs.declared.ty.Ty.{Ty, roll-Ty, out-Ty, roll-out-Ty}
use Rattle.ir_core.specs.declared.ty.Ty.TheVariants.{Void, Int, Ptr, Array, Struct, Packed, Named, rolls-Void, rolls-Int, rolls-Ptr, rolls-Array, rolls-Struct, rolls-Packed, rolls-Named}
use Rattle.ir_core.specs.declared.ty.Ty.TheOpen.{Ty-F}
use Rattle.ir_core.specs.declared.ty.NamedTy.{NamedTy}
use Rattle.ir_core.specs.declared.module.Function.{Function}
use Rattle.ir_core.specs.declared.module.Module.{Module}
use Rattle.ir_core.specs.Mentions.{Mention, OfType, parts_of, of_global, of_extern, of_function, outside_functions, mentions, types_in, written_types}
use Rattle.ir_core.specs.Counts.{depth_of, size_count, frame_count, bytes_count}
use Rattle.ir_core.specs.Built.{built_all, is_struct_at, name_built, type_built, named_built, global_built, extern_built, function_built}
use Rattle.ir_core.specs.Refusals.{IsValid, past, limited}
use Rattle.ir_core.proofs.WrittenTypes.{parts-void, parts-int, parts-ptr, parts-named, parts-array, parts-struct, parts-packed}
use Rattle.ir_sound.specs.WellTyped.{Each}
use Rattle.ir_sound.proofs.NoFaults.{both_empty, map_empty, not_empty, unrefused}
use Rattle.ir_sound.proofs.RowLaws.{Each_parts, Each_rows, Each_more, Each_and, each_mapped}
use Rattle.ir_sound.proofs.SameLaws.{not_true}
use Rattle.ir_context.specs.Small.{AreSmall, IsSmall, is_plain, FieldsAreSmall, IsSmallMention}
use Rattle.ir_globals.specs.Small.{IsSmallModule}

-- counts none of which is past a limit
none_past : (most : ℕ) (counts : List ℕ) → filter (λ n. nat_lt most n) counts ≡ [] → Each (λ n. n ≤ most) counts
none_past most [] e = tt
none_past most (n ∷ ns) e = by_test (nat_lt most n) refl e (none_past most ns)
  where
    by_test : (b : Bool) → nat_lt most n ≡ b → (if b then n ∷ filter (λ k. nat_lt most k) ns else filter (λ k. nat_lt most k) ns) ≡ [] → (filter (λ k. nat_lt most k) ns ≡ [] → Each (λ k. k ≤ most) ns) → Each (λ k. k ≤ most) (n ∷ ns)
    by_test true f g go = not_empty n (filter (λ k. nat_lt most k) ns) g
    by_test false f g go = (let l = ltb-false most n f in omega arith, go g)

-- a limit that nothing passes
kept : {X : Type 0} (which : Limit) (most : ℕ) (count : X → ℕ) (xs : List X) → past which most (map count xs) ≡ [] → Each (λ x. count x ≤ most) xs
kept which most count xs none = each_mapped (λ n. n ≤ most) count xs (none_past most (map count xs) (map_empty _ (filter (λ n. nat_lt most n) (map count xs)) none))

-- the limits of types, of frames and of the bytes of globals
pub record AreKept (m : Module) : Type 0 where
  pub depths : Each (λ (ty : Ty). depth_of m.types ty ≤ MAX_NESTING) (written_types m)
  pub sizes : Each (λ (ty : Ty). size_count m.types ty ≤ MAX_SIZE) (written_types m)
  pub frames : Each (λ (f : Function). frame_count m.types f ≤ MAX_FRAME) m.functions
  pub bytes : bytes_count m ≤ MAX_BYTES

-- hold in a module that passes no limit
pub limits_kept : (m : Module) → limited m ≡ [] → AreKept m
limits_kept m none =
    let code = both_empty _ _ none in
    let bytes = both_empty _ _ code.0 in
    let frame = both_empty _ (past Limit.Frame MAX_FRAME (map (frame_count m.types) m.functions)) bytes.0 in
    let parameters = both_empty _ _ frame.0 in
    let total = both_empty _ _ parameters.0 in
    let instructions = both_empty _ _ total.0 in
    let functions = both_empty _ _ instructions.0 in
    let sizes = both_empty (past Limit.Nesting MAX_NESTING (map (depth_of m.types) (written_types m))) (past Limit.Size MAX_SIZE (map (size_count m.types) (written_types m))) functions.0 in
    record {
      depths = kept Limit.Nesting MAX_NESTING (depth_of m.types) (written_types m) sizes.0;
      sizes = kept Limit.Size MAX_SIZE (size_count m.types) (written_types m) sizes.1;
      frames = kept Limit.Frame MAX_FRAME (frame_count m.types) m.functions frame.1;
      bytes = (kept Limit.Bytes MAX_BYTES (λ n. n) (bytes_count m ∷ []) bytes.1).0;
    }

-- a type is the first of its own parts
first_part : (P : Ty → Type 0) (ty : Ty) → Each P (parts_of ty) → P ty
first_part P ty all = by (out-Ty ty) refl
  where
    first : (t : Ty) (rest : List Ty) → t ≡ ty → parts_of t ≡ t ∷ rest → P ty
    first t rest is parts = subst P is (subst (Each P) parts (subst (λ (u : Ty). Each P (parts_of u)) (sym is) all)).0

    rolled : (x : Ty-F Ty) → out-Ty ty ≡ x → roll-Ty x ≡ ty
    rolled x e = sym (ap roll-Ty e) ∙ roll-out-Ty ty

    by : (x : Ty-F Ty) → out-Ty ty ≡ x → P ty
    by Ty-F.Void e = first Void [] (sym rolls-Void ∙ rolled Ty-F.Void e) parts-void
    by (Ty-F.Int w) e = first (Int w) [] (sym (rolls-Int w) ∙ rolled (Ty-F.Int w) e) (parts-int w)
    by Ty-F.Ptr e = first Ptr [] (sym rolls-Ptr ∙ rolled Ty-F.Ptr e) parts-ptr
    by (Ty-F.Array n of) e = first (Array n of) (parts_of of) (sym (rolls-Array n of) ∙ rolled (Ty-F.Array n of) e) (parts-array n of)
    by (Ty-F.Struct fields) e = first (Struct fields) (flat_map parts_of fields) (sym (rolls-Struct fields) ∙ rolled (Ty-F.Struct fields) e) (parts-struct fields)
    by (Ty-F.Packed fields) e = first (Packed fields) (flat_map parts_of fields) (sym (rolls-Packed fields) ∙ rolled (Ty-F.Packed fields) e) (parts-packed fields)
    by (Ty-F.Named name) e = first (Named name) [] (sym (rolls-Named name) ∙ rolled (Ty-F.Named name) e) (parts-named name)

-- a row of types of few bytes
small_row : (types : List NamedTy) (tys : List Ty) → Each (λ (ty : Ty). size_count types ty ≤ MAX_SIZE) tys → AreSmall types tys
small_row types [] all = tt
small_row types (ty ∷ tys) all = (all.0, small_row types tys all.1)

-- a mention whose types are within the limits
small_mention : (types : List NamedTy) (mention : Mention) → Each (λ (ty : Ty). depth_of types ty ≤ MAX_NESTING) (types_in mention) → Each (λ (ty : Ty). size_count types ty ≤ MAX_SIZE) (types_in mention) → IsSmallMention types mention
small_mention types (OfType ty) depths sizes = record { depth = first_part (λ (u : Ty). depth_of types u ≤ MAX_NESTING) ty depths; parts = small_row types (parts_of ty) sizes }
small_mention types other depths sizes = tt

-- all mentions
small_mentions : (m : Module) → AreKept m → Each (IsSmallMention m.types) (mentions m)
small_mentions m kept =
    let D : Ty → Type 0 = λ ty. depth_of m.types ty ≤ MAX_NESTING in
    let S : Ty → Type 0 = λ ty. size_count m.types ty ≤ MAX_SIZE in
    let P : Mention → Type 0 = λ mention. Each D (types_in mention) in
    let Q : Mention → Type 0 = λ mention. Each S (types_in mention) in
    Each_more (λ mention. P mention × Q mention) (IsSmallMention m.types) (mentions m) (λ mention both. small_mention m.types mention both.0 both.1)
    (Each_and P Q (mentions m) (Each_rows D types_in (mentions m) kept.depths) (Each_rows S types_in (mentions m) kept.sizes))

-- a struct is no name
struct_plain : (z : Ty-F Ty) → is_struct_at z ≡ true → is_plain z ≡ true
struct_plain (Ty-F.Struct fields) e = refl
struct_plain (Ty-F.Packed fields) e = refl
struct_plain z e = not_true e

-- named types that are structs and small
small_fields : (types ts : List NamedTy) → list_all named_built ts ≡ true → Each (λ (t : NamedTy). IsSmall types t.fields) ts → FieldsAreSmall types ts
small_fields types [] built all = tt
small_fields types (t ∷ ts) built all =
    let p = and_parts (named_built t) (list_all named_built ts) built in
    let q = and_parts (name_built t.name) (is_struct_at (out-Ty t.fields) && type_built t.fields) p.0 in
    let is = (and_parts (is_struct_at (out-Ty t.fields)) (type_built t.fields) q.1).0 in
    ((struct_plain (out-Ty t.fields) is, all.0.parts), small_fields types ts p.1 all.1)

-- a module that passes no limit, and whose named types are built
small_module : (m : Module) → limited m ≡ [] → list_all named_built m.types ≡ true → IsSmallModule m
small_module m none built =
    let P = IsSmallMention m.types in
    let kept = limits_kept m none in
    let two = Each_parts P (outside_functions m) (flat_map of_function m.functions) (small_mentions m kept) in
    let outer = Each_parts P (map (λ (t : NamedTy). OfType t.fields) m.types) (flat_map of_global m.globals ++ flat_map of_extern m.externs) two.0 in
    record {
      fields = small_fields m.types m.types built (each_mapped P (λ (t : NamedTy). OfType t.fields) m.types outer.0);
      globals = Each_rows P of_global m.globals (Each_parts P (flat_map of_global m.globals) (flat_map of_extern m.externs) outer.1).0;
      functions = Each_rows P of_function m.functions two.1;
      frames = kept.frames;
    }

-- all parts of what is built are
all_built : {X : Type 0} (test : X → Bool) (xs : List X) → built_all test xs ≡ true → list_all test xs ≡ true
all_built test xs e = (and_parts (nat_lt (length xs) (2 ^ 32)) (list_all test xs) e).1

-- a valid module is small
pub valid_small : (m : Module) → IsValid m → IsSmallModule m
valid_small m valid =
    let u = unrefused m valid.accepted in
    let built = and_parts (built_all named_built m.types && built_all global_built m.globals) (built_all extern_built m.externs && built_all function_built m.functions) valid.built in
    small_module m u.limited (all_built named_built m.types (and_parts (built_all named_built m.types) (built_all global_built m.globals) built.0).0)
