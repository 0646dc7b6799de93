-- What a module mentions: types are small, and a function that is named as a value is one to which a pointer may arise.
use Rattle.std.proofs.Common.{◌≡◌, ℕ, zero, suc, ◌≤◌, Bool, true, false, List, [], ◌∷◌, ◌++◌, map, Option, Some, None, refl, ap, sym, ◌∙◌, subst, arith, All}
use Rattle.std.specs.Prelude.{◌&&◌, ◌||◌, slice_get, option_map, if◌then◌else◌}
use Rattle.std.specs.List.{list_all, list_any, flat_map}
use Rattle.std.proofs.lemmas.Bool.{and_parts}
use Rattle.std.proofs.lemmas.Option.{slice_get-map}
use Rattle.ir_core.specs.declared.limit.TheConstants.{MAX_NESTING, MAX_SIZE}
use Rattle.ir_core.specs.declared.ty.Ty.{Ty, roll-Ty, out-Ty, roll-out-Ty}
use Rattle.ir_core.specs.declared.ty.Ty.TheVariants.{Void, Int, Ptr, Array, Struct, Packed, Named, rolls-Void, rolls-Int, rolls-Ptr, rolls-Array, rolls-Struct, rolls-Packed, rolls-Named}
use Rattle.ir_core.specs.declared.ty.Ty.TheOpen.{Ty-F}
use Rattle.ir_core.specs.declared.ty.NamedTy.{NamedTy}
use Rattle.ir_core.specs.declared.instruction.Inst.{Inst}
use Rattle.ir_core.specs.declared.module.Block.{Block}
use Rattle.ir_core.specs.declared.module.Param.{Param}
use Rattle.ir_core.specs.declared.module.Function.{Function}
use Rattle.ir_core.specs.declared.module.Module.{Module}
use Rattle.ir_core.specs.Names.{same_name, number_where}
use Rattle.ir_core.specs.Operands.{function_number}
use Rattle.ir_core.specs.Mentions.{Mention, OfType, OfSymbol, parts_of, of_op, of_end, of_block, of_global, of_extern, of_function, outside_functions, mentions, types_in, written_types}
use Rattle.ir_core.specs.Counts.{depth_of, size_count}
use Rattle.ir_core.specs.Built.{is_struct_at, name_built, type_built, named_built}
use Rattle.ir_core.proofs.WrittenTypes.{parts-void, parts-int, parts-ptr, parts-named, parts-array, parts-struct, parts-packed}
use Rattle.ir_sound.specs.WellTyped.{Each}
use Rattle.ir_sound.proofs.RowLaws.{Each_at, Each_parts, Each_rows, each_mapped}
use Rattle.ir_sound.proofs.SameLaws.{not_true, name_is, same_itself}
use Rattle.ir_context.specs.Small.{AreSmall, IsSmall, is_plain, FieldsAreSmall, IsSmallMention, AreSmallMentions}
use Rattle.low_core.specs.Shaped.{IsModuleShaped}
use Rattle.isel_rows.specs.Selected.{is_value_of, is_taken}

-- all items, one by one
pub each_of : {X : Type 0} (P : X → Type 0) (xs : List X) → All P xs → Each P xs
each_of P [] all = tt
each_of P (x ∷ xs) all = (all 0 x (omega arith), each_of P xs (λ k d lt. all (suc k) d (omega arith)))

-- what holds at each place
each_there : {X : Type 0} (P : X → Type 0) (xs : List X) → ((k : ℕ) (x : X) → slice_get xs k ≡ Some x → P x) → Each P xs
each_there P [] go = tt
each_there P (x ∷ xs) go = (go 0 x refl, each_there P xs (λ k y at. go (suc k) y at))

-- an item that passes is one of any
any_at : {X : Type 0} (test : X → Bool) (xs : List X) (k : ℕ) (x : X) → slice_get xs k ≡ Some x → test x ≡ true → list_any test xs ≡ true
any_at test [] k x at passes = absurd (cc)
any_at {X = X} test (y ∷ ys) zero x at passes = let same : x ≡ y = cc in ap (λ b. b || list_any test ys) (sym (ap test same) ∙ passes)
any_at test (y ∷ ys) (suc k) x at passes = or_second (test y) (list_any test ys) (any_at test ys k x at passes)
  where
    or_second : (p q : Bool) → q ≡ true → (p || q) ≡ true
    or_second true q h = refl
    or_second false q h = h

-- an item that was looked for, and its place
pub record Found {X : Type 0} (test : X → Bool) (xs : List X) (n : ℕ) : Type 0 where
  pub item : X
  pub there : slice_get xs n ≡ Some item
  pub passes : test item ≡ true

pub found : {X : Type 0} (test : X → Bool) (xs : List X) (n : ℕ) → number_where test xs ≡ Some n → Found test xs n
found test [] n e = absurd (cc)
found {X = X} test (x ∷ xs) n e = by (test x) (number_where test xs) refl refl (λ k is. found test xs k is) e
  where
    by : (b : Bool) (o : Option ℕ) → test x ≡ b → number_where test xs ≡ o → ((k : ℕ) → number_where test xs ≡ Some k → Found test xs k) → (if b then Some 0 else option_map (λ k. suc k) o) ≡ Some n → Found test (x ∷ xs) n
    by true o passes is go h =
        let z : 0 ≡ n = cc in
        record { item = x; there = ap (slice_get (x ∷ xs)) (sym z); passes = passes }
    by false None passes is go h = absurd (cc)
    by false (Some k) passes is go h =
        let z : suc k ≡ n = cc in
        let f = go k is in
        record { item = f.item; there = ap (slice_get (x ∷ xs)) (sym z) ∙ f.there; passes = f.passes }

-- what is asked of a mention
abbrev pub IsFine : Module → Mention → Type 0
IsFine m (OfType ty) = IsSmall m.types ty
IsFine m (OfSymbol name) = (f : ℕ) → function_number m name ≡ Some f → slice_get (map (is_taken m) m.functions) f ≡ Some true
IsFine m other = Unit {0}

-- a type is the first of its own parts
first_part : (P : Ty → Type 0) (ty : Ty) → Each P (parts_of ty) → P ty
first_part P ty all = by (out-Ty ty) refl
  where
    first : (t : Ty) (rest : List Ty) → t ≡ ty → parts_of t ≡ t ∷ rest → P ty
    first t rest is parts = subst P is (subst (Each P) parts (subst (λ (u : Ty). Each P (parts_of u)) (sym is) all)).0

    rolled : (x : Ty-F Ty) → out-Ty ty ≡ x → roll-Ty x ≡ ty
    rolled x e = sym (ap roll-Ty e) ∙ roll-out-Ty ty

    by : (x : Ty-F Ty) → out-Ty ty ≡ x → P ty
    by Ty-F.Void e = first Void [] (sym rolls-Void ∙ rolled Ty-F.Void e) parts-void
    by (Ty-F.Int w) e = first (Int w) [] (sym (rolls-Int w) ∙ rolled (Ty-F.Int w) e) (parts-int w)
    by Ty-F.Ptr e = first Ptr [] (sym rolls-Ptr ∙ rolled Ty-F.Ptr e) parts-ptr
    by (Ty-F.Array n of) e = first (Array n of) (parts_of of) (sym (rolls-Array n of) ∙ rolled (Ty-F.Array n of) e) (parts-array n of)
    by (Ty-F.Struct fields) e = first (Struct fields) (flat_map parts_of fields) (sym (rolls-Struct fields) ∙ rolled (Ty-F.Struct fields) e) (parts-struct fields)
    by (Ty-F.Packed fields) e = first (Packed fields) (flat_map parts_of fields) (sym (rolls-Packed fields) ∙ rolled (Ty-F.Packed fields) e) (parts-packed fields)
    by (Ty-F.Named name) e = first (Named name) [] (sym (rolls-Named name) ∙ rolled (Ty-F.Named name) e) (parts-named name)

-- a row of types of few bytes
small_row : (types : List NamedTy) (tys : List Ty) → Each (λ (ty : Ty). size_count types ty ≤ MAX_SIZE) tys → AreSmall types tys
small_row types [] all = tt
small_row types (ty ∷ tys) all = (all.0, small_row types tys all.1)

-- a struct is no name
struct_plain : (z : Ty-F Ty) → is_struct_at z ≡ true → is_plain z ≡ true
struct_plain (Ty-F.Struct fields) e = refl
struct_plain (Ty-F.Packed fields) e = refl
struct_plain z e = not_true e

-- mentions that are fine are small
pub all_small : (m : Module) (xs : List Mention) → Each (IsFine m) xs → AreSmallMentions m.types xs
all_small m [] fine = tt
all_small m (x ∷ xs) fine = (one x fine.0, all_small m xs fine.1)
  where
    one : (y : Mention) → IsFine m y → IsSmallMention m.types y
    one (OfType ty) f = f
    one other f = tt

module _ (own : ℕ) (m : Module) (shaped : IsModuleShaped own m) where
  -- each mention is fine
  mention_fine : (k : ℕ) (x : Mention) → slice_get (mentions m) k ≡ Some x → IsFine m x
  mention_fine k (OfType ty) at =
      let D : Ty → Type 0 = λ u. depth_of m.types u ≤ MAX_NESTING in
      let S : Ty → Type 0 = λ u. size_count m.types u ≤ MAX_SIZE in
      let depths = Each_at (λ (y : Mention). Each D (types_in y)) (mentions m) k (OfType ty) (Each_rows D types_in (mentions m) (each_of D (written_types m) shaped.nested)) at in
      let sizes = Each_at (λ (y : Mention). Each S (types_in y)) (mentions m) k (OfType ty) (Each_rows S types_in (mentions m) (each_of S (written_types m) shaped.sized)) at in
      record { depth = first_part D ty depths; parts = small_row m.types (parts_of ty) sizes }
  mention_fine k (OfSymbol name) at = λ f number.
      let w = found (λ (fn : Function). same_name fn.name name) m.functions f number in
      let same : w.item.name ≡ name = name_is w.item.name name w.passes in
      let passes : is_value_of w.item.name (OfSymbol name) ≡ true = ap (same_name name) same ∙ same_itself name in
      slice_get-map (is_taken m) m.functions f ∙ ap (option_map (is_taken m)) w.there ∙ ap Some (any_at (is_value_of w.item.name) (mentions m) k (OfSymbol name) at passes)
  mention_fine k other at = tt

  pub fine : Each (IsFine m) (mentions m)
  fine = each_there (IsFine m) (mentions m) mention_fine

  -- in front of the functions
  outer_fine : Each (IsFine m) (map (λ (t : NamedTy). OfType t.fields) m.types)
  outer_fine = (Each_parts (IsFine m) (map (λ (t : NamedTy). OfType t.fields) m.types) (flat_map of_global m.globals ++ flat_map of_extern m.externs) (Each_parts (IsFine m) (outside_functions m) (flat_map of_function m.functions) fine).0).0

  -- the fields of named types
  pub types_small : Each (λ (t : NamedTy). IsSmall m.types t.fields) m.types
  types_small = each_mapped (IsFine m) (λ (t : NamedTy). OfType t.fields) m.types outer_fine

  small_fields : (ts : List NamedTy) → list_all named_built ts ≡ true → Each (λ (t : NamedTy). IsSmall m.types t.fields) ts → FieldsAreSmall m.types ts
  small_fields [] built all = tt
  small_fields (t ∷ ts) built all =
      let p = and_parts (named_built t) (list_all named_built ts) built in
      let q = and_parts (name_built t.name) (is_struct_at (out-Ty t.fields) && type_built t.fields) p.0 in
      let is = (and_parts (is_struct_at (out-Ty t.fields)) (type_built t.fields) q.1).0 in
      ((struct_plain (out-Ty t.fields) is, all.0.parts), small_fields ts p.1 all.1)

  pub fields_small : FieldsAreSmall m.types m.types
  fields_small = small_fields m.types shaped.types_built types_small

  -- what a function mentions
  function_fine : (number : ℕ) (fn : Function) → slice_get m.functions number ≡ Some fn → Each (IsFine m) (of_function fn)
  function_fine number fn at = Each_at (λ (f : Function). Each (IsFine m) (of_function f)) m.functions number fn (Each_rows (IsFine m) of_function m.functions (Each_parts (IsFine m) (outside_functions m) (flat_map of_function m.functions) fine).1) at

  -- what a block of it mentions
  block_fine : (number : ℕ) (fn : Function) → slice_get m.functions number ≡ Some fn → (k : ℕ) (b : Block) → slice_get fn.blocks k ≡ Some b → Each (IsFine m) (of_block b)
  block_fine number fn in_module k b at =
      let all = function_fine number fn in_module in
      let rows = (Each_parts (IsFine m) (map (λ (p : Param). OfType p.ty) fn.params) (flat_map of_block fn.blocks) all.1).1 in
      Each_at (λ (c : Block). Each (IsFine m) (of_block c)) fn.blocks k b (Each_rows (IsFine m) of_block fn.blocks rows) at

  -- what an instruction mentions
  pub inst_fine : (number : ℕ) (fn : Function) → slice_get m.functions number ≡ Some fn → (k : ℕ) (b : Block) → slice_get fn.blocks k ≡ Some b → (j : ℕ) (i : Inst) → slice_get b.insts j ≡ Some i → Each (IsFine m) (of_op i.op)
  inst_fine number fn in_module k b in_function j i at =
      let all = (Each_parts (IsFine m) (flat_map (λ (x : Inst). of_op x.op) b.insts) (of_end b.end) (block_fine number fn in_module k b in_function)).0 in
      Each_at (λ (x : Inst). Each (IsFine m) (of_op x.op)) b.insts j i (Each_rows (IsFine m) (λ (x : Inst). of_op x.op) b.insts all) at

  -- what an end mentions
  pub end_fine : (number : ℕ) (fn : Function) → slice_get m.functions number ≡ Some fn → (k : ℕ) (b : Block) → slice_get fn.blocks k ≡ Some b → Each (IsFine m) (of_end b.end)
  end_fine number fn in_module k b in_function = (Each_parts (IsFine m) (flat_map (λ (x : Inst). of_op x.op) b.insts) (of_end b.end) (block_fine number fn in_module k b in_function)).1
