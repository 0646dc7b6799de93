-- The state before the first step is well typed.
use Rattle.std.proofs.Common.{◌≡◌, ℕ, ◌+◌, ◌-◌, ◌%◌, ◌^◌, ◌<◌, Bool, true, List, [], ◌∷◌, ◌++◌, length, map, Option, Some, None, Ok, Err, refl, sym, ◌∙◌, subst, arith, ⊎_elim}
use Rattle.std.specs.Prelude.{◌&&◌, ◌||◌, nat_lt, slice_get, codes}
use Rattle.std.proofs.lemmas.Bool.{and_parts, or_cases, ltb-true, eqb-true}
use Rattle.std.proofs.Math.Nat.{mod-lt}
use Rattle.rd_num.specs.declared.width.Width.TheVariants.{W1, W8, W16, W32, W64}
use Rattle.ir_core.specs.declared.ty.Ty.{Ty}
use Rattle.ir_core.specs.declared.operand.Operand.{Operand}
use Rattle.ir_core.specs.declared.operand.Operand.TheVariants.{Int, Bool as Truth, Null as NullWord, Undef, Poison, Local as LocalName, Global, Const}
use Rattle.ir_core.specs.declared.init.Init.{Init, fold-Init, ind-Init, roll-Init, fold-roll-Init}
use Rattle.ir_core.specs.declared.init.Elem.{Elem, fold-Elem, roll-Elem, fold-roll-Elem}
use Rattle.ir_core.specs.declared.init.Init.TheOpen.{Init-F, Elem-F}
use Rattle.ir_core.specs.declared.init.Init.TheBlock.{the_family, member-Init, member-Elem}
use Rattle.ir_core.specs.declared.init.Init.TheFolds.{claims, map-Init, map-Elem}
use denote.Hole.Holds.{Such}
use Rattle.ir_core.specs.declared.module.GlobalVar.{GlobalVar}
use Rattle.ir_core.specs.declared.module.Param.{Param}
use Rattle.ir_core.specs.declared.module.Function.{Function}
use Rattle.ir_core.specs.declared.module.Module.{Module}
use Rattle.ir_core.specs.declared.memory.Value.{Value}
use Rattle.ir_core.specs.declared.memory.Value.TheVariants.{At}
use Rattle.ir_core.specs.declared.memory.Cell.{Cell}
use Rattle.ir_core.specs.declared.memory.Cell.TheVariants.{Byte}
use Rattle.ir_core.specs.Built.{type_built, init_built_at, init_built}
use Rattle.ir_core.specs.Names.{same_name, first_where}
use Rattle.ir_core.specs.Stops.{Malformed, Answer, and_then, found_or}
use Rattle.ir_core.specs.declared.kind.Kind.{Kind}
use Rattle.ir_core.specs.declared.kind.Kind.TheVariants.{NoValue, Number, Pointer}
use Rattle.ir_core.specs.Kinds.{kind_of, same_kind, zero_of}
use Rattle.ir_core.specs.Shapes.{shape_of, rounded}
use Rattle.ir_core.specs.Operands.{value_of, named_value, global_number, function_number, literal_indices, bytes_to}
use Rattle.ir_core.specs.Calls.{same_kinds, bound}
use Rattle.ir_core.specs.Globals.{Part, zeros, end_to_end, spread, cells_or_zeros, init_at, element_at, cells_of_init, part_of, global_object, first_objects}
use Rattle.ir_core.specs.Run.{first_arguments, start_in, start_at, source_start}
use Rattle.ir_core.specs.Typing.{Env}
use Rattle.std.specs.List.{list_all}
use Rattle.ir_core.specs.Valid.{env_of}
use Rattle.ir_core.specs.Refusals.{is_main, has_main}
use Rattle.ir_core.proofs.Fits.{literal_fits}
use Rattle.ir_sound.specs.Typed.{IsTyped, is_sized}
use Rattle.ir_sound.specs.WellTyped.{AreGlobals, Each, Present, IsOfKind, IsCell, IsObject, IsLocal, present, IsWellTyped}
use Rattle.ir_sound.proofs.Calls.{bound_are, first_stands}
use Rattle.ir_sound.proofs.Objects.{cells_are}
use Rattle.ir_sound.proofs.Operands.{AreOfKinds, Covers, function_below, global_below, truth_is}
use Rattle.ir_sound.proofs.Parts.{function_at}
use Rattle.ir_sound.proofs.RowLaws.{Each_both, Each_replicate, first_passes, found_any, length_map}
use Rattle.ir_sound.proofs.SameLaws.{kind_is, kinds_are, not_true, some_is}

-- an answer that has a property where it is a value
abbrev Loose : {A : Type 0} → (A → Type 0) → Answer A → Type 0
Loose P (Ok a) = P a
Loose P (Err e) = Unit {0}

-- of two parts, where the second has it
after_loose : {A B : Type 0} (Q : B → Type 0) (a : Answer A) (rest : A → Answer B) → ((x : A) → a ≡ Ok x → Loose Q (rest x)) → Loose Q (and_then a rest)
after_loose Q (Ok x) rest go = go x refl
after_loose Q (Err e) rest go = tt

-- a value of some kind
abbrev IsSome : Present → Value → Type 0
IsSome x v = (kind : Kind) × IsOfKind x kind v

-- zeros are a value of some kind
zero_loose : (x : Present) (k : Kind) → Loose (IsSome x) (zero_of k)
zero_loose x NoValue = tt
zero_loose x (Number W1) = (Number W1, (refl, omega arith))
zero_loose x (Number W8) = (Number W8, (refl, omega arith))
zero_loose x (Number W16) = (Number W16, (refl, omega arith))
zero_loose x (Number W32) = (Number W32, (refl, omega arith))
zero_loose x (Number W64) = (Number W64, (refl, omega arith))
zero_loose x Pointer = (Pointer, tt)

-- an operand outside of a call is a value of some kind, whatever it should be
value_loose : (m : Module) (x : Present) → Covers m x → (kind : Kind) (a : Operand) → Loose (IsSome x) (value_of m [] kind a)
value_loose m x c (Number w) (Int n) = (Number w, (refl, literal_fits w n))
value_loose m x c Pointer (Int n) = tt
value_loose m x c NoValue (Int n) = tt
value_loose m x c kind (Truth b) = (Number W1, truth_is x b)
value_loose m x c kind NullWord = (Pointer, tt)
value_loose m x c kind Undef = zero_loose x kind
value_loose m x c kind Poison = zero_loose x kind
value_loose m x c kind (LocalName name) = tt
value_loose m x c kind (Global name) = named_loose (global_number m name) (function_number m name) (global_below m x c name) (function_below m x c name)
  where
    named_loose : (g f : Option ℕ) → ((n : ℕ) → g ≡ Some n → n < x.objects) → ((n : ℕ) → f ≡ Some n → n < x.functions) → Loose (IsSome x) (named_value g f)
    named_loose (Some g) f p q = (Pointer, (p g refl, omega arith))
    named_loose None (Some f) p q = (Pointer, q f refl)
    named_loose None None p q = tt
value_loose m x c kind (Const p) =
    after_loose (IsSome x) (found_or Malformed (global_number m p.base)) (λ g. and_then (literal_indices p.indices) (λ is. and_then (bytes_to m p.source is) (λ by. Ok (At g (by % 2 ^ 64)))))
    (λ g e. after_loose (IsSome x) (literal_indices p.indices) (λ is. and_then (bytes_to m p.source is) (λ by. Ok (At g (by % 2 ^ 64))))
    (λ is f. after_loose (IsSome x) (bytes_to m p.source is) (λ by. Ok (At g (by % 2 ^ 64)))
    (λ by h. (Pointer, (found_below (global_number m p.base) e (global_below m x c p.base), mod-lt by (let l : 0 < 2 ^ 64 = omega arith in l))))))
  where
    found_below : {n : ℕ} (o : Option ℕ) → found_or Malformed o ≡ Ok n → ((k : ℕ) → o ≡ Some k → k < x.objects) → n < x.objects
    found_below {n} (Some k) e go = let r : k ≡ n = cc in let l = go k refl in omega arith
    found_below None e go = absurd (cc)

-- the cells of an initialiser that is an operand
operand_cells : (x : Present) (size : ℕ) (r : Answer Value) → Loose (IsSome x) r → Each (IsCell x) (cells_or_zeros size r)
operand_cells x size (Ok v) is = cells_are x is.0 v is.1
operand_cells x size (Err e) is = Each_replicate (IsCell x) size (Byte 0) (let l : 0 < 256 = omega arith in l)

-- bytes of a text are cells
text_cells : (x : Present) (bytes : List ℕ) → list_all (λ b. nat_lt b 256) bytes ≡ true → Each (IsCell x) (map Byte bytes)
text_cells x [] e = tt
text_cells x (b ∷ bs) e = let p = and_parts (nat_lt b 256) (list_all (λ c. nat_lt c 256) bs) e in (ltb-true b 256 p.0, text_cells x bs p.1)

-- a part holds cells
abbrev HoldsCells : Present → Part → Type 0
HoldsCells x p = Each (IsCell x) p.cells

-- parts end to end
end_cells : (x : Present) (ps : List Part) → Each (HoldsCells x) ps → Each (IsCell x) (end_to_end ps)
end_cells x [] all = tt
end_cells x (p ∷ ps) all = Each_both (IsCell x) p.cells (end_to_end ps) all.0 (end_cells x ps all.1)

-- parts with zeros between them
spread_cells : (x : Present) (at size : ℕ) (ps : List Part) → Each (HoldsCells x) ps → Each (IsCell x) (spread at size ps)
spread_cells x at size [] all = Each_replicate (IsCell x) (size - at) (Byte 0) (let l : 0 < 256 = omega arith in l)
spread_cells x at size (p ∷ ps) all =
    Each_both (IsCell x) (zeros (rounded at p.align - at) ++ p.cells) (spread (rounded at p.align + length p.cells) size ps)
    (Each_both (IsCell x) (zeros (rounded at p.align - at)) p.cells (Each_replicate (IsCell x) (rounded at p.align - at) (Byte 0) (let l : 0 < 256 = omega arith in l)) all.0)
    (spread_cells x (rounded at p.align + length p.cells) size ps all.1)

-- an element that a text could say
abbrev element_built : Elem-F Bool Bool → Bool
element_built e = type_built e.ty && e.init

-- an initialiser that a text could say, however deep
abbrev parts_built : Init → Bool
parts_built = fold-Init Bool Bool init_built_at element_built

-- one that a text could say
built_parts : (i : Init) → init_built i ≡ true → parts_built i ≡ true
unfolding init_built
built_parts i e = (and_parts _ _ e).0

module _ (m : Module) (x : Present) (c : Covers m x) where
  -- an initialiser holds cells of any type
  abbrev Holds : Init → Type 0
  Holds i = parts_built i ≡ true → (ty : Ty) → Each (IsCell x) (cells_of_init m i ty)

  -- the test of an element
  abbrev element_ok : Elem → Bool
  element_ok = fold-Elem Bool Bool init_built_at element_built

  -- an element does
  abbrev ElementHolds : Elem → Type 0
  ElementHolds e = element_ok e ≡ true → HoldsCells x (part_of m e)

  -- initialisers and elements within others
  abbrev WithinInit : Type 0
  WithinInit = Such the_family (claims Holds ElementHolds) member-Init

  abbrev WithinElem : Type 0
  WithinElem = Such the_family (claims Holds ElementHolds) member-Elem

  -- one level
  at_init : (y : Init-F Init Elem) → (init_built_at (map-Init Init Elem Bool Bool parts_built element_ok y) ≡ true → (ty : Ty) → Each (IsCell x) (init_at m (map-Init Init Elem (Ty → List Cell) Part (cells_of_init m) (part_of m) y) ty)) → Holds (roll-Init y)
  at_init y go e ty =
      subst (λ (f : Ty → List Cell). Each (IsCell x) (f ty)) (sym (fold-roll-Init (Ty → List Cell) Part (init_at m) (element_at m) y)) (go (sym (fold-roll-Init Bool Bool init_built_at element_built y) ∙ e) ty)

  -- elements
  elements_hold : (es : List WithinElem) → list_all (λ b. b) (map element_ok (map (λ (e : WithinElem). e.0) es)) ≡ true → Each (HoldsCells x) (map (part_of m) (map (λ (e : WithinElem). e.0) es))
  elements_hold [] t = tt
  elements_hold (e ∷ es) t =
      let p = and_parts (element_ok e.0) (list_all (λ b. b) (map element_ok (map (λ (f : WithinElem). f.0) es))) t in
      (e.1 p.0, elements_hold es p.1)

  -- a level of initialisers
  of_init : (y : Init-F WithinInit WithinElem) → Holds (roll-Init (map-Init WithinInit WithinElem Init Elem (λ e. e.0) (λ e. e.0) y))
  of_init (Init-F.Value v) = at_init (Init-F.Value v) (λ e ty. operand_cells x (shape_of m.types ty).size (value_of m [] (kind_of ty) v) (value_loose m x c (kind_of ty) v))
  of_init Init-F.Zero = at_init Init-F.Zero (λ e ty. Each_replicate (IsCell x) (shape_of m.types ty).size (Byte 0) (let l : 0 < 256 = omega arith in l))
  of_init (Init-F.Text bytes) = at_init (Init-F.Text bytes) (λ e ty. text_cells x bytes (and_parts _ _ e).1)
  of_init (Init-F.Array es) = at_init (Init-F.Array (map (λ (e : WithinElem). e.0) es)) (λ e ty. end_cells x (map (part_of m) (map (λ (k : WithinElem). k.0) es)) (elements_hold es (and_parts _ _ e).1))
  of_init (Init-F.Struct es) = at_init (Init-F.Struct (map (λ (e : WithinElem). e.0) es)) (λ e ty. spread_cells x 0 (shape_of m.types ty).size (map (part_of m) (map (λ (k : WithinElem). k.0) es)) (elements_hold es (and_parts _ _ e).1))
  of_init (Init-F.Packed es) = at_init (Init-F.Packed (map (λ (e : WithinElem). e.0) es)) (λ e ty. end_cells x (map (part_of m) (map (λ (k : WithinElem). k.0) es)) (elements_hold es (and_parts _ _ e).1))

  -- a level of elements
  of_elem : (y : Elem-F WithinInit WithinElem) → ElementHolds (roll-Elem (map-Elem WithinInit WithinElem Init Elem (λ e. e.0) (λ e. e.0) y))
  of_elem y e = subst (HoldsCells x) (sym (fold-roll-Elem (Ty → List Cell) Part (init_at m) (element_at m) (map-Elem WithinInit WithinElem Init Elem (λ k. k.0) (λ k. k.0) y)))
      (y.init.1 (and_parts (type_built y.ty) (parts_built y.init.0) (sym (fold-roll-Elem Bool Bool init_built_at element_built (map-Elem WithinInit WithinElem Init Elem (λ k. k.0) (λ k. k.0) y)) ∙ e)).1 y.ty)

  -- any initialiser
  init_holds : (i : Init) → Holds i
  init_holds = ind-Init Holds ElementHolds (λ z y e. subst (λ k. Holds (roll-Init k)) e (of_init y)) (λ z y e. subst (λ k. ElementHolds (roll-Elem k)) e (of_elem y))

  -- globals
  globals_hold : (gs : List GlobalVar) → list_all (is_sized m) gs ≡ true → list_all (λ (g : GlobalVar). init_built g.init) gs ≡ true → Each (IsObject x) (map (global_object m) gs)
  globals_hold [] so e = tt
  globals_hold (g ∷ gs) so e =
      let p = and_parts (init_built g.init) (list_all (λ (h : GlobalVar). init_built h.init) gs) e in (
        record { count = eqb-true (length (cells_of_init m g.init g.ty)) (shape_of m.types g.ty).size (and_parts (is_sized m g) (list_all (is_sized m) gs) so).0; cells = init_holds g.init (built_parts g.init p.0) g.ty },
        globals_hold gs (and_parts (is_sized m g) (list_all (is_sized m) gs) so).1 p.1,
      )

-- globals stand in the objects that are theirs
globals_first : (m : Module) (gs : List GlobalVar) → AreGlobals m gs (map (global_object m) gs)
globals_first m [] = tt
globals_first m (g ∷ gs) = ((refl, refl, refl), globals_first m gs)

-- without parameters nothing is bound
none_bound : (x : Present) (env : Env) (ps : List Param) (vs : List Value) → map (λ (p : Param). kind_of p.ty) ps ≡ [] → Each (IsLocal x env) (bound ps vs)
none_bound x env [] [] e = tt
none_bound x env [] (v ∷ vs) e = tt
none_bound x env (p ∷ ps) vs e = absurd (cc)

-- the first call, of a `main` that fits
start_gives : (m : Module) → IsTyped m → (number : ℕ) (f : Function) → slice_get m.functions number ≡ Some f → is_main f ≡ true → IsWellTyped m (start_in m number (Some f))
start_gives m typed number f at main =
    let x = present m (first_objects m) in
    let env = env_of f in
    let many : length (first_objects m) ≡ length m.globals = length_map (global_object m) m.globals in
    let c : Covers m x = record { globals = omega arith; functions = refl } in
    let kinds = map (λ (p : Param). kind_of p.ty) f.params in
    let parts = and_parts (same_kind (kind_of f.ret) (Number W32)) (same_kinds kinds [] || same_kinds kinds (Number W32 ∷ Pointer ∷ [])) main in
    let parts_of_main = function_at m number f typed.functions at in
    let two : AreOfKinds x (Number W32 ∷ Pointer ∷ []) first_arguments = ((refl, omega arith), (tt, tt)) in
    let locals : Each (IsLocal x env) (bound f.params first_arguments) = ⊎_elim
    (λ e. none_bound x env f.params first_arguments (kinds_are kinds [] e))
    (λ e. bound_are x env f.params first_arguments parts_of_main.params (subst (λ ks. AreOfKinds x ks first_arguments) (sym (kinds_are kinds (Number W32 ∷ Pointer ∷ []) e)) two))
    (or_cases (same_kinds kinds []) (same_kinds kinds (Number W32 ∷ Pointer ∷ [])) parts.1) in
    let s = first_stands m x number f first_arguments None at parts_of_main locals in (
      record {
        calls = (s.0, subst (λ g. kind_of g.ret ≡ Number W32) (sym s.1) (kind_is (kind_of f.ret) (Number W32) parts.0));
        cells = globals_hold m x c m.globals typed.sizes typed.inits;
        globals = globals_first m m.globals;
      },
      λ e. absurd (cc),
    )

-- the first function of a name
has_found : (m : Module) (o : Option Function) → first_where (λ (f : Function). same_name f.name (codes "main")) m.functions ≡ o → has_main o ≡ true → (f : Function) × (first_where (λ (g : Function). same_name g.name (codes "main")) m.functions ≡ Some f) × (is_main f ≡ true)
has_found m (Some f) e main = (f, e, main)
has_found m None e main = not_true main

-- before the first step
pub start_is : (m : Module) → IsTyped m → IsWellTyped m (source_start m)
unfolding source_start
start_is m typed =
    let test : Function → Bool = λ (f : Function). same_name f.name (codes "main") in
    let f = has_found m (first_where test m.functions) refl typed.main in
    let found = found_any test m.functions (first_passes test m.functions f.0 f.1) in
    let same : found.item ≡ f.0 = some_is found.item f.0 (sym found.first ∙ f.1) in
    subst (λ o. IsWellTyped m (start_at m o)) (sym found.numbered)
    (subst (λ o. IsWellTyped m (start_in m found.number o)) (sym found.at_number)
    (start_gives m typed found.number found.item found.at_number (subst (λ g. is_main g ≡ true) (sym same) f.2)))
