-- Objects with which a run begins hold numbers and pieces of addresses: of globals, and of functions to which a pointer may arise.
use Rattle.std.proofs.Common.{◌≡◌, ℕ, zero, suc, ◌+◌, ◌-◌, ◌%◌, ◌^◌, ◌<◌, Bool, true, false, List, [], ◌∷◌, ◌++◌, length, map, Option, Some, None, Ok, Err, refl, ap, sym, subst, arith}
use Rattle.std.specs.Prelude.{slice_get}
use Rattle.std.specs.List.{flat_map, list_all}
use Rattle.std.proofs.lemmas.Bool.{and_parts, eqb-true}
use Rattle.std.proofs.Math.Nat.{mod-lt}
use Rattle.ir_core.specs.declared.ty.Ty.{Ty}
use Rattle.ir_core.specs.declared.operand.Operand.{Operand}
use Rattle.ir_core.specs.declared.operand.Operand.TheVariants.{Int, Bool as Truth, Null as NullWord, Undef, Poison, Local as LocalName, Global, Const}
use Rattle.ir_core.specs.declared.init.Init.{Init, ind-Init, roll-Init, fold-roll-Init}
use Rattle.ir_core.specs.declared.init.Elem.{Elem, fold-Elem, roll-Elem, fold-roll-Elem}
use Rattle.ir_core.specs.declared.init.Init.TheOpen.{Init-F, Elem-F}
use Rattle.ir_core.specs.declared.init.Init.TheBlock.{the_family, member-Init, member-Elem}
use Rattle.ir_core.specs.declared.init.Init.TheFolds.{claims, map-Init, map-Elem}
use denote.Hole.Holds.{Such}
use Rattle.ir_core.specs.declared.module.GlobalVar.{GlobalVar}
use Rattle.ir_core.specs.declared.module.Module.{Module}
use Rattle.ir_core.specs.declared.memory.Value.{Value}
use Rattle.ir_core.specs.declared.memory.Value.TheVariants.{Num, Null, At, Fun}
use Rattle.ir_core.specs.declared.memory.Cell.{Cell}
use Rattle.ir_core.specs.declared.memory.Cell.TheVariants.{Byte}
use Rattle.ir_core.specs.declared.memory.Object0.{Object0}
use Rattle.ir_core.specs.declared.kind.Kind.{Kind}
use Rattle.ir_core.specs.declared.kind.Kind.TheVariants.{NoValue, Number, Pointer}
use Rattle.ir_core.specs.Globals.{Part, zeros, end_to_end, spread, cells_or_zeros, init_at, element_at, cells_of_init, part_of, global_object, first_objects}
use Rattle.ir_core.specs.Kinds.{kind_of, zero_of}
use Rattle.ir_core.specs.Memory.{cells_of}
use Rattle.ir_core.specs.Mentions.{Mention, OfType, of_operand, of_init_at, of_init, of_global, of_extern, of_function, outside_functions, mentions}
use Rattle.ir_core.specs.Operands.{value_of, named_value, global_number, function_number, literal_indices, bytes_to}
use Rattle.rd_num.specs.Number.{le_bytes}
use Rattle.ir_core.specs.Shapes.{bytes_of, shape_of, rounded}
use Rattle.ir_core.specs.Stops.{Malformed, Answer, and_then, found_or}
use Rattle.ir_core.specs.declared.ty.NamedTy.{NamedTy}
use Rattle.ir_sound.specs.Typed.{IsTyped, is_sized}
use Rattle.ir_sound.specs.WellTyped.{Each}
use Rattle.ir_sound.proofs.RowLaws.{Each_at, Each_both, Each_parts, Each_replicate, Each_rows, length_map, number_below}
use Rattle.low_core.specs.Bridge.{IsAddress}
use Rattle.flat_memory.specs.Accesses.{IsSet, AreFirst}
use Rattle.isel_rows.specs.Selected.{is_taken}
use Rattle.isel.proofs.Mentioned.{IsFine}

-- an answer that has a property where it is a value
abbrev Loose : {A : Type 0} → (A → Type 0) → Answer A → Type 0
Loose P (Ok a) = P a
Loose P (Err e) = Unit {0}

after_loose : {A B : Type 0} (Q : B → Type 0) (a : Answer A) (rest : A → Answer B) → ((x : A) → a ≡ Ok x → Loose Q (rest x)) → Loose Q (and_then a rest)
after_loose Q (Ok x) rest go = go x refl
after_loose Q (Err e) rest go = tt

module _ (m : Module) where
  -- how many objects there are at first, and to which functions pointers may arise
  abbrev count : ℕ
  count = length (first_objects m)

  abbrev taken : List Bool
  taken = map (is_taken m) m.functions

  abbrev Set : Cell → Type 0
  Set = IsSet count taken

  -- a number, a null, or an address
  abbrev IsPlain : Value → Type 0
  IsPlain (Num w n) = Unit {0}
  IsPlain Null = Unit {0}
  IsPlain (At o d) = IsAddress count taken (At o d)
  IsPlain (Fun f) = IsAddress count taken (Fun f)

  global_inside : (name : List ℕ) (n : ℕ) → global_number m name ≡ Some n → n < count
  global_inside name n e = let h = number_below _ m.globals n e in let l = length_map (global_object m) m.globals in omega (arith, h, l)

  zero_plain : (k : Kind) → Loose IsPlain (zero_of k)
  zero_plain NoValue = tt
  zero_plain (Number w) = tt
  zero_plain Pointer = tt

  value_plain : (kind : Kind) (a : Operand) → Each (IsFine m) (of_operand a) → Loose IsPlain (value_of m [] kind a)
  value_plain (Number w) (Int n) fine = tt
  value_plain Pointer (Int n) fine = tt
  value_plain NoValue (Int n) fine = tt
  value_plain kind (Truth true) fine = tt
  value_plain kind (Truth false) fine = tt
  value_plain kind NullWord fine = tt
  value_plain kind Undef fine = zero_plain kind
  value_plain kind Poison fine = zero_plain kind
  value_plain kind (LocalName name) fine = tt
  value_plain kind (Global name) fine = named (global_number m name) (function_number m name) (global_inside name) fine.0
    where
      named : (g f : Option ℕ) → ((n : ℕ) → g ≡ Some n → n < count) → ((n : ℕ) → f ≡ Some n → slice_get taken n ≡ Some true) → Loose IsPlain (named_value g f)
      named (Some g) f p q = (p g refl, omega arith)
      named None (Some f) p q = q f refl
      named None None p q = tt
  value_plain kind (Const p) fine =
      after_loose IsPlain (found_or Malformed (global_number m p.base)) (λ g. and_then (literal_indices p.indices) (λ is. and_then (bytes_to m p.source is) (λ by. Ok (At g (by % 2 ^ 64)))))
      (λ g e. after_loose IsPlain (literal_indices p.indices) (λ is. and_then (bytes_to m p.source is) (λ by. Ok (At g (by % 2 ^ 64))))
      (λ is r. after_loose IsPlain (bytes_to m p.source is) (λ by. Ok (At g (by % 2 ^ 64)))
      (λ by h. (found (global_number m p.base) e (global_inside p.base), mod-lt by (let l : 0 < 2 ^ 64 = omega arith in l)))))
    where
      found : {n : ℕ} (o : Option ℕ) → found_or Malformed o ≡ Ok n → ((k : ℕ) → o ≡ Some k → k < count) → n < count
      found {n} (Some k) e go = let r : k ≡ n = cc in let l = go k refl in omega (arith, r, l)
      found None e go = absurd cc

  -- the cells of such a value
  bytes_set : (bs : List ℕ) → Each Set (map Byte bs)
  bytes_set [] = tt
  bytes_set (b ∷ bs) = (tt, bytes_set bs)

  cells_set : (v : Value) → IsPlain v → Each Set (cells_of v)
  cells_set (Num w n) p = bytes_set (le_bytes (bytes_of w) n)
  cells_set Null p = bytes_set (le_bytes 8 0)
  cells_set (At o d) p = (p, (p, (p, (p, (p, (p, (p, (p, tt))))))))
  cells_set (Fun f) p = (p, (p, (p, (p, (p, (p, (p, (p, tt))))))))

  zeros_set : (n : ℕ) → Each Set (zeros n)
  zeros_set n = Each_replicate Set n (Byte 0) tt

  operand_set : (size : ℕ) (r : Answer Value) → Loose IsPlain r → Each Set (cells_or_zeros size r)
  operand_set size (Ok v) p = cells_set v p
  operand_set size (Err e) p = zeros_set size

  -- parts, and zeros between them
  abbrev HoldsSet : Part → Type 0
  HoldsSet p = Each Set p.cells

  end_set : (ps : List Part) → Each HoldsSet ps → Each Set (end_to_end ps)
  end_set [] all = tt
  end_set (p ∷ ps) all = Each_both Set p.cells (end_to_end ps) all.0 (end_set ps all.1)

  spread_set : (at size : ℕ) (ps : List Part) → Each HoldsSet ps → Each Set (spread at size ps)
  spread_set at size [] all = zeros_set (size - at)
  spread_set at size (p ∷ ps) all =
      Each_both Set (zeros (rounded at p.align - at) ++ p.cells) (spread (rounded at p.align + length p.cells) size ps)
      (Each_both Set (zeros (rounded at p.align - at)) p.cells (zeros_set (rounded at p.align - at)) all.0)
      (spread_set (rounded at p.align + length p.cells) size ps all.1)

  -- what an element mentions
  abbrev of_element_at : Elem-F (List Mention) (List Mention) → List Mention
  of_element_at e = OfType e.ty ∷ e.init

  abbrev of_element : Elem → List Mention
  of_element = fold-Elem (List Mention) (List Mention) of_init_at of_element_at

  -- an initialiser that mentions what is fine holds such cells, and so does an element
  abbrev Holds : Init → Type 0
  Holds i = Each (IsFine m) (of_init i) → (ty : Ty) → Each Set (cells_of_init m i ty)

  abbrev ElementHolds : Elem → Type 0
  ElementHolds e = Each (IsFine m) (of_element e) → HoldsSet (part_of m e)

  abbrev WithinInit : Type 0
  WithinInit = Such the_family (claims Holds ElementHolds) member-Init

  abbrev WithinElem : Type 0
  WithinElem = Such the_family (claims Holds ElementHolds) member-Elem

  at_init : (y : Init-F Init Elem) → (Each (IsFine m) (of_init_at (map-Init Init Elem (List Mention) (List Mention) of_init of_element y)) → (ty : Ty) → Each Set (init_at m (map-Init Init Elem (Ty → List Cell) Part (cells_of_init m) (part_of m) y) ty)) → Holds (roll-Init y)
  at_init y go fine ty =
      subst (λ (f : Ty → List Cell). Each Set (f ty)) (sym (fold-roll-Init (Ty → List Cell) Part (init_at m) (element_at m) y))
      (go (subst (Each (IsFine m)) (fold-roll-Init (List Mention) (List Mention) of_init_at of_element_at y) fine) ty)

  elements_hold : (es : List WithinElem) → Each (IsFine m) (flat_map (λ ms. ms) (map of_element (map (λ (e : WithinElem). e.0) es))) → Each HoldsSet (map (part_of m) (map (λ (e : WithinElem). e.0) es))
  elements_hold [] fine = tt
  elements_hold (e ∷ es) fine =
      let parts = Each_parts (IsFine m) (of_element e.0) (flat_map (λ ms. ms) (map of_element (map (λ (k : WithinElem). k.0) es))) fine in
      (e.1 parts.0, elements_hold es parts.1)

  of_init_level : (y : Init-F WithinInit WithinElem) → Holds (roll-Init (map-Init WithinInit WithinElem Init Elem (λ e. e.0) (λ e. e.0) y))
  of_init_level (Init-F.Value v) = at_init (Init-F.Value v) (λ fine ty. operand_set (shape_of m.types ty).size (value_of m [] (kind_of ty) v) (value_plain (kind_of ty) v fine))
  of_init_level Init-F.Zero = at_init Init-F.Zero (λ fine ty. zeros_set (shape_of m.types ty).size)
  of_init_level (Init-F.Text bytes) = at_init (Init-F.Text bytes) (λ fine ty. bytes_set bytes)
  of_init_level (Init-F.Array es) = at_init (Init-F.Array (map (λ (e : WithinElem). e.0) es)) (λ fine ty. end_set (map (part_of m) (map (λ (k : WithinElem). k.0) es)) (elements_hold es fine))
  of_init_level (Init-F.Struct es) = at_init (Init-F.Struct (map (λ (e : WithinElem). e.0) es)) (λ fine ty. spread_set 0 (shape_of m.types ty).size (map (part_of m) (map (λ (k : WithinElem). k.0) es)) (elements_hold es fine))
  of_init_level (Init-F.Packed es) = at_init (Init-F.Packed (map (λ (e : WithinElem). e.0) es)) (λ fine ty. end_set (map (part_of m) (map (λ (k : WithinElem). k.0) es)) (elements_hold es fine))

  of_element_level : (y : Elem-F WithinInit WithinElem) → ElementHolds (roll-Elem (map-Elem WithinInit WithinElem Init Elem (λ e. e.0) (λ e. e.0) y))
  of_element_level y fine =
      subst HoldsSet (sym (fold-roll-Elem (Ty → List Cell) Part (init_at m) (element_at m) (map-Elem WithinInit WithinElem Init Elem (λ k. k.0) (λ k. k.0) y)))
      (y.init.1 (subst (Each (IsFine m)) (fold-roll-Elem (List Mention) (List Mention) of_init_at of_element_at (map-Elem WithinInit WithinElem Init Elem (λ k. k.0) (λ k. k.0) y)) fine).1 y.ty)

  init_holds : (i : Init) → Holds i
  init_holds = ind-Init Holds ElementHolds (λ z y e. subst (λ k. Holds (roll-Init k)) e (of_init_level y)) (λ z y e. subst (λ k. ElementHolds (roll-Elem k)) e (of_element_level y))

  -- so do all globals
  pub first_set : (gs : List GlobalVar) → Each (λ (g : GlobalVar). Each (IsFine m) (of_global g)) gs → Each (λ (o : Object0). Each Set o.cells) (map (global_object m) gs)
  first_set [] fine = tt
  first_set (g ∷ gs) fine = (init_holds g.init fine.0.1 g.ty, first_set gs fine.1)

module _ (m : Module) (typed : IsTyped m) (fine : Each (IsFine m) (mentions m)) where
  -- what globals mention
  globals_fine : Each (λ (g : GlobalVar). Each (IsFine m) (of_global g)) m.globals
  globals_fine =
      let outer = (Each_parts (IsFine m) (outside_functions m) (flat_map of_function m.functions) fine).0 in
      let behind = (Each_parts (IsFine m) (map (λ (t : NamedTy). OfType t.fields) m.types) (flat_map of_global m.globals ++ flat_map of_extern m.externs) outer).1 in
      Each_rows (IsFine m) of_global m.globals (Each_parts (IsFine m) (flat_map of_global m.globals) (flat_map of_extern m.externs) behind).0

  -- all are live
  all_live : (gs : List GlobalVar) (i : ℕ) (x : Object0) → slice_get (map (global_object m) gs) i ≡ Some x → x.live ≡ true
  all_live [] i x at = absurd cc
  all_live (g ∷ gs) zero x at = let same : global_object m g ≡ x = cc in ap (λ (o : Object0). o.live) (sym same)
  all_live (g ∷ gs) (suc i) x at = all_live gs i x at

  -- and full
  all_full : (gs : List GlobalVar) → list_all (is_sized m) gs ≡ true → (i : ℕ) (x : Object0) → slice_get (map (global_object m) gs) i ≡ Some x → length x.cells ≡ x.size
  all_full [] sized i x at = absurd cc
  all_full (g ∷ gs) sized zero x at =
      let same : global_object m g ≡ x = cc in
      subst (λ (o : Object0). length o.cells ≡ o.size) same (eqb-true (length (cells_of_init m g.init g.ty)) (shape_of m.types g.ty).size (and_parts (is_sized m g) (list_all (is_sized m) gs) sized).0)
  all_full (g ∷ gs) sized (suc i) x at = all_full gs (and_parts (is_sized m g) (list_all (is_sized m) gs) sized).1 i x at

  pub are_first : AreFirst (map (is_taken m) m.functions) (first_objects m)
  are_first = record {
    live = λ i x at. all_live m.globals i x at;
    full = λ i x at. all_full m.globals typed.sizes i x at;
    set = λ i k x c at cell. Each_at (IsSet (length (first_objects m)) (map (is_taken m) m.functions)) x.cells k c
        (Each_at (λ (o : Object0). Each (IsSet (length (first_objects m)) (map (is_taken m) m.functions)) o.cells) (first_objects m) i x (first_set m m.globals globals_fine) at) cell;
  }
