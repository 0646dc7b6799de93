-- The objects with which a run begins are told as they are, where a module is valid.
use Rattle.std.proofs.Common.{◌≡◌, ℕ, ◌+◌, Bool, true, false, List, [], ◌∷◌, ◌++◌, length, map, None, refl, ap, sym, ◌∙◌, subst}
use Rattle.std.specs.Prelude.{◌&&◌, not}
use Rattle.std.specs.List.{list_all, flat_map, enumerate_from}
use Rattle.std.proofs.lemmas.Bool.{and_parts, eqb-true}
use Rattle.ir_core.specs.declared.limit.Spot.{Spot}
use Rattle.ir_core.specs.declared.ty.Ty.{Ty, out-Ty}
use Rattle.ir_core.specs.declared.ty.Ty.TheOpen.{Ty-F}
use Rattle.ir_core.specs.declared.operand.Operand.{Operand}
use Rattle.ir_core.specs.declared.operand.Operand.TheVariants.{Undef, Poison}
use Rattle.ir_core.specs.declared.init.Init.{Init, ind-Init, roll-Init}
use Rattle.ir_core.specs.declared.init.Init.TheVariants.{Value, Zero, Text, Array, Struct, Packed, rolls-Value, rolls-Zero, rolls-Text, rolls-Array, rolls-Struct, rolls-Packed}
use Rattle.ir_core.specs.declared.init.Init.TheOpen.{Init-F, Elem-F}
use Rattle.ir_core.specs.declared.init.Init.TheBlock.{the_family, member-Init, member-Elem}
use Rattle.ir_core.specs.declared.init.Init.TheFolds.{claims, map-Init, map-Elem}
use Rattle.ir_core.specs.declared.init.Elem.{Elem, roll-Elem}
use denote.Hole.Holds.{Such}
use Rattle.ir_core.specs.declared.module.Extern.{Extern}
use Rattle.ir_core.specs.declared.module.GlobalVar.{GlobalVar}
use Rattle.ir_core.specs.declared.module.Module.{Module}
use Rattle.ir_core.specs.declared.memory.Cell.{Cell}
use Rattle.ir_core.specs.Kinds.{kind_of}
use Rattle.ir_core.specs.Shapes.{shape_of}
use Rattle.ir_core.specs.Sizes.{align_bytes}
use Rattle.ir_core.specs.Globals.{Part, zeros, end_to_end, spread, cells_or_zeros, part_of, cells_of_init, global_object, first_objects}
use Rattle.ir_core.specs.Mentions.{Mention, of_operand, of_init, of_global}
use Rattle.ir_core.specs.Valid.{Fitted, same_ty, array_fits, fields_fit, struct_fits, opened, value_fits, init_fits, fitted, unless, declaration_fits, faults_in_function}
use Rattle.ir_core.specs.Refusals.{IsValid}
use Rattle.ir_core.proofs.Inits.{init-value, init-zero, init-text, init-array, init-struct, init-packed, part-element}
use Rattle.ir_core.proofs.InitRules.{of_element, mentions-value, mentions-array, mentions-struct, mentions-packed, fits-value, fits-array, fits-struct, fits-packed}
use Rattle.ir_memory.specs.Ranges.{whole}
use Rattle.ir_context.specs.Registers.{StandFor}
use Rattle.ir_context.specs.declared.origin.Origin.{Origin}
use Rattle.ir_context.specs.declared.origin.Origin.TheVariants.{Known, Register, Unset, Malformed}
use Rattle.ir_context.specs.Extents.{extent_of}
use Rattle.ir_context.specs.Origins.{origin_of}
use Rattle.ir_context.specs.Reads.{origin_value, IsPlaced}
use Rattle.ir_globals.specs.Told.{origin_cells, told_cells, told_part, told_object, told_objects}
use Rattle.ir_globals.proofs.ToldInits.{told-value, told-zero, told-text, told-array, told-struct, told-packed}
use Rattle.ir_sound.specs.Typed.{is_sized}
use Rattle.ir_sound.specs.WellTyped.{Each}
use Rattle.ir_sound.proofs.NoFaults.{both_empty, unless_passes, unrefused}
use Rattle.ir_sound.proofs.RowLaws.{Each_parts}
use Rattle.ir_sound.proofs.SameLaws.{not_true}
use Rattle.ir_sound.proofs.ValidTyped.{valid_typed}
use Rattle.ir_context.specs.Small.{IsSmall, FieldsAreSmall, IsSmallMention}
use Rattle.ir_context.proofs.PathLaws.{size_is}
use Rattle.ir_context.proofs.OperandLaws.{is_placed}
use Rattle.ir_context.proofs.ShapeLaws.{tells}
use Rattle.ir_globals.proofs.MentionLaws.{all_small}
use Rattle.ir_globals.proofs.SmallLaws.{valid_small}
use Rattle.ir_context.proofs.ValueLaws.{value_read}

-- cells of an origin are those of the value that comes from there, without registers
origin_answer : (size : ℕ) (o : Origin) → origin_cells size o ≡ cells_or_zeros size (origin_value [] o)
origin_answer size (Known v) = refl
origin_answer size (Register k) = refl
origin_answer size Unset = refl
origin_answer size Malformed = refl

-- an element fits its own type
abbrev Fits : Module → Elem → Type 0
Fits m e = init_fits m e.init e.ty ≡ true

-- elements of an array do
array_each : (m : Module) (of : Ty) (es : List Elem) → list_all (λ (e : Fitted). same_ty e.ty of && e.fits) (map (fitted m) es) ≡ true → Each (Fits m) es
array_each m of [] fits = tt
array_each m of (e ∷ es) fits =
    let p = and_parts (same_ty e.ty of && init_fits m e.init e.ty) (list_all (λ (f : Fitted). same_ty f.ty of && f.fits) (map (fitted m) es)) fits in
    ((and_parts (same_ty e.ty of) (init_fits m e.init e.ty) p.0).1, array_each m of es p.1)

array_fit : (m : Module) (es : List Elem) (z : Ty-F Ty) → array_fits (map (fitted m) es) z ≡ true → Each (Fits m) es
array_fit m es (Ty-F.Array n of) fits = array_each m of es (and_parts _ (list_all (λ (e : Fitted). same_ty e.ty of && e.fits) (map (fitted m) es)) fits).1
array_fit m es z fits = not_true fits

-- so do fields
fields_each : (m : Module) (es : List Elem) (fields : List Ty) → fields_fit (map (fitted m) es) fields ≡ true → Each (Fits m) es
fields_each m [] fields fits = tt
fields_each m (e ∷ es) [] fits = not_true fits
fields_each m (e ∷ es) (t ∷ ts) fits =
    let p = and_parts (same_ty e.ty t && init_fits m e.init e.ty) (fields_fit (map (fitted m) es) ts) fits in
    ((and_parts (same_ty e.ty t) (init_fits m e.init e.ty) p.0).1, fields_each m es ts p.1)

struct_fit : (m : Module) (packed : Bool) (es : List Elem) (z : Ty-F Ty) → struct_fits packed (map (fitted m) es) z ≡ true → Each (Fits m) es
struct_fit m packed es (Ty-F.Struct fields) fits = fields_each m es fields (and_parts (not packed) (fields_fit (map (fitted m) es) fields) fits).1
struct_fit m packed es (Ty-F.Packed fields) fits = fields_each m es fields (and_parts packed (fields_fit (map (fitted m) es) fields) fits).1
struct_fit m packed es z fits = not_true fits

module _ (m : Module) (all : FieldsAreSmall m.types m.types) where
  -- mentions of small types
  abbrev AreSmallMentions : List Mention → Type 0
  AreSmallMentions = Each (IsSmallMention m.types)

  -- a value that fits a type is placed
  value_placed : (ty : Ty) (v : Operand) → AreSmallMentions (of_operand v) → value_fits m ty v ≡ true → IsPlaced m v
  value_placed ty Undef small fits = tt
  value_placed ty Poison small fits = tt
  value_placed ty v small fits = is_placed m (λ name. None) (kind_of ty) v all (all_small m.types (of_operand v) small) fits

  -- an initialiser is told as it is, as one of a type that it fits
  abbrev IsTold : Init → Type 0
  IsTold i = (ty : Ty) → IsSmall m.types ty → AreSmallMentions (of_init i) → init_fits m i ty ≡ true → told_cells m i ty ≡ cells_of_init m i ty

  -- so is an element
  abbrev IsToldPart : Elem → Type 0
  IsToldPart e = AreSmallMentions (of_element e) → Fits m e → told_part m e ≡ part_of m e

  -- initialisers and elements within others
  abbrev WithinInit : Type 0
  WithinInit = Such the_family (claims IsTold IsToldPart) member-Init

  abbrev WithinElem : Type 0
  WithinElem = Such the_family (claims IsTold IsToldPart) member-Elem

  -- elements without their proofs
  abbrev elements : List WithinElem → List Elem
  elements es = map (λ (e : WithinElem). e.0) es

  -- a value
  value_told : (v : Operand) → IsTold (Value v)
  value_told v ty small mentions fits =
      let size = (shape_of m.types ty).size in
      let kind = kind_of ty in
      let o = origin_of m [] kind v in
      let placed = value_placed ty v (subst AreSmallMentions (mentions-value v) mentions) (sym (fits-value m v ty) ∙ fits) in
      let stand : StandFor [] [] [] = λ name. refl in
      told-value m v ty ∙ ap (λ n. origin_cells n o) (size_is m.types ty small) ∙ origin_answer size o
      ∙ ap (cells_or_zeros size) (sym (value_read m [] [] [] stand kind v placed)) ∙ sym (init-value m v ty)

  -- zeros
  zero_told : IsTold Zero
  zero_told ty small mentions fits = told-zero m ty ∙ ap zeros (size_is m.types ty small) ∙ sym (init-zero m ty)

  -- a text
  text_told : (bytes : List ℕ) → IsTold (Text bytes)
  text_told bytes ty small mentions fits = told-text m bytes ty ∙ sym (init-text m bytes ty)

  -- elements
  parts_told : (es : List WithinElem) → AreSmallMentions (flat_map of_element (elements es)) → Each (Fits m) (elements es) → map (told_part m) (elements es) ≡ map (part_of m) (elements es)
  parts_told [] small fits = refl
  parts_told (e ∷ es) small fits =
      let s = Each_parts (IsSmallMention m.types) (of_element e.0) (flat_map of_element (elements es)) small in
      ap (λ p. p ∷ map (told_part m) (elements es)) (e.1 s.0 fits.0) ∙ ap (λ ps. part_of m e.0 ∷ ps) (parts_told es s.1 fits.1)

  -- an array
  array_told : (es : List WithinElem) → IsTold (Array (elements es))
  array_told es ty small mentions fits =
      let parts = parts_told es (subst AreSmallMentions (mentions-array (elements es)) mentions) (array_fit m (elements es) (out-Ty ty) (sym (fits-array m (elements es) ty) ∙ fits)) in
      told-array m (elements es) ty ∙ ap end_to_end parts ∙ sym (init-array m (elements es) ty)

  -- a struct
  struct_told : (es : List WithinElem) → IsTold (Struct (elements es))
  struct_told es ty small mentions fits =
      let parts = parts_told es (subst AreSmallMentions (mentions-struct (elements es)) mentions) (struct_fit m false (elements es) (opened m.types (out-Ty ty)) (sym (fits-struct m (elements es) ty) ∙ fits)) in
      told-struct m (elements es) ty ∙ ap (λ n. spread 0 n (map (told_part m) (elements es))) (size_is m.types ty small) ∙ ap (spread 0 (shape_of m.types ty).size) parts ∙ sym (init-struct m (elements es) ty)

  -- a packed struct
  packed_told : (es : List WithinElem) → IsTold (Packed (elements es))
  packed_told es ty small mentions fits =
      let parts = parts_told es (subst AreSmallMentions (mentions-packed (elements es)) mentions) (struct_fit m true (elements es) (opened m.types (out-Ty ty)) (sym (fits-packed m (elements es) ty) ∙ fits)) in
      told-packed m (elements es) ty ∙ ap end_to_end parts ∙ sym (init-packed m (elements es) ty)

  -- one level of initialisers
  of_level : (y : Init-F WithinInit WithinElem) → IsTold (roll-Init (map-Init WithinInit WithinElem Init Elem (λ e. e.0) (λ e. e.0) y))
  of_level (Init-F.Value v) = subst IsTold (sym (rolls-Value v)) (value_told v)
  of_level Init-F.Zero = subst IsTold (sym rolls-Zero) zero_told
  of_level (Init-F.Text bytes) = subst IsTold (sym (rolls-Text bytes)) (text_told bytes)
  of_level (Init-F.Array es) = subst IsTold (sym (rolls-Array (elements es))) (array_told es)
  of_level (Init-F.Struct es) = subst IsTold (sym (rolls-Struct (elements es))) (struct_told es)
  of_level (Init-F.Packed es) = subst IsTold (sym (rolls-Packed (elements es))) (packed_told es)

  -- one of elements
  of_part : (y : Elem-F WithinInit WithinElem) → IsToldPart (roll-Elem (map-Elem WithinInit WithinElem Init Elem (λ e. e.0) (λ e. e.0) y))
  of_part y mentions fits =
      let align : align_bytes (extent_of m.types y.ty).align ≡ (shape_of m.types y.ty).align = (tells m.types y.ty).1 in
      let part : ℕ → List Cell → Part = λ a cells. record { align = a; cells = cells } in
      ap (λ a. part a (told_cells m y.init.0 y.ty)) align ∙ ap (part (shape_of m.types y.ty).align) (y.init.1 y.ty mentions.0 mentions.1 fits)
      ∙ sym (part-element m y.ty y.init.0)

  -- any initialiser
  init_told : (i : Init) → IsTold i
  init_told = ind-Init IsTold IsToldPart (λ z y e. subst (λ k. IsTold (roll-Init k)) e (of_level y)) (λ z y e. subst (λ k. IsToldPart (roll-Elem k)) e (of_part y))

  -- the object of a global
  object_told : (g : GlobalVar) → AreSmallMentions (of_global g) → init_fits m g.init g.ty ≡ true → is_sized m g ≡ true → told_object m g ≡ global_object m g
  object_told g small fits sized =
      let cells = init_told g.init g.ty small.0 small.1 fits in
      let size = eqb-true (length (cells_of_init m g.init g.ty)) (shape_of m.types g.ty).size sized in
      ap (whole g.constant) cells ∙ ap (λ n. record { live = true; constant = g.constant; size = n; cells = cells_of_init m g.init g.ty }) size

  -- of all globals
  objects_told : (gs : List GlobalVar) → Each (λ (g : GlobalVar). AreSmallMentions (of_global g)) gs → Each (λ (g : GlobalVar). init_fits m g.init g.ty ≡ true) gs → list_all (is_sized m) gs ≡ true → map (told_object m) gs ≡ map (global_object m) gs
  objects_told [] small fits sized = refl
  objects_told (g ∷ gs) small fits sized =
      let s = and_parts (is_sized m g) (list_all (is_sized m) gs) sized in
      ap (λ x. x ∷ map (told_object m) gs) (object_told g small.0 fits.0 s.0) ∙ ap (λ xs. global_object m g ∷ xs) (objects_told gs small.1 fits.1 s.1)

-- initialisers fit the types of their globals
globals_fit : (m : Module) (k : ℕ) (gs : List GlobalVar) → flat_map (λ (p : ℕ × GlobalVar). unless (init_fits m p.1.init p.1.ty) (Spot.Global p.0)) (enumerate_from k gs) ≡ [] → Each (λ (g : GlobalVar). init_fits m g.init g.ty ≡ true) gs
globals_fit m k [] none = tt
globals_fit m k (g ∷ gs) none =
    let p = both_empty (unless (init_fits m g.init g.ty) (Spot.Global k)) (flat_map (λ (q : ℕ × GlobalVar). unless (init_fits m q.1.init q.1.ty) (Spot.Global q.0)) (enumerate_from (k + 1) gs)) none in
    (unless_passes (init_fits m g.init g.ty) (Spot.Global k) p.0, globals_fit m (k + 1) gs p.1)

-- a valid module begins as it is told
pub first_told : (m : Module) → IsValid m → told_objects m ≡ first_objects m
first_told m valid =
    let u = unrefused m valid.accepted in
    let small = valid_small m valid in
    let faults = both_empty (flat_map (λ (p : ℕ × GlobalVar). unless (init_fits m p.1.init p.1.ty) (Spot.Global p.0)) (enumerate_from 0 m.globals) ++ flat_map (λ (p : ℕ × Extern). unless (declaration_fits p.1) (Spot.Extern p.0)) (enumerate_from 0 m.externs)) (flat_map (faults_in_function m) (enumerate_from 0 m.functions)) u.typed in
    let globals = both_empty (flat_map (λ (p : ℕ × GlobalVar). unless (init_fits m p.1.init p.1.ty) (Spot.Global p.0)) (enumerate_from 0 m.globals)) (flat_map (λ (p : ℕ × Extern). unless (declaration_fits p.1) (Spot.Extern p.0)) (enumerate_from 0 m.externs)) faults.0 in
    objects_told m small.fields m.globals small.globals (globals_fit m 0 m.globals globals.0) (valid_typed m valid).sizes
