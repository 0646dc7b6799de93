-- What a module mentions, and what it mentions without its phis: the same, but for locals and labels.
use Rattle.std.proofs.Common.{◌≡◌, ℕ, ◌≤◌, Bool, true, false, List, [], ◌∷◌, ◌++◌, map, Some, None, refl, ap, sym, ◌∙◌, subst}
use Rattle.std.specs.Prelude.{◌&&◌, ◌||◌, not, slice_get, if◌then◌else◌}
use Rattle.std.specs.List.{All, list_any, flat_map}
use Rattle.ir_core.specs.declared.limit.TheConstants.{MAX_NESTING, MAX_SIZE}
use Rattle.ir_core.specs.declared.ty.Ty.{Ty}
use Rattle.ir_core.specs.declared.instruction.Case.{Case}
use Rattle.ir_core.specs.declared.instruction.Entry.{Entry}
use Rattle.ir_core.specs.declared.instruction.Inst.{Inst}
use Rattle.ir_core.specs.declared.instruction.Op.TheVariants.{Phi}
use Rattle.ir_core.specs.declared.instruction.Term.{Term}
use Rattle.ir_core.specs.declared.instruction.Term.TheVariants.{Ret, RetValue, Br, BrIf, Switch, Unreachable}
use Rattle.ir_core.specs.declared.module.Block.{Block}
use Rattle.ir_core.specs.declared.module.Param.{Param}
use Rattle.ir_core.specs.declared.module.Extern.{Extern}
use Rattle.ir_core.specs.declared.module.Function.{Function}
use Rattle.ir_core.specs.declared.module.Module.{Module}
use Rattle.ir_core.specs.Names.{same_name}
use Rattle.ir_core.specs.Counts.{depth_of, size_count}
use Rattle.ir_core.specs.Definitions.{global_mark, is_among}
use Rattle.ir_core.specs.Mentions.{Mention, OfType, OfLabel, OfLocal, of_operand, of_typed, of_op, of_cases, of_end, of_block, of_function, of_global, outside_functions, mentions, types_in, written_types}
use Rattle.ir_core.specs.Typing.{labels_of}
use Rattle.ir_core.specs.Valid.{extern_fits, type_faults}
use Rattle.ir_core.specs.Refusals.{IsValid, External, BadType, refusals, first_fault, without_main, is_of_symbol, wrong_declaration, wrong_use, wrong_definition, external}
use Rattle.ir_sound.specs.WellTyped.{Each}
use Rattle.ir_sound.proofs.NoFaults.{both_empty, each_empty, map_empty, unrefused}
use Rattle.ir_sound.proofs.RowLaws.{Each_both, Each_parts, Each_rows, Each_more, first_has}
use Rattle.ir_sound.proofs.SameLaws.{name_is, none_is, not_true, same_itself}
use Rattle.low_core.specs.Plain.{inst_of, block_of}
use Rattle.phi_lower.specs.Lowered.{PhiPart, aside, edge_label, phis_to, copies, case_to, way_to, first_on_way, with_ways, chunk_of_block}
use Rattle.phi_lower.proofs.Turns.{lowered, without_phis}
use Rattle.phi_lower.proofs.Finds.{or_left, or_right}
use Rattle.phi_lower.proofs.ShapeLimits.{all_of, limits_kept}
use Rattle.phi_lower.proofs.ShapeWalk.{Keeping, Putting, Taking, own_have, edge_have, chunks_have}

-- of each row each item
pub rows_each : {X Y : Type 0} (P : X → Type 0) (row : Y → List X) (ys : List Y) → Each (λ y. Each P (row y)) ys → Each P (flat_map row ys)
rows_each P row [] all = tt
rows_each P row (y ∷ ys) all = Each_both P (row y) (flat_map row ys) all.0 (rows_each P row ys all.1)

-- of each changed item
pub map_each : {A B : Type 0} (P : B → Type 0) (f : A → B) (xs : List A) → Each (λ x. P (f x)) xs → Each P (map f xs)
map_each P f [] all = tt
map_each P f (x ∷ xs) all = (all.0, map_each P f xs all.1)

-- a name among names has what they have
pub among_has : (P : List ℕ → Type 0) (names : List (List ℕ)) (t : List ℕ) → Each P names → is_among names t ≡ true → P t
among_has P [] t all e = not_true e
among_has P (n ∷ ns) t all e = by_test (same_name t n) refl e (among_has P ns t all.1)
  where
    by_test : (b : Bool) → same_name t n ≡ b → (b || is_among ns t) ≡ true → (is_among ns t ≡ true → P t) → P t
    by_test true same f go = subst P (sym (name_is t n same)) all.0
    by_test false same f go = go f

-- labels of an end are mentioned there
cases_mentioned : (Q : Mention → Type 0) (cases : List Case) → Each Q (of_cases cases) → Each (λ t. Q (OfLabel t)) (map (λ (c : Case). c.to) cases)
cases_mentioned Q [] all = tt
cases_mentioned Q (c ∷ cs) all =
    let p = Each_parts Q (of_typed c.ty c.value ++ OfLabel c.to ∷ []) (of_cases cs) all in
    ((Each_parts Q (of_typed c.ty c.value) (OfLabel c.to ∷ []) p.0).1.0, cases_mentioned Q cs p.1)

labels_mentioned : (Q : Mention → Type 0) (end : Term) → Each Q (of_end end) → Each (λ t. Q (OfLabel t)) (labels_of end)
labels_mentioned Q Ret all = tt
labels_mentioned Q (RetValue ty a) all = tt
labels_mentioned Q (Br to) all = (all.0, tt)
labels_mentioned Q (BrIf condition taken other) all = let p = (Each_parts Q (of_operand condition) (OfLabel taken ∷ OfLabel other ∷ []) all).1 in (p.0, (p.1.0, tt))
labels_mentioned Q (Switch ty a default cases) all = let p = (Each_parts Q (of_typed ty a) (OfLabel default ∷ of_cases cases) all).1 in (p.0, cases_mentioned Q cases p.1)
labels_mentioned Q Unreachable all = tt

-- a function whose mentions have Q, and without phis R; L and M are what more is known of instructions and of blocks
module _ (f : Function) (Q R : Mention → Type 0) (L : Inst → Type 0) (M : Block → Type 0) (more : (x : Mention) → Q x → R x)
    (aside_there : (into : List ℕ) (ty : Ty) (entries : List Entry) → L (record { result = Some into; op = Phi ty entries }) → R (OfLocal (aside into)))
    (edge_there : (b : Block) (to : List ℕ) (p : PhiPart) (others : List PhiPart) → M b → is_among (labels_of b.end) to ≡ true → phis_to f.blocks to ≡ p ∷ others → R (OfLabel (edge_label b.label to))) where
  abbrev InstMentions : Inst → Type 0
  InstMentions i = Each Q (of_op i.op) × L i

  abbrev InstSays : Inst → Type 0
  InstSays i = Each R (of_op i.op)

  keep : Keeping InstMentions InstSays
  keep i has = Each_more Q R (of_op i.op) more has.0

  put : Putting InstMentions InstSays
  put into ty entries from e has at =
      let row : Entry → List Mention = λ (x : Entry). of_operand x.value ++ OfLabel x.from ∷ [] in
      let one = first_has (λ (x : Entry). Each Q (row x)) (λ (x : Entry). same_name x.from from) entries e (Each_rows Q row entries has.0.1) at in
      (more (OfType ty) has.0.0, Each_more Q R (of_operand e.value) more (Each_parts Q (of_operand e.value) (OfLabel e.from ∷ []) one).0)

  take : Taking InstMentions InstSays
  take into ty entries has = (more (OfType ty) has.0.0, (aside_there into ty entries has.1, tt))

  -- where an edge goes first
  way : (from to : List ℕ) (ps : List PhiPart) → phis_to f.blocks to ≡ ps → R (OfLabel to) → ((p : PhiPart) (others : List PhiPart) → phis_to f.blocks to ≡ p ∷ others → R (OfLabel (edge_label from to))) → R (OfLabel (way_to from to ps))
  way from to [] e plain edge = plain
  way from to (p ∷ ps) e plain edge = edge p ps e

  abbrev Ways : List ℕ → List (List ℕ) → Type 0
  Ways from ls = (t : List ℕ) → is_among ls t ≡ true → (p : PhiPart) (others : List PhiPart) → phis_to f.blocks t ≡ p ∷ others → R (OfLabel (edge_label from t))

  first_way : (from to : List ℕ) (ls : List (List ℕ)) → Q (OfLabel to) → is_among ls to ≡ true → Ways from ls → R (OfLabel (first_on_way f.blocks from to))
  first_way from to ls has among edge = way from to (phis_to f.blocks to) refl (more (OfLabel to) has) (edge to among)

  case_ways : (from : List ℕ) (cases : List Case) → Each Q (of_cases cases) → Ways from (map (λ (c : Case). c.to) cases) → Each R (of_cases (map (λ (c : Case). case_to c (first_on_way f.blocks from c.to)) cases))
  case_ways from [] all edge = tt
  case_ways from (c ∷ cs) all edge =
      let p = Each_parts Q (of_typed c.ty c.value ++ OfLabel c.to ∷ []) (of_cases cs) all in
      let q = Each_parts Q (of_typed c.ty c.value) (OfLabel c.to ∷ []) p.0 in
      let ls = map (λ (x : Case). x.to) cs in
      let one = first_way from c.to (c.to ∷ ls) q.1.0 (or_left (same_name c.to c.to) (is_among ls c.to) (same_itself c.to)) edge in
      Each_both R (of_typed c.ty c.value ++ OfLabel (first_on_way f.blocks from c.to) ∷ []) (of_cases (map (λ (x : Case). case_to x (first_on_way f.blocks from x.to)) cs))
      (Each_both R (of_typed c.ty c.value) (OfLabel (first_on_way f.blocks from c.to) ∷ []) (Each_more Q R (of_typed c.ty c.value) more q.0) (one, tt))
      (case_ways from cs p.1 (λ t e. edge t (or_right (same_name t c.to) (is_among ls t) e)))

  end_ways : (from : List ℕ) (end : Term) → Each Q (of_end end) → Ways from (labels_of end) → Each R (of_end (with_ways f.blocks from end))
  end_ways from Ret all edge = tt
  end_ways from (RetValue ty a) all edge = Each_more Q R (of_typed ty a) more all
  end_ways from (Br to) all edge = (first_way from to (to ∷ []) all.0 (or_left (same_name to to) false (same_itself to)) edge, tt)
  end_ways from (BrIf condition taken other) all edge =
      let p = Each_parts Q (of_operand condition) (OfLabel taken ∷ OfLabel other ∷ []) all in
      let ls = taken ∷ other ∷ [] in
      Each_both R (of_operand condition) (OfLabel (first_on_way f.blocks from taken) ∷ OfLabel (first_on_way f.blocks from other) ∷ []) (Each_more Q R (of_operand condition) more p.0) (
        first_way from taken ls p.1.0 (or_left (same_name taken taken) (is_among (other ∷ []) taken) (same_itself taken)) edge,
        (first_way from other ls p.1.1.0 (or_right (same_name other taken) (is_among (other ∷ []) other) (or_left (same_name other other) false (same_itself other))) edge, tt),
      )
  end_ways from (Switch ty a default cases) all edge =
      let p = Each_parts Q (of_typed ty a) (OfLabel default ∷ of_cases cases) all in
      let ls = map (λ (c : Case). c.to) cases in
      Each_both R (of_typed ty a) (OfLabel (first_on_way f.blocks from default) ∷ of_cases (map (λ (c : Case). case_to c (first_on_way f.blocks from c.to)) cases)) (Each_more Q R (of_typed ty a) more p.0) (
        first_way from default (default ∷ ls) p.1.0 (or_left (same_name default default) (is_among ls default) (same_itself default)) edge,
        case_ways from cases p.1.1 (λ t e. edge t (or_right (same_name t default) (is_among ls t) e)),
      )
  end_ways from Unreachable all edge = tt

  -- blocks
  abbrev BlockMentions : Block → Type 0
  BlockMentions b = (Each InstMentions b.insts) × (Each Q (of_end b.end)) × M b

  abbrev BlockSays : Block → Type 0
  BlockSays b = Each R (of_block b)

  own : (b : Block) → BlockMentions b → BlockSays (block_of (chunk_of_block f.blocks b))
  own b has =
      let insts = (block_of (chunk_of_block f.blocks b)).insts in
      Each_both R (flat_map (λ (i : Inst). of_op i.op) insts) (of_end (with_ways f.blocks b.label b.end))
      (rows_each R (λ (i : Inst). of_op i.op) insts (own_have InstMentions InstSays keep put take f.blocks b has.0))
      (end_ways b.label b.end has.1 (λ t e p others phis. edge_there b t p others has.2 e phis))

  insts_mention : Each BlockMentions f.blocks → Each (λ (b : Block). Each InstMentions b.insts) f.blocks
  insts_mention all = Each_more BlockMentions (λ (b : Block). Each InstMentions b.insts) f.blocks (λ b has. has.0) all

  pub blocks_say : Each BlockMentions f.blocks → Each BlockSays (lowered f).blocks
  blocks_say all = chunks_have f.blocks BlockMentions BlockSays (λ b to p others has leads phis.
      let insts = map inst_of (copies b.label (phis_to f.blocks to)) in
      Each_both R (flat_map (λ (i : Inst). of_op i.op) insts) (OfLabel to ∷ [])
      (rows_each R (λ (i : Inst). of_op i.op) insts (edge_have InstMentions InstSays keep put take f.blocks b.label to (insts_mention all)))
      (more (OfLabel to) (among_has (λ t. Q (OfLabel t)) (labels_of b.end) to (labels_mentioned Q b.end has.1) leads), tt)) own f.blocks all

  -- the parts of a function's mentions
  blocks_mention : (bs : List Block) → Each (λ (b : Block). Each Q (of_block b)) bs → Each (λ (b : Block). Each L b.insts × M b) bs → Each BlockMentions bs
  blocks_mention [] all known = tt
  blocks_mention (b ∷ bs) all known =
      let p = Each_parts Q (flat_map (λ (i : Inst). of_op i.op) b.insts) (of_end b.end) all.0 in
      ((insts b.insts (Each_rows Q (λ (i : Inst). of_op i.op) b.insts p.0) known.0.0, p.1, known.0.1), blocks_mention bs all.1 known.1)
    where
      insts : (is : List Inst) → Each (λ (i : Inst). Each Q (of_op i.op)) is → Each L is → Each InstMentions is
      insts [] q l = tt
      insts (i ∷ is) q l = ((q.0, l.0), insts is q.1 l.1)

  pub function_says : Each Q (of_function f) → Each (λ (b : Block). Each L b.insts × M b) f.blocks → Each R (of_function (lowered f))
  function_says all known =
      let p = Each_parts Q (map (λ (p : Param). OfType p.ty) f.params) (flat_map of_block f.blocks) all.1 in (
        more (OfType f.ret) all.0,
        Each_both R (map (λ (p : Param). OfType p.ty) f.params) (flat_map of_block (lowered f).blocks)
            (Each_more Q R (map (λ (p : Param). OfType p.ty) f.params) more p.0)
            (rows_each R of_block (lowered f).blocks (blocks_say (blocks_mention f.blocks (Each_rows Q of_block f.blocks p.1) known))),
      )

-- what is said of neither locals nor labels
module _ (R : Mention → Type 0) (local : (name : List ℕ) → R (OfLocal name)) (label : (name : List ℕ) → R (OfLabel name)) where
  nothing_more : (bs : List Block) → Each (λ (b : Block). Each (λ (i : Inst). Unit {0}) b.insts × Unit {0}) bs
  nothing_more [] = tt
  nothing_more (b ∷ bs) = ((insts b.insts, tt), nothing_more bs)
    where
      insts : (is : List Inst) → Each (λ (i : Inst). Unit {0}) is
      insts [] = tt
      insts (i ∷ is) = (tt, insts is)

  pub function_kept : (f : Function) → Each R (of_function f) → Each R (of_function (lowered f))
  function_kept f all = function_says f R R (λ i. Unit {0}) (λ b. Unit {0}) (λ x has. has) (λ into ty entries known. local (aside into)) (λ b to p others known leads phis. label (edge_label b.label to)) all (nothing_more f.blocks)

  functions_kept : (fs : List Function) → Each R (flat_map of_function fs) → Each R (flat_map of_function (map lowered fs))
  functions_kept [] all = tt
  functions_kept (f ∷ fs) all =
      let p = Each_parts R (of_function f) (flat_map of_function fs) all in
      Each_both R (of_function (lowered f)) (flat_map of_function (map lowered fs)) (function_kept f p.0) (functions_kept fs p.1)

  pub mentions_kept : (m : Module) → Each R (mentions m) → Each R (mentions (without_phis m))
  mentions_kept m all =
      let p = Each_parts R (outside_functions m) (flat_map of_function m.functions) all in
      Each_both R (outside_functions m) (flat_map of_function (map lowered m.functions)) p.0 (functions_kept m.functions p.1)

-- types that are written
types_kept : (P : Ty → Type 0) (m : Module) → Each P (written_types m) → Each P (written_types (without_phis m))
types_kept P m all = rows_each P types_in (mentions (without_phis m)) (mentions_kept (λ x. Each P (types_in x)) (λ name. tt) (λ name. tt) m (Each_rows P types_in (mentions m) all))

pub shaped_nested : (m : Module) → IsValid m → All (λ ty. depth_of (without_phis m).types ty ≤ MAX_NESTING) (written_types (without_phis m))
shaped_nested m valid = all_of (λ ty. depth_of m.types ty ≤ MAX_NESTING) (written_types (without_phis m)) (types_kept (λ ty. depth_of m.types ty ≤ MAX_NESTING) m (limits_kept m (unrefused m valid.accepted).limited).depths)

pub shaped_sized : (m : Module) → IsValid m → All (λ ty. size_count (without_phis m).types ty ≤ MAX_SIZE) (written_types (without_phis m))
shaped_sized m valid = all_of (λ ty. size_count m.types ty ≤ MAX_SIZE) (written_types (without_phis m)) (types_kept (λ ty. size_count m.types ty ≤ MAX_SIZE) m (limits_kept m (unrefused m valid.accepted).limited).sizes)

-- what stands outside of the module
not_external : (m : Module) → first_fault m ≡ None → external m ≡ []
not_external m none =
    let types = both_empty _ (map BadType (type_faults m)) (first_none (refusals m) none) in
    let main = both_empty _ (without_main m) types.0 in
    let outer = both_empty _ (map External (external m)) main.0 in
    map_empty External (external m) outer.1
  where
    first_none : {X : Type 0} (xs : List X) → slice_get xs 0 ≡ None → xs ≡ []
    first_none [] e = refl
    first_none (x ∷ xs) e = none_is x (sym e)

-- nothing comes of rows that are empty
pub empty_each : {X S : Type 0} (faults : X → List S) (xs : List X) → Each (λ x. faults x ≡ []) xs → flat_map faults xs ≡ []
empty_each faults [] all = refl
empty_each faults (x ∷ xs) all = ap (λ l. l ++ flat_map faults xs) all.0 ∙ empty_each faults xs all.1

-- a test that no item passes
none_any : {X : Type 0} (test : X → Bool) (xs : List X) → list_any test xs ≡ false → Each (λ x. test x ≡ false) xs
none_any test [] e = tt
none_any test (x ∷ xs) e = by_test (test x) refl e (none_any test xs)
  where
    by_test : (b : Bool) → test x ≡ b → (b || list_any test xs) ≡ false → (list_any test xs ≡ false → Each (λ y. test y ≡ false) xs) → Each (λ y. test y ≡ false) (x ∷ xs)
    by_test true t f go = not_true (sym f)
    by_test false t f go = (t, go f)

any_none : {X : Type 0} (test : X → Bool) (xs : List X) → Each (λ x. test x ≡ false) xs → list_any test xs ≡ false
any_none test [] all = refl
any_none test (x ∷ xs) all = ap (λ b. b || list_any test xs) all.0 ∙ any_none test xs all.1

pub shaped_outside : (m : Module) → IsValid m → external (without_phis m) ≡ []
shaped_outside m valid =
    let w = without_phis m in
    let mine : Function → List (List ℕ) = λ (f : Function). wrong_definition f.name ++ flat_map (wrong_use m) (of_function f) in
    let p = both_empty (flat_map (wrong_use m) (flat_map of_global m.globals) ++ flat_map (wrong_declaration m) m.externs) (flat_map mine m.functions) (not_external m valid.accepted) in
    let q = both_empty (flat_map (wrong_use m) (flat_map of_global m.globals)) (flat_map (wrong_declaration m) m.externs) p.0 in
    ap (λ l. l ++ flat_map (wrong_declaration w) m.externs ++ flat_map mine (map lowered m.functions)) q.0
    ∙ ap (λ l. l ++ flat_map mine (map lowered m.functions)) (empty_each (wrong_declaration w) m.externs (Each_more (λ (e : Extern). wrong_declaration m e ≡ []) (λ (e : Extern). wrong_declaration w e ≡ []) m.externs declared (each_empty (wrong_declaration m) m.externs q.1)))
    ∙ functions m.functions p.1
  where
    by_tests : (name : List ℕ) (x y fits : Bool) → (x ≡ false → y ≡ false) → (if x && not fits then global_mark name ∷ [] else []) ≡ [] → (if y && not fits then global_mark name ∷ [] else []) ≡ []
    by_tests name x false fits less none = refl
    by_tests name x true true less none = refl
    by_tests name true true false less none = none
    by_tests name false true false less none = not_true (sym (less refl))

    declared : (e : Extern) → wrong_declaration m e ≡ [] → wrong_declaration (without_phis m) e ≡ []
    declared e none = by_tests e.name (list_any (is_of_symbol e.name) (mentions m)) (list_any (is_of_symbol e.name) (mentions (without_phis m))) (extern_fits e)
        (λ unused. any_none (is_of_symbol e.name) (mentions (without_phis m)) (mentions_kept (λ x. is_of_symbol e.name x ≡ false) (λ name. refl) (λ name. refl) m (none_any (is_of_symbol e.name) (mentions m) unused))) none

    functions : (fs : List Function) → flat_map (λ (f : Function). wrong_definition f.name ++ flat_map (wrong_use m) (of_function f)) fs ≡ [] → flat_map (λ (f : Function). wrong_definition f.name ++ flat_map (wrong_use m) (of_function f)) (map lowered fs) ≡ []
    functions [] none = refl
    functions (f ∷ fs) none =
        let row : Function → List (List ℕ) = λ (g : Function). wrong_definition g.name ++ flat_map (wrong_use m) (of_function g) in
        let p = both_empty (row f) (flat_map row fs) none in
        let q = both_empty (wrong_definition f.name) (flat_map (wrong_use m) (of_function f)) p.0 in
        let uses = empty_each (wrong_use m) (of_function (lowered f)) (function_kept (λ x. wrong_use m x ≡ []) (λ name. refl) (λ name. refl) f (each_empty (wrong_use m) (of_function f) q.1)) in
        ap (λ l. l ++ flat_map (wrong_use m) (of_function (lowered f)) ++ flat_map row (map lowered fs)) q.0 ∙ ap (λ l. l ++ flat_map row (map lowered fs)) uses ∙ functions fs p.1
