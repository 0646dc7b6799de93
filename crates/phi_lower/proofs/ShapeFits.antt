-- The instructions and ends of a function without phis keep the rules of types.
use Rattle.std.proofs.Common.{◌≡◌, ℕ, ◌+◌, ◌≤◌, Bool, true, false, List, [], ◌∷◌, ◌++◌, map, take, length, Option, Some, None, refl, ap, sym, ◌∙◌, subst, arith}
use Rattle.std.specs.Prelude.{◌&&◌, ◌||◌, not, is_some, option_map}
use Rattle.std.specs.List.{list_all, list_any, flat_map, enumerate_from}
use Rattle.std.proofs.lemmas.Bool.{and_parts, and_from, eqb-true}
use Rattle.ir_core.specs.declared.limit.Spot.{Spot}
use Rattle.ir_core.specs.declared.ty.Ty.{Ty}
use Rattle.ir_core.specs.declared.operand.Operand.{Operand}
use Rattle.ir_core.specs.declared.operand.Operand.TheVariants.{Int, Bool as Truth, Null as NullWord, Undef, Poison, Local as LocalName, Global, Const}
use Rattle.ir_core.specs.declared.instruction.Arg.{Arg}
use Rattle.ir_core.specs.declared.instruction.Case.{Case}
use Rattle.ir_core.specs.declared.instruction.Entry.{Entry}
use Rattle.ir_core.specs.declared.instruction.Inst.{Inst}
use Rattle.ir_core.specs.declared.instruction.Op.{Op}
use Rattle.ir_core.specs.declared.instruction.Op.TheVariants.{Bin, Compare, Cast, Select, Freeze, Alloca, Load, Store, Gep, Phi, Call}
use Rattle.ir_core.specs.declared.instruction.Term.{Term}
use Rattle.ir_core.specs.declared.instruction.Term.TheVariants.{Ret, RetValue, Br, BrIf, Switch, Unreachable}
use Rattle.ir_core.specs.declared.module.Block.{Block}
use Rattle.ir_core.specs.declared.module.Function.{Function}
use Rattle.ir_core.specs.declared.module.Module.{Module}
use Rattle.ir_core.specs.declared.kind.Kind.{Kind}
use Rattle.ir_core.specs.Names.{same_name, first_where}
use Rattle.ir_core.specs.declared.kind.Kind.TheVariants.{Number, Pointer}
use Rattle.rd_num.specs.declared.width.Width.TheVariants.{W1}
use Rattle.ir_core.specs.Kinds.{kind_of, same_kind}
use Rattle.ir_core.specs.Operands.{global_number}
use Rattle.ir_core.specs.Built.{name_built, type_built, operand_built, typed_built, arg_built, entry_built, entries_built, callee_built, result_built, op_built, result_named, case_built, end_built, built_all}
use Rattle.ir_core.specs.Definitions.{is_among}
use Rattle.ir_core.specs.Typing.{Env, is_value, is_number, is_result, is_index, has_kind, operand_fits, known_arg, leads_from, arg_fits, bin_fits, cast_fits, kind_given, into_fits, case_fits, labels_of, term_fits}
use Rattle.ir_core.specs.Valid.{param_kind, inst_local, kinds_in, results_of, env_of, types_of, named_called, callee_rules, op_rules, names_value, predecessors, phi_fits, alloca_fits, inst_fits, case_number, none_repeats, cases_differ, is_entry, spares_entry, end_fits, function_fits, unless, faults_in_block, faults_in_function}
use Rattle.ir_sound.specs.WellTyped.{Each}
use Rattle.ir_sound.proofs.Locals.{Agreed, result_agreed}
use Rattle.ir_sound.proofs.NoFaults.{both_empty, unless_passes}
use Rattle.ir_sound.proofs.RowLaws.{Each_and, Each_parts, Each_rows, Each_more, Each_from, Each_drop, first_has}
use Rattle.ir_sound.proofs.SameLaws.{not_true, kind_itself}
use Rattle.low_core.specs.declared.moves.Move.{Move}
use Rattle.low_core.specs.declared.moves.MoveOp.{MoveOp}
use Rattle.low_core.specs.declared.moves.MoveOp.TheVariants.{Keep, Copy}
use Rattle.low_core.specs.Plain.{op_of, inst_of, block_of}
use Rattle.low_core.specs.Shaped.{move_fits, chunk_fits}
use Rattle.phi_lower.specs.Lowered.{PhiPart, aside, edge_label, phis_of, phis_to, copies, case_to, way_to, first_on_way, with_ways, chunk_of_block, chunks_to, chunks_of_block, targets_of}
use Rattle.phi_lower.proofs.Same.{all_built}
use Rattle.phi_lower.proofs.Turns.{lowered, without_phis}
use Rattle.phi_lower.proofs.Finds.{first_map, apart_zero}
use Rattle.phi_lower.proofs.Runs.{is_copy, copies_value, all_copies}
use Rattle.phi_lower.proofs.EdgeLaws.{chunk_insts}
use Rattle.phi_lower.proofs.Keeps.{agreed}
use Rattle.phi_lower.proofs.ShapeWalk.{Keeping, Putting, Taking, own_have, edge_have, block_has, chunks_have, each_map_both}
use Rattle.phi_lower.proofs.ShapeMentions.{among_has}
use Rattle.phi_lower.proofs.ShapeBuilt.{BlockIsBuilt, blocks_parts, IsFine}
use Rattle.phi_lower.proofs.ShapeNames.{InstThere, blocks_there}
use Rattle.phi_lower.proofs.ShapeKnown.{assigned_local}
use Rattle.phi_lower.proofs.ShapeKinds.{HasKind, insts_kinds, kind_is_beside, locals_kinds, More, kinds_stay}

-- operands and operations, where what has a kind still has it
module _ (m : Module) (env env2 : Env) (more : More env env2) where
  abbrev w : Module
  w = without_phis m

  operand_more : (kind : Kind) (a : Operand) → operand_built a ≡ true → operand_fits m env kind a ≡ true → operand_fits w env2 kind a ≡ true
  operand_more kind (Int n) built e = e
  operand_more kind (Truth b) built e = e
  operand_more kind NullWord built e = e
  operand_more kind Undef built e = e
  operand_more kind Poison built e = e
  operand_more kind (LocalName name) built e = let p = and_parts (is_value kind) (has_kind (env name) kind) e in and_from _ _ p.0 (more name built kind p.1)
  operand_more kind (Global name) built e = ap (λ o. same_kind kind Pointer && (is_some (global_number m name) || is_some o)) (agreed m name) ∙ e
  operand_more kind (Const place) built e = e

  typed_more : (kind : Kind) (ty : Ty) (a : Operand) → typed_built ty a ≡ true → operand_fits m env kind a ≡ true → operand_fits w env2 kind a ≡ true
  typed_more kind ty a built e = operand_more kind a (and_parts (type_built ty) (operand_built a) built).1 e

  args_more : (args : List Arg) → list_all arg_built args ≡ true → list_all (arg_fits m env) args ≡ true → list_all (arg_fits w env2) args ≡ true
  args_more [] built e = refl
  args_more (a ∷ args) built e =
      let b = and_parts (arg_built a) (list_all arg_built args) built in
      let p = and_parts (arg_fits m env a) (list_all (arg_fits m env) args) e in
      let q = and_parts (is_value (kind_of a.ty)) (operand_fits m env (kind_of a.ty) a.value) p.0 in
      and_from _ _ (and_from _ _ q.0 (typed_more (kind_of a.ty) a.ty a.value b.0 q.1)) (args_more args b.1 p.1)

  indices_more : (args : List Arg) → list_all arg_built args ≡ true → list_all (λ (a : Arg). is_index (kind_of a.ty) && operand_fits m env (kind_of a.ty) a.value) args ≡ true → list_all (λ (a : Arg). is_index (kind_of a.ty) && operand_fits w env2 (kind_of a.ty) a.value) args ≡ true
  indices_more [] built e = refl
  indices_more (a ∷ args) built e =
      let b = and_parts (arg_built a) (list_all arg_built args) built in
      let p = and_parts (is_index (kind_of a.ty) && operand_fits m env (kind_of a.ty) a.value) (list_all (λ (x : Arg). is_index (kind_of x.ty) && operand_fits m env (kind_of x.ty) x.value) args) e in
      let q = and_parts (is_index (kind_of a.ty)) (operand_fits m env (kind_of a.ty) a.value) p.0 in
      and_from _ _ (and_from _ _ q.0 (typed_more (kind_of a.ty) a.ty a.value b.0 q.1)) (indices_more args b.1 p.1)

  called_same : (name : List ℕ) (ret : Ty) (types : List Ty) (o : Option Function) → named_called w name ret types (option_map lowered o) ≡ named_called m name ret types o
  called_same name ret types (Some f) = refl
  called_same name ret types None = refl

  callee_more : (ret : Ty) (types : List Ty) (callee : Operand) → callee_built callee ≡ true → callee_rules m env ret types callee ≡ true → callee_rules w env2 ret types callee ≡ true
  callee_more ret types (LocalName name) built e = more name built Pointer e
  callee_more ret types (Global name) built e =
      ap (named_called w name ret types) (first_map (λ (f : Function). same_name f.name name) lowered m.functions) ∙ called_same name ret types (first_where (λ (f : Function). same_name f.name name) m.functions) ∙ e
  callee_more ret types (Int n) built e = not_true e
  callee_more ret types (Truth b) built e = not_true e
  callee_more ret types NullWord built e = not_true e
  callee_more ret types Undef built e = not_true e
  callee_more ret types Poison built e = not_true e
  callee_more ret types (Const place) built e = not_true e

  two_more : (test : Bool) (kind : Kind) (ty : Ty) (a b : Operand) → (typed_built ty a && operand_built b) ≡ true → (test && (operand_fits m env kind a && operand_fits m env kind b)) ≡ true → (test && (operand_fits w env2 kind a && operand_fits w env2 kind b)) ≡ true
  two_more test kind ty a b built e =
      let c = and_parts (typed_built ty a) (operand_built b) built in
      let p = and_parts test (operand_fits m env kind a && operand_fits m env kind b) e in
      let q = and_parts (operand_fits m env kind a) (operand_fits m env kind b) p.1 in
      and_from _ _ p.0 (and_from _ _ (typed_more kind ty a c.0 q.0) (operand_more kind b c.1 q.1))

  op_more : (op : Op) → op_built op ≡ true → op_rules m env op ≡ true → op_rules w env2 op ≡ true
  op_more (Bin op ty a b) built e = two_more (bin_fits op (kind_of ty)) (kind_of ty) ty a b built e
  op_more (Compare pred ty a b) built e = two_more (is_value (kind_of ty)) (kind_of ty) ty a b built e
  op_more (Cast op from a to) built e =
      let c = and_parts (typed_built from a) (type_built to) built in
      let p = and_parts (cast_fits op (kind_of from) (kind_of to)) (operand_fits m env (kind_of from) a) e in
      and_from _ _ p.0 (typed_more (kind_of from) from a c.0 p.1)
  op_more (Select condition ty a ty2 b) built e =
      let c = and_parts (operand_built condition) (typed_built ty a && typed_built ty2 b) built in
      let d = and_parts (typed_built ty a) (typed_built ty2 b) c.1 in
      let two = operand_fits m env (kind_of ty) a && operand_fits m env (kind_of ty2) b in
      let p = and_parts _ ((is_value (kind_of ty) && same_kind (kind_of ty) (kind_of ty2)) && two) e in
      let q = and_parts (is_value (kind_of ty) && same_kind (kind_of ty) (kind_of ty2)) two p.1 in
      let r = and_parts (operand_fits m env (kind_of ty) a) (operand_fits m env (kind_of ty2) b) q.1 in
      and_from _ _ (operand_more (Number W1) condition c.0 p.0) (and_from _ _ q.0 (and_from _ _ (typed_more (kind_of ty) ty a d.0 r.0) (typed_more (kind_of ty2) ty2 b d.1 r.1)))
  op_more (Freeze ty a) built e = let p = and_parts (is_value (kind_of ty)) (operand_fits m env (kind_of ty) a) e in and_from _ _ p.0 (typed_more (kind_of ty) ty a built p.1)
  op_more (Alloca ty count) built e = refl
  op_more (Load ty p) built e = let q = and_parts (is_value (kind_of ty)) (operand_fits m env Pointer p) e in and_from _ _ q.0 (typed_more Pointer ty p built q.1)
  op_more (Store ty a p) built e =
      let c = and_parts (typed_built ty a) (operand_built p) built in
      let q = and_parts (is_value (kind_of ty)) (operand_fits m env (kind_of ty) a && operand_fits m env Pointer p) e in
      let r = and_parts (operand_fits m env (kind_of ty) a) (operand_fits m env Pointer p) q.1 in
      and_from _ _ q.0 (and_from _ _ (typed_more (kind_of ty) ty a c.0 r.0) (operand_more Pointer p c.1 r.1))
  op_more (Gep ty p indices) built e =
      let c = and_parts (typed_built ty p) (built_all arg_built indices) built in
      let are : Bool = list_all (λ (a : Arg). is_index (kind_of a.ty) && operand_fits m env (kind_of a.ty) a.value) indices in
      let q = and_parts (operand_fits m env Pointer p) (are && leads_from m.types ty (map known_arg indices)) e in
      let r = and_parts are (leads_from m.types ty (map known_arg indices)) q.1 in
      and_from _ _ (typed_more Pointer ty p c.0 q.0) (and_from _ _ (indices_more indices (all_built arg_built indices c.1) r.0) r.1)
  op_more (Phi ty entries) built e =
      let c = and_parts (type_built ty) (entries_built entries) built in
      let p = and_parts (is_value (kind_of ty)) (list_all (λ (x : Entry). operand_fits m env (kind_of ty) x.value) entries) e in
      and_from _ _ p.0 (entries_more (kind_of ty) entries (all_entries entries c.1) p.1)
    where
      all_entries : (es : List Entry) → entries_built es ≡ true → list_all entry_built es ≡ true
      all_entries [] b = refl
      all_entries (x ∷ xs) b = all_built entry_built (x ∷ xs) b

      entries_more : (kind : Kind) (es : List Entry) → list_all entry_built es ≡ true → list_all (λ (x : Entry). operand_fits m env kind x.value) es ≡ true → list_all (λ (x : Entry). operand_fits w env2 kind x.value) es ≡ true
      entries_more kind [] b f = refl
      entries_more kind (x ∷ xs) b f =
          let c = and_parts (entry_built x) (list_all entry_built xs) b in
          let p = and_parts (operand_fits m env kind x.value) (list_all (λ (y : Entry). operand_fits m env kind y.value) xs) f in
          and_from _ _ (operand_more kind x.value (and_parts (operand_built x.value) (name_built x.from) c.0).0 p.0) (entries_more kind xs c.1 p.1)
  op_more (Call ret callee args) built e =
      let c = and_parts (result_built ret) (callee_built callee && built_all arg_built args) built in
      let d = and_parts (callee_built callee) (built_all arg_built args) c.1 in
      let p = and_parts (is_result ret) (callee_rules m env ret (types_of args) callee && list_all (arg_fits m env) args) e in
      let q = and_parts (callee_rules m env ret (types_of args) callee) (list_all (arg_fits m env) args) p.1 in
      and_from _ _ p.0 (and_from _ _ (callee_more ret (types_of args) callee d.0 q.0) (args_more args (all_built arg_built args d.1) q.1))

  -- a case has a value that no local gives
  case_value : (kind : Kind) (v : Operand) → operand_fits m (λ name. None) kind v ≡ true → operand_fits w (λ name. None) kind v ≡ true
  case_value kind (Int n) e = e
  case_value kind (Truth b) e = e
  case_value kind NullWord e = e
  case_value kind Undef e = e
  case_value kind Poison e = e
  case_value kind (LocalName name) e = e
  case_value kind (Global name) e = ap (λ o. same_kind kind Pointer && (is_some (global_number m name) || is_some o)) (agreed m name) ∙ e
  case_value kind (Const place) e = e

  -- ends, where edges go first
  module _ (blocks : List Block) (from : List ℕ) where
    cases_more : (kind : Kind) (cases : List Case) → list_all (case_fits m kind) cases ≡ true → list_all (case_fits w kind) (map (λ (c : Case). case_to c (first_on_way blocks from c.to)) cases) ≡ true
    cases_more kind [] e = refl
    cases_more kind (c ∷ cs) e =
        let p = and_parts (case_fits m kind c) (list_all (case_fits m kind) cs) e in
        let q = and_parts (same_kind (kind_of c.ty) kind) (operand_fits m (λ name. None) kind c.value) p.0 in
        and_from _ _ (and_from _ _ q.0 (case_value kind c.value q.1)) (cases_more kind cs p.1)

    term_more : (ret : Kind) (end : Term) → end_built end ≡ true → term_fits m env ret end ≡ true → term_fits w env2 ret (with_ways blocks from end) ≡ true
    term_more ret Ret built e = e
    term_more ret (RetValue ty a) built e =
        let p = and_parts (is_value ret) (same_kind (kind_of ty) ret && operand_fits m env ret a) e in
        let q = and_parts (same_kind (kind_of ty) ret) (operand_fits m env ret a) p.1 in
        and_from _ _ p.0 (and_from _ _ q.0 (typed_more ret ty a built q.1))
    term_more ret (Br to) built e = refl
    term_more ret (BrIf condition taken other) built e = operand_more (Number W1) condition (and_parts (operand_built condition) (name_built taken && name_built other) built).0 e
    term_more ret (Switch ty a default cases) built e =
        let b = and_parts (typed_built ty a) (name_built default && built_all case_built cases) built in
        let p = and_parts (is_number (kind_of ty)) (operand_fits m env (kind_of ty) a && list_all (case_fits m (kind_of ty)) cases) e in
        let q = and_parts (operand_fits m env (kind_of ty) a) (list_all (case_fits m (kind_of ty)) cases) p.1 in
        and_from _ _ p.0 (and_from _ _ (typed_more (kind_of ty) ty a b.0 q.0) (cases_more (kind_of ty) cases q.1))
    term_more ret Unreachable built e = refl

-- cases stand for the same numbers
numbers_same : (kind : Kind) (blocks : List Block) (from : List ℕ) (cases : List Case) → map (λ (c : Case). case_number kind c.value) (map (λ (c : Case). case_to c (first_on_way blocks from c.to)) cases) ≡ map (λ (c : Case). case_number kind c.value) cases
numbers_same kind blocks from [] = refl
numbers_same kind blocks from (c ∷ cs) = ap (λ ns. case_number kind c.value ∷ ns) (numbers_same kind blocks from cs)

differ_same : (blocks : List Block) (from : List ℕ) (end : Term) → cases_differ (with_ways blocks from end) ≡ cases_differ end
differ_same blocks from Ret = refl
differ_same blocks from (RetValue ty a) = refl
differ_same blocks from (Br to) = refl
differ_same blocks from (BrIf condition taken other) = refl
differ_same blocks from (Switch ty a default cases) = ap (none_repeats []) (numbers_same (kind_of ty) blocks from cases)
differ_same blocks from Unreachable = refl

-- labels, where edges go first
tos_ways : (blocks : List Block) (from : List ℕ) (cases : List Case) → map (λ (c : Case). c.to) (map (λ (c : Case). case_to c (first_on_way blocks from c.to)) cases) ≡ map (first_on_way blocks from) (map (λ (c : Case). c.to) cases)
tos_ways blocks from [] = refl
tos_ways blocks from (c ∷ cs) = ap (λ ls. first_on_way blocks from c.to ∷ ls) (tos_ways blocks from cs)

labels_ways : (blocks : List Block) (from : List ℕ) (end : Term) → labels_of (with_ways blocks from end) ≡ map (first_on_way blocks from) (labels_of end)
labels_ways blocks from Ret = refl
labels_ways blocks from (RetValue ty a) = refl
labels_ways blocks from (Br to) = refl
labels_ways blocks from (BrIf condition taken other) = refl
labels_ways blocks from (Switch ty a default cases) = ap (λ ls. first_on_way blocks from default ∷ ls) (tos_ways blocks from cases)
labels_ways blocks from Unreachable = refl

-- the entry block has its label
entry_same : (blocks bs : List Block) (label : List ℕ) → is_entry (map block_of (flat_map (chunks_of_block blocks) bs)) label ≡ is_entry bs label
entry_same blocks [] label = refl
entry_same blocks (b ∷ bs) label = refl

entry_edge : (bs : List Block) (from to : List ℕ) → Each BlockIsBuilt bs → is_entry bs (edge_label from to) ≡ false
entry_edge [] from to built = refl
entry_edge (b ∷ bs) from to built = apart_zero (from ++ 0 ∷ to) b.label built.0.label

-- a test that none passes
pub not_any : {X : Type 0} (test : X → Bool) (xs : List X) → not (list_any test xs) ≡ true → Each (λ x. test x ≡ false) xs
not_any test [] e = tt
not_any test (x ∷ xs) e = by_test (test x) refl e (not_any test xs)
  where
    by_test : (b : Bool) → test x ≡ b → not (b || list_any test xs) ≡ true → (not (list_any test xs) ≡ true → Each (λ y. test y ≡ false) xs) → Each (λ y. test y ≡ false) (x ∷ xs)
    by_test true t f go = not_true f
    by_test false t f go = (t, go f)

any_not : {X : Type 0} (test : X → Bool) (xs : List X) → Each (λ x. test x ≡ false) xs → not (list_any test xs) ≡ true
any_not test [] all = refl
any_not test (x ∷ xs) all = ap (λ b. not (b || list_any test xs)) all.0 ∙ any_not test xs all.1

module _ (f : Function) (fine : IsFine f) where
  built_blocks : Each BlockIsBuilt f.blocks
  built_blocks = blocks_parts f fine.built

  way_spared : (from to : List ℕ) (ps : List PhiPart) → is_entry f.blocks to ≡ false → is_entry (lowered f).blocks (way_to from to ps) ≡ false
  way_spared from to [] e = entry_same f.blocks f.blocks to ∙ e
  way_spared from to (p ∷ ps) e = entry_same f.blocks f.blocks (edge_label from to) ∙ entry_edge f.blocks from to built_blocks

  ways_spared : (from : List ℕ) (ls : List (List ℕ)) → Each (λ l. is_entry f.blocks l ≡ false) ls → Each (λ l. is_entry (lowered f).blocks l ≡ false) (map (first_on_way f.blocks from) ls)
  ways_spared from [] all = tt
  ways_spared from (l ∷ ls) all = (way_spared from l (phis_to f.blocks l) all.0, ways_spared from ls all.1)

  pub end_spares : (from : List ℕ) (end : Term) → spares_entry f.blocks end ≡ true → spares_entry (lowered f).blocks (with_ways f.blocks from end) ≡ true
  end_spares from end e =
      ap (λ ls. not (list_any (is_entry (lowered f).blocks) ls)) (labels_ways f.blocks from end)
      ∙ any_not (is_entry (lowered f).blocks) (map (first_on_way f.blocks from) (labels_of end)) (ways_spared from (labels_of end) (not_any (is_entry f.blocks) (labels_of end) e))

  pub edge_spares : (to : List ℕ) (end : Term) → spares_entry f.blocks end ≡ true → is_among (labels_of end) to ≡ true → spares_entry (lowered f).blocks (Br to) ≡ true
  edge_spares to end e leads =
      any_not (is_entry (lowered f).blocks) (to ∷ []) (entry_same f.blocks f.blocks to ∙ among_has (λ l. is_entry f.blocks l ≡ false) (labels_of end) to (not_any (is_entry f.blocks) (labels_of end) e) leads, tt)

-- the rules of a block that isn't refused
pub record Rules (m : Module) (f : Function) (b : Block) : Type 0 where
  pub insts : Each (λ (i : Inst). (op_rules m (env_of f) i.op && names_value i.result (kind_given i.op)) ≡ true) b.insts
  pub end : end_fits m f b.end ≡ true

abbrev pub no_alloca : Block → Type 0
no_alloca b = Each (λ (i : Inst). alloca_fits 1 i.op ≡ true) b.insts

-- what each item with its number has
each_numbered : {X S : Type 0} (P : X → Type 0) (faults : ℕ × X → List S) (k : ℕ) (xs : List X) → ((n : ℕ) (x : X) → k ≤ n → faults (n, x) ≡ [] → P x) → flat_map faults (enumerate_from k xs) ≡ [] → Each P xs
each_numbered P faults k [] go none = tt
each_numbered P faults k (x ∷ xs) go none =
    let p = both_empty (faults (k, x)) (flat_map faults (enumerate_from (k + 1) xs)) none in
    (go k x (omega arith) p.0, each_numbered P faults (k + 1) xs (λ n y le e. go n y (omega arith) e) p.1)

alloca_first : (n : ℕ) (op : Op) → 1 ≤ n → alloca_fits n op ≡ true → alloca_fits 1 op ≡ true
alloca_first n (Alloca ty count) le e = absurd (let z = eqb-true n 0 e in omega arith)
alloca_first n op le e = refl

alloca_later : (n : ℕ) (op : Op) → alloca_fits 1 op ≡ true → alloca_fits n op ≡ true
alloca_later n (Alloca ty count) e = not_true e
alloca_later n op e = refl

alloca_zero : (op : Op) → alloca_fits 0 op ≡ true
alloca_zero (Alloca ty count) = refl
alloca_zero op = refl

block_rules : (m : Module) (f : Function) (number j : ℕ) (b : Block) → faults_in_block m f number (j, b) ≡ [] → Rules m f b × (1 ≤ j → no_alloca b)
block_rules m f number j b none =
    let faults : ℕ × Inst → List Spot = λ p. unless (inst_fits m f j b (take p.0 b.insts) p.1) (Spot.Inst number j p.0) in
    let p = both_empty (flat_map faults (enumerate_from 0 b.insts)) (unless (end_fits m f b.end) (Spot.Inst number j (length b.insts))) none in (
      record {
        insts = each_numbered (λ (i : Inst). (op_rules m (env_of f) i.op && names_value i.result (kind_given i.op)) ≡ true) faults 0 b.insts (λ n i le e. (parts n i e).0) p.0;
        end = unless_passes (end_fits m f b.end) (Spot.Inst number j (length b.insts)) p.1;
      },
      λ later. each_numbered (λ (i : Inst). alloca_fits 1 i.op ≡ true) faults 0 b.insts (λ n i le e. alloca_first j i.op later (parts n i e).1) p.0,
    )
  where
    parts : (n : ℕ) (i : Inst) → unless (inst_fits m f j b (take n b.insts) i) (Spot.Inst number j n) ≡ [] → ((op_rules m (env_of f) i.op && names_value i.result (kind_given i.op)) ≡ true) × (alloca_fits j i.op ≡ true)
    parts n i e =
        let q = and_parts (op_rules m (env_of f) i.op && names_value i.result (kind_given i.op)) (phi_fits (predecessors f.blocks b.label) (take n b.insts) i.op && alloca_fits j i.op) (unless_passes (inst_fits m f j b (take n b.insts) i) (Spot.Inst number j n) e) in
        (q.0, (and_parts (phi_fits (predecessors f.blocks b.label) (take n b.insts) i.op) (alloca_fits j i.op) q.1).1)

-- no allocas but in the first block
abbrev Later : List Block → Type 0
Later [] = Unit {0}
Later (b ∷ bs) = Each no_alloca bs

pub record FunctionRules (m : Module) (f : Function) : Type 0 where
  pub own : function_fits f ≡ true
  pub blocks : Each (Rules m f) f.blocks
  pub later : Later f.blocks

pub function_rules : (m : Module) (number : ℕ) (f : Function) → faults_in_function m (number, f) ≡ [] → FunctionRules m f
function_rules m number f none =
    let p = both_empty (unless (function_fits f) (Spot.Function number)) (flat_map (faults_in_block m f number) (enumerate_from 0 f.blocks)) none in
    record {
      own = unless_passes (function_fits f) (Spot.Function number) p.0;
      blocks = each_numbered (Rules m f) (faults_in_block m f number) 0 f.blocks (λ j b le e. (block_rules m f number j b e).0) p.1;
      later = of_blocks f.blocks p.1;
    }
  where
    of_blocks : (bs : List Block) → flat_map (faults_in_block m f number) (enumerate_from 0 bs) ≡ [] → Later bs
    of_blocks [] e = tt
    of_blocks (b ∷ bs) e =
        each_numbered no_alloca (faults_in_block m f number) 1 bs (λ j c le g. (block_rules m f number j c g).1 le) (both_empty (faults_in_block m f number (0, b)) (flat_map (faults_in_block m f number) (enumerate_from 1 bs)) e).1

-- the instructions of chunks
module _ (m : Module) (f : Function) (fine : IsFine f) (rules : FunctionRules m f) where
  abbrev lf : Function
  lf = lowered f

  abbrev wm : Module
  wm = without_phis m

  abbrev Had : Inst → Type 0
  Had i = (HasKind (env_of f) i) × ((op_rules m (env_of f) i.op && names_value i.result (kind_given i.op)) ≡ true) × InstThere f fine i

  abbrev Has : Inst → Type 0
  Has i = (op_rules wm (env_of lf) i.op && names_value i.result (kind_given i.op)) ≡ true

  keep : Keeping Had Has
  keep i had =
      let p = and_parts (op_rules m (env_of f) i.op) (names_value i.result (kind_given i.op)) had.1 in
      and_from _ _ (op_more m (env_of f) (env_of lf) (kinds_stay f fine) i.op (and_parts (op_built i.op) (result_named i.op i.result) had.0.0).0 p.0) p.1

  put : Putting Had Has
  put into ty entries from e had at =
      let p = and_parts (is_value (kind_of ty) && list_all (λ (x : Entry). operand_fits m (env_of f) (kind_of ty) x.value) entries) (is_value (kind_of ty)) had.1 in
      let q = and_parts (is_value (kind_of ty)) (list_all (λ (x : Entry). operand_fits m (env_of f) (kind_of ty) x.value) entries) p.0 in
      let b = and_parts (type_built ty) (entries_built entries) (and_parts (op_built (Phi ty entries)) (result_named (Phi ty entries) (Some into)) had.0.0).0 in
      let fits = first_has (λ (x : Entry). operand_fits m (env_of f) (kind_of ty) x.value ≡ true) (λ (x : Entry). same_name x.from from) entries e (Each_from (λ (x : Entry). operand_fits m (env_of f) (kind_of ty) x.value) entries q.1) at in
      let built = first_has (λ (x : Entry). entry_built x ≡ true) (λ (x : Entry). same_name x.from from) entries e (of_entries entries b.1) at in
      and_from _ _ (and_from _ _ q.0 (operand_more m (env_of f) (env_of lf) (kinds_stay f fine) (kind_of ty) e.value (and_parts (operand_built e.value) (name_built e.from) built).0 fits)) q.0
    where
      of_entries : (es : List Entry) → entries_built es ≡ true → Each (λ (x : Entry). entry_built x ≡ true) es
      of_entries [] b = tt
      of_entries (x ∷ xs) b = Each_from entry_built (x ∷ xs) (all_built entry_built (x ∷ xs) b)

  take_up : Taking Had Has
  take_up into ty entries had =
      let value = (and_parts (is_value (kind_of ty)) (list_all (λ (x : Entry). operand_fits m (env_of f) (kind_of ty) x.value) entries) (and_parts (is_value (kind_of ty) && list_all (λ (x : Entry). operand_fits m (env_of f) (kind_of ty) x.value) entries) (is_value (kind_of ty)) had.1).0).0 in
      let kind : env_of lf (aside into) ≡ Some (kind_of ty) = kind_is_beside f fine (aside into) (assigned_local lf (aside into) had.2.1.0) ∙ had.0.1.0 in
      and_from _ _ (and_from _ _ value (and_from _ _ value (ap (λ o. has_kind o (kind_of ty)) kind ∙ kind_itself (kind_of ty)))) value

  -- blocks
  abbrev BlockHad : Block → Type 0
  BlockHad b = (Each Had b.insts) × BlockIsBuilt b × Rules m f b

  blocks_had : Each BlockHad f.blocks
  blocks_had = rows f.blocks (insts_kinds f fine) rules.blocks (blocks_there f fine fine.phis) (blocks_parts f fine.built)
    where
      insts : (is : List Inst) → Each (HasKind (env_of f)) is → Each (λ (i : Inst). (op_rules m (env_of f) i.op && names_value i.result (kind_given i.op)) ≡ true) is → Each (InstThere f fine) is → Each Had is
      insts [] a b c = tt
      insts (i ∷ is) a b c = ((a.0, b.0, c.0), insts is a.1 b.1 c.1)

      rows : (bs : List Block) → Each (λ (b : Block). Each (HasKind (env_of f)) b.insts) bs → Each (Rules m f) bs → Each (λ (b : Block). Each (InstThere f fine) b.insts) bs → Each BlockIsBuilt bs → Each BlockHad bs
      rows [] a b c d = tt
      rows (x ∷ xs) a b c d = ((insts x.insts a.0 b.0.insts c.0, d.0, b.0), rows xs a.1 b.1 c.1 d.1)

  abbrev BlockHas : Block → Type 0
  BlockHas b = (Each Has b.insts) × (end_fits wm lf b.end ≡ true)

  own_has : (b : Block) → BlockHad b → BlockHas (block_of (chunk_of_block f.blocks b))
  own_has b had =
      let p = and_parts (term_fits m (env_of f) (kind_of f.ret) b.end) (cases_differ b.end && spares_entry f.blocks b.end) had.2.end in
      let q = and_parts (cases_differ b.end) (spares_entry f.blocks b.end) p.1 in (
        own_have Had Has keep put take_up f.blocks b had.0,
        and_from _ _ (term_more m (env_of f) (env_of lf) (kinds_stay f fine) f.blocks b.label (kind_of f.ret) b.end had.1.end p.0) (and_from _ _ (differ_same f.blocks b.label b.end ∙ q.0) (end_spares f fine b.label b.end q.1)),
      )

  edge_has : (b : Block) (to : List ℕ) (p : PhiPart) (others : List PhiPart) → BlockHad b → is_among (labels_of b.end) to ≡ true → phis_to f.blocks to ≡ p ∷ others → (Each Has (map inst_of (copies b.label (phis_to f.blocks to)))) × (end_fits wm lf (Br to) ≡ true)
  edge_has b to p others had leads phis =
      let q = and_parts (term_fits m (env_of f) (kind_of f.ret) b.end) (cases_differ b.end && spares_entry f.blocks b.end) had.2.end in
      let r = and_parts (cases_differ b.end) (spares_entry f.blocks b.end) q.1 in
      (edge_have Had Has keep put take_up f.blocks b.label to (Each_more BlockHad (λ (x : Block). Each Had x.insts) f.blocks (λ x h. h.0) blocks_had), edge_spares f fine to b.end r.1 leads)

  blocks_have : Each BlockHas lf.blocks
  blocks_have = chunks_have f.blocks BlockHad BlockHas edge_has own_has f.blocks blocks_had

  -- a variable that gets a value has its kind
  abbrev Good : Inst → Type 0
  Good i = Has i × (into_fits (env_of lf) i.result (kind_given i.op) ≡ true)

  insts_good : (is : List Inst) → Each Has is → Each (λ (i : Inst). Each (Agreed (env_of lf)) (inst_local i)) is → Each Good is
  insts_good [] has agreed = tt
  insts_good (i ∷ is) has agreed = ((has.0, result_agreed (env_of lf) i.result (kind_given i.op) agreed.0 (and_parts (op_rules wm (env_of lf) i.op) (names_value i.result (kind_given i.op)) has.0).1), insts_good is has.1 agreed.1)

  abbrev BlockGood : Block → Type 0
  BlockGood b = (Each Good b.insts) × (end_fits wm lf b.end ≡ true)

  blocks_good : Each BlockGood lf.blocks
  blocks_good =
      let agreed = Each_rows (Agreed (env_of lf)) (λ (b : Block). kinds_in b.insts) lf.blocks (Each_parts (Agreed (env_of lf)) (map param_kind f.params) (results_of lf.blocks) (locals_kinds f fine)).1 in
      Each_more (λ (b : Block). BlockHas b × Each (Agreed (env_of lf)) (kinds_in b.insts)) BlockGood lf.blocks (λ b has. (insts_good b.insts has.0.0 (Each_rows (Agreed (env_of lf)) inst_local b.insts has.1), has.0.1))
      (Each_and BlockHas (λ (b : Block). Each (Agreed (env_of lf)) (kinds_in b.insts)) lf.blocks blocks_have agreed)

  -- allocas
  copies_plain : (ms : List Move) → list_all is_copy ms ≡ true → Each (λ (i : Inst). alloca_fits 1 i.op ≡ true) (map inst_of ms)
  copies_plain [] e = tt
  copies_plain (x ∷ xs) e = let p = and_parts (is_copy x) (list_all is_copy xs) e in (by_op x.op p.0, copies_plain xs p.1)
    where
      by_op : (op : MoveOp) → copies_value op ≡ true → alloca_fits 1 (op_of op) ≡ true
      by_op (Keep op) c = not_true c
      by_op (Copy ty a) c = refl

  edge_plain : (b : Block) (to : List ℕ) (p : PhiPart) (others : List PhiPart) → is_among (labels_of b.end) to ≡ true → phis_to f.blocks to ≡ p ∷ others → Each (λ (i : Inst). alloca_fits 1 i.op ≡ true) (map inst_of (copies b.label (phis_to f.blocks to)))
  edge_plain b to p others leads phis = copies_plain (copies b.label (phis_to f.blocks to)) (all_copies b.label (phis_to f.blocks to))

  own_plain : (b : Block) → no_alloca b → no_alloca (block_of (chunk_of_block f.blocks b))
  own_plain b none = subst (Each (λ (i : Inst). alloca_fits 1 i.op ≡ true)) (sym (chunk_insts f.blocks b)) (Each_drop (λ (i : Inst). alloca_fits 1 i.op ≡ true) (length (phis_of b.insts)) b.insts none)

  later_plain : (b : Block) (bs : List Block) → Each no_alloca bs → Each no_alloca (map block_of (chunks_to f.blocks b.label (targets_of b.end) ++ flat_map (chunks_of_block f.blocks) bs))
  later_plain b bs none =
      each_map_both no_alloca block_of (chunks_to f.blocks b.label (targets_of b.end)) (flat_map (chunks_of_block f.blocks) bs)
      (block_has f.blocks (λ c. Unit {0}) (λ c. Each (λ (i : Inst). alloca_fits 1 i.op ≡ true) c.insts) (λ c to p others u leads phis. edge_plain c to p others leads phis) b tt)
      (chunks_have f.blocks no_alloca no_alloca (λ c to p others u leads phis. edge_plain c to p others leads phis) own_plain bs none)

  -- chunks with their numbers
  block_fits : (n : ℕ) (b : Block) → BlockGood b → Each (λ (i : Inst). alloca_fits n i.op ≡ true) b.insts → chunk_fits wm lf (n, b) ≡ true
  block_fits n b good plain = and_from _ _ (insts b.insts good.0 plain) good.1
    where
      insts : (is : List Inst) → Each Good is → Each (λ (i : Inst). alloca_fits n i.op ≡ true) is → list_all (move_fits wm lf n) is ≡ true
      insts [] g p = refl
      insts (i ∷ is) g p = and_from _ _ (and_from _ _ g.0.0 (and_from _ _ g.0.1 p.0)) (insts is g.1 p.1)

  later_fit : (k : ℕ) (bs : List Block) → Each BlockGood bs → Each no_alloca bs → list_all (chunk_fits wm lf) (enumerate_from k bs) ≡ true
  later_fit k [] good plain = refl
  later_fit k (b ∷ bs) good plain =
      and_from _ _ (block_fits k b good.0 (Each_more (λ (i : Inst). alloca_fits 1 i.op ≡ true) (λ (i : Inst). alloca_fits k i.op ≡ true) b.insts (λ i e. alloca_later k i.op e) plain.0)) (later_fit (k + 1) bs good.1 plain.1)

  all_zero : (is : List Inst) → Each (λ (i : Inst). alloca_fits 0 i.op ≡ true) is
  all_zero [] = tt
  all_zero (i ∷ is) = (alloca_zero i.op, all_zero is)

  chunks_fit : (bs : List Block) → Each BlockGood (map block_of (flat_map (chunks_of_block f.blocks) bs)) → Later bs → list_all (chunk_fits wm lf) (enumerate_from 0 (map block_of (flat_map (chunks_of_block f.blocks) bs))) ≡ true
  chunks_fit [] good later = refl
  chunks_fit (b ∷ bs) good later =
      and_from _ _ (block_fits 0 (block_of (chunk_of_block f.blocks b)) good.0 (all_zero (block_of (chunk_of_block f.blocks b)).insts))
      (later_fit 1 (map block_of (chunks_to f.blocks b.label (targets_of b.end) ++ flat_map (chunks_of_block f.blocks) bs)) good.1 (later_plain b bs later))

  pub shaped_fits : list_all (chunk_fits (without_phis m) (lowered f)) (enumerate_from 0 (lowered f).blocks) ≡ true
  shaped_fits = chunks_fit f.blocks blocks_good rules.later
