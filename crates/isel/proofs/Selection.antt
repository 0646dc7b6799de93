-- For every program without switches what is selected means the same, wherever its plan has the globals, functions and frames.
use Rattle.std.proofs.Common.{◌≡◌, ℕ, suc, true, not, List, [], ◌∷◌, length, map, Some, refl, ap, sym, ◌∙◌, subst, arith, All}
use Rattle.std.specs.Prelude.{option_map, if◌then◌else◌}
use Rattle.std.specs.List.{list_all}
use Rattle.std.proofs.lemmas.Bool.{and_parts, and_from}
use Rattle.std.proofs.lemmas.List.Elements.{All-head, All-tail}
use Rattle.std.proofs.Math.Path.{fun_ext}
use Rattle.behavior.specs.Preserves.{Preserves, ReachesWithin}
use Rattle.ir_core.specs.declared.ty.Ty.{Ty}
use Rattle.ir_core.specs.declared.init.Init.{fold-Init}
use Rattle.ir_core.specs.declared.init.Init.TheOpen.{Init-F}
use Rattle.ir_core.specs.declared.operand.Operand.{Operand}
use Rattle.ir_core.specs.declared.operand.Operand.TheVariants.{Local as LocalName, Global}
use Rattle.ir_core.specs.declared.memory.Cell.{Cell}
use Rattle.ir_core.specs.declared.kind.Kind.{Kind}
use Rattle.ir_core.specs.declared.instruction.Op.{Op}
use Rattle.ir_core.specs.declared.instruction.Op.TheVariants.{Bin, Compare, Cast, Select, Freeze, Alloca, Load, Store, Gep, Phi, Call}
use Rattle.ir_core.specs.declared.module.Block.{Block}
use Rattle.ir_core.specs.declared.module.Function.{Function}
use Rattle.ir_core.specs.declared.module.GlobalVar.{GlobalVar}
use Rattle.ir_core.specs.declared.module.Module.{Module}
use Rattle.ir_core.specs.Names.{same_name, number_where}
use Rattle.ir_core.specs.Kinds.{kind_of}
use Rattle.ir_core.specs.Shapes.{shape_of}
use Rattle.ir_core.specs.Globals.{Part, cells_or_zeros, init_at, element_at, global_object, first_objects}
use Rattle.ir_core.specs.Operands.{value_of, named_value, global_number}
use Rattle.ir_core.specs.Valid.{is_phi}
use Rattle.ir_sound.specs.Typed.{no_phi, IsTyped}
use Rattle.ir_sound.specs.WellTyped.{Each}
use Rattle.ir_sound.proofs.RowLaws.{length_map}
use Rattle.low_core.specs.declared.moves.Body.{Body}
use Rattle.low_core.specs.declared.moves.Chunk.{Chunk}
use Rattle.low_core.specs.declared.moves.Lean.{Lean}
use Rattle.low_core.specs.declared.moves.Move.{Move}
use Rattle.low_core.specs.declared.moves.MoveOp.{MoveOp}
use Rattle.low_core.specs.declared.moves.MoveOp.TheVariants.{Keep, Copy}
use Rattle.low_core.specs.Contents.{addresses_of, content_of, data_bytes, contents_of}
use Rattle.low_core.specs.Plain.{op_of, inst_of, block_of, with_bodies, plain, moves_run}
use Rattle.low_core.specs.Plan.{Plan, PlanFits}
use Rattle.low_core.specs.SelRun.{sel_run}
use Rattle.low_core.specs.SelShaped.{IsSel}
use Rattle.low_core.specs.Shaped.{IsBody, IsLean, keeps_moves, is_kept, is_lean_end}
use Rattle.low_core.specs.Weights.{lean_own}
use Rattle.flat_memory.proofs.Start.{setting_fits}
use Rattle.isel_rows.specs.Selected.{module_selected, selected}
use Rattle.isel.specs.Bound.{longest}
use Rattle.isel.proofs.Firsts.{are_first}
use Rattle.isel.proofs.Keeps.{selection_keeps, selection_keeps_within}
use Rattle.isel.proofs.Mentioned.{fine}
use Rattle.isel.proofs.Premises.{Premises}
use Rattle.isel.proofs.Typed.{IsMoves, shaped_typed}

-- functions keep their names
names_kept : (fs : List Function) (bodies : List Body) (name : List ℕ) → length bodies ≡ length fs → number_where (λ (f : Function). same_name f.name name) (with_bodies fs bodies) ≡ number_where (λ (f : Function). same_name f.name name) fs
names_kept [] bodies name same = refl
names_kept (f ∷ fs) [] name same = absurd (omega (arith, same))
names_kept (f ∷ fs) (b ∷ bs) name same = ap (λ o. if same_name f.name name then Some 0 else option_map (λ n. suc n) o) (names_kept fs bs name (omega (arith, same)))

module _ (base : Module) (bodies : List Body) (one_each : length bodies ≡ length base.functions) where
  abbrev m : Module
  m = plain base bodies

  value_first : (kind : Kind) (a : Operand) → value_of m [] kind a ≡ value_of base [] kind a
  value_first kind (LocalName name) = refl
  value_first kind (Global name) = ap (named_value (global_number base name)) (names_kept base.functions bodies name one_each)
  value_first kind a = refl

  init_same : (z : Init-F (Ty → List Cell) Part) (ty : Ty) → init_at m z ty ≡ init_at base z ty
  init_same (Init-F.Value v) ty = ap (cells_or_zeros (shape_of base.types ty).size) (value_first (kind_of ty) v)
  init_same z ty = refl

  -- globals begin with the same objects
  pub first_same : first_objects m ≡ first_objects base
  first_same =
      let same : init_at m ≡ init_at base = fun_ext (λ z. fun_ext (λ ty. init_same z ty)) in
      ap (λ at. map (λ (g : GlobalVar). record { live = true; constant = g.constant; size = (shape_of base.types g.ty).size; cells = fold-Init (Ty → List Cell) Part at (element_at base) g.init g.ty }) base.globals) same

  pub data_same : (plan : Plan) → data_bytes m plan ≡ data_bytes base plan
  data_same plan = ap (contents_of plan) first_same

-- a move is no phi
move_is : (x : MoveOp) → keeps_moves x ≡ true → not (is_phi (op_of x)) ≡ true
move_is (Keep op) h = kept op h
  where
    kept : (op : Op) → is_kept op ≡ true → not (is_phi op) ≡ true
    kept (Bin op ty a b) e = refl
    kept (Compare pred ty a b) e = refl
    kept (Cast op from a to) e = refl
    kept (Select condition ty a ty2 b) e = refl
    kept (Freeze ty a) e = refl
    kept (Alloca ty count) e = refl
    kept (Load ty q) e = refl
    kept (Store ty a q) e = refl
    kept (Gep ty a indices) e = refl
    kept (Call ret callee args) e = refl
    kept (Phi ty entries) e = absurd cc
move_is (Copy ty a) h = refl

moves_are : (xs : List Move) → list_all (λ (x : Move). keeps_moves x.op) xs ≡ true → no_phi (map inst_of xs) ≡ true
moves_are [] h = refl
moves_are (x ∷ xs) h =
    let p = and_parts (keeps_moves x.op) (list_all (λ (y : Move). keeps_moves y.op) xs) h in
    and_from (not (is_phi (op_of x.op))) (no_phi (map inst_of xs)) (move_is x.op p.0) (moves_are xs p.1)

chunks_are : (cs : List Chunk) → list_all (λ (c : Chunk). list_all (λ (x : Move). keeps_moves x.op) c.moves) cs ≡ true → list_all (λ (b : Block). no_phi b.insts) (map block_of cs) ≡ true
chunks_are [] h = refl
chunks_are (c ∷ cs) h =
    let p = and_parts (list_all (λ (x : Move). keeps_moves x.op) c.moves) (list_all (λ (d : Chunk). list_all (λ (x : Move). keeps_moves x.op) d.moves) cs) h in
    and_from (no_phi (map inst_of c.moves)) (list_all (λ (b : Block). no_phi b.insts) (map block_of cs)) (moves_are c.moves p.0) (chunks_are cs p.1)

ends_are : (cs : List Chunk) → list_all (λ (c : Chunk). is_lean_end c.end) cs ≡ true → list_all (λ (b : Block). is_lean_end b.end) (map block_of cs) ≡ true
ends_are [] h = refl
ends_are (c ∷ cs) h =
    let p = and_parts (is_lean_end c.end) (list_all (λ (d : Chunk). is_lean_end d.end) cs) h in
    and_from (is_lean_end c.end) (list_all (λ (b : Block). is_lean_end b.end) (map block_of cs)) p.0 (ends_are cs p.1)

bodies_are : (fs : List Function) (bodies : List Body) → All IsBody bodies → All (λ (b : Body). list_all (λ (c : Chunk). is_lean_end c.end) b.chunks ≡ true) bodies → Each IsMoves (with_bodies fs bodies)
bodies_are [] bodies made lean = tt
bodies_are (f ∷ fs) [] made lean = tt
bodies_are (f ∷ fs) (b ∷ bs) made lean =
    let h = All-head IsBody b bs made in
    let long = length_map block_of b.chunks in
    let some = h.0 in (
      record {
        some_block = omega (arith, long, some);
        no_phis = chunks_are b.chunks h.1;
        no_switches = ends_are b.chunks (All-head (λ (c : Body). list_all (λ (d : Chunk). is_lean_end d.end) c.chunks ≡ true) b bs lean);
      },
      bodies_are fs bs (All-tail IsBody b bs made) (All-tail (λ (c : Body). list_all (λ (d : Chunk). is_lean_end d.end) c.chunks ≡ true) b bs lean),
    )

module _ (lean : Lean) (is_lean : IsLean lean) where
  abbrev base : Module
  base = lean.base.now

  abbrev program : Module
  program = plain base lean.bodies

  moves : Each IsMoves program.functions
  moves = bodies_are base.functions lean.bodies is_lean.shaped.made_of_moves is_lean.no_switch

  typed : IsTyped program
  typed = shaped_typed lean_own program is_lean.shaped.shaped moves

  premises : (plan : Plan) → IsSel (module_selected program) → PlanFits (module_selected program) (data_bytes program plan) plan → Premises program plan (data_bytes program plan)
  premises plan sel fits = record {
    shaped = is_lean.shaped.shaped;
    moves = moves;
    typed = typed;
    selected = sel;
    fits = fits;
    setting = setting_fits (module_selected program) plan (first_objects program) fits (are_first program typed (fine lean_own program is_lean.shaped.shaped)) sel.told;
    globals = length_map (content_of (addresses_of plan)) (first_objects program) ∙ length_map (global_object program) program.globals;
  }

  pub keeps : IsSel (selected base lean.bodies) → (plan : Plan) → PlanFits (selected base lean.bodies) (data_bytes base plan) plan → Preserves (moves_run base lean.bodies) (sel_run (selected base lean.bodies) plan (data_bytes base plan))
  unfolding selected
  keeps sel plan fits =
      let same = data_same base lean.bodies is_lean.shaped.one_each plan in
      subst (λ cs. Preserves (moves_run base lean.bodies) (sel_run (module_selected program) plan cs)) same
      (selection_keeps program plan (premises plan sel (subst (λ cs. PlanFits (module_selected program) cs plan) (sym same) fits)) (fine lean_own program is_lean.shaped.shaped))

  pub keeps_within : IsSel (selected base lean.bodies) → (plan : Plan) → PlanFits (selected base lean.bodies) (data_bytes base plan) plan →
      ReachesWithin 0 (longest (selected base lean.bodies)) (moves_run base lean.bodies) (sel_run (selected base lean.bodies) plan (data_bytes base plan))
  unfolding selected
  keeps_within sel plan fits =
      let same = data_same base lean.bodies is_lean.shaped.one_each plan in
      subst (λ cs. ReachesWithin 0 (longest (module_selected program)) (moves_run base lean.bodies) (sel_run (module_selected program) plan cs)) same
      (selection_keeps_within program plan (premises plan sel (subst (λ cs. PlanFits (module_selected program) cs plan) (sym same) fits)) (fine lean_own program is_lean.shaped.shaped))
