-- A module without phis means what the module means.
use Rattle.std.proofs.Common.{◌≡◌, ℕ, suc, ◌+◌, ◌*◌, true, List, [], ◌∷◌, map, length, Option, Some, None, refl, ap, sym, ◌∙◌, subst, inl, inr, ◌⊎◌, arith}
use Rattle.std.specs.Prelude.{◌&&◌, slice_get, option_map, codes, if◌then◌else◌, not}
use Rattle.std.specs.List.{list_all, flat_map}
use Rattle.std.proofs.lemmas.Bool.{and_parts}
use Rattle.std.proofs.Math.Path.{fun_ext}
use Rattle.behavior.specs.Ending.{Going, is_left}
use Rattle.behavior.specs.Moment.{Agrees}
use Rattle.behavior.specs.Preserves.{Preserves, ReachesWithin}
use Rattle.behavior.specs.Simulation.{Comes, Follows, Starts, Spots}
use Rattle.behavior.proofs.Laws.{agrees_refl, going_is}
use Rattle.behavior.proofs.Stretch.{comes_none, comes_step, comes_wider, met_by, starts_by, spots_follow}
use Rattle.ir_core.specs.declared.ty.Ty.{Ty}
use Rattle.ir_core.specs.declared.init.Init.{fold-Init}
use Rattle.ir_core.specs.declared.init.Init.TheOpen.{Init-F}
use Rattle.ir_core.specs.declared.operand.Operand.{Operand}
use Rattle.ir_core.specs.declared.operand.Operand.TheVariants.{Local as LocalName, Global}
use Rattle.ir_core.specs.declared.instruction.Inst.{Inst}
use Rattle.ir_core.specs.declared.instruction.Op.{Op}
use Rattle.ir_core.specs.declared.instruction.Op.TheVariants.{Phi}
use Rattle.ir_core.specs.declared.module.Block.{Block}
use Rattle.ir_core.specs.declared.module.Function.{Function}
use Rattle.ir_core.specs.declared.module.GlobalVar.{GlobalVar}
use Rattle.ir_core.specs.declared.module.Module.{Module}
use Rattle.ir_core.specs.declared.memory.Cell.{Cell}
use Rattle.ir_core.specs.Names.{same_name, number_where}
use Rattle.ir_core.specs.declared.kind.Kind.{Kind}
use Rattle.ir_core.specs.Kinds.{kind_of}
use Rattle.ir_core.specs.Shapes.{shape_of}
use Rattle.ir_core.specs.Globals.{Part, cells_or_zeros, init_at, element_at, first_objects}
use Rattle.ir_core.specs.State.{Frame, State, source_moment, turned}
use Rattle.ir_core.specs.Operands.{value_of, named_value, global_number, function_number}
use Rattle.ir_core.specs.Calls.{first_frame}
use Rattle.ir_core.specs.Step.{instruction_turn, terminator_turn, turn_of, source_step}
use Rattle.ir_core.specs.Run.{first_arguments, standing, start_in, start_at, source_start, source_run}
use Rattle.ir_core.specs.Built.{name_built, inst_built, op_built, result_named, end_built, block_built, blocks_built, function_built, param_built, result_built, built_all, IsBuilt, named_built, global_built, extern_built}
use Rattle.ir_core.specs.Valid.{leads_to, is_phi}
use Rattle.ir_core.proofs.Laws.{source_system, source_gradual, source_run-system, module_simulates, module_simulates_within}
use Rattle.ir_core.proofs.Steps.{step_going, step_here}
use Rattle.ir_sound.specs.Typed.{IsTyped, entry_typed, no_phi, functions_typed}
use Rattle.ir_sound.proofs.SameLaws.{not_true}
use Rattle.ir_sound.proofs.RowLaws.{all_at, all_from}
use Rattle.ir_sound.proofs.Parts.{function_at}
use Rattle.low_core.specs.Plain.{block_of, with_bodies, plain, moves_run}
use Rattle.phi_lower.specs.Lowered.{phis_of, phis_with, chunk_of_block, chunks_of_block, body_of, bodies_without_phis}
use Rattle.phi_lower.specs.Bound.{most_phis, most_steps}
use Rattle.phi_lower.proofs.Same.{NamesAgree, with_functions, all_built}
use Rattle.phi_lower.proofs.Turns.{lowered, without_phis, IsBeside, AreBeside, with_frames, as_many, EntersBeside, lowered_at, instruction_beside}
use Rattle.phi_lower.proofs.Runs.{slice_drop}
use Rattle.phi_lower.proofs.EdgeLaws.{chunk_insts}
use Rattle.phi_lower.proofs.EndLaws.{IsMet, turned_met, end_met}

-- functions keep their names
names_kept : (fs : List Function) (name : List ℕ) → number_where (λ (f : Function). same_name f.name name) (map lowered fs) ≡ number_where (λ (f : Function). same_name f.name name) fs
names_kept [] name = refl
names_kept (f ∷ fs) name = ap (λ o. if same_name f.name name then Some 0 else option_map (λ n. suc n) o) (names_kept fs name)

pub agreed : (m : Module) → NamesAgree m (map lowered m.functions)
agreed m name = names_kept m.functions name

-- the parts of a built function
built_blocks : (f : Function) → function_built f ≡ true → list_all block_built f.blocks ≡ true
built_blocks f built =
    let p = and_parts (name_built f.name && result_built f.ret) (built_all param_built f.params && blocks_built f.blocks) built in
    of_blocks f.blocks (and_parts (built_all param_built f.params) (blocks_built f.blocks) p.1).1
  where
    of_blocks : (bs : List Block) → blocks_built bs ≡ true → list_all block_built bs ≡ true
    of_blocks [] e = refl
    of_blocks (b ∷ bs) e = all_built block_built (b ∷ bs) e

built_labels : (f : Function) → function_built f ≡ true → list_all (λ (b : Block). name_built b.label) f.blocks ≡ true
built_labels f built = all_from (λ (b : Block). name_built b.label) f.blocks (λ k b at. (and_parts (name_built b.label) (built_all inst_built b.insts && end_built b.end) (all_at block_built f.blocks k b (built_blocks f built) at)).0)

built_insts : (f : Function) → function_built f ≡ true → (k : ℕ) (b : Block) → slice_get f.blocks k ≡ Some b → list_all inst_built b.insts ≡ true
built_insts f built k b at = all_built inst_built b.insts (and_parts (built_all inst_built b.insts) (end_built b.end) (and_parts (name_built b.label) (built_all inst_built b.insts && end_built b.end) (all_at block_built f.blocks k b (built_blocks f built) at)).1).0

built_end : (f : Function) → function_built f ≡ true → (k : ℕ) (b : Block) → slice_get f.blocks k ≡ Some b → end_built b.end ≡ true
built_end f built k b at = (and_parts (built_all inst_built b.insts) (end_built b.end) (and_parts (name_built b.label) (built_all inst_built b.insts && end_built b.end) (all_at block_built f.blocks k b (built_blocks f built) at)).1).1

-- an entry block has no phis
none_first : (is : List Inst) → no_phi is ≡ true → phis_of is ≡ []
none_first [] e = refl
none_first (i ∷ is) e = by_op i.op (and_parts (not (is_phi i.op)) (no_phi is) e).0
  where
    by_op : (op : Op) → not (is_phi op) ≡ true → phis_with i.result op (phis_of is) ≡ []
    by_op (Phi ty entries) f = not_true f
    by_op op f = refl

-- a call begins in the first block on both sides
module _ (m : Module) (typed : functions_typed m m.functions ≡ true) where
  pub enters : EntersBeside m
  enters number fn values into at = of_blocks fn.blocks refl (function_at m number fn typed at).entry
    where
      of_blocks : (bs : List Block) → fn.blocks ≡ bs → entry_typed bs ≡ true → IsBeside m (first_frame number fn values into) (first_frame number (lowered fn) values into)
      of_blocks [] e entry = not_true entry
      of_blocks (b ∷ bs) e entry = record {
        fn = fn;
        block = b;
        in_module = at;
        in_function = ap (λ l. slice_get l 0) e;
        in_lowered = ap (λ l. slice_get (map block_of (flat_map (chunks_of_block fn.blocks) l)) 0) e;
        function = refl;
        next = let none = ap length (none_first b.insts (and_parts (list_all (λ (p : Block). not (leads_to b.label p)) (b ∷ bs)) (no_phi b.insts) entry).1) in omega arith;
        locals = λ name nb. refl;
        objects = refl;
        into = refl;
      }

-- globals begin with the same objects
value_first : (m : Module) (kind : Kind) (a : Operand) → value_of (without_phis m) [] kind a ≡ value_of m [] kind a
value_first m kind (LocalName name) = refl
value_first m kind (Global name) = ap (named_value (global_number m name)) (agreed m name)
value_first m kind a = refl

init_same : (m : Module) (z : Init-F (Ty → List Cell) Part) (ty : Ty) → init_at (without_phis m) z ty ≡ init_at m z ty
init_same m (Init-F.Value v) ty = ap (cells_or_zeros (shape_of m.types ty).size) (value_first m (kind_of ty) v)
init_same m z ty = refl

first_same : (m : Module) → first_objects (without_phis m) ≡ first_objects m
first_same m =
    let same : init_at (without_phis m) ≡ init_at m = fun_ext (λ z. fun_ext (λ ty. init_same m z ty)) in
    ap (λ at. map (λ (g : GlobalVar). record { live = true; constant = g.constant; size = (shape_of m.types g.ty).size; cells = fold-Init (Ty → List Cell) Part at (element_at m) g.init g.ty }) m.globals) same

module _ (m : Module) (input : List ℕ) (built : list_all function_built m.functions ≡ true) (typed : functions_typed m m.functions ≡ true) where
  abbrev pub w : Module
  w = without_phis m

  -- a step of the module, met
  abbrev pub StepMet : State → List Frame → Type 0
  StepMet s gs = is_left (source_step m input s).ending ≡ true ⊎ ((frames : List Frame) × (Comes (source_step w input) 1 (most_steps m) (with_frames s gs) (with_frames (source_step m input s) frames)) × (AreBeside m (source_step m input s).frames frames))

  -- from what the first step of both makes
  by_turns : (s : State) (gs : List Frame) (a b : State) → source_step m input s ≡ a → source_step w input (with_frames s gs) ≡ b → is_left a.ending ≡ true ⊎ IsMet m input a b → StepMet s gs
  by_turns s gs a b first second (inl l) = inl (ap (λ (t : State). is_left t.ending) first ∙ l)
  by_turns s gs a b first second (inr x) = inr (
    x.frames,
    comes_wider (source_step w input) 1 (suc (1 + 2 * most_phis m)) 1 (most_steps m) _ _ (omega arith) (omega arith)
        (comes_step (source_step w input) 0 (1 + 2 * most_phis m) (with_frames s gs) b (with_frames (source_step m input s) x.frames) second (subst (λ t. Comes (source_step w input) 0 (1 + 2 * most_phis m) b (with_frames t x.frames)) (sym first) x.comes)),
    subst (λ (t : State). AreBeside m t.frames x.frames) (sym first) x.beside,
  )

  step_met : (s : State) (gs : List Frame) → AreBeside m s.frames gs → s.ending ≡ Going → StepMet s gs
  step_met s gs all going = of_frames s.frames gs refl all
    where
      of_frames : (fs gs2 : List Frame) → s.frames ≡ fs → AreBeside m fs gs2 → StepMet s gs2
      of_frames [] [] e beside = inl (ap (λ (t : State). is_left t.ending) (step_going m input s going ∙ ap (λ fs. turned s (turn_of m input s fs)) e))
      of_frames [] (g ∷ gs2) e beside = absurd beside
      of_frames (f ∷ fs) [] e beside = absurd beside
      of_frames (f ∷ fs) (g ∷ gs2) e beside = of_next (slice_get x.block.insts f.next) refl
        where
          x : IsBeside m f g
          x = beside.0

          fine : function_built x.fn ≡ true
          fine = all_at function_built m.functions f.function x.fn built x.in_module

          whole : AreBeside m s.frames (g ∷ gs2)
          whole = subst (λ l. AreBeside m l (g ∷ gs2)) (sym e) beside

          in_lowered : slice_get w.functions g.function ≡ Some (lowered x.fn)
          in_lowered = ap (slice_get w.functions) x.function ∙ lowered_at m m.functions f.function ∙ ap (option_map lowered) x.in_module

          same_place : slice_get (block_of (chunk_of_block x.fn.blocks x.block)).insts g.next ≡ slice_get x.block.insts f.next
          same_place = ap (λ l. slice_get l g.next) (chunk_insts x.fn.blocks x.block) ∙ slice_drop (length (phis_of x.block.insts)) g.next x.block.insts ∙ ap (slice_get x.block.insts) (sym x.next)

          of_next : (o : Option Inst) → slice_get x.block.insts f.next ≡ o → StepMet s (g ∷ gs2)
          of_next (Some i) at =
              by_turns s (g ∷ gs2) (turned s (instruction_turn m input s f fs i.result i.op)) (turned (with_frames s (g ∷ gs2)) (instruction_turn w input (with_frames s (g ∷ gs2)) g gs2 i.result i.op))
              (step_here m input s f fs x.fn x.block (Some i) going e (record { in_module = x.in_module; in_function = x.in_function; in_block = at }))
              (step_here w input (with_frames s (g ∷ gs2)) g gs2 (lowered x.fn) (block_of (chunk_of_block x.fn.blocks x.block)) (Some i) going refl (record { in_module = in_lowered; in_function = x.in_lowered; in_block = same_place ∙ at }))
              (inr (turned_met m input s (g ∷ gs2) _ _ whole (instruction_beside m (enters m typed) (agreed m) input s f g fs gs2 (g ∷ gs2) i.result i.op x beside.1 (sym (as_many m s.frames (g ∷ gs2) whole)) (and_parts (op_built i.op) (result_named i.op i.result) (all_at inst_built x.block.insts f.next i (built_insts x.fn fine f.block x.block x.in_function) at)).0)))
          of_next None at =
              by_turns s (g ∷ gs2) (turned s (terminator_turn m s f fs x.fn x.block.label x.block.end)) (turned (with_frames s (g ∷ gs2)) (terminator_turn w (with_frames s (g ∷ gs2)) g gs2 (lowered x.fn) x.block.label (block_of (chunk_of_block x.fn.blocks x.block)).end))
              (step_here m input s f fs x.fn x.block None going e (record { in_module = x.in_module; in_function = x.in_function; in_block = at }))
              (step_here w input (with_frames s (g ∷ gs2)) g gs2 (lowered x.fn) (block_of (chunk_of_block x.fn.blocks x.block)) None going refl (record { in_module = in_lowered; in_function = x.in_lowered; in_block = same_place ∙ at }))
              (end_met m input (agreed m) s f g fs gs2 x beside.1 whole (built_insts x.fn fine) (built_labels x.fn fine) in_lowered x.block.end refl (built_end x.fn fine f.block x.block x.in_function))

  -- the calls of the module without phis
  abbrev pub Rest : State → Type 0
  Rest a = (gs : List Frame) × (AreBeside m a.frames gs)

  abbrev pub spot : (a : State) → Rest a → State
  spot a rest = with_frames a rest.0

  pub follows : Follows (source_system m input) (source_system w input) (Spots Rest spot) (λ _. 0) (most_steps m)
  follows = spots_follow (source_system m input) (source_system w input) Rest spot (λ _. 0) (most_steps m) (source_gradual m input)
      (λ a rest. agrees_refl (source_moment a))
      (λ a rest goes. elim (step_met a rest.0 rest.1 (going_is a.ending goes)) [
        | inl l ↦ inl l
        | inr x ↦ inr (met_by (source_system m input) (source_system w input) (Spots Rest spot) (λ _. 0) (most_steps m) a (source_step m input a) (with_frames a rest.0) (with_frames (source_step m input a) x.0) x.1 (inl ((x.0, x.2), refl)))
      ])

  -- the start of a run
  abbrev pub Begins : State → State → Type 0
  Begins a b = (gs : List Frame) × (b ≡ with_frames a gs) × (AreBeside m a.frames gs)

  begin_in : (number : ℕ) (o : Option Function) → slice_get m.functions number ≡ o → Begins (start_in m number o) (start_in w number (option_map lowered o))
  begin_in number (Some f) at = (
    first_frame number (lowered f) first_arguments None ∷ [],
    ap (λ objects. standing objects (first_frame number (lowered f) first_arguments None ∷ []) Going) (first_same m),
    (enters m typed number f first_arguments None at, tt),
  )
  begin_in number None at = ([], refl, tt)

  begin_at : (o : Option ℕ) → Begins (start_at m o) (start_at w o)
  begin_at (Some number) = subst (λ f. Begins (start_at m (Some number)) (start_in w number f)) (sym (lowered_at m m.functions number)) (begin_in number (slice_get m.functions number) refl)
  begin_at None = ([], refl, tt)

  pub begins : Begins (source_start m) (source_start w)
  unfolding source_start
  begins = subst (λ o. Begins (start_at m (function_number m (codes "main"))) (start_at w o)) (sym (agreed m (codes "main"))) (begin_at (function_number m (codes "main")))

  pub starts : Starts (source_system m input) (source_system w input) (Spots Rest spot) 0 (source_start m) (source_start w)
  starts =
      let b = begins in
      starts_by (source_system m input) (source_system w input) (Spots Rest spot) (λ _. 0) (most_steps m) 0 (source_start m) (source_start w) (source_start w)
      (subst (λ t. Agrees (source_moment (source_start m)) (source_moment t)) (sym b.1) (agrees_refl (source_moment (source_start m))))
      (comes_none (source_step w input) (source_start w) (source_start w) refl) (inl ((b.0, b.2), b.1))

-- the module for which the bodies stand
bodies_are : (fs : List Function) → with_bodies fs (map body_of fs) ≡ map lowered fs
bodies_are [] = refl
bodies_are (f ∷ fs) = ap (λ l. lowered f ∷ l) (bodies_are fs)

pub plain_is : (m : Module) → plain m (bodies_without_phis m) ≡ without_phis m
plain_is m = ap (with_functions m) (bodies_are m.functions)

-- both ways, for a module that is built and typed
keeps : (m : Module) → list_all function_built m.functions ≡ true → functions_typed m m.functions ≡ true → Preserves (source_run m) (source_run (without_phis m))
keeps m built typed =
    let w = without_phis m in
    subst (Preserves (source_run m)) (sym (source_run-system w))
    (module_simulates m (source_system w) (λ _. source_start w) (λ input. Spots (Rest m input built typed) (spot m input built typed)) (λ _ _. 0) 0 (most_steps m) (λ input _. follows m input built typed) (λ input _. starts m input built typed))

within : (m : Module) → list_all function_built m.functions ≡ true → functions_typed m m.functions ≡ true → ReachesWithin 0 (most_steps m) (source_run m) (source_run (without_phis m))
within m built typed =
    let w = without_phis m in
    subst (ReachesWithin 0 (most_steps m) (source_run m)) (sym (source_run-system w))
    (module_simulates_within m (source_system w) (λ _. source_start w) (λ input. Spots (Rest m input built typed) (spot m input built typed)) (λ _ _. 0) 0 (most_steps m) (λ input _. follows m input built typed) (λ input _. starts m input built typed))

-- the functions of a built module
functions_built : (m : Module) → IsBuilt m → list_all function_built m.functions ≡ true
functions_built m built =
    let p = and_parts (built_all named_built m.types && built_all global_built m.globals) (built_all extern_built m.externs && built_all function_built m.functions) built in
    all_built function_built m.functions (and_parts (built_all extern_built m.externs) (built_all function_built m.functions) p.1).1

pub phis_gone : (m : Module) → IsBuilt m → IsTyped m → Preserves (source_run m) (moves_run m (bodies_without_phis m))
phis_gone m built typed = subst (λ p. Preserves (source_run m) (source_run p)) (sym (plain_is m)) (keeps m (functions_built m built) typed.functions)

pub phis_gone_within : (m : Module) → IsBuilt m → IsTyped m → ReachesWithin 0 (most_steps m) (source_run m) (moves_run m (bodies_without_phis m))
phis_gone_within m built typed = subst (λ p. ReachesWithin 0 (most_steps m) (source_run m) (source_run p)) (sym (plain_is m)) (within m (functions_built m built) typed.functions)
