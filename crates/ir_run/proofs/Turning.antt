-- What a program does next is what the meaning of its module says.
use Rattle.std.proofs.Common.{◌≡◌, ◌≤◌, ℕ, suc, ◌*◌, List, [], ◌∷◌, Option, Some, None, Ok, Err, length, map, slice_get, refl, ap, sym, ◌∙◌, subst, inl}
use Rattle.std.specs.Prelude.{option_map}
use Rattle.rd_num.specs.declared.width.Width.{Width}
use Rattle.ir_core.specs.declared.instruction.Arg.{Arg}
use Rattle.ir_core.specs.declared.instruction.Inst.{Inst}
use Rattle.ir_core.specs.declared.instruction.Op.{Op}
use Rattle.ir_core.specs.declared.instruction.Op.TheVariants.{Bin, Compare, Cast, Select, Freeze, Alloca, Load, Store, Gep, Phi, Call}
use Rattle.ir_core.specs.declared.operand.Operand.{Operand}
use Rattle.ir_core.specs.declared.module.Block.{Block}
use Rattle.ir_core.specs.declared.module.Function.{Function}
use Rattle.ir_core.specs.declared.module.Module.{Module}
use Rattle.ir_core.specs.declared.memory.Value.{Value}
use Rattle.ir_core.specs.declared.memory.Value.TheVariants.{Num}
use Rattle.ir_core.specs.declared.ty.Ty.{Ty}
use Rattle.ir_core.specs.Stops.{Answer, and_then, found_or, Malformed}
use Rattle.ir_core.specs.declared.kind.Kind.TheVariants.{Pointer}
use Rattle.ir_core.specs.Counts.{told}
use Rattle.ir_core.specs.Shapes.{shape_of}
use Rattle.ir_core.specs.Kinds.{kind_of}
use Rattle.ir_core.specs.State as model
use Rattle.ir_core.specs.Operands.{values_of, value_of}
use Rattle.ir_core.specs.declared.outer.Outer.TheVariants.{Memset}
use Rattle.ir_core.specs.Calls.{Target, target_of, call_turn}
use Rattle.ir_core.specs.Calls as target
use Rattle.ir_core.specs.Step.{past, choices_of, result_of, instruction_turn, turn_at, turn_of}
use Rattle.ir_core.specs.Step as step
use Rattle.ir_context.specs.declared.origin.Origin.{Origin}
use Rattle.ir_context.specs.declared.path.Path.{Path}
use Rattle.ir_program.specs.declared.program.Program.{Program}
use Rattle.ir_program.specs.Reads.{argument_values}
use Rattle.ir_context.specs.Extents.{extent_of}
use Rattle.ir_context.specs.Paths.{path_of}
use Rattle.ir_context.specs.Origins.{origin_of, arg_origin}
use Rattle.ir_program.specs.Actions.{into_of, argument_of, move_by, action_of, task_of}
use Rattle.ir_program.specs.Programs.{register_names, stretch_of, body_of, program_of}
use Rattle.ir_run.specs.declared.state.State.{State}
use Rattle.ir_run.specs.Turns.{passed, kinds_in, action_value, value_turn, target_turn, action_turn, task_turn, next_turn}
use Rattle.ir_run.specs.Standing.{names_of, names_at, FrameStands, IntoStands, Waiting, CallsStand, StandsFor, FillsWide, Meets}
use Rattle.ir_run.specs.Agreement.{ActsAs, CallsAs, BlockAgrees, Agrees}
use Rattle.ir_run.proofs.Acts.{value_meets, store_meets, alloca_meets}
use Rattle.ir_run.proofs.Calls.{got_mapped, outer_meets, enter_meets}
use Rattle.ir_run.proofs.Ends.{end_meets}

-- the kinds of arguments are those of the call
kinds_are : (m : Module) (names : List (List ℕ)) (arguments : List Arg) → kinds_in (map (argument_of m names) arguments) ≡ map (λ (a : Arg). kind_of a.ty) arguments
kinds_are m names [] = refl
kinds_are m names (a ∷ as') = ap (λ ks. kind_of a.ty ∷ ks) (kinds_are m names as')

-- as many values as arguments
values_many : (m : Module) (locals : List model.Local) (arguments : List Arg) (vs : List Value) → values_of m locals arguments ≡ Ok vs → length vs ≡ length arguments
values_many m locals [] vs e = let same : [] ≡ vs = cc in ap length (sym same)
values_many m locals (a ∷ as') vs e = by (value_of m locals (kind_of a.ty) a.value) (values_of m locals as') (values_many m locals as') e
  where
    by : (x : Answer Value) (y : Answer (List Value)) → ((ws : List Value) → y ≡ Ok ws → length ws ≡ length as') → and_then x (λ v. and_then y (λ ws. Ok (v ∷ ws))) ≡ Ok vs → length vs ≡ suc (length as')
    by (Ok v) (Ok ws) go e = let same : v ∷ ws ≡ vs = cc in ap length (sym same) ∙ ap (λ n. suc n) (go ws refl)
    by (Ok v) (Err b) go e = absurd (cc)
    by (Err a) y go e = absurd (cc)

kinds_many : (arguments : List Arg) → length arguments ≡ length (map (λ (a : Arg). kind_of a.ty) arguments)
kinds_many [] = refl
kinds_many (a ∷ as') = ap (λ n. suc n) (kinds_many as')

-- a pointer that moves gives a value
moving_gives : (p : Program) (s : State) (into : Option ℕ) (base : Origin) (path : Option Path) → value_turn s into (move_by base path) ≡ action_turn p s into (move_by base path)
moving_gives p s into base (Some path) = refl
moving_gives p s into base None = refl

module _ (m : Module) (input : List ℕ) (s : model.State) (st : State) (g : model.Frame) (gs : List model.Frame) (are : s.frames ≡ g ∷ gs)
    (inner : FrameStands m st.frame g) (waiting : Waiting m st.frame.into g.into st.callers gs) (objects : st.memory ≡ s.objects)
    (fn : Function) (b : Block) (in_function : slice_get m.functions g.function ≡ Some fn) (in_block : slice_get fn.blocks g.block ≡ Some b) where
  -- an instruction that gives a value
  gives_meets : (into : Option ℕ) (name : Option (List ℕ)) (op : Op) → IntoStands (names_at m g.function) into name
      → action_value s.objects st.frame.registers (action_of m (names_at m g.function) op) ≡ result_of m s.objects g.locals op
      → Meets m s.frames (slice_get input s.taken) (value_turn (passed st) into (action_of m (names_at m g.function) op)) (and_then (result_of m s.objects g.locals op) (λ v. step.gives s g gs name v))
  gives_meets into name op is e =
      value_meets m s.frames (slice_get input s.taken) s st g gs inner waiting objects into name
      (action_value st.memory st.frame.registers (action_of m (names_at m g.function) op)) (result_of m s.objects g.locals op) is
      (ap (λ o. action_value o st.frame.registers (action_of m (names_at m g.function) op)) objects ∙ e)

  -- a call
  module _ (into : Option ℕ) (inst : Inst) (at : slice_get b.insts g.next ≡ Some inst) (is : IntoStands (names_at m g.function) into inst.result)
      (ret : Ty) (callee : Operand) (arguments : List Arg) (calls : inst.op ≡ Call ret callee arguments) where
    target_meets : (t : Target) (values : List Value) → target_of m g.locals callee ≡ Ok t → values_of m g.locals arguments ≡ Ok values
        → Meets m s.frames (slice_get input s.taken) (target_turn (program_of m) (passed st) (kind_of ret) (map (λ (a : Arg). kind_of a.ty) arguments) values into t)
        (call_turn m input s (past g ∷ gs) (kind_of ret) (map (λ (a : Arg). kind_of a.ty) arguments) values inst.result t)
    target_meets (target.Outside outer) values e f = outer_meets m s.frames input s st g gs inner waiting objects into inst.result outer values is wide
      where
        wide : (to : Value) (v w : Width) (byte count : ℕ) (volatile : Value) → outer ≡ Memset → values ≡ to ∷ Num v byte ∷ Num w count ∷ volatile ∷ [] → 256 ≤ byte → FillsWide m s.frames
        wide to v w byte count volatile fills given large = record {
          frame = g;
          callers = gs;
          function = fn;
          block = b;
          inst = inst;
          are = are;
          in_function = in_function;
          in_block = in_block;
          at = at;
          ret = ret;
          callee = callee;
          arguments = arguments;
          calls = calls;
          target = e ∙ ap (λ o. Ok (target.Outside o)) fills;
          to = to;
          width = v;
          byte = byte;
          width2 = w;
          count = count;
          volatile = volatile;
          values = f ∙ ap Ok given;
          wide = large;
        }
    target_meets (target.Inside v) values e f =
        enter_meets m s.frames input s st g gs inner waiting objects into inst.result (kind_of ret) (map (λ (a : Arg). kind_of a.ty) arguments) values v is
        (values_many m g.locals arguments values f ∙ kinds_many arguments) are

    pub call_meets : CallsAs m (names_at m g.function) callee arguments
        → Meets m s.frames (slice_get input s.taken) (action_turn (program_of m) (passed st) into (action_of m (names_at m g.function) (Call ret callee arguments)))
        (instruction_turn m input s g gs inst.result (Call ret callee arguments))
    call_meets reads =
        subst (λ t. Meets m s.frames (slice_get input s.taken)
        (and_then t (λ t. and_then (argument_values st.frame.registers (map (argument_of m (names_at m g.function)) arguments)) (λ values.
        target_turn (program_of m) (passed st) (kind_of ret) (kinds_in (map (argument_of m (names_at m g.function)) arguments)) values into t)))
        (instruction_turn m input s g gs inst.result (Call ret callee arguments))) (sym (reads.target st.frame.registers g.locals inner.registers))
        (subst (λ a. Meets m s.frames (slice_get input s.taken)
        (and_then (target_of m g.locals callee) (λ t. and_then a (λ values.
        target_turn (program_of m) (passed st) (kind_of ret) (kinds_in (map (argument_of m (names_at m g.function)) arguments)) values into t)))
        (instruction_turn m input s g gs inst.result (Call ret callee arguments))) (sym (reads.values st.frame.registers g.locals inner.registers))
        (subst (λ ks. Meets m s.frames (slice_get input s.taken)
        (and_then (target_of m g.locals callee) (λ t. and_then (values_of m g.locals arguments) (λ values. target_turn (program_of m) (passed st) (kind_of ret) ks values into t)))
        (instruction_turn m input s g gs inst.result (Call ret callee arguments))) (sym (kinds_are m (names_at m g.function) arguments))
        (by (target_of m g.locals callee) (values_of m g.locals arguments) refl refl)))
      where
        by : (x : Answer Target) (y : Answer (List Value)) → target_of m g.locals callee ≡ x → values_of m g.locals arguments ≡ y
            → Meets m s.frames (slice_get input s.taken)
            (and_then x (λ t. and_then y (λ values. target_turn (program_of m) (passed st) (kind_of ret) (map (λ (a : Arg). kind_of a.ty) arguments) values into t)))
            (and_then x (λ t. and_then y (λ values. call_turn m input s (past g ∷ gs) (kind_of ret) (map (λ (a : Arg). kind_of a.ty) arguments) values inst.result t)))
        by (Ok t) (Ok values) e f = target_meets t values e f
        by (Ok t) (Err stop) e f = inl refl
        by (Err stop) y e f = inl refl

  -- an instruction
  op_meets : (inst : Inst) (op : Op) → slice_get b.insts g.next ≡ Some inst → inst.op ≡ op → IntoStands (names_at m g.function) (into_of (names_at m g.function) inst.result) inst.result
      → ActsAs m (names_at m g.function) op
      → Meets m s.frames (slice_get input s.taken) (action_turn (program_of m) (passed st) (into_of (names_at m g.function) inst.result) (action_of m (names_at m g.function) op)) (instruction_turn m input s g gs inst.result op)
  op_meets inst (Alloca ty count) at e is acts = alloca_meets m s.frames (slice_get input s.taken) s st g gs inner waiting objects (into_of (names_at m g.function) inst.result) inst.result
      (told (count * (extent_of m.types ty).size)) (count * (shape_of m.types ty).size) is acts
  op_meets inst (Store ty a p) at e is acts =
      store_meets m s.frames (slice_get input s.taken) s st g gs inner waiting objects
      (origin_of m (names_at m g.function) (kind_of ty) a) (origin_of m (names_at m g.function) Pointer p) (value_of m g.locals (kind_of ty) a) (value_of m g.locals Pointer p) (acts.0 st.frame.registers g.locals inner.registers) (acts.1 st.frame.registers g.locals inner.registers)
  op_meets inst (Call ret callee arguments) at e is acts = call_meets (into_of (names_at m g.function) inst.result) inst at is ret callee arguments e acts
  op_meets inst (Gep ty p indices) at e is acts =
      subst (λ t. Meets m s.frames (slice_get input s.taken) t (instruction_turn m input s g gs inst.result (Gep ty p indices))) (moving_gives (program_of m) (passed st) (into_of (names_at m g.function) inst.result) (origin_of m (names_at m g.function) Pointer p) (path_of m.types ty (map (arg_origin m (names_at m g.function)) indices)))
      (gives_meets (into_of (names_at m g.function) inst.result) inst.result (Gep ty p indices) is (acts s.objects st.frame.registers g.locals inner.registers))
  op_meets inst (Bin o ty a c) at e is acts = gives_meets (into_of (names_at m g.function) inst.result) inst.result (Bin o ty a c) is (acts s.objects st.frame.registers g.locals inner.registers)
  op_meets inst (Compare o ty a c) at e is acts = gives_meets (into_of (names_at m g.function) inst.result) inst.result (Compare o ty a c) is (acts s.objects st.frame.registers g.locals inner.registers)
  op_meets inst (Cast o ty a to) at e is acts = gives_meets (into_of (names_at m g.function) inst.result) inst.result (Cast o ty a to) is (acts s.objects st.frame.registers g.locals inner.registers)
  op_meets inst (Select o ty a ty2 c) at e is acts = gives_meets (into_of (names_at m g.function) inst.result) inst.result (Select o ty a ty2 c) is (acts s.objects st.frame.registers g.locals inner.registers)
  op_meets inst (Freeze ty a) at e is acts = gives_meets (into_of (names_at m g.function) inst.result) inst.result (Freeze ty a) is (acts s.objects st.frame.registers g.locals inner.registers)
  op_meets inst (Load ty p) at e is acts = gives_meets (into_of (names_at m g.function) inst.result) inst.result (Load ty p) is (acts s.objects st.frame.registers g.locals inner.registers)
  op_meets inst (Phi ty entries) at e is acts = gives_meets (into_of (names_at m g.function) inst.result) inst.result (Phi ty entries) is (acts s.objects st.frame.registers g.locals inner.registers)

  -- an instruction of a block, or its end
  block_meets : ((k : ℕ) (c : Block) → slice_get fn.blocks k ≡ Some c → BlockAgrees m (names_at m g.function) c)
      → Meets m s.frames (slice_get input s.taken) (task_turn (program_of m) st (stretch_of m (names_at m g.function) fn.blocks b) (option_map (task_of m (names_at m g.function)) (slice_get b.insts g.next)))
      (turn_at m input s g gs fn b (slice_get b.insts g.next))
  block_meets agree = by (slice_get b.insts g.next) refl
    where
      by : (o : Option Inst) → slice_get b.insts g.next ≡ o
          → Meets m s.frames (slice_get input s.taken) (task_turn (program_of m) st (stretch_of m (names_at m g.function) fn.blocks b) (option_map (task_of m (names_at m g.function)) o)) (turn_at m input s g gs fn b o)
      by (Some i) e = let a = (agree g.block b in_block).insts g.next i e in op_meets i i.op e refl a.into a.acts
      by None e = end_meets m s.frames input s st g gs inner waiting objects fn b.label (λ k c f. (agree k c f).phis b.label) b.end (agree g.block b in_block).end

-- all of what is next
pub turn_meets : (m : Module) (input : List ℕ) (s : model.State) (st : State) → Agrees m → StandsFor m st s.frames s.objects
    → Meets m s.frames (slice_get input s.taken) (next_turn (program_of m) st) (turn_of m input s s.frames)
turn_meets m input s st agree stands = by s.frames refl stands.calls
  where
    in_block : (g : model.Frame) (gs : List model.Frame) (fn : Function) → s.frames ≡ g ∷ gs → FrameStands m st.frame g → Waiting m st.frame.into g.into st.callers gs → slice_get m.functions g.function ≡ Some fn
        → (names : List (List ℕ)) → names_at m g.function ≡ names → (o : Option Block) → slice_get fn.blocks g.block ≡ o → ((k : ℕ) (c : Block) → slice_get fn.blocks k ≡ Some c → BlockAgrees m names c)
        → Meets m s.frames (slice_get input s.taken)
        (and_then (found_or Malformed (option_map (stretch_of m names fn.blocks) o)) (λ b. task_turn (program_of m) st b (slice_get b.tasks st.frame.next)))
        (and_then (found_or Malformed o) (λ b. turn_at m input s g gs fn b (slice_get b.insts g.next)))
    in_block g gs fn are inner waiting there names same None e agreed = inl refl
    in_block g gs fn are inner waiting there names same (Some b) e agreed =
        subst (λ names. ((k : ℕ) (c : Block) → slice_get fn.blocks k ≡ Some c → BlockAgrees m names c) → Meets m s.frames (slice_get input s.taken)
        (task_turn (program_of m) st (stretch_of m names fn.blocks b) (slice_get (map (task_of m names) b.insts) st.frame.next)) (turn_at m input s g gs fn b (slice_get b.insts g.next))) same
        (λ agreed. subst (λ o. Meets m s.frames (slice_get input s.taken) (task_turn (program_of m) st (stretch_of m (names_at m g.function) fn.blocks b) o) (turn_at m input s g gs fn b (slice_get b.insts g.next)))
        (sym (ap (slice_get (map (task_of m (names_at m g.function)) b.insts)) inner.next ∙ got_mapped (task_of m (names_at m g.function)) b.insts g.next))
        (block_meets m input s st g gs are inner waiting stands.memory fn b there e agreed)) agreed

    in_function : (g : model.Frame) (gs : List model.Frame) → s.frames ≡ g ∷ gs → FrameStands m st.frame g → Waiting m st.frame.into g.into st.callers gs → (o : Option Function) → slice_get m.functions g.function ≡ o
        → Meets m s.frames (slice_get input s.taken)
        (and_then (found_or Malformed (option_map (body_of m) o)) (λ body. and_then (found_or Malformed (slice_get body.stretches st.frame.block)) (λ b. task_turn (program_of m) st b (slice_get b.tasks st.frame.next))))
        (and_then (found_or Malformed o) (λ fn. and_then (found_or Malformed (slice_get fn.blocks g.block)) (λ b. turn_at m input s g gs fn b (slice_get b.insts g.next))))
    in_function g gs are inner waiting None e = inl refl
    in_function g gs are inner waiting (Some fn) e =
        subst (λ o. Meets m s.frames (slice_get input s.taken)
        (and_then (found_or Malformed o) (λ b. task_turn (program_of m) st b (slice_get b.tasks st.frame.next)))
        (and_then (found_or Malformed (slice_get fn.blocks g.block)) (λ b. turn_at m input s g gs fn b (slice_get b.insts g.next))))
        (sym (ap (slice_get (map (stretch_of m (register_names fn) fn.blocks) fn.blocks)) inner.block ∙ got_mapped (stretch_of m (register_names fn) fn.blocks) fn.blocks g.block))
        (in_block g gs fn are inner waiting e (register_names fn) (ap names_of e) (slice_get fn.blocks g.block) refl (λ k c f. agree g.function fn k c e f))

    by : (frames : List model.Frame) → s.frames ≡ frames → CallsStand m st.frame st.callers frames → Meets m s.frames (slice_get input s.taken) (next_turn (program_of m) st) (turn_of m input s frames)
    by [] are calls = absurd calls
    by (g ∷ gs) are calls =
        subst (λ o. Meets m s.frames (slice_get input s.taken)
        (and_then (found_or Malformed o) (λ body. and_then (found_or Malformed (slice_get body.stretches st.frame.block)) (λ b. task_turn (program_of m) st b (slice_get b.tasks st.frame.next))))
        (turn_of m input s (g ∷ gs)))
        (sym (ap (slice_get (map (body_of m) m.functions)) calls.0.function ∙ got_mapped (body_of m) m.functions g.function))
        (in_function g gs are calls.0 calls.1 (slice_get m.functions g.function) refl)
