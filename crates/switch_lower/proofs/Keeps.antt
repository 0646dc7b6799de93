-- A program without switches means what the program means.
use Rattle.std.proofs.Common.{◌≡◌, ℕ, suc, ◌+◌, ◌*◌, ◌^◌, ◌<◌, ◌≤◌, true, List, [], ◌∷◌, map, length, Option, Some, None, refl, ap, sym, ◌∙◌, subst, inl, inr, ◌⊎◌, arith, All}
use Rattle.std.specs.Prelude.{◌&&◌, slice_get, option_map, codes, if◌then◌else◌}
use Rattle.std.specs.List.{list_all}
use Rattle.std.proofs.lemmas.Bool.{and_parts}
use Rattle.std.proofs.Math.Path.{fun_ext}
use Rattle.behavior.specs.Ending.{Going, is_left}
use Rattle.behavior.specs.Moment.{Agrees}
use Rattle.behavior.specs.Preserves.{Preserves, ReachesWithin}
use Rattle.behavior.specs.Simulation.{Comes, Follows, Starts, Spots}
use Rattle.behavior.proofs.Laws.{agrees_refl, going_is}
use Rattle.behavior.proofs.Stretch.{comes_none, comes_step, comes_wider, met_by, starts_by, spots_follow}
use Rattle.ir_core.specs.declared.ty.Ty.{Ty}
use Rattle.ir_core.specs.declared.init.Init.{fold-Init}
use Rattle.ir_core.specs.declared.init.Init.TheOpen.{Init-F}
use Rattle.ir_core.specs.declared.operand.Operand.{Operand}
use Rattle.ir_core.specs.declared.operand.Operand.TheVariants.{Local as LocalName, Global}
use Rattle.ir_core.specs.declared.instruction.Inst.{Inst}
use Rattle.ir_core.specs.declared.instruction.Term.{Term}
use Rattle.ir_core.specs.declared.instruction.Term.TheVariants.{Ret, RetValue, Br, BrIf, Switch, Unreachable}
use Rattle.ir_core.specs.declared.module.Function.{Function}
use Rattle.ir_core.specs.declared.module.GlobalVar.{GlobalVar}
use Rattle.ir_core.specs.declared.module.Module.{Module}
use Rattle.ir_core.specs.declared.memory.Cell.{Cell}
use Rattle.ir_core.specs.declared.kind.Kind.{Kind}
use Rattle.ir_core.specs.Names.{same_name, number_where}
use Rattle.ir_core.specs.Kinds.{kind_of, same_kind}
use Rattle.ir_core.specs.Shapes.{shape_of}
use Rattle.ir_core.specs.Globals.{Part, cells_or_zeros, init_at, element_at, first_objects}
use Rattle.ir_core.specs.State.{Frame, State, source_moment, turned}
use Rattle.ir_core.specs.Operands.{value_of, named_value, global_number, function_number}
use Rattle.ir_core.specs.Calls.{first_frame}
use Rattle.ir_core.specs.Step.{instruction_turn, terminator_turn, turn_of, source_step}
use Rattle.ir_core.specs.Run.{first_arguments, standing, start_in, start_at, source_start, source_run}
use Rattle.ir_core.specs.Typing.{is_value, operand_fits, into_fits, kind_given, term_fits}
use Rattle.ir_core.specs.Valid.{env_of, op_rules, names_value, alloca_fits, end_fits, cases_differ, spares_entry}
use Rattle.ir_core.proofs.Laws.{source_system, source_gradual, source_run-system, module_simulates, module_simulates_within}
use Rattle.ir_core.proofs.Steps.{step_going, step_here}
use Rattle.low_core.specs.declared.moves.Chunk.{Chunk}
use Rattle.low_core.specs.declared.moves.Body.{Body}
use Rattle.low_core.specs.declared.moves.Move.{Move}
use Rattle.low_core.specs.Plain.{inst_of, block_of, with_bodies, plain, moves_run}
use Rattle.low_core.specs.Shaped.{IsBody, AreShaped, IsFunctionShaped, keeps_moves, move_fits, chunk_fits}
use Rattle.low_core.specs.Weights.{weight, low_own}
use Rattle.switch_lower.specs.Bodies.{with_end, chunks_by, chunks_for, chunks_from, padding_in, body_of, bodies_of, bodies_without_switches}
use Rattle.switch_lower.specs.Fresh.{chunk_name}
use Rattle.switch_lower.specs.Bound.{depth_for, most_cases, most_steps}
use Rattle.switch_lower.proofs.Same.{NamesAgree, IsUnder}
use Rattle.switch_lower.proofs.Turns.{with_body, lowered, lowered_all, find, IsBeside, AreBeside, with_frames, as_many, EntersBeside, instruction_beside}
use Rattle.switch_lower.proofs.Labels.{AreOld, in_front, part_of}
use Rattle.switch_lower.proofs.Runs.{block_at}
use Rattle.switch_lower.proofs.Facts.{all_item, list_item, numbered_item, env_under, chunks_old, body_short}
use Rattle.switch_lower.proofs.Ends.{IsMet, Meets, MetBy, turned_met, return_met, value_met, br_met, br_if_met, unreachable_met, switch_met}

-- functions keep their names
names_kept : (fs : List Function) (bodies : List Body) (name : List ℕ) → number_where (λ (f : Function). same_name f.name name) (with_bodies fs (bodies_of fs bodies)) ≡ number_where (λ (f : Function). same_name f.name name) (with_bodies fs bodies)
names_kept [] bodies name = refl
names_kept (f ∷ fs) [] name = refl
names_kept (f ∷ fs) (b ∷ bs) name = ap (λ o. if same_name f.name name then Some 0 else option_map (λ n. suc n) o) (names_kept fs bs name)

-- where a chunk leads without its switch
abbrev pub end_of : ℕ → ℕ → Term → Term
end_of padding at Ret = Ret
end_of padding at (RetValue ty a) = RetValue ty a
end_of padding at (Br to) = Br to
end_of padding at (BrIf condition taken other) = BrIf condition taken other
end_of padding at (Switch ty a default cases) = Br (chunk_name padding (at + 1))
end_of padding at Unreachable = Unreachable

-- so does the first chunk in its place
first_end : (padding at : ℕ) (c first : Chunk) (rest : List Chunk) → chunks_for padding at c ≡ first ∷ rest → first.end ≡ end_of padding at c.end
first_end padding at c first rest are = of_end c.end refl are
  where
    of_end : (end : Term) → c.end ≡ end → chunks_by padding at c end ≡ first ∷ rest → first.end ≡ end_of padding at end
    of_end (Switch ty a default cases) e is = let h : with_end c (Br (chunk_name padding (at + 1))) ≡ first = cc in ap (λ (d : Chunk). d.end) (sym h)
    of_end Ret e is = let h : c ≡ first = cc in ap (λ (d : Chunk). d.end) (sym h) ∙ e
    of_end (RetValue ty a) e is = let h : c ≡ first = cc in ap (λ (d : Chunk). d.end) (sym h) ∙ e
    of_end (Br to) e is = let h : c ≡ first = cc in ap (λ (d : Chunk). d.end) (sym h) ∙ e
    of_end (BrIf condition taken other) e is = let h : c ≡ first = cc in ap (λ (d : Chunk). d.end) (sym h) ∙ e
    of_end Unreachable e is = let h : c ≡ first = cc in ap (λ (d : Chunk). d.end) (sym h) ∙ e

module _ (base : Module) (bodies : List Body) where
  abbrev pub m : Module
  m = plain base bodies

  abbrev pub w : Module
  w = plain base (bodies_without_switches base bodies)

  pub agreed : NamesAgree m (lowered_all base bodies)
  agreed name = names_kept base.functions bodies name

  -- a call begins in the first chunk on both sides
  pub enters : All IsBody bodies → EntersBeside base bodies
  enters made number x values into = of_chunks x.body.chunks refl (all_item IsBody bodies number x.body made x.body_at).0
    where
      padding : ℕ
      padding = padding_in x.fn x.body

      of_chunks : (cs : List Chunk) → x.body.chunks ≡ cs → 0 < length cs → IsBeside base bodies (first_frame number (with_body x.fn x.body) values into) (first_frame number (lowered x.fn x.body) values into)
      of_chunks [] e some = absurd (omega (arith, some))
      of_chunks (c ∷ cs) e some = record {
        found = x;
        chunk = c;
        chunk_at = ap (λ l. slice_get l 0) e;
        part = λ k y at.
            let z : 0 + k ≡ k = omega arith in
            ap (λ l. slice_get (chunks_from padding 0 l) (0 + k)) e ∙ ap (slice_get (chunks_from padding 0 (c ∷ cs))) z ∙ in_front (chunks_for padding 0 c) (chunks_from padding (0 + length (chunks_for padding 0 c)) cs) k y at;
        function = refl;
        next = refl;
        locals = λ name few. refl;
        objects = refl;
        into = refl;
      }

  -- globals begin with the same objects
  value_first : (kind : Kind) (a : Operand) → value_of w [] kind a ≡ value_of m [] kind a
  value_first kind (LocalName name) = refl
  value_first kind (Global name) = ap (named_value (global_number m name)) (agreed name)
  value_first kind a = refl

  init_same : (z : Init-F (Ty → List Cell) Part) (ty : Ty) → init_at w z ty ≡ init_at m z ty
  init_same (Init-F.Value v) ty = ap (cells_or_zeros (shape_of m.types ty).size) (value_first (kind_of ty) v)
  init_same z ty = refl

  first_same : first_objects w ≡ first_objects m
  first_same =
      let same : init_at w ≡ init_at m = fun_ext (λ z. fun_ext (λ ty. init_same z ty)) in
      ap (λ at. map (λ (g : GlobalVar). record { live = true; constant = g.constant; size = (shape_of m.types g.ty).size; cells = fold-Init (Ty → List Cell) Part at (element_at m) g.init g.ty }) m.globals) same

  module _ (shaped : AreShaped low_own base bodies) (input : List ℕ) where
    -- a step of the program, met
    abbrev pub StepMet : State → List Frame → Type 0
    StepMet s gs = is_left (source_step m input s).ending ≡ true ⊎ ((frames : List Frame) × (Comes (source_step w input) 1 (most_steps bodies) (with_frames s gs) (with_frames (source_step m input s) frames)) × (AreBeside base bodies (source_step m input s).frames frames))

    -- from what the first step of both makes
    by_turns : (s : State) (gs : List Frame) (a b : State) → source_step m input s ≡ a → source_step w input (with_frames s gs) ≡ b → is_left a.ending ≡ true ⊎ IsMet base bodies input a b → StepMet s gs
    by_turns s gs a b first second (inl l) = inl (ap (λ (t : State). is_left t.ending) first ∙ l)
    by_turns s gs a b first second (inr x) = inr (
      x.frames,
      comes_wider (source_step w input) 1 (suc (8 + 2 * depth_for (most_cases bodies))) 1 (most_steps bodies) _ _ (omega arith) (omega arith)
          (comes_step (source_step w input) 0 (8 + 2 * depth_for (most_cases bodies)) (with_frames s gs) b (with_frames (source_step m input s) x.frames) second (subst (λ t. Comes (source_step w input) 0 (8 + 2 * depth_for (most_cases bodies)) b (with_frames t x.frames)) (sym first) x.comes)),
      subst (λ (t : State). AreBeside base bodies t.frames x.frames) (sym first) x.beside,
    )

    step_met : (s : State) (gs : List Frame) → AreBeside base bodies s.frames gs → s.ending ≡ Going → StepMet s gs
    step_met s gs all going = of_frames s.frames gs refl all
      where
        of_frames : (fs gs2 : List Frame) → s.frames ≡ fs → AreBeside base bodies fs gs2 → StepMet s gs2
        of_frames [] [] e beside = inl (ap (λ (t : State). is_left t.ending) (step_going m input s going ∙ ap (λ fs. turned s (turn_of m input s fs)) e))
        of_frames [] (g ∷ gs2) e beside = absurd beside
        of_frames (f ∷ fs) [] e beside = absurd beside
        of_frames (f ∷ fs) (g ∷ gs2) e beside = of_next (slice_get (block_of x.chunk).insts f.next) refl
          where
            x : IsBeside base bodies f g
            x = beside.0

            F : Function
            F = with_body x.found.fn x.found.body

            H : Function
            H = lowered x.found.fn x.found.body

            padding : ℕ
            padding = padding_in x.found.fn x.found.body

            shape : IsFunctionShaped low_own m F
            shape = all_item (IsFunctionShaped low_own m) m.functions f.function F shaped.shaped.functions x.found.in_first

            fits : (number : ℕ) × (chunk_fits m F (number, block_of x.chunk) ≡ true)
            fits = numbered_item (chunk_fits m F) 0 F.blocks f.block (block_of x.chunk) shape.fits (block_at x.found.body.chunks f.block x.chunk x.chunk_at)

            parts : (list_all (move_fits m F fits.0) (block_of x.chunk).insts ≡ true) × (end_fits m F x.chunk.end ≡ true)
            parts = and_parts (list_all (move_fits m F fits.0) (block_of x.chunk).insts) (end_fits m F x.chunk.end) fits.1

            moves : list_all (λ (c : Chunk). list_all (λ (y : Move). keeps_moves y.op) c.moves) x.found.body.chunks ≡ true
            moves = (all_item IsBody bodies f.function x.found.body shaped.made_of_moves x.found.body_at).1

            under : IsUnder padding (env_of F)
            under = env_under F

            old : AreOld padding x.found.body.chunks
            old = chunks_old x.found.fn x.found.body.chunks

            light : weight m ≤ 2 ^ 32
            light = let h = shaped.shaped.weighs in omega arith

            short : length (body_of x.found.fn x.found.body).chunks < 2 ^ 64
            short = body_short m f.function x.found.fn x.found.body.chunks padding x.found.in_first light

            whole : AreBeside base bodies s.frames (g ∷ gs2)
            whole = subst (λ l. AreBeside base bodies l (g ∷ gs2)) (sym e) beside

            in_second : slice_get w.functions g.function ≡ Some H
            in_second = ap (slice_get w.functions) x.function ∙ x.found.in_second

            -- the chunk that stands in its place
            first : Chunk
            first = (part_of padding g.block x.chunk).first

            there : slice_get H.blocks g.block ≡ Some (block_of first)
            there =
                let p = part_of padding g.block x.chunk in
                let z : g.block + 0 ≡ g.block = omega arith in
                block_at (body_of x.found.fn x.found.body).chunks g.block first (ap (slice_get (body_of x.found.fn x.found.body).chunks) (sym z) ∙ x.part 0 first (ap (λ l. slice_get l 0) p.are))

            same_place : slice_get (block_of first).insts g.next ≡ slice_get (block_of x.chunk).insts f.next
            same_place = ap (λ ms. slice_get (map inst_of ms) g.next) (part_of padding g.block x.chunk).moves ∙ ap (slice_get (block_of x.chunk).insts) x.next

            -- its end
            ends_met : (end : Term) → x.chunk.end ≡ end → term_fits m (env_of F) (kind_of F.ret) end ≡ true → MetBy base bodies input agreed s f g fs gs2 x beside.1 whole (env_of F) under old moves short end (end_of padding g.block end)
            ends_met Ret is fit = return_met base bodies input agreed s f g fs gs2 x beside.1 whole (env_of F) under old moves short
            ends_met (RetValue ty a) is fit =
                let p = and_parts (is_value (kind_of F.ret)) (same_kind (kind_of ty) (kind_of F.ret) && operand_fits m (env_of F) (kind_of F.ret) a) fit in
                value_met base bodies input agreed s f g fs gs2 x beside.1 whole (env_of F) under old moves short ty (kind_of F.ret) a (and_parts (same_kind (kind_of ty) (kind_of F.ret)) (operand_fits m (env_of F) (kind_of F.ret) a) p.1).1
            ends_met (Br to) is fit = br_met base bodies input agreed s f g fs gs2 x beside.1 whole (env_of F) under old moves short to
            ends_met (BrIf condition taken other) is fit = br_if_met base bodies input agreed s f g fs gs2 x beside.1 whole (env_of F) under old moves short condition taken other fit
            ends_met (Switch ty a default cases) is fit = switch_met base bodies input agreed s f g fs gs2 x beside.1 whole (env_of F) under old moves short x.chunk_at ty a default cases is fit in_second
            ends_met Unreachable is fit = unreachable_met base bodies input agreed s f g fs gs2 x beside.1 whole (env_of F) under old moves short

            end_fit : term_fits m (env_of F) (kind_of F.ret) x.chunk.end ≡ true
            end_fit = (and_parts (term_fits m (env_of F) (kind_of F.ret) x.chunk.end) (cases_differ x.chunk.end && spares_entry F.blocks x.chunk.end) parts.1).0

            end_there : first.end ≡ end_of padding g.block x.chunk.end
            end_there = first_end padding g.block x.chunk first (part_of padding g.block x.chunk).rest (part_of padding g.block x.chunk).are

            of_next : (o : Option Inst) → slice_get (block_of x.chunk).insts f.next ≡ o → StepMet s (g ∷ gs2)
            of_next (Some i) at =
                by_turns s (g ∷ gs2) (turned s (instruction_turn m input s f fs i.result i.op)) (turned (with_frames s (g ∷ gs2)) (instruction_turn w input (with_frames s (g ∷ gs2)) g gs2 i.result i.op))
                (step_here m input s f fs F (block_of x.chunk) (Some i) going e (record { in_module = x.found.in_first; in_function = block_at x.found.body.chunks f.block x.chunk x.chunk_at; in_block = at }))
                (step_here w input (with_frames s (g ∷ gs2)) g gs2 H (block_of first) (Some i) going refl (record { in_module = in_second; in_function = there; in_block = same_place ∙ at }))
                (turned_met base bodies input s (g ∷ gs2) _ _ whole
                (instruction_beside base bodies (enters shaped.made_of_moves) agreed f g x (env_of F) under input s fs gs2 (g ∷ gs2) i.result i.op beside.1 (sym (as_many base bodies s.frames (g ∷ gs2) whole))
                (rules i (list_item (move_fits m F fits.0) (block_of x.chunk).insts f.next i parts.0 at))))
              where
                rules : (i : Inst) → move_fits m F fits.0 i ≡ true → op_rules m (env_of F) i.op ≡ true
                rules i fit =
                    let p = and_parts (op_rules m (env_of F) i.op && names_value i.result (kind_given i.op)) (into_fits (env_of F) i.result (kind_given i.op) && alloca_fits fits.0 i.op) fit in
                    (and_parts (op_rules m (env_of F) i.op) (names_value i.result (kind_given i.op)) p.0).0
            of_next None at =
                by_turns s (g ∷ gs2) (turned s (terminator_turn m s f fs F x.chunk.label x.chunk.end)) (turned (with_frames s (g ∷ gs2)) (terminator_turn w (with_frames s (g ∷ gs2)) g gs2 H first.label first.end))
                (step_here m input s f fs F (block_of x.chunk) None going e (record { in_module = x.found.in_first; in_function = block_at x.found.body.chunks f.block x.chunk x.chunk_at; in_block = at }))
                (step_here w input (with_frames s (g ∷ gs2)) g gs2 H (block_of first) None going refl (record { in_module = in_second; in_function = there; in_block = same_place ∙ at }))
                (subst (λ l. Meets base bodies input s (g ∷ gs2) (terminator_turn m s f fs F x.chunk.label x.chunk.end) (terminator_turn w (with_frames s (g ∷ gs2)) g gs2 H l first.end)) (sym (part_of padding g.block x.chunk).label)
                (subst (λ t. Meets base bodies input s (g ∷ gs2) (terminator_turn m s f fs F x.chunk.label x.chunk.end) (terminator_turn w (with_frames s (g ∷ gs2)) g gs2 H x.chunk.label t)) (sym end_there)
                (ends_met x.chunk.end refl end_fit x.chunk.label)))

    -- the calls of the program without switches
    abbrev pub Rest : State → Type 0
    Rest a = (gs : List Frame) × (AreBeside base bodies a.frames gs)

    abbrev pub spot : (a : State) → Rest a → State
    spot a rest = with_frames a rest.0

    pub follows : Follows (source_system m input) (source_system w input) (Spots Rest spot) (λ _. 0) (most_steps bodies)
    follows = spots_follow (source_system m input) (source_system w input) Rest spot (λ _. 0) (most_steps bodies) (source_gradual m input)
        (λ a rest. agrees_refl (source_moment a))
        (λ a rest goes. elim (step_met a rest.0 rest.1 (going_is a.ending goes)) [
          | inl l ↦ inl l
          | inr x ↦ inr (met_by (source_system m input) (source_system w input) (Spots Rest spot) (λ _. 0) (most_steps bodies) a (source_step m input a) (with_frames a rest.0) (with_frames (source_step m input a) x.0) x.1 (inl ((x.0, x.2), refl)))
        ])

    -- the start of a run
    abbrev pub Begins : State → State → Type 0
    Begins a b = (gs : List Frame) × (b ≡ with_frames a gs) × (AreBeside base bodies a.frames gs)

    begin_in : (number : ℕ) → Begins (start_in m number (slice_get m.functions number)) (start_in w number (slice_get w.functions number))
    begin_in number = elim (find base.functions bodies number) [
      | inl none ↦
          subst (λ o. Begins (start_in m number o) (start_in w number (slice_get w.functions number))) (sym none.0)
          (subst (λ o. Begins (start_in m number None) (start_in w number o)) (sym none.1) ([], refl, tt))
      | inr x ↦
          subst (λ o. Begins (start_in m number o) (start_in w number (slice_get w.functions number))) (sym x.in_first)
          (subst (λ o. Begins (start_in m number (Some (with_body x.fn x.body))) (start_in w number o)) (sym x.in_second) (
            first_frame number (lowered x.fn x.body) first_arguments None ∷ [],
            ap (λ objects. standing objects (first_frame number (lowered x.fn x.body) first_arguments None ∷ []) Going) first_same,
            (enters shaped.made_of_moves number x first_arguments None, tt),
          ))
    ]

    begin_at : (o : Option ℕ) → Begins (start_at m o) (start_at w o)
    begin_at (Some number) = begin_in number
    begin_at None = ([], refl, tt)

    pub begins : Begins (source_start m) (source_start w)
    unfolding source_start
    begins = subst (λ o. Begins (start_at m (function_number m (codes "main"))) (start_at w o)) (sym (agreed (codes "main"))) (begin_at (function_number m (codes "main")))

    pub starts : Starts (source_system m input) (source_system w input) (Spots Rest spot) 0 (source_start m) (source_start w)
    starts =
        let b = begins in
        starts_by (source_system m input) (source_system w input) (Spots Rest spot) (λ _. 0) (most_steps bodies) 0 (source_start m) (source_start w) (source_start w)
        (subst (λ t. Agrees (source_moment (source_start m)) (source_moment t)) (sym b.1) (agrees_refl (source_moment (source_start m))))
        (comes_none (source_step w input) (source_start w) (source_start w) refl) (inl ((b.0, b.2), b.1))

  -- both ways
  pub switches_gone : AreShaped low_own base bodies → Preserves (moves_run base bodies) (moves_run base (bodies_without_switches base bodies))
  switches_gone shaped =
      subst (Preserves (source_run m)) (sym (source_run-system w))
      (module_simulates m (source_system w) (λ _. source_start w) (λ input. Spots (Rest shaped input) (spot shaped input)) (λ _ _. 0) 0 (most_steps bodies) (λ input _. follows shaped input) (λ input _. starts shaped input))

  pub switches_gone_within : AreShaped low_own base bodies → ReachesWithin 0 (most_steps bodies) (moves_run base bodies) (moves_run base (bodies_without_switches base bodies))
  switches_gone_within shaped =
      subst (ReachesWithin 0 (most_steps bodies) (source_run m)) (sym (source_run-system w))
      (module_simulates_within m (source_system w) (λ _. source_start w) (λ input. Spots (Rest shaped input) (spot shaped input)) (λ _ _. 0) 0 (most_steps bodies) (λ input _. follows shaped input) (λ input _. starts shaped input))
