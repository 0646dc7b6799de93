-- What the ends of chunks make of both programs.
use Rattle.std.proofs.Common.{◌≡◌, ℕ, zero, suc, ◌+◌, ◌*◌, ◌^◌, ◌<◌, ◌≤◌, Bool, true, false, List, [], ◌∷◌, map, length, Option, Some, None, Ok, Err, refl, ap, sym, ◌∙◌, subst, inl, inr, ◌⊎◌, arith}
use Rattle.std.specs.Prelude.{◌&&◌, slice_get, option_map, nat_le, if◌then◌else◌}
use Rattle.std.specs.List.{list_all}
use Rattle.std.proofs.lemmas.Bool.{and_parts, leb-true}
use Rattle.behavior.specs.Ending.{is_left}
use Rattle.behavior.specs.Simulation.{Comes}
use Rattle.behavior.proofs.Stretch.{comes_none, comes_wider}
use Rattle.rd_num.specs.declared.width.Width.{Width}
use Rattle.rd_num.specs.declared.width.Width.TheVariants.{W1}
use Rattle.ir_core.specs.declared.ty.Ty.{Ty}
use Rattle.ir_core.specs.declared.kind.Kind.{Kind}
use Rattle.ir_core.specs.declared.kind.Kind.TheVariants.{NoValue, Number, Pointer}
use Rattle.ir_core.specs.declared.operand.Operand.{Operand}
use Rattle.ir_core.specs.declared.operand.Operand.TheVariants.{Int, Bool as Truth, Null as NullWord, Undef, Poison, Local as LocalName, Global, Const}
use Rattle.ir_core.specs.declared.instruction.Case.{Case}
use Rattle.ir_core.specs.declared.instruction.Term.{Term}
use Rattle.ir_core.specs.declared.instruction.Term.TheVariants.{Ret, RetValue, Br, BrIf, Switch, Unreachable}
use Rattle.ir_core.specs.declared.module.Function.{Function}
use Rattle.ir_core.specs.declared.module.Module.{Module}
use Rattle.ir_core.specs.declared.memory.Value.{Value}
use Rattle.ir_core.specs.declared.memory.Value.TheVariants.{Num, Null, At, Fun}
use Rattle.ir_core.specs.declared.memory.Reason.TheVariants.{Unset}
use Rattle.ir_core.specs.Names.{same_name}
use Rattle.ir_core.specs.Stops.{Left, Malformed, Trap, Answer, and_then, found_or}
use Rattle.ir_core.specs.Kinds.{kind_of, same_kind}
use Rattle.ir_core.specs.Counts.{greatest}
use Rattle.ir_core.specs.State.{Local, Frame, State, Turn, Nothing, turned}
use Rattle.ir_core.specs.Operands.{value_of}
use Rattle.ir_core.specs.Step.{in_block, goes_to, if_true, to_if_equal, switched, terminator_turn, choices_of, source_step}
use Rattle.ir_core.specs.Typing.{Env, is_number, operand_fits, case_fits, term_fits}
use Rattle.low_core.specs.declared.moves.Chunk.{Chunk}
use Rattle.low_core.specs.declared.moves.Body.{Body}
use Rattle.low_core.specs.declared.moves.Move.{Move}
use Rattle.low_core.specs.Plain.{inst_of, block_of, with_blocks, plain}
use Rattle.low_core.specs.Shaped.{keeps_moves}
use Rattle.switch_lower.specs.Ways.{ways}
use Rattle.switch_lower.specs.Fresh.{zeros_of, chunk_name}
use Rattle.switch_lower.specs.Tree.{Choice, tree, ways_within}
use Rattle.switch_lower.specs.Bodies.{chunks_by, chunks_for, padding_in, body_of, bodies_without_switches}
use Rattle.switch_lower.specs.Bound.{cases_at, most_cases, depth_within, depth_for}
use Rattle.switch_lower.proofs.Same.{NamesAgree, Same, IsUnder, value_any, value_same, not_true}
use Rattle.switch_lower.proofs.Names.{name_is}
use Rattle.switch_lower.proofs.TreeLaws.{tree_deep, ways_many}
use Rattle.switch_lower.proofs.Turns.{with_body, lowered, lowered_all, IsBeside, AreBeside, with_frames, TurnsBeside, then_beside, return_beside}
use Rattle.switch_lower.proofs.Labels.{AreOld, AreNumbered, all_numbered, place_of, old_found, part_of}
use Rattle.switch_lower.proofs.WayLaws.{way_at, ways_rise, ways_below, ways_length, ways_some, case_is, switched_is}
use Rattle.switch_lower.proofs.Facts.{old_item, list_item, moves_none}
use Rattle.switch_lower.proofs.Runs.{IsPlace, goes_there, standing_at, read_run, new_place, tree_first, tree_none, tree_run}

-- the chunk to which a label leads has it
place_item : (label : List ℕ) (cs : List Chunk) (k : ℕ) → place_of label cs ≡ Some k → (c : Chunk) × (slice_get cs k ≡ Some c) × (same_name c.label label ≡ true)
place_item label [] k found = absurd (cc)
place_item label (c ∷ cs) k found = by_test (same_name c.label label) refl (place_item label cs) found
  where
    by_test : (b : Bool) → same_name c.label label ≡ b → ((j : ℕ) → place_of label cs ≡ Some j → (d : Chunk) × (slice_get cs j ≡ Some d) × (same_name d.label label ≡ true)) → (if b then Some 0 else option_map (λ n. suc n) (place_of label cs)) ≡ Some k → (d : Chunk) × (slice_get (c ∷ cs) k ≡ Some d) × (same_name d.label label ≡ true)
    by_test true e later is = (c, let z : 0 ≡ k = cc in ap (slice_get (c ∷ cs)) (sym z), e)
    by_test false e later is = of_place (place_of label cs) refl is
      where
        of_place : (o : Option ℕ) → place_of label cs ≡ o → option_map (λ n. suc n) o ≡ Some k → (d : Chunk) × (slice_get (c ∷ cs) k ≡ Some d) × (same_name d.label label ≡ true)
        of_place None f g = absurd (cc)
        of_place (Some j) f g = let z : suc j ≡ k = cc in let x = later j f in (x.0, ap (slice_get (c ∷ cs)) (sym z) ∙ x.1, x.2)

-- a label that leads nowhere
nowhere : (m : Module) (st : State) (fr : Frame) (callers : List Frame) (fn : Function) (cs : List Chunk) (from label : List ℕ) → place_of label cs ≡ None → goes_to m st fr callers (with_blocks fn (map block_of cs)) from label ≡ Err Malformed
nowhere m st fr callers fn cs from label none =
    ap (λ o. and_then (found_or Malformed o) (λ number. and_then (found_or Malformed (slice_get (map block_of cs) number)) (λ b. in_block m st fr callers from number b))) none

-- a number's kind
number_kind : (k : Kind) → is_number k ≡ true → (w : Width) × (k ≡ Number w)
number_kind (Number w) is = (w, refl)
number_kind NoValue is = not_true is
number_kind Pointer is = not_true is

-- a number that is read has a value, or the run is left
data Read (A : Answer Value) : Type 0 where
  Gives : (v : Value) → A ≡ Ok v → Read A
  Leaves : A ≡ Err (Left Unset) → Read A

read_local : (o : Option Value) → Read (found_or (Left Unset) o)
read_local (Some v) = Gives v refl
read_local None = Leaves refl

number_read : (m : Module) (env : Env) (locals : List Local) (w : Width) (a : Operand) → operand_fits m env (Number w) a ≡ true → Read (value_of m locals (Number w) a)
number_read m env locals w (Int n) fits = Gives _ refl
number_read m env locals w (Truth b) fits = Gives _ refl
number_read m env locals w NullWord fits = not_true fits
number_read m env locals w Undef fits = Gives _ refl
number_read m env locals w Poison fits = Gives _ refl
number_read m env locals w (LocalName name) fits = read_local _
number_read m env locals w (Global name) fits = not_true fits
number_read m env locals w (Const place) fits = not_true fits

-- the greatest of a list
greatest_item : {X : Type 0} (f : X → ℕ) (xs : List X) (k : ℕ) (x : X) → slice_get xs k ≡ Some x → f x ≤ greatest (map f xs)
greatest_item f [] k x at = absurd (cc)
greatest_item f (y ∷ ys) zero x at = let e : y ≡ x = cc in let v = ap f e in omega arith
greatest_item f (y ∷ ys) (suc k) x at = let r = greatest_item f ys k x at in omega arith

-- a depth that serves
depth_serves : (d count : ℕ) → count ≤ ways_within d → count ≤ ways_within (depth_within d count)
depth_serves zero count few = few
depth_serves (suc d) count few = by_test (nat_le count (ways_within d)) refl (depth_serves d count)
  where
    by_test : (b : Bool) → nat_le count (ways_within d) ≡ b → (count ≤ ways_within d → count ≤ ways_within (depth_within d count)) → count ≤ ways_within (if b then depth_within d count else suc d)
    by_test true e later = later (leb-true count (ways_within d) e)
    by_test false e later = few

depth_enough : (count most : ℕ) → count ≤ most → count ≤ ways_within (depth_for most)
depth_enough count most few = let e = depth_serves most most (ways_many most) in omega arith

module _ (base : Module) (bodies : List Body) (input : List ℕ) where
  abbrev pub m : Module
  m = plain base bodies

  abbrev pub w : Module
  w = plain base (bodies_without_switches base bodies)

  abbrev pub depth : ℕ
  depth = depth_for (most_cases bodies)

  -- the state after one step beside the other state after one step
  pub record IsMet (t : State) (b : State) : Type 0 where
    pub frames : List Frame
    pub comes : Comes (source_step w input) 0 (8 + 2 * depth) b (with_frames t frames)
    pub beside : AreBeside base bodies t.frames frames

  -- a step leaves the meaning, or is met
  abbrev pub Meets : (s : State) (gs : List Frame) (a b : Answer Turn) → Type 0
  Meets s gs a b = is_left (turned s a).ending ≡ true ⊎ IsMet (turned s a) (turned (with_frames s gs) b)

  no_step : (a b : State) → a ≡ b → Comes (source_step w input) 0 (8 + 2 * depth) a b
  no_step a b e = comes_wider (source_step w input) 0 0 0 (8 + 2 * depth) a b (omega arith) (omega arith) (comes_none (source_step w input) a b e)

  -- turns beside each other
  pub turned_met : (s : State) (gs : List Frame) (a b : Answer Turn) → AreBeside base bodies s.frames gs → TurnsBeside base bodies a b → Meets s gs a b
  turned_met s gs (Ok t) (Ok u) all x = inr (record { frames = u.frames; comes = no_step (turned (with_frames s gs) (Ok u)) (with_frames (turned s (Ok t)) u.frames) same; beside = x.frames })
    where
      same : turned (with_frames s gs) (Ok u) ≡ with_frames (turned s (Ok t)) u.frames
      same =
          ap (λ o. turned (with_frames s gs) (Ok (record { frames = u.frames; objects = o; exchange = u.exchange }))) x.objects
          ∙ ap (λ e. turned (with_frames s gs) (Ok (record { frames = u.frames; objects = t.objects; exchange = e }))) x.exchange
  turned_met s gs (Ok t) (Err stop) all x = absurd x
  turned_met s gs (Err stop) b all x = elim x [
    | inl l ↦ inl l
    | inr e ↦ inr (record { frames = gs; comes = no_step (turned (with_frames s gs) b) (with_frames (turned s (Err stop)) gs) (ap (turned (with_frames s gs)) e); beside = all })
  ]

  module _ (agree : NamesAgree m (lowered_all base bodies)) (s : State) (f g : Frame) (fs gs : List Frame) (x : IsBeside base bodies f g) (callers : AreBeside base bodies fs gs) (all : AreBeside base bodies s.frames (g ∷ gs)) (env : Env) (under : IsUnder (padding_in x.found.fn x.found.body) env) (old : AreOld (padding_in x.found.fn x.found.body) x.found.body.chunks) (moves : list_all (λ (c : Chunk). list_all (λ (y : Move). keeps_moves y.op) c.moves) x.found.body.chunks ≡ true) (short : length (body_of x.found.fn x.found.body).chunks < 2 ^ 64) where
    abbrev padding : ℕ
    padding = padding_in x.found.fn x.found.body

    abbrev first : List Chunk
    first = x.found.body.chunks

    abbrev second : List Chunk
    second = (body_of x.found.fn x.found.body).chunks

    abbrev t0 : State
    t0 = with_frames s (g ∷ gs)

    abbrev F : Function
    F = with_body x.found.fn x.found.body

    abbrev H : Function
    H = lowered x.found.fn x.found.body

    -- an edge on both sides
    record IsEdge (to : List ℕ) : Type 0 where
      one : IsPlace first to
      two : IsPlace second to
      beside : (locals2 : List Local) → Same padding f.locals locals2 → IsBeside base bodies (record f { block = one.number; next = 0 }) (record g { block = two.number; next = 0; locals = locals2 })

    edge_at : (to : List ℕ) (k : ℕ) → place_of to first ≡ Some k → IsEdge to
    edge_at to k found =
        let item = place_item to first k found in
        let named : item.0.label ≡ to = name_is item.0.label to item.2 in
        let few : zeros_of to < padding = subst (λ l. zeros_of l < padding) named (old_item padding first k item.0 old item.1) in
        let y = old_found padding 0 first to k few found in
        let z : 0 + y.now ≡ y.now = omega arith in
        let part : (j : ℕ) (c : Chunk) → slice_get (chunks_for padding y.now y.chunk) j ≡ Some c → slice_get second (y.now + j) ≡ Some c = λ j c at. y.part j c (ap (λ n. slice_get (chunks_for padding n y.chunk) j) z ∙ at) in
        let p = part_of padding y.now y.chunk in
        let none = moves_none y.chunk.moves (list_item (λ (c : Chunk). list_all (λ (v : Move). keeps_moves v.op) c.moves) first k y.chunk moves y.was) in
        let n : y.now + 0 ≡ y.now = omega arith in
        record {
          one = record { number = k; chunk = y.chunk; finds = found; there = y.was; no_phi = none };
          two = record { number = y.now; chunk = p.first; finds = y.found; there = ap (slice_get second) (sym n) ∙ part 0 p.first (ap (λ l. slice_get l 0) p.are); no_phi = ap (λ ms. choices_of (map inst_of ms)) p.moves ∙ none };
          beside = λ locals2 same. record {
            found = x.found;
            chunk = y.chunk;
            chunk_at = y.was;
            part = part;
            function = x.function;
            next = refl;
            locals = same;
            objects = x.objects;
            into = x.into;
          };
        }

    -- there is one, or the label leads nowhere
    edge : (to : List ℕ) → (place_of to first ≡ None) ⊎ IsEdge to
    edge to = of_place (place_of to first) refl
      where
        of_place : (o : Option ℕ) → place_of to first ≡ o → (place_of to first ≡ None) ⊎ IsEdge to
        of_place None e = inl e
        of_place (Some k) e = inr (edge_at to k e)

    -- the same label on both sides
    plain_edge : (from to : List ℕ) → Meets s (g ∷ gs) (goes_to m s f fs F from to) (goes_to w t0 g gs H from to)
    plain_edge from to = elim (edge to) [
      | inl none ↦ inl (ap (λ (a : Answer Turn). is_left (turned s a).ending) (nowhere m s f fs x.found.fn first from to none))
      | inr e ↦
          subst (λ a. Meets s (g ∷ gs) a (goes_to w t0 g gs H from to)) (sym (goes_there m s f fs x.found.fn first from to e.one))
          (subst (λ b. Meets s (g ∷ gs) (Ok (record { frames = record f { block = e.one.number; next = 0 } ∷ fs; objects = s.objects; exchange = Nothing })) b) (sym (goes_there w t0 g gs x.found.fn second from to e.two))
          (inr (record { frames = record g { block = e.two.number; next = 0 } ∷ gs; comes = no_step _ _ refl; beside = (e.beside g.locals x.locals, callers) })))
    ]

    by_label : (from : List ℕ) (a : Answer (List ℕ)) → Meets s (g ∷ gs) (and_then a (λ to. goes_to m s f fs F from to)) (and_then a (λ to. goes_to w t0 g gs H from to))
    by_label from (Ok to) = plain_edge from to
    by_label from (Err stop) = turned_met s (g ∷ gs) (Err stop) (Err stop) all (inr refl)

    by_value : (from : List ℕ) (v v2 : Answer Value) (rest : Value → Answer (List ℕ)) → v ≡ v2 → Meets s (g ∷ gs) (and_then v (λ c. and_then (rest c) (λ to. goes_to m s f fs F from to))) (and_then v2 (λ c. and_then (rest c) (λ to. goes_to w t0 g gs H from to)))
    by_value from v v2 rest same = subst (λ u. Meets s (g ∷ gs) (and_then v (λ c. and_then (rest c) (λ to. goes_to m s f fs F from to))) (and_then u (λ c. and_then (rest c) (λ to. goes_to w t0 g gs H from to)))) same (both v)
      where
        both : (u : Answer Value) → Meets s (g ∷ gs) (and_then u (λ c. and_then (rest c) (λ to. goes_to m s f fs F from to))) (and_then u (λ c. and_then (rest c) (λ to. goes_to w t0 g gs H from to)))
        both (Ok c) = by_label from (rest c)
        both (Err stop) = turned_met s (g ∷ gs) (Err stop) (Err stop) all (inr refl)

    value_both : (kind : Kind) (a : Operand) → operand_fits m env kind a ≡ true → value_of m f.locals kind a ≡ value_of w g.locals kind a
    value_both kind a fits = value_same m (lowered_all base bodies) agree padding env under f.locals g.locals x.locals kind a fits

    -- an end that isn't a switch
    abbrev pub MetBy : Term → Term → Type 0
    MetBy end end2 = (from : List ℕ) → Meets s (g ∷ gs) (terminator_turn m s f fs F from end) (terminator_turn w t0 g gs H from end2)

    pub return_met : MetBy Ret Ret
    return_met from = turned_met s (g ∷ gs) _ _ all (return_beside base bodies s f g fs gs (g ∷ gs) None x.into x.objects callers)

    pub value_met : (ty : Ty) (fit : Kind) (a : Operand) → operand_fits m env fit a ≡ true → MetBy (RetValue ty a) (RetValue ty a)
    value_met ty fit a fits from =
        turned_met s (g ∷ gs) _ _ all (then_beside base bodies (value_of m f.locals (kind_of ty) a) (value_of w g.locals (kind_of ty) a) _ _ (value_any m (lowered_all base bodies) agree padding env under f.locals g.locals x.locals (kind_of ty) fit a fits)
        (λ v. return_beside base bodies s f g fs gs (g ∷ gs) (Some v) x.into x.objects callers))

    pub br_met : (to : List ℕ) → MetBy (Br to) (Br to)
    br_met to from = plain_edge from to

    pub br_if_met : (condition : Operand) (taken other : List ℕ) → operand_fits m env (Number W1) condition ≡ true → MetBy (BrIf condition taken other) (BrIf condition taken other)
    br_if_met condition taken other fits from = by_value from (value_of m f.locals (Number W1) condition) (value_of w g.locals (Number W1) condition) (λ c. if_true c taken other) (value_both (Number W1) condition fits)

    pub unreachable_met : MetBy Unreachable Unreachable
    unreachable_met from = turned_met s (g ∷ gs) (Err Trap) (Err Trap) all (inr refl)

    -- a switch in a chunk of this end
    module _ (at : slice_get first f.block ≡ Some x.chunk) (ty : Ty) (a : Operand) (default : List ℕ) (cases : List Case) (ends : x.chunk.end ≡ Switch ty a default cases) (fits : term_fits m env (kind_of F.ret) (Switch ty a default cases) ≡ true) (in_second : slice_get w.functions g.function ≡ Some H) where
      abbrev c : Choice
      c = record { ty = ty; value = a; default = default; padding = padding }

      abbrev q : ℕ
      q = g.block + 1

      value_fits : operand_fits m env (kind_of ty) a ≡ true
      value_fits = (and_parts (operand_fits m env (kind_of ty) a) (list_all (case_fits m (kind_of ty)) cases) (and_parts (is_number (kind_of ty)) (operand_fits m env (kind_of ty) a && list_all (case_fits m (kind_of ty)) cases) fits).1).0

      cases_fit : list_all (case_fits m (kind_of ty)) cases ≡ true
      cases_fit = (and_parts (operand_fits m env (kind_of ty) a) (list_all (case_fits m (kind_of ty)) cases) (and_parts (is_number (kind_of ty)) (operand_fits m env (kind_of ty) a && list_all (case_fits m (kind_of ty)) cases) fits).1).1

      few : length (ways ty cases) ≤ ways_within depth
      few =
          let of_end = greatest_item (λ (d : Chunk). cases_at d.end) first f.block x.chunk at in
          let many = ap cases_at ends in
          let of_body = greatest_item (λ (b : Body). greatest (map (λ (d : Chunk). cases_at d.end) b.chunks)) bodies f.function x.found.body x.found.body_at in
          let l = ways_length ty cases in
          depth_enough (length (ways ty cases)) (most_cases bodies) (omega arith)

      -- the tree stands right behind the chunk
      parts : (j : ℕ) (y : Chunk) → slice_get (tree c depth q (ways ty cases)) j ≡ Some y → slice_get second (q + j) ≡ Some y
      parts j y there =
          let z : g.block + suc j ≡ g.block + 1 + j = omega arith in
          ap (slice_get second) (sym z) ∙ x.part (suc j) y (ap (λ e. slice_get (chunks_by padding g.block x.chunk e) (suc j)) ends ∙ ap (λ t. slice_get t j) (sym (tree_deep c depth q (ways ty cases) few)) ∙ there)

      numbered : AreNumbered padding 0 second
      numbered = all_numbered padding 0 first old

      steady : (locals locals2 : List Local) → Same padding locals locals2 → value_of w locals (kind_of ty) a ≡ value_of w locals2 (kind_of ty) a
      steady locals locals2 same =
          sym (value_same m (lowered_all base bodies) agree padding env under locals locals (λ _ _. refl) (kind_of ty) a value_fits)
          ∙ value_same m (lowered_all base bodies) agree padding env under locals locals2 same (kind_of ty) a value_fits

      -- where a run comes in the program without switches, after the first step
      abbrev Comes_to : List ℕ → Type 0
      Comes_to to = (p : IsPlace second to) → (locals2 : List Local) × (Comes (source_step w input) 0 (8 + 2 * depth) (standing_at w input s g gs x.found.fn second in_second q 0 g.locals) (standing_at w input s g gs x.found.fn second in_second p.number 0 locals2)) × (Same padding g.locals locals2)

      -- the chunk's own step
      step_there : (width : Width) (u : Width) (n : ℕ) (kind : kind_of ty ≡ Number width) (from : List ℕ) → turned t0 (goes_to w t0 g gs H from (chunk_name padding q)) ≡ standing_at w input s g gs x.found.fn second in_second q 0 g.locals
      step_there width u n kind from =
          let y = tree_first c depth q (ways ty cases) in
          let z : q + 0 ≡ q = omega arith in
          let p = new_place w input s g gs x.found.fn second in_second c width u n kind numbered short steady q y.chunk (ap (slice_get second) (sym z) ∙ parts 0 y.chunk y.there) y.label y.no_phi in
          ap (turned t0) (goes_there w t0 g gs x.found.fn second from (chunk_name padding q) p)

      -- a label to which both come
      to_label : (width : Width) (u : Width) (n : ℕ) (kind : kind_of ty ≡ Number width) (from to : List ℕ) → Comes_to to → Meets s (g ∷ gs) (goes_to m s f fs F from to) (goes_to w t0 g gs H from (chunk_name padding q))
      to_label width u n kind from to comes = elim (edge to) [
        | inl none ↦ inl (ap (λ (r : Answer Turn). is_left (turned s r).ending) (nowhere m s f fs x.found.fn first from to none))
        | inr e ↦
            let r = comes e.two in
            subst (λ b. Meets s (g ∷ gs) b (goes_to w t0 g gs H from (chunk_name padding q))) (sym (goes_there m s f fs x.found.fn first from to e.one))
            (inr (record {
              frames = record g { block = e.two.number; next = 0; locals = r.0 } ∷ gs;
              comes = subst (λ b. Comes (source_step w input) 0 (8 + 2 * depth) b (standing_at w input s g gs x.found.fn second in_second e.two.number 0 r.0)) (sym (step_there width u n kind from)) r.1;
              beside = (e.beside r.0 (λ name low. x.locals name low ∙ r.2 name low), callers);
            }))
      ]

      -- without cases the value is read
      read_met : (width : Width) (kind : kind_of ty ≡ Number width) (v : Value) → value_of w g.locals (kind_of ty) a ≡ Ok v → ways ty cases ≡ [] → Comes_to default
      read_met width kind v value none p =
          let z : q + 0 ≡ q = omega arith in
          let there = ap (slice_get second) (sym z) ∙ parts 0 _ (ap (λ ws. slice_get (tree c depth q ws) 0) none ∙ ap (λ t. slice_get t 0) (tree_none c depth q)) in
          (g.locals, comes_wider (source_step w input) 2 2 0 (8 + 2 * depth) _ _ (omega arith) (omega arith) (read_run w input s g gs x.found.fn second in_second c q g.locals v p there value), λ name low. refl)

      -- with cases it is compared
      tree_met : (width : Width) (kind : kind_of ty ≡ Number width) (u : Width) (n : ℕ) → value_of w g.locals (kind_of ty) a ≡ Ok (Num u n) → 0 < length (ways ty cases) → Comes_to (way_at n default (ways ty cases))
      tree_met width kind u n value some p =
          let r = tree_run w input s g gs x.found.fn second in_second c width u n kind numbered short steady depth q (ways ty cases) g.locals some few (ways_rise ty cases) (ways_below ty width cases kind) parts value p in
          (r.0, comes_wider (source_step w input) 2 (8 + 2 * depth) 0 (8 + 2 * depth) _ _ (omega arith) (omega arith) r.1, r.2)

      -- the label of the value
      abbrev Goes : List ℕ → Value → Answer Turn
      Goes from v = and_then (switched m v default cases) (λ to. goes_to m s f fs F from to)

      -- a value that is no number leaves the meaning
      other_left : (width : Width) (kind : kind_of ty ≡ Number width) (from : List ℕ) (v : Value) (d : Case) (ds : List Case) → cases ≡ d ∷ ds → ((n : Value) → (u : Width) (k : ℕ) → n ≡ Num u k → to_if_equal n v d.to (switched m v default ds) ≡ Err Malformed) → Meets s (g ∷ gs) (and_then (switched m v default (d ∷ ds)) (λ to. goes_to m s f fs F from to)) (goes_to w t0 g gs H from (chunk_name padding q))
      other_left width kind from v d ds is wrong =
          let fit = subst (λ l. list_all (case_fits m (Number width)) l ≡ true) is (subst (λ k. list_all (case_fits m k) cases ≡ true) kind cases_fit) in
          let p = and_parts (case_fits m (Number width) d) (list_all (case_fits m (Number width)) ds) fit in
          let r = and_parts (same_kind (kind_of d.ty) (Number width)) (operand_fits m (λ name. None) (Number width) d.value) p.0 in
          let y = case_is m (kind_of d.ty) width d.value r.0 r.1 in
          inl (ap (λ z. is_left (turned s (and_then (and_then z (λ n. to_if_equal n v d.to (switched m v default ds))) (λ to. goes_to m s f fs F from to))).ending) y.1
          ∙ ap (λ z. is_left (turned s (and_then z (λ to. goes_to m s f fs F from to))).ending) (wrong _ y.0 _ refl))

      by_cases : (width : Width) (kind : kind_of ty ≡ Number width) (from : List ℕ) (v : Value) → value_of w g.locals (kind_of ty) a ≡ Ok v → (cs : List Case) → cases ≡ cs → Meets s (g ∷ gs) (and_then (switched m v default cs) (λ to. goes_to m s f fs F from to)) (goes_to w t0 g gs H from (chunk_name padding q))
      by_cases width kind from v value [] is = to_label width width 0 kind from default (read_met width kind v value (ap (ways ty) is))
      by_cases width kind from (Num u n) value (d ∷ ds) is =
          let fit = subst (λ k. list_all (case_fits m k) cases ≡ true) kind cases_fit in
          subst (λ l. Meets s (g ∷ gs) (and_then (switched m (Num u n) default l) (λ to. goes_to m s f fs F from to)) (goes_to w t0 g gs H from (chunk_name padding q))) is
          (subst (λ r. Meets s (g ∷ gs) (and_then r (λ to. goes_to m s f fs F from to)) (goes_to w t0 g gs H from (chunk_name padding q))) (sym (switched_is m ty width u n default cases kind fit))
          (to_label width u n kind from (way_at n default (ways ty cases)) (tree_met width kind u n value (subst (λ l. 0 < length (ways ty l)) (sym is) (ways_some ty d ds)))))
      by_cases width kind from Null value (d ∷ ds) is = other_left width kind from Null d ds is (λ n u k e. ap (λ z. to_if_equal z Null d.to (switched m Null default ds)) e)
      by_cases width kind from (At o k) value (d ∷ ds) is = other_left width kind from (At o k) d ds is (λ n u j e. ap (λ z. to_if_equal z (At o k) d.to (switched m (At o k) default ds)) e)
      by_cases width kind from (Fun k) value (d ∷ ds) is = other_left width kind from (Fun k) d ds is (λ n u j e. ap (λ z. to_if_equal z (Fun k) d.to (switched m (Fun k) default ds)) e)

      pub switch_met : MetBy (Switch ty a default cases) (Br (chunk_name padding (g.block + 1)))
      switch_met from =
          let k = number_kind (kind_of ty) (and_parts (is_number (kind_of ty)) (operand_fits m env (kind_of ty) a && list_all (case_fits m (kind_of ty)) cases) fits).0 in
          by_read k.0 k.1 (subst (λ d. Read (value_of m f.locals d a)) (sym k.1) (number_read m env f.locals k.0 a (subst (λ d. operand_fits m env d a ≡ true) k.1 value_fits)))
        where
          by_read : (width : Width) → kind_of ty ≡ Number width → Read (value_of m f.locals (kind_of ty) a) → Meets s (g ∷ gs) (and_then (value_of m f.locals (kind_of ty) a) (Goes from)) (goes_to w t0 g gs H from (chunk_name padding q))
          by_read width kind (Gives v e) =
              subst (λ r. Meets s (g ∷ gs) (and_then r (Goes from)) (goes_to w t0 g gs H from (chunk_name padding q))) (sym e)
              (by_cases width kind from v (sym (value_both (kind_of ty) a value_fits) ∙ e) cases refl)
          by_read width kind (Leaves e) = inl (ap (λ r. is_left (turned s (and_then r (Goes from))).ending) e)
