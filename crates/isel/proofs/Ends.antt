-- Ends of blocks that lead to blocks, or nowhere: both runs go to the same block, or stop alike.
use Rattle.std.proofs.Common.{◌≡◌, ℕ, ◌+◌, ◌%◌, ◌<◌, Bool, true, false, List, [], ◌∷◌, length, Option, None, Ok, Err, slice_get, refl, ap, sym, ◌∙◌, subst, inl, inr, arith}
use Rattle.std.specs.Prelude.{◌||◌, not, nat_eq, if◌then◌else◌}
use Rattle.std.specs.List.{list_any}
use Rattle.rd_num.specs.declared.width.Width.TheVariants.{W1}
use Rattle.behavior.specs.Ending.{is_going}
use Rattle.behavior.specs.Moment.{Agrees}
use Rattle.behavior.specs.System.{iter}
use Rattle.ir_core.specs.declared.instruction.Term.{Term}
use Rattle.ir_core.specs.declared.instruction.Term.TheVariants.{Br, BrIf, Switch, Unreachable}
use Rattle.ir_core.specs.declared.instruction.Case.{Case}
use Rattle.ir_core.specs.declared.kind.Kind.TheVariants.{Number}
use Rattle.ir_core.specs.declared.memory.Value.{Value}
use Rattle.ir_core.specs.declared.memory.Value.TheVariants.{Num}
use Rattle.ir_core.specs.declared.module.Block.{Block}
use Rattle.ir_core.specs.declared.module.Module.{Module}
use Rattle.ir_core.specs.declared.operand.Operand.{Operand}
use Rattle.ir_core.specs.declared.ty.Ty.{Ty}
use Rattle.ir_core.specs.Arithmetic.{modulus}
use Rattle.ir_core.specs.Definitions.{label_names}
use Rattle.ir_core.specs.Kinds.{kind_of}
use Rattle.ir_core.specs.Mentions.{OfLabel, of_operand, of_end}
use Rattle.ir_core.specs.Operands.{value_of}
use Rattle.ir_core.specs.State.{Frame, State, turned, source_moment}
use Rattle.ir_core.specs.Step.{if_true, goes_to, terminator_turn}
use Rattle.ir_core.specs.Stops.{Stop, Ended, Divide, Trap, Depth, Left, Malformed, Answer, and_then, ending_of}
use Rattle.ir_core.specs.Typing.{labels_of, term_fits}
use Rattle.ir_core.specs.Valid.{LocalKind, env_of, named_locals, is_entry, spares_entry}
use Rattle.ir_sound.specs.WellTyped.{Each}
use Rattle.ir_sound.proofs.RowLaws.{all_at, Each_parts}
use Rattle.ir_sound.proofs.SameLaws.{not_true}
use Rattle.ir_context.specs.Origins.{origin_of}
use Rattle.low_core.specs.declared.sel.SelEnd.{SelEnd}
use Rattle.low_core.specs.Flat.{Bytes, Flat}
use Rattle.low_core.specs.Plan.{Plan, Content}
use Rattle.low_core.specs.Contents.{word_of}
use Rattle.low_core.specs.Bridge.{Setting}
use Rattle.low_core.specs.SelState.{SelFrame, SelState, sel_moment, sel_turned, word_in}
use Rattle.low_core.specs.SelStep.{to_block, end_turn, sel_step}
use Rattle.low_core.specs.Shaped.{is_lean_end}
use Rattle.low_core.specs.Weights.{lean_own}
use Rattle.isel_rows.specs.Variables.{variables_of, operand_register}
use Rattle.isel_rows.specs.Brought.{Brought, operand_brought}
use Rattle.isel_rows.specs.Rows.{Closing, closing_of, block_number}
use Rattle.isel_rows.specs.Selected.{module_selected}
use Rattle.isel.proofs.Beside.{setting_of, Meets}
use Rattle.isel.proofs.Edges.{at_block, goes_met}
use Rattle.isel.proofs.Here.{IsHere, memory, now, ends_here, ready}
use Rattle.isel.proofs.Mentioned.{IsFine, end_fine}
use Rattle.isel.proofs.Operands.{IsReady, operand_brings, ready_after}
use Rattle.isel.proofs.Operations.{has, low_same}
use Rattle.isel.proofs.Premises.{Premises, end_at, moves_at}
use Rattle.isel.proofs.Results.{number_has}
use Rattle.isel.proofs.Straight.{going, moved, passed, StandsAt, straight_end}
use Rattle.isel.proofs.Tame.{IsTame, value_tame}
use Rattle.isel.proofs.Values.{HasValue}
use Rattle.isel.proofs.Words.{word_read}

-- none of two tests passes
none_passes : (a b : Bool) → not (a || b) ≡ true → (a ≡ false) × (not b ≡ true)
none_passes false b e = (refl, e)
none_passes true b e = not_true e

module _ (m : Module) (plan : Plan) (contents : List Content) (p : Premises m plan contents) (input : List ℕ) (s : State) (f : Frame) (fs : List Frame) (h : SelFrame) (hs : List SelFrame) (bytes : Bytes)
    (x : IsHere m (setting_of m plan contents) s f fs h hs bytes) where
  abbrev g : Setting
  g = setting_of m plan contents

  abbrev V : List LocalKind
  V = variables_of x.call.fn

  abbrev labels : List (List ℕ)
  labels = label_names x.call.fn

  abbrev spot : SelState
  spot = now m plan contents p input s f fs h hs bytes x

  abbrev flat : Flat
  flat = memory m plan contents p input s f fs h hs bytes x

  -- what stands beside an end
  abbrev pub closes : Term → Closing
  closes end = closing_of m V labels end

  -- the run stands at that end
  pub record StandsAtEnd (end : Term) : Type 0 where
    pub none : slice_get x.call.block.insts f.next ≡ None
    pub is : x.call.block.end ≡ end

  -- it is met by what it reads and one step
  abbrev pub IsEndMet : Term → Type 0
  IsEndMet end = Meets m g input (length (closes end).ops + 1) spot (turned s (terminator_turn m s f fs x.call.fn x.call.block.label end))

  record ClosesHere (end : Term) : Type 0 where
    stands : StandsAt (module_selected m) h (closes end).ops
    is : stands.block.end ≡ (closes end).end

  closes_here : (end : Term) → StandsAtEnd end → ClosesHere end
  closes_here end there = let y = ends_here m plan contents p input s f fs h hs bytes x there.none in subst ClosesHere there.is (record { stands = y.stands; is = y.is })

  -- the call once the end has what it reads
  abbrev pub at_end : Term → List (Option ℕ) → SelFrame
  at_end end after = moved h after (length (closes end).ops)

  -- the step at it
  pub end_steps : (end : Term) → StandsAtEnd end → (after : List (Option ℕ)) → passed plan h.own flat h.registers (closes end).ops ≡ Ok after
      → let h2 : SelFrame = at_end end after in
      iter (sel_step (module_selected m) plan contents input) (length (closes end).ops + 1) spot
      ≡ sel_turned (going (h2 ∷ hs) bytes s.printed s.taken) (end_turn (going (h2 ∷ hs) bytes s.printed s.taken) h2 hs (closes end).end)
  end_steps end there after runs =
      let y = closes_here end there in
      let h2 : SelFrame = at_end end after in
      let t : SelState = going (h2 ∷ hs) bytes s.printed s.taken in
      straight_end (module_selected m) plan contents input hs bytes s.printed s.taken (closes end).ops h after y.stands runs ∙ ap (λ (e : SelEnd). sel_turned t (end_turn t h2 hs e)) y.is

  -- a stop: both have stopped alike
  pub end_stops : (stop : Stop) (count : ℕ) (t : SelState) → iter (sel_step (module_selected m) plan contents input) count spot ≡ sel_turned t (Err stop) → t.printed ≡ s.printed → t.taken ≡ s.taken → Meets m g input count spot (turned s (Err stop))
  end_stops stop count t e printed taken = inr (inr (stopped stop, subst (λ u. Agrees (source_moment (turned s (Err stop))) (sel_moment u)) (sym e) (record { printed = sym printed; taken = sym taken; ending = refl })))
    where
      stopped : (stop : Stop) → is_going (ending_of stop) ≡ false
      stopped (Ended status) = refl
      stopped Divide = refl
      stopped Trap = refl
      stopped Depth = refl
      stopped (Left reason) = refl
      stopped Malformed = refl

  -- none of its labels is the entry's
  spared : (end : Term) → StandsAtEnd end → not (list_any (is_entry x.call.fn.blocks) (labels_of end)) ≡ true
  spared end there = subst (λ t. spares_entry x.call.fn.blocks t ≡ true) there.is (end_at m plan contents p f.function x.call.fn x.call.in_module f.block x.call.block x.call.in_function).spares

  pub end_fits : (end : Term) → StandsAtEnd end → term_fits m (env_of x.call.fn) (kind_of x.call.fn.ret) end ≡ true
  end_fits end there = subst (λ t. term_fits m (env_of x.call.fn) (kind_of x.call.fn.ret) t ≡ true) there.is (end_at m plan contents p f.function x.call.fn x.call.in_module f.block x.call.block x.call.in_function).fits

  -- to a block
  pub br_met : (to : List ℕ) → StandsAtEnd (Br to) → IsEndMet (Br to)
  br_met to there =
      let free = none_passes (is_entry x.call.fn.blocks to) false (spared (Br to) there) in
      goes_met m plan contents p input s f fs h hs bytes x there.none to free.0 h.registers (ready m plan contents p input s f fs h hs bytes x) refl 1 (end_steps (Br to) there h.registers refl)

  -- nowhere
  pub unreachable_met : StandsAtEnd Unreachable → IsEndMet Unreachable
  unreachable_met there =
      let h2 : SelFrame = at_end Unreachable h.registers in
      end_stops Trap 1 (going (h2 ∷ hs) bytes s.printed s.taken) (end_steps Unreachable there h.registers refl) refl refl

  module _ (condition : Operand) (taken other : List ℕ) (there : StandsAtEnd (BrIf condition taken other)) where
    abbrev end : Term
    end = BrIf condition taken other

    abbrev count : ℕ
    count = length (closes end).ops + 1

    abbrev A : Brought
    A = operand_brought m V 0 (Number W1) condition

    -- neither is the entry
    free : (is_entry x.call.fn.blocks taken ≡ false) × (is_entry x.call.fn.blocks other ≡ false)
    free =
        let one = none_passes (is_entry x.call.fn.blocks taken) (is_entry x.call.fn.blocks other || false) (spared end there) in
        (one.0, (none_passes (is_entry x.call.fn.blocks other) false one.1).0)

    -- to one of the two, by a test
    to_one : (after : List (Option ℕ)) → IsReady x.at V x.call.holds.values after → length after ≡ length h.registers → (b : Bool)
        → iter (sel_step (module_selected m) plan contents input) count spot
        ≡ going (at_block m plan contents p input s f fs h hs bytes x (if b then block_number labels other else block_number labels taken) after ∷ hs) bytes s.printed s.taken
        → Meets m g input count spot (turned s (goes_to m s f fs x.call.fn x.call.block.label (if b then other else taken)))
    to_one after prepared many true e = goes_met m plan contents p input s f fs h hs bytes x there.none other free.1 after prepared many count e
    to_one after prepared many false e = goes_met m plan contents p input s f fs h hs bytes x there.none taken free.0 after prepared many count e

    -- the truth value is read on both sides
    on_value : (v : Value) → HasValue m g s.objects x.at x.call.holds.values (Number W1) (origin_of m (named_locals V) (Number W1) condition) v → (n : ℕ) × (v ≡ Num W1 n) × (n < modulus W1)
        → Meets m g input count spot (turned s (and_then (if_true v taken other) (λ to. goes_to m s f fs x.call.fn x.call.block.label to)))
    on_value v first n =
        let prepared = ready m plan contents p input s f fs h hs bytes x in
        let y = operand_brings plan h.own flat x.at V x.call.holds.values h.registers 0 (origin_of m (named_locals V) (Number W1) condition) v (omega arith) prepared first.planned first.is in
        let z = ready_after plan h.own flat x.at V x.call.holds.values h.registers A.ops (operand_register V 0) (omega arith) prepared y.left in
        let h2 : SelFrame = at_end end y.left.after in
        let t : SelState = going (h2 ∷ hs) bytes s.printed s.taken in
        let word : word_in y.left.after A.register ≡ Ok n.0 = word_read y.left.after A.register (word_of x.at v) y.holds ∙ ap (λ u. Ok (word_of x.at u)) n.1 in
        subst (λ u. Meets m g input count spot (turned s (and_then (if_true u taken other) (λ to. goes_to m s f fs x.call.fn x.call.block.label to)))) (sym n.1)
        (to_one y.left.after z y.left.count (nat_eq n.0 0)
        (end_steps end there y.left.after y.left.runs
        ∙ ap (λ q. sel_turned t (and_then q (λ k. to_block t h2 hs (if nat_eq (k % 2) 0 then block_number labels other else block_number labels taken)))) word
        ∙ ap (λ k. sel_turned t (to_block t h2 hs (if nat_eq k 0 then block_number labels other else block_number labels taken))) (low_same W1 n.0 n.2)))

    by_value : (q : Answer Value) → value_of m f.locals (Number W1) condition ≡ q
        → Meets m g input count spot (turned s (and_then q (λ c. and_then (if_true c taken other) (λ to. goes_to m s f fs x.call.fn x.call.block.label to))))
    by_value (Err stop) e = inl (subst IsTame e (value_tame m f.locals (Number W1) condition))
    by_value (Ok v) e =
        let fine = subst (λ (t : Term). Each (IsFine m) (of_end t)) there.is (end_fine lean_own m p.shaped f.function x.call.fn x.call.in_module f.block x.call.block x.call.in_function) in
        let first = has m plan contents p input s f fs h hs bytes x (Number W1) condition v (end_fits end there) (Each_parts (IsFine m) (of_operand condition) (OfLabel taken ∷ OfLabel other ∷ []) fine).0 e in
        on_value v first (number_has m plan contents p input s f fs h hs bytes x W1 (Number W1) condition v refl first)

    -- to one of two blocks
    pub br_if_met : IsEndMet (BrIf condition taken other)
    br_if_met = by_value (value_of m f.locals (Number W1) condition) refl

  -- there is no switch
  pub switch_none : (ty : Ty) (a : Operand) (default : List ℕ) (cases : List Case) → StandsAtEnd (Switch ty a default cases) → IsEndMet (Switch ty a default cases)
  switch_none ty a default cases there =
      let lean = all_at (λ (b : Block). is_lean_end b.end) x.call.fn.blocks f.block x.call.block (moves_at m plan contents p f.function x.call.fn x.call.in_module).no_switches x.call.in_function in
      not_true (sym (ap is_lean_end there.is) ∙ lean)
