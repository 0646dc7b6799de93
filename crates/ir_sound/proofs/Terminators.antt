-- The terminator of a block that fits keeps calls over memory.
use Rattle.std.proofs.Common.{◌≡◌, ◌⊎◌, ⊎_elim, ℕ, true, List, map, Some, None, refl, sym, subst}
use Rattle.std.specs.Prelude.{◌&&◌}
use Rattle.std.proofs.lemmas.Bool.{and_parts}
use Rattle.rd_num.specs.declared.width.Width.TheVariants.{W1}
use Rattle.ir_core.specs.declared.ty.Ty.{Ty}
use Rattle.ir_core.specs.declared.operand.Operand.{Operand}
use Rattle.ir_core.specs.declared.instruction.Case.{Case}
use Rattle.ir_core.specs.declared.module.Function.{Function}
use Rattle.ir_core.specs.declared.instruction.Term.{Term}
use Rattle.ir_core.specs.declared.instruction.Term.TheVariants.{Ret, RetValue, Br, BrIf, Switch, Unreachable}
use Rattle.ir_core.specs.declared.module.Module.{Module}
use Rattle.ir_core.specs.Names.{same_name}
use Rattle.ir_core.specs.Stops.{Answer, and_then}
use Rattle.ir_core.specs.declared.kind.Kind.{Kind}
use Rattle.ir_core.specs.declared.kind.Kind.TheVariants.{NoValue, Number, Pointer}
use Rattle.ir_core.specs.Kinds.{kind_of, same_kind}
use Rattle.ir_core.specs.State.{Frame, State, Turn}
use Rattle.ir_core.specs.Operands.{value_of}
use Rattle.ir_core.specs.Calls.{return_turn}
use Rattle.ir_core.specs.Step.{goes_to, if_true, switched, terminator_turn}
use Rattle.std.specs.List.{list_all, list_any}
use Rattle.ir_core.specs.Typing.{Env, is_value, is_number, operand_fits, returns_nothing, case_fits, labels_of, term_fits}
use Rattle.ir_core.specs.Valid.{env_of}
use Rattle.ir_sound.specs.Typed.{has_label, block_typed}
use Rattle.ir_sound.specs.WellTyped.{Present, Each, Properly, IsOfKind, present, IsTypedTurn}
use Rattle.ir_sound.proofs.AnswerLaws.{then_gives}
use Rattle.ir_sound.proofs.Calls.{returned_gives}
use Rattle.ir_sound.proofs.Edges.{goes_gives, leads_each, one_of_two, switched_gives}
use Rattle.ir_sound.proofs.Frames.{callers_of, Here}
use Rattle.ir_sound.proofs.Parts.{BlockParts}
use Rattle.ir_sound.proofs.RowLaws.{Each_and, Each_from, Each_more}
use Rattle.ir_sound.proofs.SameLaws.{kind_is, none_is, not_true, some_is}
use Rattle.ir_sound.proofs.Instructions.{covered, operand_gives}

-- a kind without a value
nothing_is : (k : Kind) → returns_nothing k ≡ true → k ≡ NoValue
nothing_is NoValue e = refl
nothing_is (Number w) e = not_true e
nothing_is Pointer e = not_true e

module _ (m : Module) (s : State) (f : Frame) (callers : List Frame) (h : Here m s.objects f callers) where
  -- what there is
  abbrev here : Present
  here = present m s.objects

  -- the call's function, with the kinds of its locals and of its result
  abbrev fn : Function
  fn = h.stands.fn

  abbrev env : Env
  env = env_of fn

  abbrev ret : Kind
  ret = kind_of fn.ret

  -- the step along an edge to a label
  abbrev edge_turn : List ℕ → Answer Turn
  edge_turn to = goes_to m s f callers fn h.stands.block.label to

  -- keeps calls over memory
  abbrev Goes : List ℕ → Type 0
  Goes to = Properly (IsTypedTurn m) (edge_turn to)

  -- a return of a value
  value_returned : (ty : Ty) (a : Operand) → term_fits m env ret (RetValue ty a) ≡ true → Properly (IsTypedTurn m) (terminator_turn m s f callers fn h.stands.block.label (RetValue ty a))
  value_returned ty a fits =
      let parts = and_parts (is_value ret) (same_kind (kind_of ty) ret && operand_fits m env ret a) fits in
      let both = and_parts (same_kind (kind_of ty) ret) (operand_fits m env ret a) parts.1 in
      then_gives (IsOfKind here ret) (IsTypedTurn m) (value_of m f.locals (kind_of ty) a) (λ v. return_turn s f callers (Some v))
      (subst (λ k. Properly (IsOfKind here ret) (value_of m f.locals k a)) (sym (kind_is (kind_of ty) ret both.0)) (operand_gives m s f callers h ret a both.1))
      (λ v p. returned_gives m s f callers ret (Some v) (λ u e. subst (IsOfKind here ret) (some_is v u e) p) (λ e. none_is v (sym e)) h.stands.objects (callers_of m s f callers h))

  -- one of two edges
  one_taken : (condition : Operand) (taken other : List ℕ) → operand_fits m env (Number W1) condition ≡ true → Goes taken → Goes other → Properly (IsTypedTurn m) (terminator_turn m s f callers fn h.stands.block.label (BrIf condition taken other))
  one_taken condition taken other fits one two =
      then_gives (IsOfKind here (Number W1)) (IsTypedTurn m) (value_of m f.locals (Number W1) condition) (λ c. and_then (if_true c taken other) edge_turn) (operand_gives m s f callers h (Number W1) condition fits)
      (λ c p. then_gives (λ to. (to ≡ taken) ⊎ (to ≡ other)) (IsTypedTurn m) (if_true c taken other) edge_turn (one_of_two here c taken other p)
      (λ to q. ⊎_elim (λ e. subst Goes (sym e) one) (λ e. subst Goes (sym e) two) q))

  -- one of many
  case_taken : (ty : Ty) (a : Operand) (default : List ℕ) (cases : List Case) → term_fits m env ret (Switch ty a default cases) ≡ true → Goes default → Each Goes (map (λ (c : Case). c.to) cases) → Properly (IsTypedTurn m) (terminator_turn m s f callers fn h.stands.block.label (Switch ty a default cases))
  case_taken ty a default cases fits first others =
      let parts = and_parts (is_number (kind_of ty)) (operand_fits m env (kind_of ty) a && list_all (case_fits m (kind_of ty)) cases) fits in
      let both = and_parts (operand_fits m env (kind_of ty) a) (list_all (case_fits m (kind_of ty)) cases) parts.1 in
      then_gives (IsOfKind here (kind_of ty)) (IsTypedTurn m) (value_of m f.locals (kind_of ty) a) (λ v. and_then (switched m v default cases) edge_turn) (operand_gives m s f callers h (kind_of ty) a both.0)
      (λ v p. then_gives Goes (IsTypedTurn m) (switched m v default cases) edge_turn (switched_gives m here (covered m s f callers h) (kind_of ty) Goes v default cases parts.0 p both.1 first others) (λ to q. q))

  -- a terminator whose edges keep calls over memory
  terminator_gives : (t : Term) → term_fits m env ret t ≡ true → Each Goes (labels_of t) → Properly (IsTypedTurn m) (terminator_turn m s f callers fn h.stands.block.label t)
  terminator_gives Ret fits all = returned_gives m s f callers ret None (λ v e. none_is v e) (λ e. nothing_is ret fits) h.stands.objects (callers_of m s f callers h)
  terminator_gives (RetValue ty a) fits all = value_returned ty a fits
  terminator_gives (Br to) fits all = all.0
  terminator_gives (BrIf condition taken other) fits all = one_taken condition taken other fits all.0 all.1.0
  terminator_gives (Switch ty a default cases) fits all = case_taken ty a default cases fits all.0 all.1
  terminator_gives Unreachable fits all = tt

  -- the terminator of the block
  pub end_gives : list_all (block_typed m env fn) fn.blocks ≡ true → BlockParts m env fn h.stands.block → Properly (IsTypedTurn m) (terminator_turn m s f callers fn h.stands.block.label h.stands.block.end)
  end_gives blocks parts =
      let labels = labels_of h.stands.block.end in
      let known = Each_and (λ to. list_any (λ l. same_name l to) labels ≡ true) (λ to. list_any (has_label to) fn.blocks ≡ true) labels (leads_each labels) (Each_from (λ to. list_any (has_label to) fn.blocks) labels parts.labels) in
      terminator_gives h.stands.block.end parts.end (Each_more _ Goes labels (λ to k. goes_gives m s f callers h (covered m s f callers h) blocks to k.0 k.1) known)
