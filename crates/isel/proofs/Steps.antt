-- A step of a run that goes on is met, wherever it stands.
use Rattle.std.proofs.Common.{◌≡◌, ℕ, ◌+◌, ◌≤◌, true, not, List, ◌∷◌, ◌++◌, length, Option, Some, None, slice_get, refl, ap, sym, subst, arith, length-append}
use Rattle.behavior.specs.Moment.{AreBytes}
use Rattle.ir_core.specs.declared.instruction.Inst.{Inst}
use Rattle.ir_core.specs.declared.instruction.Op.{Op}
use Rattle.ir_core.specs.declared.instruction.Op.TheVariants.{Bin, Compare, Cast, Select, Freeze, Alloca, Load, Store, Gep, Phi, Call}
use Rattle.ir_core.specs.declared.instruction.Term.{Term}
use Rattle.ir_core.specs.declared.instruction.Term.TheVariants.{Ret, RetValue, Br, BrIf, Switch, Unreachable}
use Rattle.ir_core.specs.declared.module.Block.{Block}
use Rattle.ir_core.specs.declared.module.Module.{Module}
use Rattle.ir_core.specs.State.{Frame, State}
use Rattle.ir_core.specs.Step.{source_step}
use Rattle.ir_core.proofs.Steps.{step_here}
use Rattle.ir_core.specs.Valid.{is_phi}
use Rattle.ir_sound.specs.Typed.{no_phi}
use Rattle.ir_sound.proofs.RowLaws.{all_at}
use Rattle.low_core.specs.Flat.{Bytes}
use Rattle.low_core.specs.Plan.{Plan, Content}
use Rattle.low_core.specs.SelState.{SelFrame}
use Rattle.isel_rows.specs.Selected.{module_selected}
use Rattle.isel.specs.Bound.{longest}
use Rattle.isel.proofs.Accesses.{store_meets}
use Rattle.isel.proofs.Allocas.{alloca_met}
use Rattle.isel.proofs.Beside.{setting_of, state_of, Meets}
use Rattle.isel.proofs.Calls.{call_met}
use Rattle.isel.proofs.Casts.{cast_met}
use Rattle.isel.proofs.Choices.{compare_met, freeze_met}
use Rattle.isel.proofs.Counted.{IsNoPhi, ops_some, stands_few}
use Rattle.isel.proofs.Ends.{IsEndMet, br_met, br_if_met, unreachable_met, switch_none}
use Rattle.isel.proofs.Geps.{gep_met}
use Rattle.isel.proofs.Here.{IsHere, closing, now, ops, stands_here, ends_here}
use Rattle.isel.proofs.Loads.{load_meets}
use Rattle.isel.proofs.Premises.{Premises, moves_at}
use Rattle.isel.proofs.Results.{Stands, IsMet, bin_met}
use Rattle.isel.proofs.Returns.{return_met, return_value_met}
use Rattle.isel.proofs.Selects.{select_met}

no_phi_is : (op : Op) → not (is_phi op) ≡ true → IsNoPhi op
no_phi_is (Phi ty entries) h = absurd cc
no_phi_is (Bin op ty a b) h = tt
no_phi_is (Compare pred ty a b) h = tt
no_phi_is (Cast op from a to) h = tt
no_phi_is (Select condition ty a ty2 b) h = tt
no_phi_is (Freeze ty a) h = tt
no_phi_is (Alloca ty count) h = tt
no_phi_is (Load ty q) h = tt
no_phi_is (Store ty a q) h = tt
no_phi_is (Gep ty a indices) h = tt
no_phi_is (Call ret callee args) h = tt

module _ (m : Module) (plan : Plan) (contents : List Content) (p : Premises m plan contents) (input : List ℕ) (are : AreBytes input) (s : State) (f : Frame) (fs : List Frame) (h : SelFrame) (hs : List SelFrame) (bytes : Bytes)
    (x : IsHere m (setting_of m plan contents) s f fs h hs bytes) where
  -- there is no phi
  no_phi_here : (i : Inst) → slice_get x.call.block.insts f.next ≡ Some i → IsNoPhi i.op
  no_phi_here i there =
      no_phi_is i.op (all_at (λ (j : Inst). not (is_phi j.op)) x.call.block.insts f.next i
      (all_at (λ (b : Block). no_phi b.insts) x.call.fn.blocks f.block x.call.block (moves_at m plan contents p f.function x.call.fn x.call.in_module).no_phis x.call.in_function) there)

  -- an instruction
  pub instruction_met : (into : Option (List ℕ)) (op : Op) → Stands m plan contents p input s f fs h hs bytes x into op → IsMet m plan contents p input s f fs h hs bytes x into op
  instruction_met into (Bin op ty a b) there = bin_met m plan contents p input s f fs h hs bytes x into op ty a b there
  instruction_met into (Compare pred ty a b) there = compare_met m plan contents p input s f fs h hs bytes x into pred ty a b there
  instruction_met into (Cast op from a to) there = cast_met m plan contents p input s f fs h hs bytes x into op from a to there
  instruction_met into (Select condition ty a ty2 b) there = select_met m plan contents p input s f fs h hs bytes x into condition ty a ty2 b there
  instruction_met into (Freeze ty a) there = freeze_met m plan contents p input s f fs h hs bytes x into ty a there
  instruction_met into (Alloca ty count) there = alloca_met m plan contents p input s f fs h hs bytes x into ty count there
  instruction_met into (Load ty q) there = load_meets m plan contents p input s f fs h hs bytes x into ty q there
  instruction_met into (Store ty a q) there = store_meets m plan contents p input s f fs h hs bytes x into ty a q there
  instruction_met into (Gep ty a indices) there = gep_met m plan contents p input s f fs h hs bytes x into ty a indices there
  instruction_met into (Call ret callee args) there = call_met m plan contents p input s f fs h hs bytes x are into ret callee args there
  instruction_met into (Phi ty entries) there = absurd (no_phi_here (record { result = into; op = Phi ty entries }) there)

  -- an end
  pub end_met : slice_get x.call.block.insts f.next ≡ None → (end : Term) → x.call.block.end ≡ end → IsEndMet m plan contents p input s f fs h hs bytes x end
  end_met none Ret is = return_met m plan contents p input s f fs h hs bytes x none is
  end_met none (RetValue ty a) is = return_value_met m plan contents p input s f fs h hs bytes x none ty a is
  end_met none (Br to) is = br_met m plan contents p input s f fs h hs bytes x to (record { none = none; is = is })
  end_met none (BrIf condition taken other) is = br_if_met m plan contents p input s f fs h hs bytes x condition taken other (record { none = none; is = is })
  end_met none (Switch ty a default cases) is = switch_none m plan contents p input s f fs h hs bytes x ty a default cases (record { none = none; is = is })
  end_met none Unreachable is = unreachable_met m plan contents p input s f fs h hs bytes x (record { none = none; is = is })

-- so many steps meet one, and at least one does
pub record IsStepMet (m : Module) (plan : Plan) (contents : List Content) (input : List ℕ) (s : State) (frames : List SelFrame) (bytes : Bytes) : Type 0 where
  pub count : ℕ
  pub some : 1 ≤ count
  pub few : count ≤ longest (module_selected m)
  pub meets : Meets m (setting_of m plan contents) input count (state_of s frames bytes) (source_step m input s)

module _ (m : Module) (plan : Plan) (contents : List Content) (p : Premises m plan contents) (input : List ℕ) (are : AreBytes input) (s : State) (f : Frame) (fs : List Frame) (h : SelFrame) (hs : List SelFrame) (bytes : Bytes)
    (x : IsHere m (setting_of m plan contents) s f fs h hs bytes) where
  -- the other run goes on there too
  beside : now m plan contents p input s f fs h hs bytes x ≡ state_of s (h ∷ hs) bytes
  beside = ap (λ e. record (state_of s (h ∷ hs) bytes) { ending = e }) (sym x.going)

  at_next : (o : Option Inst) → slice_get x.call.block.insts f.next ≡ o → IsStepMet m plan contents input s (h ∷ hs) bytes
  at_next (Some i) there =
      let stands = stands_here m plan contents p input s f fs h hs bytes x i there in
      let n : ℕ = length (ops m plan contents p input s f fs h hs bytes x i there) in
      let few = stands_few (module_selected m) h (ops m plan contents p input s f fs h hs bytes x i there ++ stands.0) stands.1 in
      let both = length-append (ops m plan contents p input s f fs h hs bytes x i there) stands.0 in
      record {
        count = n;
        some = ops_some m _ _ i.result i.op (no_phi_here m plan contents p input are s f fs h hs bytes x i there);
        few = omega (arith, few, both);
        meets =
            subst (λ t. Meets m (setting_of m plan contents) input n t (source_step m input s)) beside
            (subst (Meets m (setting_of m plan contents) input n (now m plan contents p input s f fs h hs bytes x))
            (sym (step_here m input s f fs x.call.fn x.call.block (Some i) x.going x.top (record { in_module = x.call.in_module; in_function = x.call.in_function; in_block = there })))
            (instruction_met m plan contents p input are s f fs h hs bytes x i.result i.op there));
      }
  at_next None none =
      let here = ends_here m plan contents p input s f fs h hs bytes x none in
      let n : ℕ = length (closing m plan contents p input s f fs h hs bytes x).ops + 1 in
      record {
        count = n;
        some = omega arith;
        few = stands_few (module_selected m) h (closing m plan contents p input s f fs h hs bytes x).ops here.stands;
        meets =
            subst (λ t. Meets m (setting_of m plan contents) input n t (source_step m input s)) beside
            (subst (Meets m (setting_of m plan contents) input n (now m plan contents p input s f fs h hs bytes x))
            (sym (step_here m input s f fs x.call.fn x.call.block None x.going x.top (record { in_module = x.call.in_module; in_function = x.call.in_function; in_block = none })))
            (end_met m plan contents p input are s f fs h hs bytes x none x.call.block.end refl));
      }

  pub step_met : IsStepMet m plan contents input s (h ∷ hs) bytes
  step_met = at_next (slice_get x.call.block.insts f.next) refl
