-- Calls of functions outside of the module: one operation behind their arguments. A lifetime marker does nothing.
use Rattle.std.proofs.Common.{◌≡◌, ℕ, ◌-◌, ◌%◌, ◌^◌, ◌<◌, List, [], ◌∷◌, take, length, Option, Some, None, slice_get, refl, ap, sym, ◌∙◌, inl, arith}
use Rattle.std.proofs.Math.Nat.{mod-lt}
use Rattle.behavior.specs.Moment.{AreBytes}
use Rattle.rd_num.specs.declared.width.Width.TheVariants.{W32}
use Rattle.ir_core.specs.declared.instruction.Arg.{Arg}
use Rattle.ir_core.specs.declared.instruction.Inst.{Inst}
use Rattle.ir_core.specs.declared.instruction.Op.TheVariants.{Call}
use Rattle.ir_core.specs.declared.memory.Value.{Value}
use Rattle.ir_core.specs.declared.memory.Value.TheVariants.{Num}
use Rattle.ir_core.specs.declared.module.Module.{Module}
use Rattle.ir_core.specs.declared.operand.Operand.TheVariants.{Global}
use Rattle.ir_core.specs.declared.outer.Outer.{Outer}
use Rattle.ir_core.specs.declared.outer.Outer.TheVariants as outside
use Rattle.ir_core.specs.declared.ty.Ty.{Ty}
use Rattle.ir_core.specs.Calls.{outer_of, outer_turn, read_byte}
use Rattle.ir_core.specs.Operands.{function_number}
use Rattle.ir_core.specs.State.{Frame, State, Nothing, Print, Take, turned}
use Rattle.ir_core.specs.Step.{past}
use Rattle.ir_core.specs.Stops.{Ended, Trap, and_then}
use Rattle.ir_core.specs.Valid.{LocalKind}
use Rattle.ir_sound.proofs.Steps.{byte_at}
use Rattle.low_core.specs.declared.sel.Which.TheVariants as which
use Rattle.low_core.specs.declared.sel.SelOp.{SelOp}
use Rattle.low_core.specs.declared.sel.SelOp.TheVariants.{Set, Outside}
use Rattle.low_core.specs.Flat.{Bytes, Flat}
use Rattle.low_core.specs.Plan.{Plan, Content}
use Rattle.low_core.specs.Bridge.{Setting}
use Rattle.low_core.specs.SelState.{SelFrame, SelState, with_register}
use Rattle.low_core.specs.SelStep.{outside_turn, takes_byte}
use Rattle.flat_memory.proofs.Lists.{get_set_other, length_set}
use Rattle.isel_rows.specs.Brought.{args_brought}
use Rattle.isel_rows.specs.Calls.{register_into, outer_ops, named_ops}
use Rattle.isel_rows.specs.Variables.{variables_of, idle_register}
use Rattle.isel.proofs.Arguments.{Have, some_brought}
use Rattle.isel.proofs.Beside.{setting_of, Meets}
use Rattle.isel.proofs.Here.{IsHere, memory, now, ops, ready}
use Rattle.isel.proofs.Operands.{below_few}
use Rattle.isel.proofs.Premises.{Premises}
use Rattle.isel.proofs.Routines.{copy_met, fill_met}
use Rattle.isel.proofs.Straight.{moved}
use Rattle.isel.proofs.Turns.{later, stops_last, lands_turn, lands_result}

module _ (m : Module) (plan : Plan) (contents : List Content) (p : Premises m plan contents) (input : List ℕ) (s : State) (f : Frame) (fs : List Frame) (h : SelFrame) (hs : List SelFrame) (bytes : Bytes)
    (x : IsHere m (setting_of m plan contents) s f fs h hs bytes) where
  abbrev g : Setting
  g = setting_of m plan contents

  abbrev V : List LocalKind
  V = variables_of x.call.fn

  abbrev flat : Flat
  flat = memory m plan contents p input s f fs h hs bytes x

  abbrev spot : SelState
  spot = now m plan contents p input s f fs h hs bytes x

  module _ (into : Option (List ℕ)) (ret : Ty) (name : List ℕ) (args : List Arg) (there : slice_get x.call.block.insts f.next ≡ Some (record { result = into; op = Call ret (Global name) args })) (none : function_number m name ≡ None) where
    abbrev i : Inst
    i = record { result = into; op = Call ret (Global name) args }

    abbrev os : List SelOp
    os = ops m plan contents p input s f fs h hs bytes x i there

    abbrev count : ℕ
    count = length os

    -- the operations of the call
    abbrev Ops : Outer → List SelOp
    Ops o = outer_ops m V (register_into V into) o args

    -- they are those that stand there
    ops_are : (o : Outer) → outer_of name ≡ o → Ops o ≡ os
    ops_are o named = sym (ap (named_ops m V (register_into V into) args name) none ∙ ap Ops named)

    -- a byte is printed
    put_met : outer_of name ≡ outside.Putchar → (us : List Value) → Have m plan contents p input s f fs h hs bytes x args us → Meets m g input count spot (turned s (outer_turn input s (past f ∷ fs) into outside.Putchar us))
    put_met named (Num w n ∷ []) have =
        let b = some_brought m plan contents p input s f fs h hs bytes x into ret (Global name) args there 1 (Num w n ∷ []) have in
        let rs : List ℕ = (args_brought m V 0 (take 1 args)).registers in
        let front : List SelOp = (args_brought m V 0 (take 1 args)).ops in
        let h2 : SelFrame = moved h b.after (length front) in
        let t : SelState = later m plan contents p input s f fs h hs bytes x b.after (length front) in
        let small = mod-lt n (let l : 0 < 256 = omega arith in l) in
        lands_result m plan contents p input s f fs h hs bytes x i there front (Outside which.Putchar (register_into V into) rs) b.after (Num W32 (n % 256)) (Print (n % 256)) refl (ops_are outside.Putchar named) b.runs b.ready b.count
        (ap (λ q. and_then q (λ ns. outside_turn flat input t h2 hs (register_into V into) which.Putchar ns)) b.words) (omega (arith, small))
    put_met named us have = inl refl

    -- a byte is taken, or there is none
    take_met : AreBytes input → outer_of name ≡ outside.Getchar → Have m plan contents p input s f fs h hs bytes x args [] → (q : Option ℕ) → slice_get input s.taken ≡ q
        → Meets m g input count spot (turned s (read_byte s (past f ∷ fs) into q))
    take_met are named have (Some byte) is =
        let b = some_brought m plan contents p input s f fs h hs bytes x into ret (Global name) args there 0 [] have in
        let rs : List ℕ = (args_brought m V 0 (take 0 args)).registers in
        let front : List SelOp = (args_brought m V 0 (take 0 args)).ops in
        let h2 : SelFrame = moved h b.after (length front) in
        let t : SelState = later m plan contents p input s f fs h hs bytes x b.after (length front) in
        let small = byte_at input are s.taken byte is in
        lands_result m plan contents p input s f fs h hs bytes x i there front (Outside which.Getchar (register_into V into) rs) b.after (Num W32 byte) Take refl (ops_are outside.Getchar named) b.runs b.ready b.count
        (ap (λ q. and_then q (λ ns. outside_turn flat input t h2 hs (register_into V into) which.Getchar ns)) b.words ∙ ap (takes_byte t h2 hs (register_into V into)) is) (omega (arith, small))
    take_met are named have None is =
        let b = some_brought m plan contents p input s f fs h hs bytes x into ret (Global name) args there 0 [] have in
        let rs : List ℕ = (args_brought m V 0 (take 0 args)).registers in
        let front : List SelOp = (args_brought m V 0 (take 0 args)).ops in
        let h2 : SelFrame = moved h b.after (length front) in
        let t : SelState = later m plan contents p input s f fs h hs bytes x b.after (length front) in
        lands_result m plan contents p input s f fs h hs bytes x i there front (Outside which.Getchar (register_into V into) rs) b.after (Num W32 (2 ^ 32 - 1)) Nothing refl (ops_are outside.Getchar named) b.runs b.ready b.count
        (ap (λ q. and_then q (λ ns. outside_turn flat input t h2 hs (register_into V into) which.Getchar ns)) b.words ∙ ap (takes_byte t h2 hs (register_into V into)) is) (omega arith)

    -- whatever its arguments are
    get_met : AreBytes input → outer_of name ≡ outside.Getchar → (us : List Value) → Have m plan contents p input s f fs h hs bytes x args us → Meets m g input count spot (turned s (outer_turn input s (past f ∷ fs) into outside.Getchar us))
    get_met are named [] have = take_met are named have (slice_get input s.taken) refl
    get_met are named (u ∷ us) have = inl refl

    -- the run ends
    exit_met : outer_of name ≡ outside.Exit → (us : List Value) → Have m plan contents p input s f fs h hs bytes x args us → Meets m g input count spot (turned s (outer_turn input s (past f ∷ fs) into outside.Exit us))
    exit_met named (Num w n ∷ []) have =
        let b = some_brought m plan contents p input s f fs h hs bytes x into ret (Global name) args there 1 (Num w n ∷ []) have in
        let rs : List ℕ = (args_brought m V 0 (take 1 args)).registers in
        let front : List SelOp = (args_brought m V 0 (take 1 args)).ops in
        let h2 : SelFrame = moved h b.after (length front) in
        let t : SelState = later m plan contents p input s f fs h hs bytes x b.after (length front) in
        stops_last m plan contents p input s f fs h hs bytes x i there front (Outside which.Exit None rs) b.after (Ended (n % 256)) (ops_are outside.Exit named) b.runs
        (ap (λ q. and_then q (λ ns. outside_turn flat input t h2 hs None which.Exit ns)) b.words)
    exit_met named us have = inl refl

    -- it traps, whatever the arguments are
    trap_met : outer_of name ≡ outside.TrapNow → (us : List Value) → Have m plan contents p input s f fs h hs bytes x args us → Meets m g input count spot (turned s (outer_turn input s (past f ∷ fs) into outside.TrapNow us))
    trap_met named us have =
        let b = some_brought m plan contents p input s f fs h hs bytes x into ret (Global name) args there 0 us have in
        let rs : List ℕ = (args_brought m V 0 (take 0 args)).registers in
        let front : List SelOp = (args_brought m V 0 (take 0 args)).ops in
        let h2 : SelFrame = moved h b.after (length front) in
        let t : SelState = later m plan contents p input s f fs h hs bytes x b.after (length front) in
        stops_last m plan contents p input s f fs h hs bytes x i there front (Outside which.Trap None rs) b.after Trap (ops_are outside.TrapNow named) b.runs
        (ap (λ q. and_then q (λ ns. outside_turn flat input t h2 hs None which.Trap ns)) b.words)

    -- nothing is done
    idle_met : outer_of name ≡ outside.Lifetime → (us : List Value) → Meets m g input count spot (turned s (outer_turn input s (past f ∷ fs) into outside.Lifetime us))
    idle_met named us =
        let r : ℕ = idle_register V in
        let prepared = ready m plan contents p input s f fs h hs bytes x in
        lands_turn m plan contents p input s f fs h hs bytes x i there [] (Set r 0) h.registers (with_register h.registers r 0) f.locals Nothing refl (ops_are outside.Lifetime named) refl (length_set h.registers r (Some 0)) refl
        (record {
          values = x.call.holds.values;
          count = x.call.holds.count;
          stand = x.call.holds.stand;
          words = λ k v e.
              let low = below_few x.call.holds.values k v e in
              let few = prepared.few in
              get_set_other h.registers r k (Some 0) (λ same. omega (arith, same, low, few)) ∙ x.call.holds.words k v e;
          known = x.call.holds.known;
        })

    -- whichever it is
    pub outer_met : AreBytes input → (us : List Value) → Have m plan contents p input s f fs h hs bytes x args us → (o : Outer) → outer_of name ≡ o → Meets m g input count spot (turned s (outer_turn input s (past f ∷ fs) into o us))
    outer_met are us have outside.Putchar named = put_met named us have
    outer_met are us have outside.Getchar named = get_met are named us have
    outer_met are us have outside.Exit named = exit_met named us have
    outer_met are us have outside.Memcpy named = copy_met m plan contents p input s f fs h hs bytes x into ret name args there none named us have
    outer_met are us have outside.Memset named = fill_met m plan contents p input s f fs h hs bytes x into ret name args there none named us have
    outer_met are us have outside.TrapNow named = trap_met named us have
    outer_met are us have outside.Lifetime named = idle_met named us
    outer_met are us have outside.NoOuter named = inl refl
