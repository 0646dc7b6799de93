-- Copies and fills: their arguments in registers, and then one operation. Of no bytes nothing is asked.
use Rattle.std.proofs.Common.{◌≡◌, ℕ, ◌%◌, ◌^◌, ◌<◌, true, List, [], ◌∷◌, take, length, Option, Some, None, Ok, slice_get, refl, ap, sym, ◌∙◌, subst, inl, arith}
use Rattle.std.proofs.lemmas.Bool.{and_parts}
use Rattle.rd_num.specs.declared.width.Width.{Width}
use Rattle.rd_num.specs.declared.width.Width.TheVariants.{W1, W8, W64}
use Rattle.ir_core.specs.declared.instruction.Arg.{Arg}
use Rattle.ir_core.specs.declared.instruction.Inst.{Inst}
use Rattle.ir_core.specs.declared.instruction.Op.TheVariants.{Call}
use Rattle.ir_core.specs.declared.kind.Kind.TheVariants.{NoValue, Number, Pointer}
use Rattle.ir_core.specs.declared.memory.Value.{Value}
use Rattle.ir_core.specs.declared.memory.Value.TheVariants.{Num}
use Rattle.ir_core.specs.declared.module.Module.{Module}
use Rattle.ir_core.specs.declared.operand.Operand.TheVariants.{Global}
use Rattle.ir_core.specs.declared.outer.Outer.TheVariants as outside
use Rattle.ir_core.specs.declared.ty.Ty.{Ty}
use Rattle.ir_core.specs.Calls.{outer_of, outer_turn, same_kinds}
use Rattle.ir_core.specs.Kinds.{kind_of, same_kind}
use Rattle.ir_core.specs.Memory.{Memory, copied, filled}
use Rattle.ir_core.specs.Operands.{function_number}
use Rattle.ir_core.specs.State.{Frame, State, Nothing, turned}
use Rattle.ir_core.specs.Stops.{and_then}
use Rattle.ir_core.specs.Step.{past}
use Rattle.ir_core.specs.Typing.{outer_fits, kinds_of}
use Rattle.ir_core.specs.Valid.{LocalKind}
use Rattle.ir_sound.specs.WellTyped.{IsOfKind, present}
use Rattle.ir_sound.proofs.SameLaws.{kinds_are}
use Rattle.low_core.specs.declared.sel.Which.TheVariants as which
use Rattle.low_core.specs.declared.sel.SelOp.{SelOp}
use Rattle.low_core.specs.declared.sel.SelOp.TheVariants.{Outside}
use Rattle.low_core.specs.Flat.{Bytes, Flat}
use Rattle.low_core.specs.Flat as flat_of
use Rattle.low_core.specs.Plan.{Plan, Content}
use Rattle.low_core.specs.Contents.{word_of}
use Rattle.low_core.specs.Bridge.{Setting}
use Rattle.low_core.specs.SelState.{SelFrame, SelState}
use Rattle.low_core.specs.SelStep.{outside_turn, puts_bytes}
use Rattle.flat_memory.proofs.Store.{copy_law, fill_law}
use Rattle.isel_rows.specs.Brought.{args_brought}
use Rattle.isel_rows.specs.Calls.{register_into, outer_ops, named_ops}
use Rattle.isel_rows.specs.Variables.{variables_of}
use Rattle.isel.proofs.Accesses.{when_answered}
use Rattle.isel.proofs.Arguments.{Have, some_brought}
use Rattle.isel.proofs.Beside.{memories, setting_of, Meets}
use Rattle.isel.proofs.Callees.{outer_called}
use Rattle.isel.proofs.Here.{IsHere, memory, now, ops}
use Rattle.isel.proofs.Past.{flat_same, lands_bytes}
use Rattle.isel.proofs.Premises.{Premises}
use Rattle.isel.proofs.Straight.{moved}
use Rattle.isel.proofs.Tame.{copied_tame, filled_tame}
use Rattle.isel.proofs.Turns.{later}

module _ (m : Module) (plan : Plan) (contents : List Content) (p : Premises m plan contents) (input : List ℕ) (s : State) (f : Frame) (fs : List Frame) (h : SelFrame) (hs : List SelFrame) (bytes : Bytes)
    (x : IsHere m (setting_of m plan contents) s f fs h hs bytes) where
  abbrev g : Setting
  g = setting_of m plan contents

  abbrev V : List LocalKind
  V = variables_of x.call.fn

  abbrev flat : Flat
  flat = memory m plan contents p input s f fs h hs bytes x

  abbrev spot : SelState
  spot = now m plan contents p input s f fs h hs bytes x

  module _ (into : Option (List ℕ)) (ret : Ty) (name : List ℕ) (args : List Arg) (there : slice_get x.call.block.insts f.next ≡ Some (record { result = into; op = Call ret (Global name) args })) (none : function_number m name ≡ None) where
    abbrev i : Inst
    i = record { result = into; op = Call ret (Global name) args }

    abbrev os : List SelOp
    os = ops m plan contents p input s f fs h hs bytes x i there

    abbrev count : ℕ
    count = length os

    -- a copy
    copies : outer_of name ≡ outside.Memcpy → (to from volatile : Value) (n : ℕ) (w : Width) → Have m plan contents p input s f fs h hs bytes x args (to ∷ from ∷ Num w n ∷ volatile ∷ []) → (objects : Memory)
        → copied s.objects to from n ≡ Ok objects
        → Meets m g input count spot (turned s (Ok (record { frames = past f ∷ fs; objects = objects; exchange = Nothing })))
    copies named to from volatile n w have objects is =
        let b = some_brought m plan contents p input s f fs h hs bytes x into ret (Global name) args there 3 (to ∷ from ∷ Num w n ∷ volatile ∷ []) have in
        let law = copy_law g (memories (f ∷ fs) (h ∷ hs)) s.objects x.at bytes p.setting x.tied to from n objects is in
        let rs : List ℕ = (args_brought m V 0 (take 3 args)).registers in
        let front : List SelOp = (args_brought m V 0 (take 3 args)).ops in
        let h2 : SelFrame = moved h b.after (length front) in
        let t : SelState = later m plan contents p input s f fs h hs bytes x b.after (length front) in
        lands_bytes m plan contents p input s f fs h hs bytes x i there front (Outside which.Memcpy None rs) b.after objects law.bytes refl
        (sym (ap (named_ops m V (register_into V into) args name) none ∙ ap (λ o. outer_ops m V (register_into V into) o args) named)) b.runs b.ready b.count
        (ap (λ q. and_then q (λ ns. outside_turn flat input t h2 hs None which.Memcpy ns)) b.words
        ∙ ap (λ l. puts_bytes h2 hs (flat_of.copied l (word_of x.at to) (word_of x.at from) n)) (sym (flat_same m plan contents p input s f fs h hs bytes x))
        ∙ ap (puts_bytes h2 hs) law.gives)
        law.tied law.same

    -- whatever the arguments of a copy are
    pub copy_met : outer_of name ≡ outside.Memcpy → (us : List Value) → Have m plan contents p input s f fs h hs bytes x args us → Meets m g input count spot (turned s (outer_turn input s (past f ∷ fs) into outside.Memcpy us))
    copy_met named (to ∷ from ∷ Num w n ∷ volatile ∷ []) have =
        when_answered m plan contents p input s f fs h hs bytes x count spot (copied s.objects to from n) (λ objects. Ok (record { frames = past f ∷ fs; objects = objects; exchange = Nothing })) (copied_tame s.objects to from n)
        (λ objects is. copies named to from volatile n w have objects is)
    copy_met named us have = inl refl

    -- the byte of a fill is one
    fill_byte : outer_of name ≡ outside.Memset → (as' : List Arg) → args ≡ as' → (to volatile : Value) (byte n : ℕ) (v w : Width) → Have m plan contents p input s f fs h hs bytes x as' (to ∷ Num v byte ∷ Num w n ∷ volatile ∷ [])
        → byte < 2 ^ 8
    fill_byte named [] same to volatile byte n v w have = absurd have
    fill_byte named (a ∷ []) same to volatile byte n v w have = absurd have.1
    fill_byte named (a ∷ b ∷ as') same to volatile byte n v w have =
        let fits : outer_fits outside.Memset (kind_of ret) (kinds_of (a ∷ b ∷ as')) ≡ true =
        ap (λ l. outer_fits outside.Memset (kind_of ret) (kinds_of l)) (sym same) ∙ ap (λ o. outer_fits o (kind_of ret) (kinds_of args)) (sym named) ∙ outer_called m plan contents p input s f fs h hs bytes x into ret name args there none in
        let parts = and_parts (same_kind (kind_of ret) NoValue) (same_kinds (kinds_of (a ∷ b ∷ as')) (Pointer ∷ Number W8 ∷ Number W64 ∷ Number W1 ∷ [])) fits in
        let are = kinds_are (kinds_of (a ∷ b ∷ as')) (Pointer ∷ Number W8 ∷ Number W64 ∷ Number W1 ∷ []) parts.1 in
        let kind : kind_of b.ty ≡ Number W8 = cc in
        (subst (λ k. IsOfKind (present m s.objects) k (Num v byte)) kind have.1.0.of_kind).1

    -- a fill
    fills : outer_of name ≡ outside.Memset → (to volatile : Value) (byte n : ℕ) (v w : Width) → Have m plan contents p input s f fs h hs bytes x args (to ∷ Num v byte ∷ Num w n ∷ volatile ∷ []) → (objects : Memory)
        → filled s.objects to byte n ≡ Ok objects
        → Meets m g input count spot (turned s (Ok (record { frames = past f ∷ fs; objects = objects; exchange = Nothing })))
    fills named to volatile byte n v w have objects is =
        let b = some_brought m plan contents p input s f fs h hs bytes x into ret (Global name) args there 3 (to ∷ Num v byte ∷ Num w n ∷ volatile ∷ []) have in
        let law = fill_law g (memories (f ∷ fs) (h ∷ hs)) s.objects x.at bytes p.setting x.tied to byte n objects is in
        let rs : List ℕ = (args_brought m V 0 (take 3 args)).registers in
        let front : List SelOp = (args_brought m V 0 (take 3 args)).ops in
        let h2 : SelFrame = moved h b.after (length front) in
        let t : SelState = later m plan contents p input s f fs h hs bytes x b.after (length front) in
        let low = fill_byte named args refl to volatile byte n v w have in
        let same : byte % 256 ≡ byte = omega (arith, low) in
        lands_bytes m plan contents p input s f fs h hs bytes x i there front (Outside which.Memset None rs) b.after objects law.bytes refl
        (sym (ap (named_ops m V (register_into V into) args name) none ∙ ap (λ o. outer_ops m V (register_into V into) o args) named)) b.runs b.ready b.count
        (ap (λ q. and_then q (λ ns. outside_turn flat input t h2 hs None which.Memset ns)) b.words
        ∙ ap (λ k. puts_bytes h2 hs (flat_of.filled flat (word_of x.at to) k n)) same
        ∙ ap (λ l. puts_bytes h2 hs (flat_of.filled l (word_of x.at to) byte n)) (sym (flat_same m plan contents p input s f fs h hs bytes x))
        ∙ ap (puts_bytes h2 hs) law.gives)
        law.tied law.same

    -- whatever the arguments of a fill are
    pub fill_met : outer_of name ≡ outside.Memset → (us : List Value) → Have m plan contents p input s f fs h hs bytes x args us → Meets m g input count spot (turned s (outer_turn input s (past f ∷ fs) into outside.Memset us))
    fill_met named (to ∷ Num v byte ∷ Num w n ∷ volatile ∷ []) have =
        when_answered m plan contents p input s f fs h hs bytes x count spot (filled s.objects to byte n) (λ objects. Ok (record { frames = past f ∷ fs; objects = objects; exchange = Nothing })) (filled_tame s.objects to byte n)
        (λ objects is. fills named to volatile byte n v w have objects is)
    fill_met named us have = inl refl
