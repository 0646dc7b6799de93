-- Loads and stores.
use Rattle.std.proofs.Common.{◌≡◌, ℕ, ◌+◌, List, [], ◌∷◌, ◌++◌, length, Option, Some, Ok, Err, slice_get, refl, ap, sym, ◌∙◌, subst, inl}
use Rattle.std.specs.Prelude.{◌&&◌}
use Rattle.std.proofs.lemmas.Bool.{and_parts}
use Rattle.std.proofs.lemmas.List.{append_assoc}
use Rattle.rd_num.specs.declared.width.Width.{Width}
use Rattle.rd_num.specs.declared.width.Width.TheVariants.{W1, W8, W16, W32, W64}
use Rattle.ir_core.specs.declared.instruction.Inst.{Inst}
use Rattle.ir_core.specs.declared.instruction.Op.TheVariants as op
use Rattle.ir_core.specs.declared.kind.Kind.{Kind}
use Rattle.ir_core.specs.declared.kind.Kind.TheVariants.{Number, Pointer}
use Rattle.ir_core.specs.declared.memory.Value.{Value}
use Rattle.ir_core.specs.declared.memory.Value.TheVariants.{Num, Null, At, Fun}
use Rattle.ir_core.specs.declared.module.Module.{Module}
use Rattle.ir_core.specs.declared.operand.Operand.{Operand}
use Rattle.ir_core.specs.declared.ty.Ty.{Ty}
use Rattle.ir_core.specs.Kinds.{kind_of}
use Rattle.ir_core.specs.Memory.{Memory, cells_of, store_at}
use Rattle.ir_core.specs.Mentions.{of_operand, of_typed}
use Rattle.ir_core.specs.Operands.{value_of}
use Rattle.ir_core.specs.Shapes.{bytes_of}
use Rattle.ir_core.specs.State.{Frame, State, Nothing, Turn, turned}
use Rattle.ir_core.specs.Step.{instruction_turn, stores}
use Rattle.ir_core.specs.Stops.{Answer, and_then}
use Rattle.ir_core.specs.Typing.{is_value, operand_fits}
use Rattle.ir_core.specs.Valid.{LocalKind, named_locals, env_of}
use Rattle.ir_sound.specs.WellTyped.{Present, IsOfKind, present}
use Rattle.ir_sound.proofs.RowLaws.{Each_parts}
use Rattle.ir_context.specs.declared.origin.Origin.{Origin}
use Rattle.ir_context.specs.Origins.{origin_of}
use Rattle.low_core.specs.declared.sel.SelOp.{SelOp}
use Rattle.low_core.specs.declared.sel.SelOp.TheVariants as sel
use Rattle.low_core.specs.Flat.{Bytes, Flat, with_word_at}
use Rattle.low_core.specs.Plan.{Plan, Content}
use Rattle.low_core.specs.Contents.{word_of}
use Rattle.low_core.specs.Bridge.{Setting}
use Rattle.low_core.specs.SelState.{SelFrame, SelState, word_in}
use Rattle.low_core.specs.SelStep.{puts_bytes}
use Rattle.flat_memory.proofs.Store.{store_law}
use Rattle.isel_rows.specs.Variables.{operand_register, width_of}
use Rattle.isel_rows.specs.Brought.{brought}
use Rattle.isel_rows.specs.Rows.{stored_width}
use Rattle.isel.proofs.Beside.{memories, setting_of, Meets}
use Rattle.isel.proofs.Mentioned.{IsFine, inst_fine}
use Rattle.isel.proofs.Premises.{Premises, rules_at}
use Rattle.isel.proofs.Straight.{moved}
use Rattle.isel.proofs.Words.{word_read}
use Rattle.isel.proofs.Operands.{BringsTwo, two_bring}
use Rattle.isel.proofs.Values.{HasValue, operand_has}
use Rattle.isel.proofs.Tame.{IsTame, value_tame, store_tame}
use Rattle.isel.proofs.Here.{IsHere, vs, memory, now, ready, ops}
use Rattle.isel.proofs.Past.{flat_same, lands_bytes}
use Rattle.low_core.specs.Weights.{lean_own}

-- a value of a kind is stored in as many bytes as the program stores
value_bytes : (x : Present) (kind : Kind) (v : Value) → IsOfKind x kind v → bytes_of (stored_width (width_of kind)) ≡ length (cells_of v)
value_bytes x (Number W1) (Num u n) is = subst (λ w. 1 ≡ length (cells_of (Num w n))) (sym is.0) refl
value_bytes x (Number W8) (Num u n) is = subst (λ w. 1 ≡ length (cells_of (Num w n))) (sym is.0) refl
value_bytes x (Number W16) (Num u n) is = subst (λ w. 2 ≡ length (cells_of (Num w n))) (sym is.0) refl
value_bytes x (Number W32) (Num u n) is = subst (λ w. 4 ≡ length (cells_of (Num w n))) (sym is.0) refl
value_bytes x (Number W64) (Num u n) is = subst (λ w. 8 ≡ length (cells_of (Num w n))) (sym is.0) refl
value_bytes x Pointer Null is = refl
value_bytes x Pointer (At o d) is = refl
value_bytes x Pointer (Fun f) is = refl
value_bytes x kind v is = absurd is

module _ (m : Module) (plan : Plan) (contents : List Content) (p : Premises m plan contents) (input : List ℕ) (s : State) (f : Frame) (fs : List Frame) (h : SelFrame) (hs : List SelFrame) (bytes : Bytes)
    (x : IsHere m (setting_of m plan contents) s f fs h hs bytes) where
  -- a part of a step that has its answer, or is left
  pub when_answered : {A : Type 0} (count : ℕ) (t : SelState) (a : Answer A) (rest : A → Answer Turn) → IsTame a → ((v : A) → a ≡ Ok v → Meets m (setting_of m plan contents) input count t (turned s (rest v))) → Meets m (setting_of m plan contents) input count t (turned s (and_then a rest))
  when_answered count t (Ok v) rest tame go = go v refl
  when_answered count t (Err stop) rest tame go = inl tame

  abbrev vars : List LocalKind
  vars = vs m plan contents p input s f fs h hs bytes x

  abbrev flat : Flat
  flat = memory m plan contents p input s f fs h hs bytes x

  abbrev beside : SelState
  beside = now m plan contents p input s f fs h hs bytes x

  module _ (into : Option (List ℕ)) (ty : Ty) (a q : Operand) (there : slice_get x.call.block.insts f.next ≡ Some (record { result = into; op = op.Store ty a q })) where
    abbrev i : Inst
    i = record { result = into; op = op.Store ty a q }

    abbrev o : Origin
    o = origin_of m (named_locals vars) (kind_of ty) a

    abbrev r : Origin
    r = origin_of m (named_locals vars) Pointer q

    abbrev g : Setting
    g = setting_of m plan contents

    abbrev width : Width
    width = stored_width (width_of (kind_of ty))

    abbrev t : ℕ
    t = (brought vars (operand_register vars 0) o).register

    abbrev to : ℕ
    to = (brought vars (operand_register vars 1) r).register

    stored : (u v : Value) (objects : Memory) → store_at s.objects u v ≡ Ok objects → HasValue m g s.objects x.at x.call.holds.values (kind_of ty) o u → BringsTwo plan h.own flat x.at vars x.call.holds.values h.registers o r u v →
        Meets m g input (length (ops m plan contents p input s f fs h hs bytes x i there)) beside (turned s (stores s f fs (Ok objects)))
    stored u v objects is first two =
        let law = store_law g (memories (f ∷ fs) (h ∷ hs)) s.objects x.at bytes p.setting x.tied u v objects first.known is in
        let front : List SelOp = (brought vars (operand_register vars 0) o).ops ++ (brought vars (operand_register vars 1) r).ops in
        let h2 : SelFrame = moved h two.after (length front) in
        let many : bytes_of width ≡ length (cells_of u) = value_bytes (present m s.objects) (kind_of ty) u first.of_kind in
        let gives : with_word_at flat (word_of x.at v) (bytes_of width) (word_of x.at u) ≡ Ok law.bytes =
        ap (λ n. with_word_at flat (word_of x.at v) n (word_of x.at u)) many
        ∙ ap (λ l. with_word_at l (word_of x.at v) (length (cells_of u)) (word_of x.at u)) (sym (flat_same m plan contents p input s f fs h hs bytes x)) ∙ law.gives in
        lands_bytes m plan contents p input s f fs h hs bytes x i there front (sel.Store width to t) two.after objects law.bytes refl
        (append_assoc (brought vars (operand_register vars 0) o).ops (brought vars (operand_register vars 1) r).ops (sel.Store width to t ∷ [])) two.runs two.ready two.count
        (ap (λ y. and_then y (λ place. and_then (word_in two.after t) (λ word. puts_bytes h2 hs (with_word_at flat place (bytes_of width) word)))) (word_read two.after to (word_of x.at v) two.second)
        ∙ ap (λ y. and_then y (λ word. puts_bytes h2 hs (with_word_at flat (word_of x.at v) (bytes_of width) word))) (word_read two.after t (word_of x.at u) two.first)
        ∙ ap (puts_bytes h2 hs) gives)
        law.tied law.same

    pub store_meets : Meets m (setting_of m plan contents) input (length (ops m plan contents p input s f fs h hs bytes x i there)) beside (turned s (instruction_turn m input s f fs into (op.Store ty a q)))
    store_meets =
        let rules = rules_at m plan contents p f.function x.call.fn x.call.in_module f.block x.call.block x.call.in_function f.next i there in
        let fits = and_parts (is_value (kind_of ty)) (operand_fits m (env_of x.call.fn) (kind_of ty) a && operand_fits m (env_of x.call.fn) Pointer q) rules.fits in
        let both = and_parts (operand_fits m (env_of x.call.fn) (kind_of ty) a) (operand_fits m (env_of x.call.fn) Pointer q) fits.1 in
        let fine = Each_parts (IsFine m) (of_typed ty a) (of_operand q) (inst_fine lean_own m p.shaped f.function x.call.fn x.call.in_module f.block x.call.block x.call.in_function f.next i there) in
        let count : ℕ = length (ops m plan contents p input s f fs h hs bytes x i there) in
        when_answered count beside (value_of m f.locals (kind_of ty) a) (λ u. and_then (value_of m f.locals Pointer q) (λ v. stores s f fs (store_at s.objects u v))) (value_tame m f.locals (kind_of ty) a)
        (λ u is_u. when_answered count beside (value_of m f.locals Pointer q) (λ v. stores s f fs (store_at s.objects u v)) (value_tame m f.locals Pointer q)
        (λ v is_v. when_answered count beside (store_at s.objects u v) (λ changed. Ok (record { frames = record f { next = f.next + 1 } ∷ fs; objects = changed; exchange = Nothing })) (store_tame s.objects u v)
        (λ objects is.
        let first = operand_has m plan contents p (memories (f ∷ fs) (h ∷ hs)) s.objects x.at bytes x.tied f h x.call x.typed (kind_of ty) a u both.0 fine.0.1 is_u in
        let second = operand_has m plan contents p (memories (f ∷ fs) (h ∷ hs)) s.objects x.at bytes x.tied f h x.call x.typed Pointer q v both.1 fine.1 is_v in
        let two = two_bring plan h.own flat x.at vars x.call.holds.values h.registers o r u v (ready m plan contents p input s f fs h hs bytes x) first.planned second.planned first.is second.is in
        stored u v objects is first two)))
