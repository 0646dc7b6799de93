-- Casts are met: the low bits of a register are the number that it holds.
use Rattle.std.proofs.Common.{◌≡◌, ℕ, ◌%◌, ◌<◌, true, List, [], ◌∷◌, length, Option, Some, Ok, slice_get, refl, ap, sym, ◌∙◌, subst}
use Rattle.std.proofs.lemmas.Bool.{and_parts}
use Rattle.std.proofs.Math.Nat.{mod-eq_of_lt}
use Rattle.rd_num.specs.declared.width.Width.{Width}
use Rattle.ir_core.specs.declared.ty.Ty.{Ty}
use Rattle.ir_core.specs.declared.operand.Operand.{Operand}
use Rattle.ir_core.specs.declared.instruction.CastOp.{CastOp}
use Rattle.ir_core.specs.declared.instruction.CastOp.TheVariants.{Trunc, Zext, Sext}
use Rattle.ir_core.specs.declared.instruction.Op.{Op}
use Rattle.ir_core.specs.declared.instruction.Op.TheVariants.{Cast}
use Rattle.ir_core.specs.declared.kind.Kind.{Kind}
use Rattle.ir_core.specs.declared.kind.Kind.TheVariants.{NoValue, Number, Pointer}
use Rattle.ir_core.specs.declared.memory.Value.{Value}
use Rattle.ir_core.specs.declared.memory.Value.TheVariants.{Num}
use Rattle.ir_core.specs.declared.module.Module.{Module}
use Rattle.ir_core.specs.Arithmetic.{modulus, cast}
use Rattle.ir_core.specs.Kinds.{kind_of}
use Rattle.ir_core.specs.Mentions.{of_typed}
use Rattle.ir_core.specs.State.{Frame, State, turned}
use Rattle.ir_core.specs.Step.{cast_value, gives, instruction_turn}
use Rattle.ir_core.specs.Stops.{and_then}
use Rattle.ir_core.specs.Typing.{operand_fits, cast_fits}
use Rattle.ir_core.specs.Valid.{LocalKind, env_of, named_locals}
use Rattle.ir_sound.proofs.RowLaws.{Each_parts}
use Rattle.ir_sound.proofs.SameLaws.{not_true}
use Rattle.ir_context.specs.Origins.{origin_of}
use Rattle.low_core.specs.declared.sel.SelOp.{SelOp}
use Rattle.low_core.specs.Flat.{Bytes, Flat}
use Rattle.low_core.specs.Plan.{Plan, Content}
use Rattle.low_core.specs.Contents.{word_of}
use Rattle.low_core.specs.Bridge.{Setting}
use Rattle.low_core.specs.SelParts.{assigns_of}
use Rattle.low_core.specs.SelState.{SelFrame, SelState}
use Rattle.low_core.specs.SelStep.{low_bits, word_of_op}
use Rattle.isel_rows.specs.Variables.{variables_of, width_of}
use Rattle.isel_rows.specs.Rows.{cast_op, result_register, ops_of}
use Rattle.isel.proofs.Beside.{setting_of, Meets}
use Rattle.isel.proofs.Here.{IsHere, done, memory, now}
use Rattle.isel.proofs.Mentioned.{IsFine}
use Rattle.isel.proofs.Operations.{low_same}
use Rattle.isel.proofs.Premises.{Premises}
use Rattle.isel.proofs.Straight.{reader}
use Rattle.isel.proofs.Results.{rules, fine, number_has}
use Rattle.isel.proofs.Values.{HasValue}
use Rattle.isel.proofs.Words.{HasWord, word_read}
use Rattle.ir_core.proofs.Fits.{cast_fits as cast_below}
use Rattle.std.proofs.Math.Nat.{mod-lt}
use Rattle.std.proofs.lemmas.Nat.{pow_pos}
use Rattle.rd_num.specs.Number.{bits}
use Rattle.isel.proofs.Choices.{one_read_met, one_set}
use Rattle.ir_core.specs.Mentions.{OfType}

-- casts have operands and results that are numbers
cast_kinds : (op : CastOp) (from to : Kind) → cast_fits op from to ≡ true → (v : Width) × (w : Width) × (from ≡ Number v) × (to ≡ Number w)
cast_kinds op (Number v) (Number w) fits = (v, w, refl, refl)
cast_kinds Trunc (Number v) NoValue fits = not_true fits
cast_kinds Trunc (Number v) Pointer fits = not_true fits
cast_kinds Zext (Number v) NoValue fits = not_true fits
cast_kinds Zext (Number v) Pointer fits = not_true fits
cast_kinds Sext (Number v) NoValue fits = not_true fits
cast_kinds Sext (Number v) Pointer fits = not_true fits
cast_kinds Trunc NoValue to fits = not_true fits
cast_kinds Zext NoValue to fits = not_true fits
cast_kinds Sext NoValue to fits = not_true fits
cast_kinds Trunc Pointer to fits = not_true fits
cast_kinds Zext Pointer to fits = not_true fits
cast_kinds Sext Pointer to fits = not_true fits

-- a remainder is its own remainder
low_twice : (w : Width) (n : ℕ) → low_bits w n % modulus w ≡ n % modulus w
low_twice w n = mod-eq_of_lt (mod-lt n (pow_pos (bits w)))

-- a number of another width, by the low bits of a register
cast_word : (op : CastOp) (v w : Width) (r i n : ℕ) (plan : Plan) (h : SelFrame) (flat : Flat) → n < modulus v → HasWord h.registers i n → word_of_op plan h flat (cast_op op v w r i) ≡ Ok (cast op v w n)
cast_word Trunc v w r i n plan h flat low hold = ap (λ q. and_then q (λ a. Ok (low_bits w a % modulus w))) (word_read h.registers i n hold) ∙ ap Ok (low_twice w n)
cast_word Zext v w r i n plan h flat low hold = ap (λ q. and_then q (λ a. Ok (low_bits v a % modulus w))) (word_read h.registers i n hold) ∙ ap (λ a. Ok (a % modulus w)) (low_same v n low)
cast_word Sext v w r i n plan h flat low hold = ap (λ q. and_then q (λ a. Ok (cast Sext v w (low_bits v a)))) (word_read h.registers i n hold) ∙ ap (λ a. Ok (cast Sext v w a)) (low_same v n low)

cast_assigns : (op : CastOp) (v w : Width) (r i : ℕ) → assigns_of (cast_op op v w r i) ≡ Some r
cast_assigns Trunc v w r i = refl
cast_assigns Zext v w r i = refl
cast_assigns Sext v w r i = refl

module _ (m : Module) (plan : Plan) (contents : List Content) (p : Premises m plan contents) (input : List ℕ) (s : State) (f : Frame) (fs : List Frame) (h : SelFrame) (hs : List SelFrame) (bytes : Bytes)
    (x : IsHere m (setting_of m plan contents) s f fs h hs bytes) where
  abbrev g : Setting
  g = setting_of m plan contents

  abbrev V : List LocalKind
  V = variables_of x.call.fn

  abbrev there_ops : Option (List ℕ) → Op → List SelOp
  there_ops into op = ops_of m V (done m plan contents p input s f fs h hs bytes x) into op

  abbrev spot : SelState
  spot = now m plan contents p input s f fs h hs bytes x

  abbrev flat : Flat
  flat = memory m plan contents p input s f fs h hs bytes x

  abbrev Has : Kind → Operand → Value → Type 0
  Has kind a v = HasValue m g s.objects x.at x.call.holds.values kind (origin_of m (named_locals V) kind a) v

  -- an instruction stands there
  abbrev Stands : Option (List ℕ) → Op → Type 0
  Stands into op = slice_get x.call.block.insts f.next ≡ Some (record { result = into; op = op })

  -- it is met by its operations
  abbrev IsMet : Option (List ℕ) → Op → Type 0
  IsMet into op = Meets m g input (length (there_ops into op)) spot (turned s (instruction_turn m input s f fs into op))

  -- a cast
  pub cast_met : (into : Option (List ℕ)) (op : CastOp) (from : Ty) (a : Operand) (to : Ty) → Stands into (Cast op from a to) → IsMet into (Cast op from a to)
  cast_met into op from a to there =
      let K : Kind = kind_of from in
      let r = rules m plan contents p input s f fs h hs bytes x into (Cast op from a to) there in
      let q = and_parts (cast_fits op K (kind_of to)) (operand_fits m (env_of x.call.fn) K a) r.fits in
      let k = cast_kinds op K (kind_of to) q.0 in
      let two = Each_parts (IsFine m) (of_typed from a) (OfType to ∷ []) (fine m plan contents p input s f fs h hs bytes x into (Cast op from a to) there) in
      one_read_met m plan contents p input s f fs h hs bytes x into (Cast op from a to) K a (λ u. cast_value op K (kind_of to) u) q.1 two.0.1
      (λ u first. given k.0 k.1 k.2 k.3 u first (number_has m plan contents p input s f fs h hs bytes x k.0 K a u k.2 first))
    where
      given : (v w : Width) → kind_of from ≡ Number v → kind_of to ≡ Number w → (u : Value) → Has (kind_of from) a u → (n : ℕ) × (u ≡ Num v n) × (n < modulus v)
          → Meets m g input (length (there_ops into (Cast op from a to))) spot (turned s (and_then (cast_value op (kind_of from) (kind_of to) u) (λ t. gives s f fs into t)))
      given v w kind_from kind_to u first n =
          let is : cast_value op (kind_of from) (kind_of to) u ≡ Ok (Num w (cast op v w n.0)) =
          ap (λ k. cast_value op k (kind_of to) u) kind_from ∙ ap (λ k. cast_value op (Number v) k u) kind_to ∙ ap (cast_value op (Number v) (Number w)) n.1 in
          subst (λ q. Meets m g input (length (there_ops into (Cast op from a to))) spot (turned s (and_then q (λ t. gives s f fs into t)))) (sym is)
          (one_set m plan contents p input s f fs h hs bytes x into (Cast op from a to) (kind_of from) a u (Num w (cast op v w n.0)) (λ i. cast_op op (width_of (kind_of from)) (width_of (kind_of to)) (result_register V into) i) there refl refl first
          (λ registers i hold.
          ap (λ k. word_of_op plan (reader h.own registers) flat (cast_op op (width_of k) (width_of (kind_of to)) (result_register V into) i)) kind_from
          ∙ ap (λ k. word_of_op plan (reader h.own registers) flat (cast_op op v (width_of k) (result_register V into) i)) kind_to
          ∙ cast_word op v w (result_register V into) i n.0 plan (reader h.own registers) flat n.2 (subst (λ t. HasWord registers i (word_of x.at t)) n.1 hold))
          (λ i. cast_assigns op (width_of (kind_of from)) (width_of (kind_of to)) (result_register V into) i) (cast_below op v w n.0))
