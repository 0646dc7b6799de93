-- Operations on numbers, comparisons, casts, choices and copies: their operations give the word of what they give.
use Rattle.std.proofs.Common.{◌≡◌, ℕ, ◌<◌, true, List, [], ◌∷◌, ◌++◌, length, Option, Some, Ok, Err, slice_get, refl, ap, ◌∙◌, inl}
use Rattle.std.proofs.lemmas.List.{append_assoc}
use Rattle.std.proofs.Math.Nat.{mod-eq_of_lt}
use Rattle.rd_num.specs.declared.width.Width.{Width}
use Rattle.ir_core.specs.declared.operand.Operand.{Operand}
use Rattle.ir_core.specs.declared.instruction.BinOp.{BinOp}
use Rattle.ir_core.specs.declared.instruction.BinOp.TheVariants.{Add, Sub, Mul, Udiv, Sdiv, Urem, Srem, Shl, Lshr, Ashr, And, Or, Xor}
use Rattle.ir_core.specs.declared.instruction.Op.{Op}
use Rattle.ir_core.specs.declared.kind.Kind.{Kind}
use Rattle.ir_core.specs.declared.kind.Kind.TheVariants.{NoValue, Number, Pointer}
use Rattle.ir_core.specs.declared.memory.Value.{Value}
use Rattle.ir_core.specs.declared.module.Module.{Module}
use Rattle.ir_core.specs.Arithmetic.{modulus, binary}
use Rattle.ir_core.specs.Counts.{alloca_bytes}
use Rattle.ir_core.specs.Mentions.{of_operand}
use Rattle.ir_core.specs.Operands.{value_of}
use Rattle.ir_core.specs.State.{Frame, State, Nothing, turned}
use Rattle.ir_core.specs.Step.{gives}
use Rattle.ir_core.specs.Stops.{Stop, Answer, and_then}
use Rattle.ir_core.specs.Typing.{operand_fits, bin_fits}
use Rattle.ir_core.specs.Valid.{LocalKind, env_of, named_locals}
use Rattle.ir_sound.specs.WellTyped.{Each}
use Rattle.ir_sound.proofs.SameLaws.{not_true}
use Rattle.ir_context.specs.declared.origin.Origin.{Origin}
use Rattle.ir_context.specs.Origins.{origin_of}
use Rattle.low_core.specs.declared.sel.SelOp.{SelOp}
use Rattle.low_core.specs.Flat.{Bytes, Flat}
use Rattle.low_core.specs.Plan.{Plan, Content}
use Rattle.low_core.specs.Contents.{word_of}
use Rattle.low_core.specs.Bridge.{Setting, IsKnown}
use Rattle.low_core.specs.SelParts.{assigns_of}
use Rattle.low_core.specs.SelState.{SelFrame, SelState}
use Rattle.low_core.specs.SelStep.{low_bits, of_two, word_of_op, gives_word, op_turn}
use Rattle.isel_rows.specs.Variables.{variables_of}
use Rattle.isel_rows.specs.Brought.{operand_brought}
use Rattle.isel_rows.specs.Rows.{bin_op, result_register, ops_of}
use Rattle.isel_rows.specs.Selected.{module_selected}
use Rattle.isel.proofs.Beside.{setting_of, Meets}
use Rattle.isel.proofs.Here.{IsHere, done, memory, now, ready, sets}
use Rattle.isel.proofs.Mentioned.{IsFine}
use Rattle.isel.proofs.Operands.{two_bring}
use Rattle.isel.proofs.Premises.{Premises}
use Rattle.isel.proofs.Straight.{reader}
use Rattle.isel.proofs.Tame.{IsTame}
use Rattle.isel.proofs.Values.{HasValue, operand_has}
use Rattle.isel.proofs.Words.{HasWord}

-- what an operation on two registers reads, gives and assigns
pub bin_word : (op : BinOp) (w : Width) (r a b : ℕ) (plan : Plan) (h : SelFrame) (flat : Flat) → word_of_op plan h flat (bin_op op w r a b) ≡ of_two h.registers w a b (λ x y. binary op w x y)
bin_word Add w r a b plan h flat = refl
bin_word Sub w r a b plan h flat = refl
bin_word Mul w r a b plan h flat = refl
bin_word Udiv w r a b plan h flat = refl
bin_word Sdiv w r a b plan h flat = refl
bin_word Urem w r a b plan h flat = refl
bin_word Srem w r a b plan h flat = refl
bin_word Shl w r a b plan h flat = refl
bin_word Lshr w r a b plan h flat = refl
bin_word Ashr w r a b plan h flat = refl
bin_word And w r a b plan h flat = refl
bin_word Or w r a b plan h flat = refl
bin_word Xor w r a b plan h flat = refl

pub bin_assigns : (op : BinOp) (w : Width) (r a b : ℕ) → assigns_of (bin_op op w r a b) ≡ Some r
bin_assigns Add w r a b = refl
bin_assigns Sub w r a b = refl
bin_assigns Mul w r a b = refl
bin_assigns Udiv w r a b = refl
bin_assigns Sdiv w r a b = refl
bin_assigns Urem w r a b = refl
bin_assigns Srem w r a b = refl
bin_assigns Shl w r a b = refl
bin_assigns Lshr w r a b = refl
bin_assigns Ashr w r a b = refl
bin_assigns And w r a b = refl
bin_assigns Or w r a b = refl
bin_assigns Xor w r a b = refl

pub bin_turn : (op : BinOp) (w : Width) (r a b : ℕ) (m : Module) (plan : Plan) (flat : Flat) (input : List ℕ) (t : SelState) (h : SelFrame) (hs : List SelFrame) (stop : Stop) → word_of_op plan h flat (bin_op op w r a b) ≡ Err stop
    → op_turn (module_selected m) plan flat input t h hs (bin_op op w r a b) ≡ Err stop
bin_turn Add w r a b m plan flat input t h hs stop e = ap (λ q. and_then q (λ n. gives_word t h hs (Some r) n Nothing)) e
bin_turn Sub w r a b m plan flat input t h hs stop e = ap (λ q. and_then q (λ n. gives_word t h hs (Some r) n Nothing)) e
bin_turn Mul w r a b m plan flat input t h hs stop e = ap (λ q. and_then q (λ n. gives_word t h hs (Some r) n Nothing)) e
bin_turn Udiv w r a b m plan flat input t h hs stop e = ap (λ q. and_then q (λ n. gives_word t h hs (Some r) n Nothing)) e
bin_turn Sdiv w r a b m plan flat input t h hs stop e = ap (λ q. and_then q (λ n. gives_word t h hs (Some r) n Nothing)) e
bin_turn Urem w r a b m plan flat input t h hs stop e = ap (λ q. and_then q (λ n. gives_word t h hs (Some r) n Nothing)) e
bin_turn Srem w r a b m plan flat input t h hs stop e = ap (λ q. and_then q (λ n. gives_word t h hs (Some r) n Nothing)) e
bin_turn Shl w r a b m plan flat input t h hs stop e = ap (λ q. and_then q (λ n. gives_word t h hs (Some r) n Nothing)) e
bin_turn Lshr w r a b m plan flat input t h hs stop e = ap (λ q. and_then q (λ n. gives_word t h hs (Some r) n Nothing)) e
bin_turn Ashr w r a b m plan flat input t h hs stop e = ap (λ q. and_then q (λ n. gives_word t h hs (Some r) n Nothing)) e
bin_turn And w r a b m plan flat input t h hs stop e = ap (λ q. and_then q (λ n. gives_word t h hs (Some r) n Nothing)) e
bin_turn Or w r a b m plan flat input t h hs stop e = ap (λ q. and_then q (λ n. gives_word t h hs (Some r) n Nothing)) e
bin_turn Xor w r a b m plan flat input t h hs stop e = ap (λ q. and_then q (λ n. gives_word t h hs (Some r) n Nothing)) e

-- operations have operands that are numbers
pub number_kind : (op : BinOp) (kind : Kind) → bin_fits op kind ≡ true → (w : Width) × (kind ≡ Number w)
number_kind op (Number w) fits = (w, refl)
number_kind And Pointer fits = not_true fits
number_kind Or Pointer fits = not_true fits
number_kind Xor Pointer fits = not_true fits
number_kind op Pointer fits = not_true fits
number_kind And NoValue fits = not_true fits
number_kind Or NoValue fits = not_true fits
number_kind Xor NoValue fits = not_true fits
number_kind op NoValue fits = not_true fits

-- the low bits of a number of the width are all of it
pub low_same : (w : Width) (n : ℕ) → n < modulus w → low_bits w n ≡ n
low_same w n low = mod-eq_of_lt low

module _ (m : Module) (plan : Plan) (contents : List Content) (p : Premises m plan contents) (input : List ℕ) (s : State) (f : Frame) (fs : List Frame) (h : SelFrame) (hs : List SelFrame) (bytes : Bytes)
    (x : IsHere m (setting_of m plan contents) s f fs h hs bytes) where
  abbrev pub g : Setting
  g = setting_of m plan contents

  abbrev pub V : List LocalKind
  V = variables_of x.call.fn

  -- an operand of the call
  abbrev pub from : Kind → Operand → Origin
  from kind a = origin_of m (named_locals V) kind a

  abbrev pub Has : Kind → Operand → Value → Type 0
  Has kind a v = HasValue m g s.objects x.at x.call.holds.values kind (from kind a) v

  pub has : (kind : Kind) (a : Operand) (v : Value) → operand_fits m (env_of x.call.fn) kind a ≡ true → Each (IsFine m) (of_operand a) → value_of m f.locals kind a ≡ Ok v → Has kind a v
  has kind a v fits fine is = operand_has m plan contents p _ s.objects x.at bytes x.tied f h x.call x.typed kind a v fits fine is

  -- what a step leads to that gives a value, or that stops where the run is left
  pub gives_or_left : (into : Option (List ℕ)) (count : ℕ) (q : Answer Value) → IsTame q → ((v : Value) → q ≡ Ok v → Meets m g input count (now m plan contents p input s f fs h hs bytes x) (turned s (gives s f fs into v)))
      → Meets m g input count (now m plan contents p input s f fs h hs bytes x) (turned s (and_then q (λ v. gives s f fs into v)))
  gives_or_left into count (Ok v) tame go = go v refl
  gives_or_left into count (Err stop) tame go = inl tame

  abbrev pub flat : Flat
  flat = memory m plan contents p input s f fs h hs bytes x

  abbrev pub result : Option (List ℕ) → ℕ
  result into = result_register V into

  -- an operation on two operands
  pub two_set : (into : Option (List ℕ)) (op : Op) (ka kb : Kind) (a b : Operand) (u v w : Value) (last : ℕ → ℕ → SelOp) → (there : slice_get x.call.block.insts f.next ≡ Some (record { result = into; op = op })) → alloca_bytes m.types op ≡ 0
      → (operand_brought m V 0 ka a).ops ++ ((operand_brought m V 1 kb b).ops ++ last (operand_brought m V 0 ka a).register (operand_brought m V 1 kb b).register ∷ []) ≡ ops_of m V (done m plan contents p input s f fs h hs bytes x) into op
      → Has ka a u → Has kb b v → ((registers : List (Option ℕ)) (i j : ℕ) → HasWord registers i (word_of x.at u) → HasWord registers j (word_of x.at v) → word_of_op plan (reader h.own registers) flat (last i j) ≡ Ok (word_of x.at w))
      → ((i j : ℕ) → assigns_of (last i j) ≡ Some (result into)) → IsKnown (length s.objects) g.taken w
      → Meets m g input (length (ops_of m V (done m plan contents p input s f fs h hs bytes x) into op)) (now m plan contents p input s f fs h hs bytes x) (turned s (gives s f fs into w))
  two_set into op ka kb a b u v w last there none are first second word assigns known =
      let y = two_bring plan h.own flat x.at V x.call.holds.values h.registers (from ka a) (from kb b) u v (ready m plan contents p input s f fs h hs bytes x) first.planned second.planned first.is second.is in
      let i : ℕ = (operand_brought m V 0 ka a).register in
      let j : ℕ = (operand_brought m V 1 kb b).register in
      sets m plan contents p input s f fs h hs bytes x (record { result = into; op = op }) there ((operand_brought m V 0 ka a).ops ++ (operand_brought m V 1 kb b).ops) (last i j) y.after w none
      (append_assoc (operand_brought m V 0 ka a).ops (operand_brought m V 1 kb b).ops (last i j ∷ []) ∙ are) y.runs y.ready y.count (word y.after i j y.first y.second) (assigns i j) known
