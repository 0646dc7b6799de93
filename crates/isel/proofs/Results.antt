-- Operations on numbers and comparisons are met by operations on registers.
use Rattle.std.proofs.Common.{◌≡◌, ℕ, ◌+◌, ◌<◌, true, List, [], ◌∷◌, ◌++◌, length, Option, Some, Ok, Err, slice_get, refl, ap, sym, ◌∙◌, subst, inl}
use Rattle.std.specs.Prelude.{◌&&◌}
use Rattle.std.proofs.lemmas.Bool.{and_parts}
use Rattle.std.proofs.lemmas.List.{append_assoc, length-append}
use Rattle.rd_num.specs.declared.width.Width.{Width}
use Rattle.ir_core.specs.declared.ty.Ty.{Ty}
use Rattle.ir_core.specs.declared.operand.Operand.{Operand}
use Rattle.ir_core.specs.declared.instruction.BinOp.{BinOp}
use Rattle.ir_core.specs.declared.instruction.Op.{Op}
use Rattle.ir_core.specs.declared.instruction.Op.TheVariants.{Bin}
use Rattle.ir_core.specs.declared.kind.Kind.{Kind}
use Rattle.ir_core.specs.declared.kind.Kind.TheVariants.{Number}
use Rattle.ir_core.specs.declared.memory.Value.{Value}
use Rattle.ir_core.specs.declared.memory.Value.TheVariants.{Num}
use Rattle.ir_core.specs.declared.module.Module.{Module}
use Rattle.ir_core.proofs.Fits.{binary_fits as binary_below}
use Rattle.ir_core.specs.Arithmetic.{modulus, binary}
use Rattle.ir_core.specs.Kinds.{kind_of}
use Rattle.ir_core.specs.Mentions.{of_operand, of_typed, of_op}
use Rattle.ir_core.specs.Operands.{value_of}
use Rattle.ir_core.specs.State.{Frame, State, turned}
use Rattle.ir_core.specs.Step.{binary_value, gives, instruction_turn}
use Rattle.ir_core.specs.Stops.{Stop, Answer, and_then}
use Rattle.ir_core.specs.Typing.{operand_fits, bin_fits}
use Rattle.ir_core.specs.Valid.{LocalKind, env_of, named_locals}
use Rattle.ir_sound.specs.WellTyped.{Each, IsOfKind, present}
use Rattle.ir_sound.proofs.Operands.{number_of}
use Rattle.ir_sound.proofs.RowLaws.{Each_parts}
use Rattle.ir_context.specs.Origins.{origin_of}
use Rattle.low_core.specs.declared.sel.SelOp.{SelOp}
use Rattle.low_core.specs.Flat.{Bytes, Flat}
use Rattle.low_core.specs.Plan.{Plan, Content}
use Rattle.low_core.specs.Contents.{word_of}
use Rattle.low_core.specs.Bridge.{Setting}
use Rattle.low_core.specs.SelState.{SelFrame, SelState, sel_turned}
use Rattle.low_core.specs.SelStep.{low_bits, word_of_op}
use Rattle.low_core.specs.Weights.{lean_own}
use Rattle.isel_rows.specs.Variables.{variables_of, width_of}
use Rattle.isel_rows.specs.Brought.{Brought, operand_brought}
use Rattle.isel_rows.specs.Rows.{bin_op, result_register, ops_of}
use Rattle.isel_rows.specs.Selected.{module_selected}
use Rattle.isel.proofs.Beside.{setting_of, Meets}
use Rattle.isel.proofs.Here.{IsHere, done, memory, now, stands_here, ready, stops}
use Rattle.isel.proofs.Mentioned.{IsFine, inst_fine}
use Rattle.isel.proofs.Operands.{two_bring}
use Rattle.isel.proofs.Operations.{bin_word, bin_assigns, bin_turn, number_kind, low_same, has, two_set}
use Rattle.isel.proofs.Premises.{Premises, rules_at}
use Rattle.isel.proofs.Straight.{going, moved, reader, straight_then, StandsAt}
use Rattle.isel.proofs.Tame.{IsTame, value_tame}
use Rattle.isel.proofs.Typed.{InstRules}
use Rattle.isel.proofs.Values.{HasValue}
use Rattle.isel.proofs.Words.{two_read}

module _ (m : Module) (plan : Plan) (contents : List Content) (p : Premises m plan contents) (input : List ℕ) (s : State) (f : Frame) (fs : List Frame) (h : SelFrame) (hs : List SelFrame) (bytes : Bytes)
    (x : IsHere m (setting_of m plan contents) s f fs h hs bytes) where
  abbrev g : Setting
  g = setting_of m plan contents

  abbrev V : List LocalKind
  V = variables_of x.call.fn

  abbrev there_ops : Option (List ℕ) → Op → List SelOp
  there_ops into op = ops_of m V (done m plan contents p input s f fs h hs bytes x) into op

  abbrev spot : SelState
  spot = now m plan contents p input s f fs h hs bytes x

  abbrev flat : Flat
  flat = memory m plan contents p input s f fs h hs bytes x

  abbrev Has : Kind → Operand → Value → Type 0
  Has kind a v = HasValue m g s.objects x.at x.call.holds.values kind (origin_of m (named_locals V) kind a) v

  -- an instruction stands there
  abbrev pub Stands : Option (List ℕ) → Op → Type 0
  Stands into op = slice_get x.call.block.insts f.next ≡ Some (record { result = into; op = op })

  -- it is met by its operations
  abbrev pub IsMet : Option (List ℕ) → Op → Type 0
  IsMet into op = Meets m g input (length (there_ops into op)) spot (turned s (instruction_turn m input s f fs into op))

  -- its rules, and what it mentions
  pub rules : (into : Option (List ℕ)) (op : Op) → Stands into op → InstRules m x.call.fn f.block (record { result = into; op = op })
  rules into op there = rules_at m plan contents p f.function x.call.fn x.call.in_module f.block x.call.block x.call.in_function f.next (record { result = into; op = op }) there

  pub fine : (into : Option (List ℕ)) (op : Op) → Stands into op → Each (IsFine m) (of_op op)
  fine into op there = inst_fine lean_own m p.shaped f.function x.call.fn x.call.in_module f.block x.call.block x.call.in_function f.next (record { result = into; op = op }) there

  -- two operands are read, and what comes of them is met
  pub two_read_met : (into : Option (List ℕ)) (op : Op) (ka kb : Kind) (a b : Operand) (rest : Value → Value → Answer Value) → operand_fits m (env_of x.call.fn) ka a ≡ true → operand_fits m (env_of x.call.fn) kb b ≡ true
      → Each (IsFine m) (of_operand a) → Each (IsFine m) (of_operand b)
      → ((u v : Value) → Has ka a u → Has kb b v → Meets m g input (length (there_ops into op)) spot (turned s (and_then (rest u v) (λ w. gives s f fs into w))))
      → Meets m g input (length (there_ops into op)) spot (turned s (and_then (and_then (value_of m f.locals ka a) (λ u. and_then (value_of m f.locals kb b) (λ v. rest u v))) (λ w. gives s f fs into w)))
  two_read_met into op ka kb a b rest fits_a fits_b fine_a fine_b go = by_first (value_of m f.locals ka a) refl
    where
      by_second : (u : Value) → value_of m f.locals ka a ≡ Ok u → (q : Answer Value) → value_of m f.locals kb b ≡ q
          → Meets m g input (length (there_ops into op)) spot (turned s (and_then (and_then q (λ v. rest u v)) (λ w. gives s f fs into w)))
      by_second u is (Err stop) e = inl (subst IsTame e (value_tame m f.locals kb b))
      by_second u is (Ok v) e = go u v (has m plan contents p input s f fs h hs bytes x ka a u fits_a fine_a is) (has m plan contents p input s f fs h hs bytes x kb b v fits_b fine_b e)

      by_first : (q : Answer Value) → value_of m f.locals ka a ≡ q
          → Meets m g input (length (there_ops into op)) spot (turned s (and_then (and_then q (λ u. and_then (value_of m f.locals kb b) (λ v. rest u v))) (λ w. gives s f fs into w)))
      by_first (Err stop) e = inl (subst IsTame e (value_tame m f.locals ka a))
      by_first (Ok u) e = by_second u e (value_of m f.locals kb b) refl

  -- a number of an operand
  pub number_has : (w : Width) (kind : Kind) (a : Operand) (v : Value) → kind ≡ Number w → Has kind a v → (n : ℕ) × (v ≡ Num w n) × (n < modulus w)
  number_has w kind a v is x = number_of (present m s.objects) w v (subst (λ k. IsOfKind (present m s.objects) k v) is x.of_kind)

  -- a division without a result stops both
  bin_stops : (into : Option (List ℕ)) (op : BinOp) (ty : Ty) (a b : Operand) (w : Width) (u v : Value) (i j : ℕ) (stop : Stop) → Stands into (Bin op ty a b) → kind_of ty ≡ Number w → Has (kind_of ty) a u → Has (kind_of ty) b v
      → u ≡ Num w i → v ≡ Num w j → i < modulus w → j < modulus w → binary op w i j ≡ Err stop → Meets m g input (length (there_ops into (Bin op ty a b))) spot (turned s (Err stop))
  bin_stops into op ty a b w u v i j stop there kind first second is_u is_v low_i low_j e =
      let K : Kind = kind_of ty in
      let A : Brought = operand_brought m V 0 K a in
      let B : Brought = operand_brought m V 1 K b in
      let y = two_bring plan h.own flat x.at V x.call.holds.values h.registers (origin_of m (named_locals V) K a) (origin_of m (named_locals V) K b) u v (ready m plan contents p input s f fs h hs bytes x) first.planned second.planned first.is second.is in
      let last : SelOp = bin_op op (width_of K) (result_register V into) A.register B.register in
      let front : List SelOp = A.ops ++ B.ops in
      let stands = stands_here m plan contents p input s f fs h hs bytes x (record { result = into; op = Bin op ty a b }) there in
      let whole : there_ops into (Bin op ty a b) ≡ front ++ last ∷ [] = sym (append_assoc A.ops B.ops (last ∷ [])) in
      let count : length front + 1 ≡ length (there_ops into (Bin op ty a b)) = sym (ap length whole ∙ length-append front (last ∷ [])) in
      let all : StandsAt (module_selected m) h (front ++ last ∷ stands.0) = subst (StandsAt (module_selected m) h) (ap (λ os. os ++ stands.0) whole ∙ append_assoc front (last ∷ []) stands.0) stands.1 in
      let h2 : SelFrame = moved h y.after (length front) in
      let word : word_of_op plan h2 flat last ≡ Err stop =
      bin_word op (width_of K) (result_register V into) A.register B.register plan h2 flat
      ∙ two_read y.after (width_of K) A.register B.register (word_of x.at u) (word_of x.at v) (λ c d. binary op (width_of K) c d) y.first y.second
      ∙ ap (λ k. binary op (width_of k) (low_bits (width_of k) (word_of x.at u)) (low_bits (width_of k) (word_of x.at v))) kind
      ∙ ap (λ t. binary op w (low_bits w (word_of x.at t)) (low_bits w (word_of x.at v))) is_u
      ∙ ap (λ t. binary op w (low_bits w i) (low_bits w (word_of x.at t))) is_v
      ∙ ap (λ n. binary op w n (low_bits w j)) (low_same w i low_i) ∙ ap (binary op w i) (low_same w j low_j) ∙ e in
      let t : SelState = going (h2 ∷ hs) bytes s.printed s.taken in
      let turn = bin_turn op (width_of K) (result_register V into) A.register B.register m plan flat input t h2 hs stop word in
      subst (λ n. Meets m g input n spot (turned s (Err stop))) count
      (stops m plan contents p input s f fs h hs bytes x (record { result = into; op = Bin op ty a b }) there stop (length front + 1) t
      (straight_then (module_selected m) plan contents input hs bytes s.printed s.taken front h last stands.0 y.after all y.runs ∙ ap (sel_turned t) turn) refl refl)

  -- an operation on two numbers
  pub bin_met : (into : Option (List ℕ)) (op : BinOp) (ty : Ty) (a b : Operand) → Stands into (Bin op ty a b) → IsMet into (Bin op ty a b)
  bin_met into op ty a b there =
      let r = rules into (Bin op ty a b) there in
      let q = and_parts (bin_fits op (kind_of ty)) (operand_fits m (env_of x.call.fn) (kind_of ty) a && operand_fits m (env_of x.call.fn) (kind_of ty) b) r.fits in
      let both = and_parts (operand_fits m (env_of x.call.fn) (kind_of ty) a) (operand_fits m (env_of x.call.fn) (kind_of ty) b) q.1 in
      let k = number_kind op (kind_of ty) q.0 in
      let two = Each_parts (IsFine m) (of_typed ty a) (of_operand b) (fine into (Bin op ty a b) there) in
      two_read_met into (Bin op ty a b) (kind_of ty) (kind_of ty) a b (λ u v. binary_value op (kind_of ty) u v) both.0 both.1 two.0.1 two.1
      (λ u v first second. given k.0 k.1 u v first second (number_has k.0 (kind_of ty) a u k.1 first) (number_has k.0 (kind_of ty) b v k.1 second))
    where
      of_result : (w : Width) → kind_of ty ≡ Number w → (u v : Value) → Has (kind_of ty) a u → Has (kind_of ty) b v → (i j : ℕ) → u ≡ Num w i → v ≡ Num w j → i < modulus w → j < modulus w → (q : Answer ℕ) → binary op w i j ≡ q
          → Meets m g input (length (there_ops into (Bin op ty a b))) spot (turned s (and_then (and_then q (λ n. Ok (Num w n))) (λ t. gives s f fs into t)))
      of_result w kind u v first second i j is_u is_v low_i low_j (Err stop) e = bin_stops into op ty a b w u v i j stop there kind first second is_u is_v low_i low_j e
      of_result w kind u v first second i j is_u is_v low_i low_j (Ok n) e =
          two_set m plan contents p input s f fs h hs bytes x into (Bin op ty a b) (kind_of ty) (kind_of ty) a b u v (Num w n) (λ c d. bin_op op (width_of (kind_of ty)) (result_register V into) c d) there refl refl first second
          (λ registers c d hold_u hold_v.
          bin_word op (width_of (kind_of ty)) (result_register V into) c d plan (reader h.own registers) flat
          ∙ two_read registers (width_of (kind_of ty)) c d (word_of x.at u) (word_of x.at v) (λ y z. binary op (width_of (kind_of ty)) y z) hold_u hold_v
          ∙ ap (λ k. binary op (width_of k) (low_bits (width_of k) (word_of x.at u)) (low_bits (width_of k) (word_of x.at v))) kind
          ∙ ap (λ t. binary op w (low_bits w (word_of x.at t)) (low_bits w (word_of x.at v))) is_u
          ∙ ap (λ t. binary op w (low_bits w i) (low_bits w (word_of x.at t))) is_v
          ∙ ap (λ n. binary op w n (low_bits w j)) (low_same w i low_i) ∙ ap (binary op w i) (low_same w j low_j) ∙ e)
          (λ c d. bin_assigns op (width_of (kind_of ty)) (result_register V into) c d) (binary_below op w i j n low_i low_j e)

      given : (w : Width) → kind_of ty ≡ Number w → (u v : Value) → Has (kind_of ty) a u → Has (kind_of ty) b v → (i : ℕ) × (u ≡ Num w i) × (i < modulus w) → (j : ℕ) × (v ≡ Num w j) × (j < modulus w)
          → Meets m g input (length (there_ops into (Bin op ty a b))) spot (turned s (and_then (binary_value op (kind_of ty) u v) (λ t. gives s f fs into t)))
      given w kind u v first second i j =
          let is : binary_value op (kind_of ty) u v ≡ and_then (binary op w i.0 j.0) (λ n. Ok (Num w n)) =
          ap (λ k. binary_value op k u v) kind ∙ ap (λ t. binary_value op (Number w) t v) i.1 ∙ ap (λ t. binary_value op (Number w) (Num w i.0) t) j.1 in
          subst (λ q. Meets m g input (length (there_ops into (Bin op ty a b))) spot (turned s (and_then q (λ t. gives s f fs into t)))) (sym is)
          (of_result w kind u v first second i.0 j.0 i.1 j.1 i.2 j.2 (binary op w i.0 j.0) refl)
