-- Choices between two values are met.
use Rattle.std.proofs.Common.{◌≡◌, ℕ, ◌%◌, ◌<◌, Bool, true, false, List, [], ◌∷◌, ◌++◌, length, Option, Some, Ok, Err, slice_get, refl, ap, sym, ◌∙◌, subst, inl}
use Rattle.std.specs.Prelude.{◌&&◌, nat_eq, if◌then◌else◌}
use Rattle.std.proofs.lemmas.Bool.{and_parts}
use Rattle.std.proofs.lemmas.List.{append_assoc}
use Rattle.rd_num.specs.declared.width.Width.TheVariants.{W1}
use Rattle.ir_core.specs.declared.ty.Ty.{Ty}
use Rattle.ir_core.specs.declared.operand.Operand.{Operand}
use Rattle.ir_core.specs.declared.instruction.Op.{Op}
use Rattle.ir_core.specs.declared.instruction.Op.TheVariants.{Select}
use Rattle.ir_core.specs.declared.kind.Kind.{Kind}
use Rattle.ir_core.specs.declared.kind.Kind.TheVariants.{Number}
use Rattle.ir_core.specs.declared.memory.Value.{Value}
use Rattle.ir_core.specs.declared.memory.Value.TheVariants.{Num}
use Rattle.ir_core.specs.declared.module.Module.{Module}
use Rattle.ir_core.specs.Arithmetic.{modulus}
use Rattle.ir_core.specs.Counts.{alloca_bytes}
use Rattle.ir_core.specs.Kinds.{kind_of, same_kind}
use Rattle.ir_core.specs.Mentions.{of_operand, of_typed}
use Rattle.ir_core.specs.Operands.{value_of}
use Rattle.ir_core.specs.State.{Frame, State, turned}
use Rattle.ir_core.specs.Step.{selected, gives, instruction_turn}
use Rattle.ir_core.specs.Stops.{Answer, and_then}
use Rattle.ir_core.specs.Typing.{operand_fits, is_value, op_fits}
use Rattle.ir_core.specs.Valid.{LocalKind, env_of, named_locals}
use Rattle.ir_sound.specs.WellTyped.{Each}
use Rattle.ir_sound.proofs.RowLaws.{Each_parts}
use Rattle.ir_context.specs.Origins.{origin_of}
use Rattle.low_core.specs.declared.sel.SelOp.{SelOp}
use Rattle.low_core.specs.declared.sel.SelOp.TheVariants.{Pick}
use Rattle.low_core.specs.Flat.{Bytes, Flat}
use Rattle.low_core.specs.Plan.{Plan, Content}
use Rattle.low_core.specs.Contents.{Addresses, word_of}
use Rattle.low_core.specs.Bridge.{Setting, IsKnown}
use Rattle.low_core.specs.SelParts.{assigns_of}
use Rattle.low_core.specs.SelState.{SelFrame, SelState}
use Rattle.low_core.specs.SelStep.{word_of_op}
use Rattle.isel_rows.specs.Variables.{variables_of}
use Rattle.isel_rows.specs.Brought.{operand_brought}
use Rattle.isel_rows.specs.Rows.{result_register, ops_of}
use Rattle.isel.proofs.Beside.{setting_of, Meets}
use Rattle.isel.proofs.Here.{IsHere, done, memory, now, ready, sets}
use Rattle.isel.proofs.Mentioned.{IsFine}
use Rattle.isel.proofs.Operands.{three_bring}
use Rattle.isel.proofs.Operations.{low_same, has}
use Rattle.isel.proofs.Premises.{Premises}
use Rattle.isel.proofs.Straight.{reader}
use Rattle.isel.proofs.Results.{rules, fine, number_has}
use Rattle.isel.proofs.Tame.{IsTame, value_tame}
use Rattle.isel.proofs.Values.{HasValue}
use Rattle.isel.proofs.Words.{HasWord, word_read}
use Rattle.low_core.specs.SelState.{word_in}

-- one of two words, by the lowest bit of a third
pick_word : (r i j k c u v : ℕ) (plan : Plan) (h : SelFrame) (flat : Flat) → HasWord h.registers i c → HasWord h.registers j u → HasWord h.registers k v → word_of_op plan h flat (Pick r i j k) ≡ Ok (if nat_eq (c % 2) 0 then v else u)
pick_word r i j k c u v plan h flat first second third =
    ap (λ q. and_then q (λ x. and_then (word_in h.registers j) (λ a. and_then (word_in h.registers k) (λ b. Ok (if nat_eq (x % 2) 0 then b else a))))) (word_read h.registers i c first)
    ∙ ap (λ q. and_then q (λ a. and_then (word_in h.registers k) (λ b. Ok (if nat_eq (c % 2) 0 then b else a)))) (word_read h.registers j u second)
    ∙ ap (λ q. and_then q (λ b. Ok (if nat_eq (c % 2) 0 then b else u))) (word_read h.registers k v third)

-- of a choice the word is the choice of the words, and it can arise where both can
chosen_word : (at : Addresses) (b : Bool) (u v : Value) → (if b then word_of at v else word_of at u) ≡ word_of at (if b then v else u)
chosen_word at true u v = refl
chosen_word at false u v = refl

chosen_known : (n : ℕ) (taken : List Bool) (b : Bool) (u v : Value) → IsKnown n taken u → IsKnown n taken v → IsKnown n taken (if b then v else u)
chosen_known n taken true u v first second = second
chosen_known n taken false u v first second = first

module _ (m : Module) (plan : Plan) (contents : List Content) (p : Premises m plan contents) (input : List ℕ) (s : State) (f : Frame) (fs : List Frame) (h : SelFrame) (hs : List SelFrame) (bytes : Bytes)
    (x : IsHere m (setting_of m plan contents) s f fs h hs bytes) where
  abbrev g : Setting
  g = setting_of m plan contents

  abbrev V : List LocalKind
  V = variables_of x.call.fn

  abbrev there_ops : Option (List ℕ) → Op → List SelOp
  there_ops into op = ops_of m V (done m plan contents p input s f fs h hs bytes x) into op

  abbrev spot : SelState
  spot = now m plan contents p input s f fs h hs bytes x

  abbrev flat : Flat
  flat = memory m plan contents p input s f fs h hs bytes x

  abbrev Has : Kind → Operand → Value → Type 0
  Has kind a v = HasValue m g s.objects x.at x.call.holds.values kind (origin_of m (named_locals V) kind a) v

  -- an instruction stands there
  abbrev Stands : Option (List ℕ) → Op → Type 0
  Stands into op = slice_get x.call.block.insts f.next ≡ Some (record { result = into; op = op })

  -- it is met by its operations
  abbrev IsMet : Option (List ℕ) → Op → Type 0
  IsMet into op = Meets m g input (length (there_ops into op)) spot (turned s (instruction_turn m input s f fs into op))  -- an operation on three operands

  three_set : (into : Option (List ℕ)) (op : Op) (ka kb kc : Kind) (a b c : Operand) (u v t w : Value) (last : ℕ → ℕ → ℕ → SelOp) → Stands into op → alloca_bytes m.types op ≡ 0
      → (((operand_brought m V 0 ka a).ops ++ (operand_brought m V 1 kb b).ops) ++ (operand_brought m V 2 kc c).ops)
      ++ last (operand_brought m V 0 ka a).register (operand_brought m V 1 kb b).register (operand_brought m V 2 kc c).register ∷ [] ≡ there_ops into op
      → Has ka a u → Has kb b v → Has kc c t
      → ((registers : List (Option ℕ)) (i j k : ℕ) → HasWord registers i (word_of x.at u) → HasWord registers j (word_of x.at v) → HasWord registers k (word_of x.at t) → word_of_op plan (reader h.own registers) flat (last i j k) ≡ Ok (word_of x.at w))
      → ((i j k : ℕ) → assigns_of (last i j k) ≡ Some (result_register V into)) → IsKnown (length s.objects) g.taken w
      → Meets m g input (length (there_ops into op)) spot (turned s (gives s f fs into w))
  three_set into op ka kb kc a b c u v t w last there none are first second third word assigns known =
      let y = three_bring plan h.own flat x.at V x.call.holds.values h.registers (origin_of m (named_locals V) ka a) (origin_of m (named_locals V) kb b) (origin_of m (named_locals V) kc c) u v t
      (ready m plan contents p input s f fs h hs bytes x) first.planned second.planned third.planned first.is second.is third.is in
      let i : ℕ = (operand_brought m V 0 ka a).register in
      let j : ℕ = (operand_brought m V 1 kb b).register in
      let k : ℕ = (operand_brought m V 2 kc c).register in
      sets m plan contents p input s f fs h hs bytes x (record { result = into; op = op }) there (((operand_brought m V 0 ka a).ops ++ (operand_brought m V 1 kb b).ops) ++ (operand_brought m V 2 kc c).ops) (last i j k) y.after w none are
      y.runs y.ready y.count (word y.after i j k y.first y.second y.third) (assigns i j k) known

  -- an answer, as what the instruction gives, is met
  abbrev Goal : Option (List ℕ) → Op → Answer Value → Type 0
  Goal into op q = Meets m g input (length (there_ops into op)) spot (turned s (and_then q (λ w. gives s f fs into w)))

  -- a choice between two values
  pub select_met : (into : Option (List ℕ)) (condition : Operand) (ty : Ty) (a : Operand) (ty2 : Ty) (b : Operand) → Stands into (Select condition ty a ty2 b) → IsMet into (Select condition ty a ty2 b)
  select_met into condition ty a ty2 b there = by_first (value_of m f.locals (Number W1) condition) refl
    where
      fits : op_fits m (env_of x.call.fn) (Select condition ty a ty2 b) ≡ true
      fits = (rules m plan contents p input s f fs h hs bytes x into (Select condition ty a ty2 b) there).fits

      parts : (operand_fits m (env_of x.call.fn) (Number W1) condition ≡ true) × ((operand_fits m (env_of x.call.fn) (kind_of ty) a ≡ true) × (operand_fits m (env_of x.call.fn) (kind_of ty2) b ≡ true))
      parts =
          let q = and_parts (operand_fits m (env_of x.call.fn) (Number W1) condition) ((is_value (kind_of ty) && same_kind (kind_of ty) (kind_of ty2)) && (operand_fits m (env_of x.call.fn) (kind_of ty) a && operand_fits m (env_of x.call.fn) (kind_of ty2) b)) fits in
          let t = and_parts (is_value (kind_of ty) && same_kind (kind_of ty) (kind_of ty2)) (operand_fits m (env_of x.call.fn) (kind_of ty) a && operand_fits m (env_of x.call.fn) (kind_of ty2) b) q.1 in
          (q.0, and_parts (operand_fits m (env_of x.call.fn) (kind_of ty) a) (operand_fits m (env_of x.call.fn) (kind_of ty2) b) t.1)

      mentioned : Each (IsFine m) (of_operand condition) × (Each (IsFine m) (of_operand a) × Each (IsFine m) (of_operand b))
      mentioned =
          let one = Each_parts (IsFine m) (of_operand condition) (of_typed ty a ++ of_typed ty2 b) (fine m plan contents p input s f fs h hs bytes x into (Select condition ty a ty2 b) there) in
          let two = Each_parts (IsFine m) (of_typed ty a) (of_typed ty2 b) one.1 in
          (one.0, (two.0.1, two.1.1))

      given : (c u v : Value) → Has (Number W1) condition c → Has (kind_of ty) a u → Has (kind_of ty2) b v → (n : ℕ) × (c ≡ Num W1 n) × (n < modulus W1) → Goal into (Select condition ty a ty2 b) (selected c u v)
      given c u v first second third n =
          subst (Goal into (Select condition ty a ty2 b)) (sym (ap (λ t. selected t u v) n.1))
          (three_set into (Select condition ty a ty2 b) (Number W1) (kind_of ty) (kind_of ty2) condition a b c u v (if nat_eq n.0 0 then v else u) (λ i j k. Pick (result_register V into) i j k) there refl
          (append_assoc ((operand_brought m V 0 (Number W1) condition).ops ++ (operand_brought m V 1 (kind_of ty) a).ops) (operand_brought m V 2 (kind_of ty2) b).ops
          (Pick (result_register V into) (operand_brought m V 0 (Number W1) condition).register (operand_brought m V 1 (kind_of ty) a).register (operand_brought m V 2 (kind_of ty2) b).register ∷ [])
          ∙ append_assoc (operand_brought m V 0 (Number W1) condition).ops (operand_brought m V 1 (kind_of ty) a).ops ((operand_brought m V 2 (kind_of ty2) b).ops
          ++ Pick (result_register V into) (operand_brought m V 0 (Number W1) condition).register (operand_brought m V 1 (kind_of ty) a).register (operand_brought m V 2 (kind_of ty2) b).register ∷ []))
          first second third
          (λ registers i j k hold_c hold_u hold_v.
          pick_word (result_register V into) i j k n.0 (word_of x.at u) (word_of x.at v) plan (reader h.own registers) flat (subst (λ t. HasWord registers i (word_of x.at t)) n.1 hold_c) hold_u hold_v
          ∙ ap (λ t. Ok (if nat_eq t 0 then word_of x.at v else word_of x.at u)) (low_same W1 n.0 n.2) ∙ ap Ok (chosen_word x.at (nat_eq n.0 0) u v))
          (λ i j k. refl) (chosen_known (length s.objects) g.taken (nat_eq n.0 0) u v second.known third.known))

      by_third : (c u : Value) → Has (Number W1) condition c → Has (kind_of ty) a u → (q : Answer Value) → value_of m f.locals (kind_of ty2) b ≡ q → Goal into (Select condition ty a ty2 b) (and_then q (λ v. selected c u v))
      by_third c u first second (Err stop) e = inl (subst IsTame e (value_tame m f.locals (kind_of ty2) b))
      by_third c u first second (Ok v) e =
          given c u v first second (has m plan contents p input s f fs h hs bytes x (kind_of ty2) b v parts.1.1 mentioned.1.1 e) (number_has m plan contents p input s f fs h hs bytes x W1 (Number W1) condition c refl first)

      by_second : (c : Value) → Has (Number W1) condition c → (q : Answer Value) → value_of m f.locals (kind_of ty) a ≡ q → Goal into (Select condition ty a ty2 b) (and_then q (λ u. and_then (value_of m f.locals (kind_of ty2) b) (λ v. selected c u v)))
      by_second c first (Err stop) e = inl (subst IsTame e (value_tame m f.locals (kind_of ty) a))
      by_second c first (Ok u) e = by_third c u first (has m plan contents p input s f fs h hs bytes x (kind_of ty) a u parts.1.0 mentioned.1.0 e) (value_of m f.locals (kind_of ty2) b) refl

      by_first : (q : Answer Value) → value_of m f.locals (Number W1) condition ≡ q → Goal into (Select condition ty a ty2 b) (and_then q (λ c. and_then (value_of m f.locals (kind_of ty) a) (λ u. and_then (value_of m f.locals (kind_of ty2) b) (λ v. selected c u v))))
      by_first (Err stop) e = inl (subst IsTame e (value_tame m f.locals (Number W1) condition))
      by_first (Ok c) e = by_second c (has m plan contents p input s f fs h hs bytes x (Number W1) condition c parts.0 mentioned.0 e) (value_of m f.locals (kind_of ty) a) refl
