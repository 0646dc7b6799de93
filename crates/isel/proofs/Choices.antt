-- Comparisons, casts, choices and copies are met by operations on registers.
use Rattle.std.proofs.Common.{◌≡◌, ℕ, ◌^◌, ◌<◌, Bool, true, false, List, [], ◌∷◌, ◌++◌, length, Option, Some, Ok, Err, slice_get, refl, ap, sym, ◌∙◌, subst, inl, arith}
use Rattle.std.specs.Prelude.{◌&&◌, if◌then◌else◌}
use Rattle.std.proofs.lemmas.Bool.{and_parts}
use Rattle.rd_num.specs.declared.width.Width.TheVariants.{W64}
use Rattle.ir_core.specs.declared.ty.Ty.{Ty}
use Rattle.ir_core.specs.declared.operand.Operand.{Operand}
use Rattle.ir_core.specs.declared.instruction.Pred.{Pred}
use Rattle.ir_core.specs.declared.instruction.Op.{Op}
use Rattle.ir_core.specs.declared.instruction.Op.TheVariants.{Compare, Freeze}
use Rattle.ir_core.specs.declared.kind.Kind.{Kind}
use Rattle.ir_core.specs.declared.kind.Kind.TheVariants.{NoValue, Number, Pointer}
use Rattle.ir_core.specs.declared.memory.Value.{Value}
use Rattle.ir_core.specs.declared.memory.Value.TheVariants.{Num, Null, At, Fun}
use Rattle.ir_core.specs.declared.module.Module.{Module}
use Rattle.ir_core.specs.Arithmetic.{compared}
use Rattle.ir_core.specs.Counts.{alloca_bytes}
use Rattle.ir_core.specs.Kinds.{kind_of, truth}
use Rattle.ir_core.specs.Memory.{Memory}
use Rattle.ir_core.specs.Mentions.{of_operand, of_typed}
use Rattle.ir_core.specs.Operands.{value_of}
use Rattle.ir_core.specs.Pointers.{pointers_compared}
use Rattle.ir_core.specs.State.{Frame, State, turned}
use Rattle.ir_core.specs.Step.{compared_value, gives, instruction_turn}
use Rattle.ir_core.specs.Stops.{Answer, and_then}
use Rattle.ir_core.specs.Typing.{operand_fits, is_value}
use Rattle.ir_core.specs.Valid.{LocalKind, env_of, named_locals}
use Rattle.ir_sound.specs.WellTyped.{Each, IsOfKind, present}
use Rattle.ir_sound.proofs.RowLaws.{Each_parts}
use Rattle.ir_context.specs.Origins.{origin_of}
use Rattle.low_core.specs.declared.sel.SelOp.{SelOp}
use Rattle.low_core.specs.declared.sel.SelOp.TheVariants.{Copy, Test}
use Rattle.low_core.specs.Flat.{Bytes, Flat}
use Rattle.low_core.specs.Plan.{Plan, Content}
use Rattle.low_core.specs.Contents.{Addresses, word_of}
use Rattle.low_core.specs.Bridge.{Setting, IsKnown}
use Rattle.low_core.specs.SelParts.{assigns_of}
use Rattle.low_core.specs.SelState.{SelFrame, SelState}
use Rattle.low_core.specs.SelStep.{low_bits, word_of_op}
use Rattle.flat_memory.specs.Accesses.{IsPointer}
use Rattle.flat_memory.proofs.Compare.{compare_law}
use Rattle.flat_memory.proofs.Load.{address_small}
use Rattle.isel_rows.specs.Variables.{variables_of, operand_register, width_of}
use Rattle.isel_rows.specs.Brought.{operand_brought}
use Rattle.isel_rows.specs.Rows.{result_register, ops_of}
use Rattle.isel.proofs.Beside.{memories, setting_of, Meets}
use Rattle.isel.proofs.Here.{IsHere, done, memory, now, ready, sets}
use Rattle.isel.proofs.Mentioned.{IsFine}
use Rattle.isel.proofs.Operands.{operand_brings, ready_after}
use Rattle.isel.proofs.Operations.{low_same, has, two_set, gives_or_left}
use Rattle.isel.proofs.Premises.{Premises}
use Rattle.isel.proofs.Straight.{gave, reader}
use Rattle.isel.proofs.Results.{rules, fine, two_read_met, number_has}
use Rattle.isel.proofs.Tame.{IsTame, value_tame, compared_tame}
use Rattle.isel.proofs.Values.{HasValue}
use Rattle.isel.proofs.Words.{HasWord, word_read, two_read}

-- a pointer that can arise
pointer_of : (n k : ℕ) (m : Module) (objects : Memory) (taken : List Bool) (v : Value) → IsOfKind (present m objects) Pointer v → IsKnown n taken v → IsPointer n taken v
pointer_of n k m objects taken (Num w i) is known = absurd is
pointer_of n k m objects taken Null is known = tt
pointer_of n k m objects taken (At o d) is known = known
pointer_of n k m objects taken (Fun f) is known = known

-- a truth value as a word
truth_word : (at : Addresses) (b : Bool) → (if b then 1 else 0) ≡ word_of at (truth b)
truth_word at true = refl
truth_word at false = refl

truth_known : (n : ℕ) (taken : List Bool) (b : Bool) → IsKnown n taken (truth b)
truth_known n taken true = omega arith
truth_known n taken false = omega arith

module _ (m : Module) (plan : Plan) (contents : List Content) (p : Premises m plan contents) (input : List ℕ) (s : State) (f : Frame) (fs : List Frame) (h : SelFrame) (hs : List SelFrame) (bytes : Bytes)
    (x : IsHere m (setting_of m plan contents) s f fs h hs bytes) where
  abbrev g : Setting
  g = setting_of m plan contents

  abbrev V : List LocalKind
  V = variables_of x.call.fn

  abbrev there_ops : Option (List ℕ) → Op → List SelOp
  there_ops into op = ops_of m V (done m plan contents p input s f fs h hs bytes x) into op

  abbrev spot : SelState
  spot = now m plan contents p input s f fs h hs bytes x

  abbrev flat : Flat
  flat = memory m plan contents p input s f fs h hs bytes x

  abbrev Has : Kind → Operand → Value → Type 0
  Has kind a v = HasValue m g s.objects x.at x.call.holds.values kind (origin_of m (named_locals V) kind a) v

  -- an instruction stands there
  abbrev pub Stands : Option (List ℕ) → Op → Type 0
  Stands into op = slice_get x.call.block.insts f.next ≡ Some (record { result = into; op = op })

  -- it is met by its operations
  abbrev pub IsMet : Option (List ℕ) → Op → Type 0
  IsMet into op = Meets m g input (length (there_ops into op)) spot (turned s (instruction_turn m input s f fs into op))

  -- the word of a pointer is one
  pub pointer_small : (v : Value) → IsPointer (length s.objects) g.taken v → word_of x.at v < 2 ^ 64
  pointer_small (Num w n) is = absurd is
  pointer_small Null is = omega arith
  pointer_small (At o d) is = address_small g p.setting s.objects x.at x.tied.functions (At o d) is
  pointer_small (Fun n) is = address_small g p.setting s.objects x.at x.tied.functions (Fun n) is

  pub pointer_has : (kind : Kind) (a : Operand) (v : Value) → kind ≡ Pointer → Has kind a v → IsPointer (length s.objects) g.taken v
  pointer_has kind a v is y = pointer_of (length s.objects) 0 m s.objects g.taken v (subst (λ k. IsOfKind (present m s.objects) k v) is y.of_kind) y.known

  -- what a comparison says
  compared_word : (pred : Pred) (kind : Kind) (a b : Operand) (u v w : Value) → Has kind a u → Has kind b v → compared_value s.objects pred kind u v ≡ Ok w
      → (r : Bool) × (w ≡ truth r) × (compared pred (width_of kind) (low_bits (width_of kind) (word_of x.at u)) (low_bits (width_of kind) (word_of x.at v)) ≡ r)
  compared_word pred (Number k) a b u v w first second e =
      let i = number_has m plan contents p input s f fs h hs bytes x k (Number k) a u refl first in
      let j = number_has m plan contents p input s f fs h hs bytes x k (Number k) b v refl second in
      let is : compared_value s.objects pred (Number k) u v ≡ Ok (truth (compared pred k i.0 j.0)) = ap (λ t. compared_value s.objects pred (Number k) t v) i.1 ∙ ap (compared_value s.objects pred (Number k) (Num k i.0)) j.1 in
      let same : w ≡ truth (compared pred k i.0 j.0) = ok_is w (truth (compared pred k i.0 j.0)) (sym e ∙ is) in (
        compared pred k i.0 j.0,
        same,
        ap (λ t. compared pred k (low_bits k (word_of x.at t)) (low_bits k (word_of x.at v))) i.1
            ∙ ap (λ t. compared pred k (low_bits k i.0) (low_bits k (word_of x.at t))) j.1
            ∙ ap (λ n. compared pred k n (low_bits k j.0)) (low_same k i.0 i.2) ∙ ap (compared pred k i.0) (low_same k j.0 j.2),
      )
    where
      ok_is : (c d : Value) → let q : Answer Value = Ok c in q ≡ Ok d → c ≡ d
      ok_is c d h = cc
  compared_word pred Pointer a b u v w first second e =
      let left = pointer_has Pointer a u refl first in
      let right = pointer_has Pointer b v refl second in
      let r = gave (pointers_compared pred s.objects u v) (λ holds. answer (truth holds)) w e in
      let same : w ≡ truth r.value = sym (ok_is (truth r.value) w r.then) in (
        r.value,
        same,
        ap (λ n. compared pred W64 n (low_bits W64 (word_of x.at v))) (low_same W64 (word_of x.at u) (pointer_small u left))
            ∙ ap (compared pred W64 (word_of x.at u)) (low_same W64 (word_of x.at v) (pointer_small v right))
            ∙ compare_law g (memories (f ∷ fs) (h ∷ hs)) s.objects x.at bytes p.setting x.tied pred u v r.value left right r.first,
      )
    where
      answer : Value → Answer Value
      answer v = Ok v

      ok_is : (c d : Value) → let q : Answer Value = Ok c in q ≡ Ok d → c ≡ d
      ok_is c d h = cc
  compared_word pred NoValue a b u v w first second e = absurd (cc)

  -- a comparison
  pub compare_met : (into : Option (List ℕ)) (pred : Pred) (ty : Ty) (a b : Operand) → Stands into (Compare pred ty a b) → IsMet into (Compare pred ty a b)
  compare_met into pred ty a b there =
      let K : Kind = kind_of ty in
      let r = rules m plan contents p input s f fs h hs bytes x into (Compare pred ty a b) there in
      let q = and_parts (is_value K) (operand_fits m (env_of x.call.fn) K a && operand_fits m (env_of x.call.fn) K b) r.fits in
      let both = and_parts (operand_fits m (env_of x.call.fn) K a) (operand_fits m (env_of x.call.fn) K b) q.1 in
      let two = Each_parts (IsFine m) (of_typed ty a) (of_operand b) (fine m plan contents p input s f fs h hs bytes x into (Compare pred ty a b) there) in
      two_read_met m plan contents p input s f fs h hs bytes x into (Compare pred ty a b) K K a b (λ u v. compared_value s.objects pred K u v) both.0 both.1 two.0.1 two.1
      (λ u v first second. gives_or_left m plan contents p input s f fs h hs bytes x into (length (there_ops into (Compare pred ty a b))) (compared_value s.objects pred K u v) (compared_tame s.objects pred K u v) (λ w e.
      let c = compared_word pred K a b u v w first second e in
      two_set m plan contents p input s f fs h hs bytes x into (Compare pred ty a b) K K a b u v w (λ i j. Test pred (width_of K) (result_register V into) i j) there refl refl first second
      (λ registers i j hold_u hold_v.
      two_read registers (width_of K) i j (word_of x.at u) (word_of x.at v) (λ y z. Ok (if compared pred (width_of K) y z then 1 else 0)) hold_u hold_v
      ∙ ap (λ t. Ok (if t then 1 else 0)) c.2 ∙ ap Ok (truth_word x.at c.0) ∙ ap (λ t. Ok (word_of x.at t)) (sym c.1))
      (λ i j. refl) (subst (IsKnown (length s.objects) g.taken) (sym c.1) (truth_known (length s.objects) g.taken c.0))))

  -- one operand is read, and what comes of it is met
  pub one_read_met : (into : Option (List ℕ)) (op : Op) (ka : Kind) (a : Operand) (rest : Value → Answer Value) → operand_fits m (env_of x.call.fn) ka a ≡ true → Each (IsFine m) (of_operand a)
      → ((u : Value) → Has ka a u → Meets m g input (length (there_ops into op)) spot (turned s (and_then (rest u) (λ w. gives s f fs into w))))
      → Meets m g input (length (there_ops into op)) spot (turned s (and_then (and_then (value_of m f.locals ka a) rest) (λ w. gives s f fs into w)))
  one_read_met into op ka a rest fits fine_a go = by (value_of m f.locals ka a) refl
    where
      by : (q : Answer Value) → value_of m f.locals ka a ≡ q → Meets m g input (length (there_ops into op)) spot (turned s (and_then (and_then q rest) (λ w. gives s f fs into w)))
      by (Err stop) e = inl (subst IsTame e (value_tame m f.locals ka a))
      by (Ok u) e = go u (has m plan contents p input s f fs h hs bytes x ka a u fits fine_a e)

  -- an operation on one operand
  pub one_set : (into : Option (List ℕ)) (op : Op) (ka : Kind) (a : Operand) (u w : Value) (last : ℕ → SelOp) → (there : Stands into op) → alloca_bytes m.types op ≡ 0
      → (operand_brought m V 0 ka a).ops ++ last (operand_brought m V 0 ka a).register ∷ [] ≡ there_ops into op → Has ka a u
      → ((registers : List (Option ℕ)) (i : ℕ) → HasWord registers i (word_of x.at u) → word_of_op plan (reader h.own registers) flat (last i) ≡ Ok (word_of x.at w))
      → ((i : ℕ) → assigns_of (last i) ≡ Some (result_register V into)) → IsKnown (length s.objects) g.taken w
      → Meets m g input (length (there_ops into op)) spot (turned s (gives s f fs into w))
  one_set into op ka a u w last there none are first word assigns known =
      let y = operand_brings plan h.own flat x.at V x.call.holds.values h.registers 0 (origin_of m (named_locals V) ka a) u (omega arith) (ready m plan contents p input s f fs h hs bytes x) first.planned first.is in
      let z = ready_after plan h.own flat x.at V x.call.holds.values h.registers (operand_brought m V 0 ka a).ops (operand_register V 0) (omega arith) (ready m plan contents p input s f fs h hs bytes x) y.left in
      let i : ℕ = (operand_brought m V 0 ka a).register in
      sets m plan contents p input s f fs h hs bytes x (record { result = into; op = op }) there (operand_brought m V 0 ka a).ops (last i) y.left.after w none are y.left.runs z y.left.count (word y.left.after i y.holds) (assigns i) known

  -- a copy
  pub freeze_met : (into : Option (List ℕ)) (ty : Ty) (a : Operand) → Stands into (Freeze ty a) → IsMet into (Freeze ty a)
  freeze_met into ty a there =
      let K : Kind = kind_of ty in
      let r = rules m plan contents p input s f fs h hs bytes x into (Freeze ty a) there in
      let q = and_parts (is_value K) (operand_fits m (env_of x.call.fn) K a) r.fits in
      gives_or_left m plan contents p input s f fs h hs bytes x into (length (there_ops into (Freeze ty a))) (value_of m f.locals K a) (value_tame m f.locals K a) (λ u e.
      let first = has m plan contents p input s f fs h hs bytes x K a u q.1 (fine m plan contents p input s f fs h hs bytes x into (Freeze ty a) there).1 e in
      one_set into (Freeze ty a) K a u u (λ i. Copy (result_register V into) i) there refl refl first (λ registers i hold. word_read registers i (word_of x.at u) hold) (λ i. refl) first.known)
