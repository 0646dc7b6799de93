-- Loads: a word of as many bytes, and of a byte with a truth value its lowest bit.
use Rattle.std.proofs.Common.{◌≡◌, ◌≢◌, ℕ, ◌+◌, ◌%◌, ◌^◌, ◌<◌, true, false, List, [], ◌∷◌, length, Option, Some, Ok, Err, inl, slice_get, refl, ap, sym, ◌∙◌, subst, arith}
use Rattle.std.proofs.Math.Nat.{mod-eq_of_lt}
use Rattle.std.proofs.lemmas.Bool.{and_parts}
use Rattle.rd_num.specs.declared.width.Width.{Width}
use Rattle.rd_num.specs.declared.width.Width.TheVariants.{W1, W8, W16, W32, W64}
use Rattle.ir_core.specs.declared.instruction.CastOp.TheVariants.{Zext}
use Rattle.ir_core.specs.declared.instruction.Inst.{Inst}
use Rattle.ir_core.specs.declared.instruction.Op.TheVariants as op
use Rattle.ir_core.specs.declared.kind.Kind.{Kind}
use Rattle.ir_core.specs.declared.kind.Kind.TheVariants.{NoValue, Number, Pointer}
use Rattle.ir_core.specs.declared.memory.Value.{Value}
use Rattle.ir_core.specs.declared.module.Module.{Module}
use Rattle.ir_core.specs.declared.operand.Operand.{Operand}
use Rattle.ir_core.specs.declared.ty.Ty.{Ty}
use Rattle.ir_core.specs.Arithmetic.{cast}
use Rattle.ir_core.specs.Kinds.{kind_of}
use Rattle.ir_core.specs.Memory.{kind_size, load_at}
use Rattle.ir_core.specs.Operands.{value_of}
use Rattle.ir_core.specs.Shapes.{bytes_of}
use Rattle.ir_core.specs.State.{Frame, State, turned}
use Rattle.ir_core.specs.Step.{instruction_turn, gives}
use Rattle.ir_core.specs.Stops.{Answer, and_then}
use Rattle.ir_core.specs.Typing.{is_value, operand_fits}
use Rattle.ir_core.specs.Valid.{LocalKind, named_locals, env_of}
use Rattle.ir_sound.specs.WellTyped.{present}
use Rattle.ir_context.specs.declared.origin.Origin.{Origin}
use Rattle.ir_context.specs.Origins.{origin_of}
use Rattle.low_core.specs.declared.sel.SelOp.{SelOp}
use Rattle.low_core.specs.declared.sel.SelOp.TheVariants as sel
use Rattle.low_core.specs.Flat.{Span, Bytes, Flat, word_at}
use Rattle.low_core.specs.Plan.{Plan, Content}
use Rattle.low_core.specs.Contents.{word_of}
use Rattle.low_core.specs.Bridge.{Setting, flat_in}
use Rattle.low_core.specs.SelState.{SelFrame, SelState, with_register}
use Rattle.low_core.specs.SelStep.{word_of_op, low_bits}
use Rattle.flat_memory.specs.Accesses.{of_kind}
use Rattle.flat_memory.proofs.Lists.{get_set_same, get_set_other, length_set}
use Rattle.flat_memory.proofs.Load.{load_law}
use Rattle.isel_rows.specs.Variables.{operand_register, width_of}
use Rattle.isel_rows.specs.Brought.{brought}
use Rattle.isel_rows.specs.Rows.{load_ops, result_register}
use Rattle.isel.proofs.Beside.{memories, setting_of, Meets}
use Rattle.isel.proofs.Mentioned.{inst_fine}
use Rattle.isel.proofs.Premises.{Premises, rules_at}
use Rattle.isel.proofs.Straight.{reader, passed, passed_both}
use Rattle.isel.proofs.Words.{HasWord, word_read, pass}
use Rattle.isel.proofs.Operands.{operand_brings, ready_after}
use Rattle.isel.proofs.Values.{HasValue, operand_has}
use Rattle.isel.proofs.Loaded.{loaded_small}
use Rattle.isel.proofs.Tame.{IsTame, value_tame, load_tame}
use Rattle.isel.proofs.Here.{IsHere, vs, memory, now, ready, ops, result_below, lands_set}
use Rattle.isel.proofs.Past.{flat_same}
use Rattle.isel.proofs.Accesses.{when_answered}
use Rattle.low_core.specs.Weights.{lean_own}

-- registers after a load
record Loaded (plan : Plan) (own : Span) (flat : Flat) (registers : List (Option ℕ)) (ops : List SelOp) (r word : ℕ) : Type 0 where
  after : List (Option ℕ)
  runs : passed plan own flat registers ops ≡ Ok after
  holds : HasWord after r word
  kept : (j : ℕ) → j ≢ r → slice_get after j ≡ slice_get registers j
  count : length after ≡ length registers

module _ (plan : Plan) (own : Span) (flat : Flat) (registers : List (Option ℕ)) (r from at : ℕ) (within : r < length registers) (holds : HasWord registers from at) where
  -- the word of a load
  read_there : (w : Width) (word : ℕ) → word_at flat at (bytes_of w) ≡ Ok word → word_of_op plan (reader own registers) flat (sel.Load w r from) ≡ Ok word
  read_there w word e = ap (λ a. and_then a (λ place. word_at flat place (bytes_of w))) (word_read registers from at holds) ∙ e

  -- a load of a whole word
  one_load : (w : Width) (word value : ℕ) → word_at flat at (bytes_of w) ≡ Ok word → value ≡ word → Loaded plan own flat registers (sel.Load w r from ∷ []) r value
  one_load w word value e same = record {
    after = with_register registers r word;
    runs = pass plan own flat registers (sel.Load w r from) [] word (with_register registers r word) (read_there w word e) refl;
    holds = get_set_same registers r (Some word) within ∙ ap (λ n. Some (Some n)) (sym same);
    kept = λ j other. get_set_other registers r j (Some word) (λ e. other (sym e));
    count = length_set registers r (Some word);
  }

  -- of a truth value
  bit_load : (word value : ℕ) → word_at flat at 1 ≡ Ok word → value ≡ word % 2 → Loaded plan own flat registers (sel.Load W8 r from ∷ sel.Widen false W1 W8 r r ∷ []) r value
  bit_load word value e same =
      let first : List (Option ℕ) = with_register registers r word in
      let bit : ℕ = cast Zext W1 W8 (low_bits W1 word) in
      let there : HasWord first r word = get_set_same registers r (Some word) within in
      let long : length first ≡ length registers = length_set registers r (Some word) in
      let is : bit ≡ value = omega (arith, same) in
      record {
        after = with_register first r bit;
        runs =
            pass plan own flat registers (sel.Load W8 r from) (sel.Widen false W1 W8 r r ∷ []) word (with_register first r bit) (read_there W8 word e)
            (pass plan own flat first (sel.Widen false W1 W8 r r) [] bit (with_register first r bit) (ap (λ a. and_then a (λ n. let z : Answer ℕ = Ok (cast Zext W1 W8 (low_bits W1 n)) in z)) (word_read first r word there)) refl);
        holds = get_set_same first r (Some bit) (omega (arith, within, long)) ∙ ap (λ n. Some (Some n)) is;
        kept = λ j other. get_set_other first r j (Some bit) (λ e. other (sym e)) ∙ get_set_other registers r j (Some word) (λ e. other (sym e));
        count = length_set first r (Some bit) ∙ long;
      }

  -- of a kind
  kind_load : (kind : Kind) (word value : ℕ) → is_value kind ≡ true → word_at flat at (kind_size kind) ≡ Ok word → value ≡ of_kind kind word → ((w : Width) → kind ≡ Number w → word < 256 ^ bytes_of w) → Loaded plan own flat registers (load_ops (width_of kind) r from) r value
  kind_load NoValue word value is e same small = absurd (cc)
  kind_load Pointer word value is e same small = one_load W64 word value e same
  kind_load (Number W1) word value is e same small = bit_load word value e same
  kind_load (Number W8) word value is e same small = let low = small W8 refl in one_load W8 word value e (same ∙ mod-eq_of_lt low)
  kind_load (Number W16) word value is e same small = let low = small W16 refl in one_load W16 word value e (same ∙ mod-eq_of_lt low)
  kind_load (Number W32) word value is e same small = let low = small W32 refl in one_load W32 word value e (same ∙ mod-eq_of_lt low)
  kind_load (Number W64) word value is e same small = let low = small W64 refl in one_load W64 word value e (same ∙ mod-eq_of_lt low)

module _ (m : Module) (plan : Plan) (contents : List Content) (p : Premises m plan contents) (input : List ℕ) (s : State) (f : Frame) (fs : List Frame) (h : SelFrame) (hs : List SelFrame) (bytes : Bytes)
    (x : IsHere m (setting_of m plan contents) s f fs h hs bytes) where
  abbrev g : Setting
  g = setting_of m plan contents

  abbrev vars : List LocalKind
  vars = vs m plan contents p input s f fs h hs bytes x

  abbrev flat : Flat
  flat = memory m plan contents p input s f fs h hs bytes x

  abbrev beside : SelState
  beside = now m plan contents p input s f fs h hs bytes x

  module _ (into : Option (List ℕ)) (ty : Ty) (q : Operand) (there : slice_get x.call.block.insts f.next ≡ Some (record { result = into; op = op.Load ty q })) where
    abbrev i : Inst
    i = record { result = into; op = op.Load ty q }

    abbrev o : Origin
    o = origin_of m (named_locals vars) Pointer q

    loaded : (v u : Value) → is_value (kind_of ty) ≡ true → load_at s.objects (kind_of ty) v ≡ Ok u → HasValue m g s.objects x.at x.call.holds.values Pointer o v →
        Meets m g input (length (ops m plan contents p input s f fs h hs bytes x i there)) beside (turned s (gives s f fs into u))
    loaded v u is_one is pointer =
        let rules = rules_at m plan contents p f.function x.call.fn x.call.in_module f.block x.call.block x.call.in_function f.next i there in
        let prepared = ready m plan contents p input s f fs h hs bytes x in
        let brings = operand_brings plan h.own flat x.at vars x.call.holds.values h.registers 0 o v (omega arith) prepared pointer.planned pointer.is in
        let prepared2 = ready_after plan h.own flat x.at vars x.call.holds.values h.registers (brought vars (operand_register vars 0) o).ops (operand_register vars 0) (omega arith) prepared brings.left in
        let law = load_law g (memories (f ∷ fs) (h ∷ hs)) s.objects x.at bytes p.setting x.tied (kind_of ty) v u is in
        let here : word_at flat (word_of x.at v) (kind_size (kind_of ty)) ≡ Ok law.word = ap (λ l. word_at l (word_of x.at v) (kind_size (kind_of ty))) (sym (flat_same m plan contents p input s f fs h hs bytes x)) ∙ law.gives in
        let r : ℕ = result_register vars into in
        let low : r < length vars + 8 = result_below m plan contents p input s f fs h hs bytes x i rules.into in
        let room = prepared2.room in
        let small : (w : Width) → kind_of ty ≡ Number w → law.word < 256 ^ bytes_of w = λ w e.
        loaded_small g (memories (f ∷ fs) (h ∷ hs)) s.objects x.at bytes p.setting x.tied (present m s.objects) x.over.cells w v u law.word (ap (λ k. load_at s.objects k v) (sym e) ∙ is)
        (ap (λ k. word_at (flat_in g (memories (f ∷ fs) (h ∷ hs)) bytes) (word_of x.at v) (kind_size k)) (sym e) ∙ law.gives) in
        let l = kind_load plan h.own flat brings.left.after r (brought vars (operand_register vars 0) o).register (word_of x.at v) (omega arith) brings.holds (kind_of ty) law.word (word_of x.at u) is_one here law.same small in
        lands_set m plan contents p input s f fs h hs bytes x i there u l.after refl
        (passed_both plan h.own flat h.registers brings.left.after l.after (brought vars (operand_register vars 0) o).ops (load_ops (width_of (kind_of ty)) r (brought vars (operand_register vars 0) o).register) brings.left.runs l.runs)
        (l.count ∙ brings.left.count) l.holds (λ j w other e. l.kept j other ∙ prepared2.have j w e) law.known

    pub load_meets : Meets m g input (length (ops m plan contents p input s f fs h hs bytes x i there)) beside (turned s (instruction_turn m input s f fs into (op.Load ty q)))
    load_meets =
        let rules = rules_at m plan contents p f.function x.call.fn x.call.in_module f.block x.call.block x.call.in_function f.next i there in
        let fits = and_parts (is_value (kind_of ty)) (operand_fits m (env_of x.call.fn) Pointer q) rules.fits in
        let fine = inst_fine lean_own m p.shaped f.function x.call.fn x.call.in_module f.block x.call.block x.call.in_function f.next i there in
        let count : ℕ = length (ops m plan contents p input s f fs h hs bytes x i there) in
        let met = by_value fits.0 (λ v is. operand_has m plan contents p (memories (f ∷ fs) (h ∷ hs)) s.objects x.at bytes x.tied f h x.call x.typed Pointer q v fits.1 fine.1 is) in
        met (value_of m f.locals Pointer q) refl
      where
        by_value : is_value (kind_of ty) ≡ true → ((v : Value) → value_of m f.locals Pointer q ≡ Ok v → HasValue m g s.objects x.at x.call.holds.values Pointer o v) → (a : Answer Value) → value_of m f.locals Pointer q ≡ a →
            Meets m g input (length (ops m plan contents p input s f fs h hs bytes x i there)) beside (turned s (and_then (and_then a (λ v. load_at s.objects (kind_of ty) v)) (λ u. gives s f fs into u)))
        by_value is_one has (Ok v) e =
            when_answered m plan contents p input s f fs h hs bytes x (length (ops m plan contents p input s f fs h hs bytes x i there)) beside (load_at s.objects (kind_of ty) v) (λ u. gives s f fs into u) (load_tame s.objects (kind_of ty) v)
            (λ u is. loaded v u is_one is (has v e))
        by_value is_one has (Err stop) e = inl (subst IsTame e (value_tame m f.locals Pointer q))
