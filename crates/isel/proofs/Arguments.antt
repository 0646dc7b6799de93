-- The arguments of a call, brought into registers: there is one for each, and variables stay as they are.
use Rattle.std.proofs.Common.{◌≡◌, ℕ, zero, suc, ◌+◌, ◌<◌, ◌≤◌, List, [], ◌∷◌, map, take, length, Option, Some, Ok, slice_get, refl, ap, ◌∙◌, arith}
use Rattle.std.specs.List.{flat_map}
use Rattle.ir_core.specs.declared.instruction.Arg.{Arg}
use Rattle.ir_core.specs.declared.instruction.Inst.{Inst}
use Rattle.ir_core.specs.declared.instruction.Op.TheVariants.{Call}
use Rattle.ir_core.specs.declared.limit.TheConstants.{REGISTER_PARAMETERS}
use Rattle.ir_core.specs.declared.memory.Value.{Value}
use Rattle.ir_core.specs.declared.module.Block.{Block}
use Rattle.ir_core.specs.declared.module.Function.{Function}
use Rattle.ir_core.specs.declared.module.Module.{Module}
use Rattle.ir_core.specs.declared.operand.Operand.{Operand}
use Rattle.ir_core.specs.declared.ty.Ty.{Ty}
use Rattle.ir_core.specs.Counts.{greatest, argument_counts, stack_arguments}
use Rattle.ir_core.specs.State.{Frame, State}
use Rattle.ir_core.specs.Valid.{LocalKind, named_locals}
use Rattle.ir_context.specs.Origins.{arg_origin}
use Rattle.isel_rows.proofs.CountLaws.{greatest_append}
use Rattle.low_core.specs.Flat.{Bytes, Flat}
use Rattle.low_core.specs.Plan.{Plan, Content}
use Rattle.low_core.specs.Contents.{word_of}
use Rattle.low_core.specs.SelState.{SelFrame, words_in}
use Rattle.isel_rows.specs.Variables.{variables_of}
use Rattle.isel_rows.specs.Brought.{args_brought}
use Rattle.isel.proofs.Beside.{memories, setting_of}
use Rattle.isel.proofs.Here.{IsHere, memory, ready}
use Rattle.isel.proofs.Operands.{IsReady, below_few, all_read, ArePlanned, all_bring}
use Rattle.isel.proofs.Premises.{Premises}
use Rattle.isel.proofs.Straight.{passed}
use Rattle.isel.proofs.Values.{HaveValues, origins_have}

-- the greatest of counts is no less than that of a part
greatest_part : {X : Type 0} (counts : X → List ℕ) (xs : List X) (k : ℕ) (x : X) → slice_get xs k ≡ Some x → greatest (counts x) ≤ greatest (flat_map counts xs)
greatest_part counts [] k x e = absurd (cc)
greatest_part counts (y ∷ ys) zero x e =
    let same : y ≡ x = cc in
    let both = greatest_append (counts y) (flat_map counts ys) in
    let one : greatest (counts y) ≡ greatest (counts x) = ap (λ z. greatest (counts z)) same in
    omega (arith, both, one)
greatest_part counts (y ∷ ys) (suc k) x e =
    let more = greatest_part counts ys k x e in
    let both = greatest_append (counts y) (flat_map counts ys) in
    omega (arith, both, more)

-- no call has more arguments than registers are kept for
pub few_arguments : (fn : Function) (k : ℕ) (b : Block) → slice_get fn.blocks k ≡ Some b → (j : ℕ) (into : Option (List ℕ)) (ret : Ty) (callee : Operand) (args : List Arg)
    → slice_get b.insts j ≡ Some (record { result = into; op = Call ret callee args }) → length args ≤ REGISTER_PARAMETERS + stack_arguments fn
few_arguments fn k b in_function j into ret callee args there =
    let i : Inst = record { result = into; op = Call ret callee args } in
    let in_block = greatest_part (λ (x : Inst). argument_counts x.op) b.insts j i there in
    let in_all = greatest_part (λ (c : Block). flat_map (λ (x : Inst). argument_counts x.op) c.insts) fn.blocks k b in_function in
    omega (arith, in_block, in_all)

-- the first of some items are no more
length_taken : {X : Type 0} (n : ℕ) (xs : List X) → length (take n xs) ≤ length xs
length_taken zero [] = omega arith
length_taken zero (x ∷ xs) = omega arith
length_taken (suc n) [] = omega arith
length_taken (suc n) (x ∷ xs) = let r = length_taken n xs in omega arith

module _ (m : Module) (plan : Plan) (contents : List Content) (p : Premises m plan contents) (input : List ℕ) (s : State) (f : Frame) (fs : List Frame) (h : SelFrame) (hs : List SelFrame) (bytes : Bytes)
    (x : IsHere m (setting_of m plan contents) s f fs h hs bytes) where
  abbrev V : List LocalKind
  V = variables_of x.call.fn

  abbrev flat : Flat
  flat = memory m plan contents p input s f fs h hs bytes x

  -- arguments have these values
  abbrev pub Have : List Arg → List Value → Type 0
  Have args us = HaveValues m plan contents p (memories (f ∷ fs) (h ∷ hs)) s.objects x.at bytes x.tied f h x.call x.typed args us

  -- registers once arguments were brought: theirs hold the words of their values
  pub record AreBrought (args : List Arg) (us : List Value) : Type 0 where
    pub after : List (Option ℕ)
    pub runs : passed plan h.own flat h.registers (args_brought m V 0 args).ops ≡ Ok after
    pub words : words_in after (args_brought m V 0 args).registers ≡ Ok (map (word_of x.at) us)
    pub kept : (j : ℕ) → j < length V → slice_get after j ≡ slice_get h.registers j
    pub ready : IsReady x.at V x.call.holds.values after
    pub count : length after ≡ length h.registers

  -- what is known stands where the plan has it
  have_planned : (args : List Arg) (us : List Value) → Have args us → ArePlanned plan h.own flat x.at V x.call.holds.values (map (arg_origin m (named_locals V)) args)
  have_planned [] [] have = tt
  have_planned [] (u ∷ us) have = absurd have
  have_planned (a ∷ as') [] have = absurd have
  have_planned (a ∷ as') (u ∷ us) have = (have.0.planned, have_planned as' us have.1)

  -- the first of arguments have the first of the values
  pub have_some : (n : ℕ) (args : List Arg) (us : List Value) → Have args us → Have (take n args) (take n us)
  have_some zero [] [] have = tt
  have_some zero [] (u ∷ us) have = absurd have
  have_some zero (a ∷ as') [] have = absurd have
  have_some zero (a ∷ as') (u ∷ us) have = tt
  have_some (suc n) [] [] have = tt
  have_some (suc n) [] (u ∷ us) have = absurd have
  have_some (suc n) (a ∷ as') [] have = absurd have
  have_some (suc n) (a ∷ as') (u ∷ us) have = (have.0, have_some n as' us have.1)

  -- as many values as arguments
  pub have_count : (args : List Arg) (us : List Value) → Have args us → length us ≡ length args
  have_count [] [] have = refl
  have_count [] (u ∷ us) have = absurd have
  have_count (a ∷ as') [] have = absurd have
  have_count (a ∷ as') (u ∷ us) have = ap suc (have_count as' us have.1)

  -- arguments for which there are registers
  pub args_bring : (args : List Arg) (us : List Value) → length args ≤ REGISTER_PARAMETERS + stack_arguments x.call.fn → Have args us → AreBrought args us
  args_bring args us few have =
      let room = x.call.registers in
      let now = ready m plan contents p input s f fs h hs bytes x in
      let y = all_bring plan h.own flat x.at V x.call.holds.values m args h.registers 0 us now (omega (arith, room, few)) (have_planned args us have)
      (origins_have m plan contents p (memories (f ∷ fs) (h ∷ hs)) s.objects x.at bytes x.tied f h x.call x.typed args us have) in
      let count = y.count in
      let many = now.room in
      let less = now.few in
      let kept : (j : ℕ) → j < length V → slice_get y.after j ≡ slice_get h.registers j = (λ j low. y.kept j (omega arith) (λ e. omega (arith, e))) in
      record {
        after = y.after;
        runs = y.runs;
        words = all_read y.after (args_brought m V 0 args).registers (map (word_of x.at) us) y.hold;
        kept = kept;
        ready = record { room = omega (arith, count, many); few = now.few; have = λ k v e. kept k (let low = below_few x.call.holds.values k v e in omega (arith, low, less)) ∙ now.have k v e };
        count = y.count;
      }

  -- the first so many of a call that stands there
  pub some_brought : (into : Option (List ℕ)) (ret : Ty) (callee : Operand) (args : List Arg) → slice_get x.call.block.insts f.next ≡ Some (record { result = into; op = Call ret callee args })
      → (n : ℕ) (us : List Value) → Have args us → AreBrought (take n args) (take n us)
  some_brought into ret callee args there n us have =
      let few = few_arguments x.call.fn f.block x.call.block x.call.in_function f.next into ret callee args there in
      let less = length_taken n args in
      args_bring (take n args) (take n us) (omega (arith, few, less)) (have_some n args us have)

  -- all of them
  pub all_brought : (into : Option (List ℕ)) (ret : Ty) (callee : Operand) (args : List Arg) → slice_get x.call.block.insts f.next ≡ Some (record { result = into; op = Call ret callee args })
      → (us : List Value) → Have args us → AreBrought args us
  all_brought into ret callee args there us have = args_bring args us (few_arguments x.call.fn f.block x.call.block x.call.in_function f.next into ret callee args there) have
