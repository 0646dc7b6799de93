-- A run that goes on stands at an instruction or at an end, and beside it stand the operations: what they lead to.
use Rattle.std.proofs.Common.{◌≡◌, ◌≢◌, ℕ, ◌+◌, ◌<◌, true, false, List, [], ◌∷◌, ◌++◌, length, take, drop, Option, Some, None, Ok, Err, slice_get, refl, ap, sym, ◌∙◌, subst, inl, inr, arith}
use Rattle.std.proofs.lemmas.Bool.{and_parts}
use Rattle.behavior.specs.Ending.{Going, is_going}
use Rattle.behavior.specs.Moment.{Agrees}
use Rattle.behavior.specs.System.{iter}
use Rattle.ir_core.specs.declared.instruction.Inst.{Inst}
use Rattle.ir_core.specs.declared.memory.Value.{Value}
use Rattle.ir_core.specs.declared.module.Function.{Function}
use Rattle.ir_core.specs.declared.module.Module.{Module}
use Rattle.ir_core.specs.Counts.{alloca_bytes}
use Rattle.ir_core.specs.Definitions.{label_names}
use Rattle.ir_core.specs.State.{Frame, State, turned, source_moment}
use Rattle.ir_core.specs.Step.{gives}
use Rattle.ir_core.specs.Stops.{Stop, Ended, Divide, Trap, Depth, Left, Malformed, ending_of}
use Rattle.ir_core.specs.Typing.{has_kind, into_fits, kind_given, is_value}
use Rattle.ir_core.specs.Valid.{LocalKind, named_locals, env_of}
use Rattle.ir_sound.specs.WellTyped.{AreOver}
use Rattle.ir_sound.proofs.RowLaws.{length_map}
use Rattle.ir_sound.proofs.SameLaws.{has_kind_is}
use Rattle.ir_context.specs.Registers.{register, number_of}
use Rattle.low_core.specs.declared.sel.SelOp.{SelOp}
use Rattle.low_core.specs.Flat.{Bytes, Flat}
use Rattle.low_core.specs.Plan.{Plan, Content}
use Rattle.low_core.specs.Contents.{Addresses, word_of}
use Rattle.low_core.specs.Bridge.{Setting, IsKnown, Bridges}
use Rattle.low_core.specs.SelParts.{assigns_of}
use Rattle.low_core.specs.SelState.{SelFrame, SelState, sel_moment, sel_turned, with_register}
use Rattle.low_core.specs.SelStep.{word_of_op, with_result, sel_step}
use Rattle.flat_memory.specs.Accesses.{AreFree}
use Rattle.flat_memory.proofs.Lists.{get_set_same, get_set_other, length_set}
use Rattle.isel_rows.specs.Variables.{variables_of}
use Rattle.isel_rows.specs.Rows.{Closing, ops_of, closing_of, register_or_idle, result_register}
use Rattle.isel_rows.specs.Functions.{allocas_in, block_selected, function_selected}
use Rattle.isel_rows.specs.Selected.{module_selected}
use Rattle.isel.proofs.Beside.{allocas_before, IsCallBeside, IsOnTop, WaitsIn, AreBeside, memories, setting_of, Meets}
use Rattle.isel.proofs.Holding.{variable_of, holds_given}
use Rattle.isel.proofs.Places.{ops_at, end_at, block_there, function_there}
use Rattle.isel.proofs.Premises.{Premises, CallTyped, rules_at}
use Rattle.isel.proofs.Straight.{going, moved, reader, passed, StandsAt, seen, straight, passed_both}
use Rattle.isel.proofs.Words.{HasWord, pass}
use Rattle.isel.proofs.Operands.{IsReady}

-- all that is known where a run goes on: the innermost calls of both, their callers, and their memories
pub record IsHere (m : Module) (g : Setting) (s : State) (f : Frame) (fs : List Frame) (h : SelFrame) (hs : List SelFrame) (bytes : Bytes) : Type 0 where
  pub going : s.ending ≡ Going
  pub top : s.frames ≡ f ∷ fs
  pub at : Addresses
  pub call : IsCallBeside m g s.objects at f h
  pub on_top : IsOnTop g.plan h hs
  pub waits : WaitsIn m fs f.into h.into
  pub callers : AreBeside m g s.objects at fs hs
  pub tied : Bridges g (memories (f ∷ fs) (h ∷ hs)) s.objects at bytes
  pub typed : CallTyped m call.fn s.objects f
  pub over : AreOver m (f ∷ fs) s.objects

-- the last operation of some, behind the others
pub last_passes : (plan : Plan) (h : SelFrame) (flat : Flat) (registers after : List (Option ℕ)) (front : List SelOp) (last : SelOp) (r n : ℕ) → passed plan h.own flat registers front ≡ Ok after → word_of_op plan (reader h.own after) flat last ≡ Ok n → assigns_of last ≡ Some r
    → passed plan h.own flat registers (front ++ last ∷ []) ≡ Ok (with_register after r n)
last_passes plan h flat registers after front last r n first word assigns =
    passed_both plan h.own flat registers after (with_register after r n) front (last ∷ []) first
    (pass plan h.own flat after last [] n (with_register after r n) word (ap (λ o. Ok (with_result o n after)) assigns))

module _ (m : Module) (plan : Plan) (contents : List Content) (p : Premises m plan contents) (input : List ℕ) (s : State) (f : Frame) (fs : List Frame) (h : SelFrame) (hs : List SelFrame) (bytes : Bytes)
    (x : IsHere m (setting_of m plan contents) s f fs h hs bytes) where
  abbrev pub fn : Function
  fn = x.call.fn

  abbrev pub vs : List LocalKind
  vs = variables_of x.call.fn

  -- the bytes of the allocas in front
  abbrev pub done : ℕ
  done = allocas_before m.types x.call.fn.blocks f.block + allocas_in m.types (take f.next x.call.block.insts)

  abbrev pub closing : Closing
  closing = closing_of m vs (label_names x.call.fn) x.call.block.end

  abbrev pub memory : Flat
  memory = seen (module_selected m) plan contents input hs bytes s.printed s.taken h.own

  -- the run beside
  abbrev pub now : SelState
  now = going (h ∷ hs) bytes s.printed s.taken

  -- the block beside
  selected_there : slice_get (function_selected m fn).blocks h.block ≡ Some (block_selected m vs (label_names fn) (allocas_before m.types fn.blocks f.block) x.call.block)
  selected_there =
      let z : 0 + allocas_before m.types fn.blocks f.block ≡ allocas_before m.types fn.blocks f.block = omega arith in
      ap (slice_get (function_selected m fn).blocks) x.call.same_block ∙ block_there m vs (label_names fn) 0 fn.blocks f.block x.call.block x.call.in_function
      ∙ ap (λ n. Some (block_selected m vs (label_names fn) n x.call.block)) z

  function_is : slice_get (module_selected m).functions h.function ≡ Some (function_selected m fn)
  function_is = ap (slice_get (module_selected m).functions) x.call.function ∙ function_there m f.function fn x.call.in_module

  -- the operations of an instruction stand beside it
  pub stands_here : (i : Inst) (there : slice_get x.call.block.insts f.next ≡ Some i) → (rest : List SelOp) × StandsAt (module_selected m) h (ops_of m vs done i.result i.op ++ rest)
  stands_here i there =
      let o = ops_at m vs (allocas_before m.types fn.blocks f.block) x.call.block.insts f.next i there in (
        o.after ++ closing.ops,
        record {
          fn = function_selected m fn;
          in_program = function_is;
          block = block_selected m vs (label_names fn) (allocas_before m.types fn.blocks f.block) x.call.block;
          in_function = selected_there;
          there = ap (λ n. drop n (block_selected m vs (label_names fn) (allocas_before m.types fn.blocks f.block) x.call.block).ops) x.call.next ∙ o.there closing.ops;
        },
      )

  -- those of an end too, and the end behind them
  pub record EndHere : Type 0 where
    pub stands : StandsAt (module_selected m) h closing.ops
    pub is : stands.block.end ≡ closing.end

  pub ends_here : slice_get x.call.block.insts f.next ≡ None → EndHere
  ends_here none = record {
    stands = record {
      fn = function_selected m fn;
      in_program = function_is;
      block = block_selected m vs (label_names fn) (allocas_before m.types fn.blocks f.block) x.call.block;
      in_function = selected_there;
      there = ap (λ n. drop n (block_selected m vs (label_names fn) (allocas_before m.types fn.blocks f.block) x.call.block).ops) x.call.next ∙ end_at m vs (allocas_before m.types fn.blocks f.block) x.call.block.insts f.next none closing.ops;
    };
    is = refl;
  }

  -- there are registers for all, and variables hold their values
  pub ready : IsReady x.at vs x.call.holds.values h.registers
  ready =
      let count = x.call.registers in
      let many = x.call.holds.count in
      let same = length_map (λ (k : LocalKind). k.name) vs in
      record { room = omega (arith, count); few = omega (arith, many, same); have = x.call.holds.words }

  -- a result is a variable, or has no name
  pub into_variable : (i : Inst) → into_fits (env_of fn) i.result (kind_given i.op) ≡ true → (name : List ℕ) → i.result ≡ Some name → (k : ℕ) × (number_of (named_locals vs) name ≡ Some k) × (k < length vs)
  into_variable i fits name is =
      let fits2 : into_fits (env_of fn) (Some name) (kind_given i.op) ≡ true = ap (λ o. into_fits (env_of fn) o (kind_given i.op)) (sym is) ∙ fits in
      let v = variable_of fn name (kind_given i.op) (has_kind_is (env_of fn name) (kind_given i.op) (and_parts (is_value (kind_given i.op)) (has_kind (env_of fn name) (kind_given i.op)) fits2).1) in
      (v.number, v.is, v.within)

  -- the register of a result is one of the function's
  pub result_below : (i : Inst) → into_fits (env_of fn) i.result (kind_given i.op) ≡ true → result_register vs i.result < length vs + 8
  result_below i fits = by i.result (into_variable i fits)
    where
      by : (into : Option (List ℕ)) → ((name : List ℕ) → into ≡ Some name → (k : ℕ) × (number_of (named_locals vs) name ≡ Some k) × (k < length vs)) → result_register vs into < length vs + 8
      by None go = omega arith
      by (Some name) go =
          let is : result_register vs (Some name) ≡ (go name refl).0 = ap (register_or_idle vs) (go name refl).1 in
          let low = (go name refl).2 in
          omega (arith, is, low)

  module _ (i : Inst) (there : slice_get x.call.block.insts f.next ≡ Some i) where
    abbrev pub ops : List SelOp
    ops = ops_of m vs done i.result i.op

    -- operations leave a value's word in the register of the result, and the words of the other variables
    pub lands_set : (v : Value) (after : List (Option ℕ)) → alloca_bytes m.types i.op ≡ 0 → passed plan h.own memory h.registers ops ≡ Ok after → length after ≡ length h.registers
        → HasWord after (result_register vs i.result) (word_of x.at v) → ((j : ℕ) (u : Value) → j ≢ result_register vs i.result → register x.call.holds.values j ≡ Some u → HasWord after j (word_of x.at u))
        → IsKnown (length s.objects) (setting_of m plan contents).taken v → Meets m (setting_of m plan contents) input (length ops) now (turned s (gives s f fs i.result v))
    lands_set v after none runs count word others known =
        let o = ops_at m vs (allocas_before m.types fn.blocks f.block) x.call.block.insts f.next i there in
        let stands = stands_here i there in
        let rules = rules_at m plan contents p f.function fn x.call.in_module f.block x.call.block x.call.in_function f.next i there in
        let allocas = o.allocas in
        let further : allocas_before m.types fn.blocks f.block + allocas_in m.types (take (f.next + 1) x.call.block.insts) ≡ done = omega (arith, none, allocas) in
        let whole = x.call.whole in
        inr (inl (record {
          frames = moved h after (length ops) ∷ hs;
          bytes = bytes;
          is = straight (module_selected m) plan contents input hs bytes s.printed s.taken ops h stands.0 after stands.1 runs;
          beside = record {
            at = x.at;
            calls = (
              record {
                fn = fn;
                block = x.call.block;
                in_module = x.call.in_module;
                in_function = x.call.in_function;
                function = x.call.function;
                same_block = x.call.same_block;
                next = ap (λ n. n + length ops) x.call.next ∙ sym o.next;
                registers = count ∙ x.call.registers;
                holds = holds_given (length s.objects) (setting_of m plan contents).taken x.at vs f.locals h.registers after i.result v x.call.holds (into_variable i rules.into) word others known;
                size = x.call.size;
                writable = x.call.writable;
                left = x.call.left;
                whole = ap (λ n. n + x.call.left) further ∙ x.call.whole;
                free = subst (λ n. AreFree (setting_of m plan contents) s.objects x.at (h.own.start + n) x.call.left) (sym further) x.call.free;
              },
              record { frame = x.on_top.frame; planned = x.on_top.planned; base = x.on_top.base; start = x.on_top.start; inside = x.on_top.inside; room = x.on_top.room },
              x.waits,
              x.callers,
            );
            tied = x.tied;
          };
        }))

    -- some operations leave the variables as they are, and a last one gives the word
    pub sets : (front : List SelOp) (last : SelOp) (after : List (Option ℕ)) (v : Value) → alloca_bytes m.types i.op ≡ 0 → front ++ last ∷ [] ≡ ops → passed plan h.own memory h.registers front ≡ Ok after → IsReady x.at vs x.call.holds.values after
        → length after ≡ length h.registers → word_of_op plan (reader h.own after) memory last ≡ Ok (word_of x.at v) → assigns_of last ≡ Some (result_register vs i.result) → IsKnown (length s.objects) (setting_of m plan contents).taken v
        → Meets m (setting_of m plan contents) input (length ops) now (turned s (gives s f fs i.result v))
    sets front last after v none are first prepared count word assigns known =
        let r : ℕ = result_register vs i.result in
        let low : r < length vs + 8 = result_below i (rules_at m plan contents p f.function fn x.call.in_module f.block x.call.block x.call.in_function f.next i there).into in
        let room = prepared.room in
        let runs = last_passes plan h memory h.registers after front last r (word_of x.at v) first word assigns in
        lands_set v (with_register after r (word_of x.at v)) none (ap (passed plan h.own memory h.registers) (sym are) ∙ runs) (length_set after r (Some (word_of x.at v)) ∙ count)
        (get_set_same after r (Some (word_of x.at v)) (omega arith))
        (λ j u apart e. get_set_other after r j (Some (word_of x.at v)) (λ is. apart (sym is)) ∙ prepared.have j u e) known

    -- a stop: the source is left, or both have stopped alike
    pub stops : (stop : Stop) (count : ℕ) (t : SelState) → iter (sel_step (module_selected m) plan contents input) count now ≡ sel_turned t (Err stop) → t.printed ≡ s.printed → t.taken ≡ s.taken
        → Meets m (setting_of m plan contents) input count now (turned s (Err stop))
    stops stop count t e printed taken = inr (inr (stopped stop, subst (λ u. Agrees (source_moment (turned s (Err stop))) (sel_moment u)) (sym e) (record { printed = sym printed; taken = sym taken; ending = refl })))
      where
        stopped : (stop : Stop) → is_going (ending_of stop) ≡ false
        stopped (Ended status) = refl
        stopped Divide = refl
        stopped Trap = refl
        stopped Depth = refl
        stopped (Left reason) = refl
        stopped Malformed = refl
