-- The caller of a call that returns goes on beside that of registers, and the objects of the call are dead.
use Rattle.std.proofs.Common.{◌≡◌, ℕ, zero, suc, ◌≤◌, true, List, [], ◌∷◌, length, Option, Some, None, Ok, refl, ap, sym, ◌∙◌, subst, inl, inr, arith, All}
use Rattle.behavior.specs.System.{iter}
use Rattle.ir_core.specs.declared.instruction.Inst.{Inst}
use Rattle.ir_core.specs.declared.instruction.Op.TheVariants.{Call}
use Rattle.ir_core.specs.declared.kind.Kind.{Kind}
use Rattle.ir_core.specs.declared.kind.Kind.TheVariants.{NoValue, Number, Pointer}
use Rattle.ir_core.specs.declared.memory.Value.{Value}
use Rattle.ir_core.specs.declared.module.Function.{Function}
use Rattle.ir_core.specs.declared.module.Module.{Module}
use Rattle.ir_core.specs.Calls.{return_turn}
use Rattle.ir_core.specs.Kinds.{kind_of}
use Rattle.ir_core.specs.Memory.{Memory, without}
use Rattle.ir_core.specs.State.{Local, Frame, State, Nothing, turned, with_local}
use Rattle.ir_core.specs.Stops.{and_then}
use Rattle.ir_core.specs.Typing.{returns_nothing}
use Rattle.ir_core.specs.Valid.{LocalKind, named_locals, names_value, env_of}
use Rattle.ir_sound.specs.WellTyped.{Each, IsOwn, Awaits, IsWaiting, present}
use Rattle.ir_sound.proofs.SameLaws.{not_true, some_is}
use Rattle.low_core.specs.Flat.{Bytes}
use Rattle.low_core.specs.Plan.{Plan, Content}
use Rattle.low_core.specs.Contents.{word_of}
use Rattle.low_core.specs.Bridge.{Setting, IsKnown}
use Rattle.low_core.specs.SelState.{SelFrame, SelState, sel_turned}
use Rattle.low_core.specs.SelStep.{with_result, goes, delivered, returns_with, sel_step}
use Rattle.flat_memory.proofs.Frames.{gone_law}
use Rattle.isel_rows.specs.Calls.{register_into}
use Rattle.isel_rows.specs.Selected.{module_selected}
use Rattle.isel_rows.specs.Variables.{variables_of}
use Rattle.isel.proofs.Beside.{Holds, IsCallBeside, IsOnTop, memories, setting_of, Meets}
use Rattle.isel.proofs.Delivered.{IsVariableOf, count_result, holds_result}
use Rattle.isel.proofs.Here.{IsHere, now}
use Rattle.isel.proofs.Holding.{variable_of}
use Rattle.isel.proofs.Kept.{dead_changed, none_off, call_kept, calls_kept}
use Rattle.isel.proofs.Premises.{Premises, rules_at}
use Rattle.isel.proofs.Straight.{going}

-- objects of a call are no globals
all_own : (count : ℕ) (m : Module) (objects : Memory) → count ≤ length m.globals → (os : List ℕ) → Each (IsOwn (present m objects)) os → All (λ o. count ≤ o) os
all_own count m objects few [] own k d low = absurd (omega (arith, low))
all_own count m objects few (o ∷ os) own zero d low = let first = own.0.0 in omega (arith, first, few)
all_own count m objects few (o ∷ os) own (suc k) d low = all_own count m objects few os own.1 k d (omega (arith, low))

-- what waits for a result is a variable
awaits_variable : (fn : Function) (into : Option (List ℕ)) (kind : Kind) → Awaits (env_of fn) into kind → IsVariableOf (variables_of fn) into
awaits_variable fn None kind awaits name e = absurd (cc)
awaits_variable fn (Some q) kind awaits name e =
    let same : q ≡ name = cc in
    let v = variable_of fn name kind (subst (λ n. env_of fn n ≡ Some kind) same awaits) in
    (v.number, v.is, v.within)

-- nothing is given to no local
pub nothing_kind : (kind : Kind) → returns_nothing kind ≡ true → kind ≡ NoValue
nothing_kind NoValue e = refl
nothing_kind (Number w) e = not_true e
nothing_kind Pointer e = not_true e

-- so what waits for nothing has no name
no_local : (into : Option (List ℕ)) (kind : Kind) → names_value into kind ≡ true → kind ≡ NoValue → into ≡ None
no_local None kind named is = refl
no_local (Some name) kind named is = not_true (sym (ap (names_value (Some name)) is) ∙ named)

-- a result is delivered where its register is
delivered_is : (o : Option ℕ) (n : ℕ) (k : SelFrame) → delivered o (Some n) k ≡ Ok (record k { registers = with_result o n k.registers })
delivered_is (Some r) n k = refl
delivered_is None n k = refl

module _ (m : Module) (plan : Plan) (contents : List Content) (p : Premises m plan contents) (input : List ℕ) (s : State) (f f1 : Frame) (fs : List Frame) (h h1 : SelFrame) (hs : List SelFrame) (bytes : Bytes)
    (x : IsHere m (setting_of m plan contents) s f (f1 ∷ fs) h (h1 ∷ hs) bytes) where
  abbrev g : Setting
  g = setting_of m plan contents

  abbrev spot : SelState
  spot = now m plan contents p input s f (f1 ∷ fs) h (h1 ∷ hs) bytes x

  -- the caller
  abbrev c : IsCallBeside m g s.objects x.at f1 h1
  c = x.callers.0

  abbrev V : List LocalKind
  V = variables_of c.fn

  -- the run beside, where the call has other registers and stands elsewhere
  abbrev pub ending : SelFrame → SelState
  ending h2 = going (h2 ∷ h1 ∷ hs) bytes s.printed s.taken

  -- the caller goes on with other locals
  goes_on : (count : ℕ) (h2 : SelFrame) (locals : List Local) (registers : List (Option ℕ))
      → iter (sel_step (module_selected m) plan contents input) count spot ≡ sel_turned (ending h2) (goes (ending h2) (record h1 { registers = registers } ∷ hs))
      → length registers ≡ length h1.registers → Holds (length s.objects) g.taken x.at (named_locals V) locals registers
      → Meets m g input count spot (turned s (Ok (record { frames = record f1 { locals = locals } ∷ fs; objects = without s.objects f.objects; exchange = Nothing })))
  goes_on count h2 locals registers steps many holds =
      let objects : Memory = without s.objects f.objects in
      let changed = dead_changed g s.objects x.at f.objects in
      let call : IsCallBeside m g s.objects x.at (record f1 { locals = locals }) (record h1 { registers = registers }) = record {
        fn = c.fn;
        block = c.block;
        in_module = c.in_module;
        in_function = c.in_function;
        function = c.function;
        same_block = c.same_block;
        next = c.next;
        registers = many ∙ c.registers;
        holds = holds;
        size = c.size;
        writable = c.writable;
        left = c.left;
        whole = c.whole;
        free = c.free;
      } in
      let top = x.callers.1 in
      let on_top : IsOnTop plan (record h1 { registers = registers }) hs = record { frame = top.frame; planned = top.planned; base = top.base; start = top.start; inside = top.inside; room = top.room } in
      let few = p.globals in
      inr (inl (record {
        frames = record h1 { registers = registers } ∷ hs;
        bytes = bytes;
        is = steps;
        beside = record {
          at = x.at;
          calls = (
            call_kept m g s.objects objects x.at x.at 0 0 changed (record f1 { locals = locals }) (record h1 { registers = registers }) (λ q e low high. absurd (omega (arith, high))) call,
            on_top,
            x.callers.2,
            calls_kept m g s.objects objects x.at x.at 0 0 changed fs hs (none_off 0 hs) x.callers.3,
          );
          tied = gone_law g (record { own = h.own; objects = f.objects }) (memories (f1 ∷ fs) (h1 ∷ hs)) s.objects x.at bytes x.tied (all_own (length contents) m s.objects (omega (arith, few)) f.objects x.typed.own);
        };
      }))

  -- the register of the result is that of the caller's local
  into_is : h.into ≡ register_into V f.into
  into_is = x.waits c.fn c.in_module

  -- the caller waits behind its call
  waiting : IsWaiting m (present m s.objects) (kind_of x.over.calls.0.fn.ret) f.into f1
  waiting = x.over.calls.1.0

  -- the local that waits is a variable
  variable : IsVariableOf V f.into
  variable =
      let same : waiting.stands.fn ≡ c.fn = some_is waiting.stands.fn c.fn (sym waiting.stands.in_module ∙ c.in_module) in
      subst (λ fn. IsVariableOf (variables_of fn) f.into) same (awaits_variable waiting.stands.fn f.into (kind_of x.over.calls.0.fn.ret) waiting.awaits)

  -- with a value
  pub gives_back : (count : ℕ) (h2 : SelFrame) (v : Value) → h2.into ≡ h.into → IsKnown (length s.objects) g.taken v
      → iter (sel_step (module_selected m) plan contents input) count spot ≡ sel_turned (ending h2) (returns_with (ending h2) h2 (h1 ∷ hs) (Some (word_of x.at v)))
      → Meets m g input count spot (turned s (return_turn s f (f1 ∷ fs) (Some v)))
  gives_back count h2 v same known steps =
      let word : ℕ = word_of x.at v in
      let r : Option ℕ = register_into V f.into in
      let registers : List (Option ℕ) = with_result r word h1.registers in
      let room = c.registers in
      goes_on count h2 (with_local f.into v f1.locals) registers
      (steps ∙ ap (λ o. sel_turned (ending h2) (and_then (delivered o (Some word) h1) (λ k. goes (ending h2) (k ∷ hs)))) (same ∙ into_is)
      ∙ ap (λ q. sel_turned (ending h2) (and_then q (λ k. goes (ending h2) (k ∷ hs)))) (delivered_is r word h1))
      (count_result r word h1.registers) (holds_result (length s.objects) g.taken x.at V f1.locals h1.registers f.into v c.holds variable (omega (arith, room)) known)

  -- without one
  pub gives_nothing : (count : ℕ) (h2 : SelFrame) → h2.into ≡ h.into → returns_nothing (kind_of x.call.fn.ret) ≡ true
      → iter (sel_step (module_selected m) plan contents input) count spot ≡ sel_turned (ending h2) (returns_with (ending h2) h2 (h1 ∷ hs) None)
      → Meets m g input count spot (turned s (return_turn s f (f1 ∷ fs) None))
  gives_nothing count h2 same nothing steps =
      let w = waiting in
      let fn_same : x.over.calls.0.fn ≡ x.call.fn = some_is x.over.calls.0.fn x.call.fn (sym x.over.calls.0.in_module ∙ x.call.in_module) in
      let kind : kind_of w.past.ret ≡ NoValue = w.past.gives ∙ ap (λ (fn : Function). kind_of fn.ret) fn_same ∙ nothing_kind (kind_of x.call.fn.ret) nothing in
      let i : Inst = record { result = f.into; op = Call w.past.ret w.past.callee w.past.arguments } in
      let rules = rules_at m plan contents p f1.function w.stands.fn w.stands.in_module f1.block w.stands.block w.stands.in_function w.past.place i w.past.at_place in
      let none : f.into ≡ None = no_local f.into (kind_of w.past.ret) rules.named kind in
      goes_on count h2 f1.locals h1.registers
      (steps ∙ ap (λ o. sel_turned (ending h2) (and_then (delivered o None h1) (λ k. goes (ending h2) (k ∷ hs)))) (same ∙ into_is ∙ ap (register_into V) none)) refl c.holds
