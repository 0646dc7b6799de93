-- Past an instruction whose last operation has an exchange with the outside, or gives a result to a register that may be missing.
use Rattle.std.proofs.Common.{◌≡◌, ℕ, ◌+◌, List, [], ◌∷◌, ◌++◌, length, Option, Some, Ok, Err, slice_get, refl, ap, sym, ◌∙◌, subst, inl, inr, arith}
use Rattle.std.proofs.lemmas.List.{append_assoc, length-append}
use Rattle.behavior.specs.System.{iter}
use Rattle.ir_core.specs.declared.instruction.Inst.{Inst}
use Rattle.ir_core.specs.declared.memory.Value.{Value}
use Rattle.ir_core.specs.declared.module.Module.{Module}
use Rattle.ir_core.specs.Counts.{alloca_bytes}
use Rattle.ir_core.specs.State.{Local, Frame, State, Exchange, turned, with_local}
use Rattle.ir_core.specs.Stops.{Stop}
use Rattle.ir_core.specs.Valid.{LocalKind, named_locals}
use Rattle.low_core.specs.declared.sel.SelOp.{SelOp}
use Rattle.low_core.specs.Flat.{Bytes, Flat}
use Rattle.low_core.specs.Plan.{Plan, Content}
use Rattle.low_core.specs.Contents.{word_of}
use Rattle.low_core.specs.Bridge.{Setting, IsKnown}
use Rattle.low_core.specs.SelState.{SelFrame, SelState, sel_turned}
use Rattle.low_core.specs.SelStep.{with_result, op_turn, sel_step}
use Rattle.isel_rows.specs.Calls.{register_into}
use Rattle.isel_rows.specs.Variables.{variables_of}
use Rattle.isel_rows.specs.Selected.{module_selected}
use Rattle.isel.proofs.Beside.{Holds, setting_of, Meets}
use Rattle.isel.proofs.Delivered.{count_result, holds_result}
use Rattle.isel.proofs.Here.{IsHere, memory, now, ops, stands_here, stops, into_variable}
use Rattle.isel.proofs.Kept.{same_changed}
use Rattle.isel.proofs.Operands.{IsReady}
use Rattle.isel.proofs.Past.{call_past, top_past}
use Rattle.isel.proofs.Premises.{Premises, rules_at}
use Rattle.isel.proofs.Straight.{going, moved, passed, StandsAt, straight_then}

module _ (m : Module) (plan : Plan) (contents : List Content) (p : Premises m plan contents) (input : List ℕ) (s : State) (f : Frame) (fs : List Frame) (h : SelFrame) (hs : List SelFrame) (bytes : Bytes)
    (x : IsHere m (setting_of m plan contents) s f fs h hs bytes) where
  abbrev g : Setting
  g = setting_of m plan contents

  abbrev V : List LocalKind
  V = variables_of x.call.fn

  abbrev flat : Flat
  flat = memory m plan contents p input s f fs h hs bytes x

  abbrev spot : SelState
  spot = now m plan contents p input s f fs h hs bytes x

  -- the run beside with other registers, so many operations on
  abbrev pub later : List (Option ℕ) → ℕ → SelState
  later registers count = going (moved h registers count ∷ hs) bytes s.printed s.taken

  -- variables hold what they held, by other registers
  pub holds_after : (registers : List (Option ℕ)) → IsReady x.at V x.call.holds.values registers → Holds (length s.objects) g.taken x.at (named_locals V) f.locals registers
  holds_after registers prepared = record { values = x.call.holds.values; count = x.call.holds.count; stand = x.call.holds.stand; words = prepared.have; known = x.call.holds.known }

  module _ (i : Inst) (there : slice_get x.call.block.insts f.next ≡ Some i) where
    abbrev os : List SelOp
    os = ops m plan contents p input s f fs h hs bytes x i there

    -- some operations that each give a word, and then a last one
    pub comes_to : (front : List SelOp) (last : SelOp) (after : List (Option ℕ)) → front ++ last ∷ [] ≡ os → passed plan h.own flat h.registers front ≡ Ok after →
        let h2 : SelFrame = moved h after (length front) in
        iter (sel_step (module_selected m) plan contents input) (length os) spot ≡ sel_turned (later after (length front)) (op_turn (module_selected m) plan flat input (later after (length front)) h2 hs last)
    comes_to front last after are runs =
        let stands = stands_here m plan contents p input s f fs h hs bytes x i there in
        let more : length os ≡ length front + 1 = ap length (sym are) ∙ length-append front (last ∷ []) in
        let whole : StandsAt (module_selected m) h (front ++ last ∷ stands.0) = subst (StandsAt (module_selected m) h) (ap (λ l. l ++ stands.0) (sym are) ∙ append_assoc front (last ∷ []) stands.0) stands.1 in
        ap (λ n. iter (sel_step (module_selected m) plan contents input) n spot) more ∙ straight_then (module_selected m) plan contents input hs bytes s.printed s.taken front h last stands.0 after whole runs

    -- a last one that stops the run as the source does
    pub stops_last : (front : List SelOp) (last : SelOp) (after : List (Option ℕ)) (stop : Stop) → front ++ last ∷ [] ≡ os → passed plan h.own flat h.registers front ≡ Ok after
        → op_turn (module_selected m) plan flat input (later after (length front)) (moved h after (length front)) hs last ≡ Err stop → Meets m g input (length os) spot (turned s (Err stop))
    stops_last front last after stop are runs turns =
        stops m plan contents p input s f fs h hs bytes x i there stop (length os) (later after (length front)) (comes_to front last after are runs ∙ ap (sel_turned (later after (length front))) turns) refl refl

    -- a last one after which the variables hold the values of locals, with an exchange
    pub lands_turn : (front : List SelOp) (last : SelOp) (after registers : List (Option ℕ)) (locals : List Local) (exchange : Exchange) → alloca_bytes m.types i.op ≡ 0 → front ++ last ∷ [] ≡ os
        → passed plan h.own flat h.registers front ≡ Ok after → length registers ≡ length h.registers
        → let h2 : SelFrame = moved h after (length front) in
        op_turn (module_selected m) plan flat input (later after (length front)) h2 hs last ≡ Ok (record { frames = record h2 { next = h2.next + 1; registers = registers } ∷ hs; bytes = bytes; exchange = exchange })
        → Holds (length s.objects) g.taken x.at (named_locals V) locals registers
        → Meets m g input (length os) spot (turned s (Ok (record { frames = record f { next = f.next + 1; locals = locals } ∷ fs; objects = s.objects; exchange = exchange })))
    lands_turn front last after registers locals exchange none are runs count turns holds =
        let more : length os ≡ length front + 1 = ap length (sym are) ∙ length-append front (last ∷ []) in
        let next : ℕ = h.next + length front + 1 in
        let changed = same_changed g s.objects s.objects x.at (record { count = refl; before = λ i y l. (y, (l, refl)) }) in
        inr (inl (record {
          frames = record h { next = next; registers = registers } ∷ hs;
          bytes = bytes;
          is = comes_to front last after are runs ∙ ap (sel_turned (later after (length front))) turns;
          beside = record {
            at = x.at;
            calls = (
              call_past m plan contents p input s f fs h hs bytes x i there s.objects x.at 0 0 changed (λ q e low high. absurd (omega arith)) locals f.objects registers next (omega (arith, more)) none count holds,
              top_past m plan contents p input s f fs h hs bytes x i there registers next,
              x.waits,
              x.callers,
            );
            tied = x.tied;
          };
        }))

    -- a last one that gives a result, with an exchange
    pub lands_result : (front : List SelOp) (last : SelOp) (after : List (Option ℕ)) (v : Value) (exchange : Exchange) → alloca_bytes m.types i.op ≡ 0 → front ++ last ∷ [] ≡ os
        → passed plan h.own flat h.registers front ≡ Ok after → IsReady x.at V x.call.holds.values after → length after ≡ length h.registers
        → let h2 : SelFrame = moved h after (length front) in
        op_turn (module_selected m) plan flat input (later after (length front)) h2 hs last
        ≡ Ok (record { frames = record h2 { next = h2.next + 1; registers = with_result (register_into V i.result) (word_of x.at v) after } ∷ hs; bytes = bytes; exchange = exchange })
        → IsKnown (length s.objects) g.taken v
        → Meets m g input (length os) spot (turned s (Ok (record { frames = record f { next = f.next + 1; locals = with_local i.result v f.locals } ∷ fs; objects = s.objects; exchange = exchange })))
    lands_result front last after v exchange none are runs prepared count turns known =
        let rules = rules_at m plan contents p f.function x.call.fn x.call.in_module f.block x.call.block x.call.in_function f.next i there in
        lands_turn front last after (with_result (register_into V i.result) (word_of x.at v) after) (with_local i.result v f.locals) exchange none are runs
        (count_result (register_into V i.result) (word_of x.at v) after ∙ count) turns
        (holds_result (length s.objects) g.taken x.at V f.locals after i.result v (holds_after after prepared) (into_variable m plan contents p input s f fs h hs bytes x i rules.into) prepared.room known)
