-- Past an instruction: the innermost calls stand beside each other again, and memory is tied as the instruction left it.
use Rattle.std.proofs.Common.{◌≡◌, ◌≢◌, ℕ, ◌+◌, ◌<◌, List, [], ◌∷◌, ◌++◌, map, length, take, Option, Some, Ok, slice_get, refl, ap, sym, ◌∙◌, subst, inl, inr, arith}
use Rattle.std.proofs.lemmas.List.{append_assoc, length-append}
use Rattle.behavior.specs.System.{iter}
use Rattle.ir_core.specs.declared.instruction.Inst.{Inst}
use Rattle.ir_core.specs.declared.module.Module.{Module}
use Rattle.ir_core.specs.Counts.{alloca_bytes}
use Rattle.ir_core.specs.Memory.{Memory}
use Rattle.ir_core.specs.State.{Local, Frame, State, Nothing, turned}
use Rattle.ir_core.specs.Step.{past}
use Rattle.ir_core.specs.Valid.{named_locals}
use Rattle.low_core.specs.declared.sel.SelOp.{SelOp}
use Rattle.low_core.specs.Flat.{Span, Bytes, Flat}
use Rattle.low_core.specs.Plan.{Plan, Content, global_spans}
use Rattle.low_core.specs.Contents.{Addresses}
use Rattle.low_core.specs.Bridge.{Setting, CallMemory, Bridges, flat_in}
use Rattle.low_core.specs.SelState.{SelFrame, sel_turned}
use Rattle.low_core.specs.SelStep.{op_turn, past_op, sel_step}
use Rattle.flat_memory.specs.Accesses.{AreFree, SameObjects}
use Rattle.isel_rows.specs.Functions.{allocas_in}
use Rattle.isel_rows.specs.Selected.{module_selected}
use Rattle.isel.proofs.Beside.{allocas_before, Holds, IsCallBeside, IsOnTop, AreBeside, memories, setting_of, Meets}
use Rattle.isel.proofs.Places.{ops_at}
use Rattle.isel.proofs.Premises.{Premises}
use Rattle.isel.proofs.Straight.{going, moved, passed, StandsAt, straight_then}
use Rattle.isel.proofs.Operands.{IsReady}
use Rattle.isel.proofs.Kept.{Changed, same_changed, holds_kept, none_off, calls_kept}
use Rattle.isel.proofs.Here.{IsHere, vs, memory, now, stands_here, ops}

-- the own memories of calls
pub owns_same : (m : Module) (g : Setting) (objects : Memory) (at : Addresses) (fs : List Frame) (hs : List SelFrame) → AreBeside m g objects at fs hs → map (λ (c : CallMemory). c.own) (memories fs hs) ≡ map (λ (h : SelFrame). h.own) hs
owns_same m g objects at [] [] are = refl
owns_same m g objects at [] (h ∷ hs) are = absurd are
owns_same m g objects at (f ∷ fs) [] are = absurd are
owns_same m g objects at (f ∷ fs) (h ∷ hs) are = ap (λ ss. h.own ∷ ss) (owns_same m g objects at fs hs are.3)

module _ (m : Module) (plan : Plan) (contents : List Content) (p : Premises m plan contents) (input : List ℕ) (s : State) (f : Frame) (fs : List Frame) (h : SelFrame) (hs : List SelFrame) (bytes : Bytes)
    (x : IsHere m (setting_of m plan contents) s f fs h hs bytes) where
  abbrev g : Setting
  g = setting_of m plan contents

  -- memory as the step sees it is that of the tie
  pub flat_same : flat_in g (memories (f ∷ fs) (h ∷ hs)) bytes ≡ memory m plan contents p input s f fs h hs bytes x
  flat_same = ap (λ (ss : List Span). let flat : Flat = record { spans = h.own ∷ (ss ++ global_spans plan.globals contents); bytes = bytes } in flat) (owns_same m g s.objects x.at fs hs x.callers)

  module _ (i : Inst) (there : slice_get x.call.block.insts f.next ≡ Some i) where
    abbrev os : List SelOp
    os = ops m plan contents p input s f fs h hs bytes x i there

    -- the innermost call past an instruction that is no alloca
    pub call_past : (objects : Memory) (at : Addresses) (start size : ℕ) → Changed g s.objects objects x.at at start size → ((q e : ℕ) → q < h.own.size → e < size → h.own.start + q ≢ start + e)
        → (locals : List Local) (own_objects : List ℕ) (registers : List (Option ℕ)) (next : ℕ) → next ≡ h.next + length os → alloca_bytes m.types i.op ≡ 0 → length registers ≡ length h.registers
        → Holds (length objects) g.taken at (named_locals (vs m plan contents p input s f fs h hs bytes x)) locals registers
        → IsCallBeside m g objects at (record f { next = f.next + 1; locals = locals; objects = own_objects }) (record h { next = next; registers = registers })
    call_past objects at start size changed off locals own_objects registers next behind none count holds =
        let o = ops_at m (vs m plan contents p input s f fs h hs bytes x) (allocas_before m.types x.call.fn.blocks f.block) x.call.block.insts f.next i there in
        let allocas = o.allocas in
        let before : ℕ = allocas_before m.types x.call.fn.blocks f.block in
        let used : ℕ = before + allocas_in m.types (take f.next x.call.block.insts) in
        let further : before + allocas_in m.types (take (f.next + 1) x.call.block.insts) ≡ used = omega (arith, none, allocas) in
        record {
          fn = x.call.fn;
          block = x.call.block;
          in_module = x.call.in_module;
          in_function = x.call.in_function;
          function = x.call.function;
          same_block = x.call.same_block;
          next = behind ∙ ap (λ n. n + length os) x.call.next ∙ sym o.next;
          registers = count ∙ x.call.registers;
          holds = holds;
          size = x.call.size;
          writable = x.call.writable;
          left = x.call.left;
          whole = ap (λ n. n + x.call.left) further ∙ x.call.whole;
          free = subst (λ n. AreFree g objects at (h.own.start + n) x.call.left) (sym further)
              (changed.free (h.own.start + used) x.call.left x.call.free (λ d e low high same. let whole = x.call.whole in off (used + d) e (omega arith) high (omega (arith, same))));
        }

    -- it still stands on top of its callers
    pub top_past : (registers : List (Option ℕ)) (next : ℕ) → IsOnTop plan (record h { next = next; registers = registers }) hs
    top_past registers next = record { frame = x.on_top.frame; planned = x.on_top.planned; base = x.on_top.base; start = x.on_top.start; inside = x.on_top.inside; room = x.on_top.room }

    -- a last operation changes cells of objects
    pub lands_bytes : (front : List SelOp) (last : SelOp) (after : List (Option ℕ)) (objects : Memory) (bytes2 : Bytes) → alloca_bytes m.types i.op ≡ 0 → front ++ last ∷ [] ≡ os
        → passed plan h.own (memory m plan contents p input s f fs h hs bytes x) h.registers front ≡ Ok after → IsReady x.at (vs m plan contents p input s f fs h hs bytes x) x.call.holds.values after → length after ≡ length h.registers
        → let h2 : SelFrame = moved h after (length front) in
        op_turn (module_selected m) plan (memory m plan contents p input s f fs h hs bytes x) input (going (h2 ∷ hs) bytes s.printed s.taken) h2 hs last ≡ Ok (record { frames = past_op h2 ∷ hs; bytes = bytes2; exchange = Nothing })
        → Bridges g (memories (f ∷ fs) (h ∷ hs)) objects x.at bytes2 → SameObjects s.objects objects
        → Meets m g input (length os) (now m plan contents p input s f fs h hs bytes x) (turned s (Ok (record { frames = past f ∷ fs; objects = objects; exchange = Nothing })))
    lands_bytes front last after objects bytes2 none are runs prepared count turns tied same =
        let stands = stands_here m plan contents p input s f fs h hs bytes x i there in
        let more : length os ≡ length front + 1 = ap length (sym are) ∙ length-append front (last ∷ []) in
        let whole : StandsAt (module_selected m) h (front ++ last ∷ stands.0) = subst (StandsAt (module_selected m) h) (ap (λ l. l ++ stands.0) (sym are) ∙ append_assoc front (last ∷ []) stands.0) stands.1 in
        let h2 : SelFrame = moved h after (length front) in
        let run = straight_then (module_selected m) plan contents input hs bytes s.printed s.taken front h last stands.0 after whole runs in
        let changed = same_changed g s.objects objects x.at same in
        let holds : Holds (length s.objects) g.taken x.at (named_locals (vs m plan contents p input s f fs h hs bytes x)) f.locals after =
        record { values = x.call.holds.values; count = x.call.holds.count; stand = x.call.holds.stand; words = prepared.have; known = x.call.holds.known } in
        inr (inl (record {
          frames = past_op h2 ∷ hs;
          bytes = bytes2;
          is = ap (λ n. iter (sel_step (module_selected m) plan contents input) n (now m plan contents p input s f fs h hs bytes x)) more ∙ run ∙ ap (sel_turned (going (h2 ∷ hs) bytes s.printed s.taken)) turns;
          beside = record {
            at = x.at;
            calls = (
              call_past objects x.at 0 0 changed (λ q e low high. absurd (omega arith)) f.locals f.objects after (h.next + length front + 1) (omega (arith, more)) none count
                  (holds_kept g s.objects objects x.at x.at 0 0 changed (named_locals (vs m plan contents p input s f fs h hs bytes x)) f.locals after holds),
              top_past after (h.next + length front + 1),
              x.waits,
              calls_kept m g s.objects objects x.at x.at 0 0 changed fs hs (none_off 0 hs) x.callers,
            );
            tied = tied;
          };
        }))
