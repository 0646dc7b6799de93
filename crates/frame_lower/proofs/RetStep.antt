-- A return to a function that waits.
use Rattle.std.proofs.Common.{◌≡◌, ℕ, suc, ◌+◌, ◌*◌, ◌^◌, ◌<◌, ◌≤◌, List, ◌∷◌, ◌++◌, length, drop, Some, refl, sym, ◌∙◌, ap, subst, inl, inr, arith}
use Rattle.std.specs.Prelude.{slice_get}
use Rattle.behavior.specs.System.{System}
use Rattle.behavior.specs.Simulation.{Comes}
use Rattle.behavior.proofs.Stretch.{comes_one, comes_join, comes_wider, met_by}
use Rattle.x86_core.specs.declared.flags.Flags.{Flags}
use Rattle.x86_core.specs.declared.image.Segment.{Segment}
use Rattle.x86_core.specs.declared.instr.Instr.{Instr}
use Rattle.x86_core.specs.Data.{stack_start, stack_end}
use Rattle.x86_core.specs.Step.{State}
use Rattle.x86_rows.specs.Saving.{IsStack}
use Rattle.x86_rows.specs.Straight.{Through, exec}
use Rattle.low_core.specs.declared.sel.SelBlock.{SelBlock}
use Rattle.low_core.specs.declared.sel.Sel.{Sel}
use Rattle.low_core.specs.Flat.{Span, Bytes}
use Rattle.low_core.specs.Plan.{Plan, Content}
use Rattle.low_core.specs.SelState.{SelFrame, SelState, sel_turned}
use Rattle.low_core.specs.SelStep.{goes, with_result}
use Rattle.obj_core.specs.declared.object.Object.{Object}
use Rattle.obj_core.specs.declared.object.Place.{Place}
use Rattle.obj_core.specs.SymbolicMachine.{symbolic_step}
use Rattle.obj_rows.specs.Marked.{all_unlinked, Stands}
use Rattle.obj_rows.specs.Standing.{Outside, standing}
use Rattle.obj_rows.proofs.Rows.{instrs_of-unlinked, length-unlinked, stands_first, stands_behind}
use Rattle.obj_rows.proofs.Runs.{row_comes}
use Rattle.frame_rows.specs.declared.spot.Spot.{Spot}
use Rattle.frame_rows.specs.declared.spot.Spot.TheVariants.{Own, Frame}
use Rattle.frame_rows.specs.Steps.{Leads}
use Rattle.frame_rows.specs.Ties.{IsHome, Keeps, Room, Tied}
use Rattle.frame_rows.specs.Words.{Words, core_of}
use Rattle.frame_rows.proofs.Registers.{Same}
use Rattle.frame_lower.specs.Calls.{take_row}
use Rattle.frame_lower.specs.Chain.{Stored, function_in, code_in, rest_in, spans_of, Entry, Chain}
use Rattle.frame_lower.specs.Rows.{Making, leave_row}
use Rattle.frame_lower.specs.Suits.{Suits}
use Rattle.frame_lower.proofs.Chains.{chain_same, chain_moved, chain_high, reserved_low, moved_to}
use Rattle.frame_lower.proofs.Counts.{take_count}
use Rattle.frame_lower.proofs.Leaving.{Leaves, leaves}
use Rattle.frame_lower.proofs.OwnMemory.{contains_gone}
use Rattle.frame_lower.proofs.PlainStep.{stack_same, Turned}
use Rattle.frame_lower.proofs.Returning.{home_rsp, return_comes}
use Rattle.frame_lower.specs.Meaning.{most_steps}
use Rattle.frame_lower.proofs.Stage.{state_of, flat_in, globals, last, Whole, Stage, A, B}
use Rattle.frame_lower.proofs.Taking.{LiveBeside, takes}

-- the words of a frame in the stack
pub room_in : (base words : ℕ) (ss : List Segment) → IsStack stack_start stack_end ss → stack_start ≤ base → base + 8 * words ≤ stack_end → Room base words ss
room_in base words ss stack low high = record {
  disjoint = stack.disjoint;
  below = omega (arith, high);
  readable = λ k lt. stack.readable (base + 8 * k) 8 (omega (arith, low)) (omega (arith, high, lt)) (omega arith);
  writable = λ k lt. stack.writable (base + 8 * k) 8 (omega (arith, low)) (omega (arith, high, lt)) (omega arith);
}

module _ (o : Object) (sel : Sel) (plan : Plan) (contents : List Content) (by : ℕ → Making) (live : ℕ → ℕ → ℕ → ℕ → Type 0) (suits : Suits o sel plan contents by live) (input : List ℕ) where
  abbrev Tells : SelFrame → ℕ → List SelFrame → (ℕ → Type 0) → Bytes → Words → List Segment → Type 0
  Tells = Whole o sel plan contents by live suits input

  abbrev Stage_ : SelState → State Place → Type 0
  Stage_ = Stage o sel plan contents by live suits input

  abbrev A_ : System SelState
  A_ = A o sel plan contents by live suits input

  abbrev B_ : System (State Place)
  B_ = B o sel plan contents by live suits input

  abbrev globals_ : List Span
  globals_ = globals o sel plan contents by live suits input

  abbrev last_ : Place
  last_ = last o sel plan contents by live suits input

  abbrev Waits : List Segment → SelFrame → ℕ → List SelFrame → Type 0
  Waits = Chain o sel by globals_ live last_

  abbrev step : State Place → State Place
  step = symbolic_step o

  module _ (f z : SelFrame) (zs : List SelFrame) (bytes : Bytes) (printed : List ℕ) (taken depth : ℕ) (w : Words) (fl : Flags) (ss : List Segment) (off : ℕ) (b : SelBlock)
      (is_function : slice_get sel.functions f.function ≡ Some (function_in sel f.function)) (is_block : slice_get (function_in sel f.function).blocks f.block ≡ Some b)
      (stands : Stands (code_in sel by f.function) off (rest_in sel by f.function off f.block f.next b)) (whole : Tells f depth (z ∷ zs) (live f.function f.block f.next) bytes w ss)
      (first : List Instr) (w1 : Words) (runs : exec first (core_of w fl ss) ≡ Through (core_of w1 fl ss)) (few : length first ≤ 1) (same : Same w w1)
      (closes : Stands (code_in sel by f.function) off (all_unlinked (first ++ leave_row (by f.function))))
      (n : ℕ) (result : (r : ℕ) → f.into ≡ Some r → (w1.rax ≡ n) × (n < 2 ^ 64)) where
    abbrev s : SelState
    s = state_of f (z ∷ zs) bytes printed taken

    abbrev out : Outside
    out = record { left = drop taken input; printed = printed; taken = taken }

    abbrev x : Making
    x = by f.function

    abbrev y : Making
    y = by z.function

    -- where the registers were pushed
    abbrev pu : ℕ
    pu = f.base + x.room

    high : pu + 48 ≤ stack_end
    high = chain_high o sel by globals_ live last_ (z ∷ zs) ss f depth whole.chain

    low : stack_start ≤ f.base
    low = let r = whole.room in omega (arith, r)

    entry : Entry o sel by globals_ live last_ ss f (suc depth) z
    entry = whole.chain.0

    chain : Waits ss z (suc depth) zs
    chain = whole.chain.2

    few_calls : w1.r15 < 2 ^ 32
    few_calls = let a = same.r15 in let c = whole.counter in let d = whole.active in omega (arith, a, c, d)

    left : Leaves x.order x.room w1 fl ss f.base
    left = let five = suits.five f.function in let h = high in let l = low in
        leaves stack_start stack_end x.order x.room w1 fl ss f.base whole.stack (same.rsp ∙ whole.tied.at_base) few_calls (omega (arith, l)) (omega (arith, h, five))

    abbrev w5 : Words
    w5 = record left.after { rsp = pu + 48 }

    at_base : w5.rsp ≡ z.base
    at_base = sym entry.base

    -- a home that waited has its word again
    home_back : (h : Spot) (m : ℕ) → IsHome y.words h → m < 2 ^ 64 → Stored ss x.order pu (pu + 48) h m → Keeps w5 ss h m
    home_back (Own r) m is small stored = home_rsp left.after (pu + 48) r is ∙ left.back r m is small (suits.pushed f.function r is) stored
    home_back (Frame k) m is small stored = stored

    high2 : z.base + y.room + 48 ≤ stack_end
    high2 = chain_high o sel by globals_ live last_ zs ss z (suc depth) chain

    low2 : stack_start ≤ z.base
    low2 = let r = entry.room in omega (arith, r)

    wide : 8 * y.words ≤ y.room
    wide = let e = suits.rooms z.function _ entry.is_function in omega (arith, e)

    tied5 : Tied y.homes z.base y.words (LiveBeside y.homes z.base y.words (live z.function z.block z.next) f.into) z.registers (flat_in o sel plan contents by live suits input (z ∷ zs) bytes) w5 ss
    tied5 =
        let h = high2 in
        let l = low2 in
        let wd = wide in
        record {
          room = room_in z.base y.words ss whole.stack l (omega (arith, h, wd));
          at_base = at_base;
          spots = suits.homes z.function;
          kept = λ i m alive told. home_back (y.homes i) m (suits.homes z.function i) (entry.small i m told) (entry.stored i m alive.0 alive.1 told);
          small = entry.small;
          memory = contains_gone f.base x.words z.base y.words f.own (spans_of o sel by globals_ live last_ (z ∷ zs)) bytes ss (λ a i lo hi. (whole.chain.1 a i).0 (omega (arith, l, lo)) hi) whole.tied.memory;
        }

    taking : Leads y.homes z.base y.words (take_row y.homes f.into) w5 left.flags ss (live z.function z.block z.next) (with_result f.into n z.registers) (flat_in o sel plan contents by live suits input (z ∷ zs) bytes)
    taking = takes y.homes z.base y.words (live z.function z.block z.next) f.into z.registers (flat_in o sel plan contents by live suits input (z ∷ zs) bytes) w5 left.flags ss n (λ i r e l ne. entry.apart i r e l ne)
        (λ r e. (left.result ∙ (result r e).0, (result r e).1)) tied5

    abbrev z2 : SelFrame
    z2 = moved_to o sel by globals_ live last_ z z.block z.next (with_result f.into n z.registers)

    whole2 : Tells z2 (suc depth) zs (live z.function z.block z.next) bytes taking.after taking.segments
    whole2 =
        let wd = wide in
        let d = left.count in
        let c = whole.counter in
        let e = same.r15 in
        let a = whole.active in
        record {
          tied = taking.tied;
          counter = taking.depth ∙ omega (arith, d, c, e);
          stack = stack_same stack_start stack_end ss taking.segments taking.shape whole.stack;
          room = entry.room;
          active = omega (arith, a);
          own = entry.own;
          off = whole.chain.1;
          chain = chain_moved o sel by globals_ live last_ zs taking.segments z (suc depth) z.block z.next (with_result f.into n z.registers)
              (chain_same o sel by globals_ live last_ suits.five suits.homes zs ss taking.segments z (suc depth)
              (λ q i. taking.others q (inr (let lo = reserved_low o sel by globals_ live last_ zs ss z (suc depth) q chain i in omega (arith, lo, wd))) (λ j. (whole.chain.1 q j).1 i)) chain);
        }

    pub returned : Turned o sel plan contents by live suits input f (z ∷ zs) bytes printed taken depth w fl ss off b is_function is_block stands whole (goes s (z2 ∷ zs))
    returned =
        let h = high in
        let l = low in
        let row = take_row y.homes f.into in
        let marked = all_unlinked row in
        let code = code_in sel by z.function in
        let rest = rest_in sel by z.function entry.after z.block z.next entry.here in
        let t0 = standing out (Place.Code f.function off) (core_of w fl ss) in
        let t1 = standing out entry.back (core_of w5 left.flags ss) in
        let t2 = standing out (Place.Code z.function entry.offset) (core_of w5 left.flags ss) in
        let t3 = standing out (Place.Code z.function entry.after) (core_of taking.after taking.flags taking.segments) in
        let m = length marked in
        let some = take_count y.homes f.into in
        let long = length-unlinked row in
        let here = entry.after_is in
        inr (met_by A_ B_ Stage_ (λ _. 0) most_steps s (sel_turned s (goes s (z2 ∷ zs))) t0 t3
        (comes_wider step (1 + (1 + m)) (20 + (1 + m)) 1 most_steps t0 t3 (omega arith) (omega (arith, some, long))
        (comes_join step 1 20 (1 + m) (1 + m) t0 t1 t3
        (return_comes o f.function (code_in sel by f.function) (suits.codes f.function _ is_function) out x (suits.five f.function) first off f.base w w1 fl ss entry.back closes few runs whole.stack (same.rsp ∙ whole.tied.at_base) l
        h few_calls entry.way left)
        (comes_join step 1 1 m m t1 t2 t3 (comes_one step t1 t2 (entry.returns out (core_of w5 left.flags ss)))
        (subst (λ p. Comes step m m t2 (standing out (Place.Code z.function p) (core_of taking.after taking.flags taking.segments))) (sym here)
        (row_comes o z.function code (suits.codes z.function _ entry.is_function) out marked entry.offset (core_of w5 left.flags ss) (core_of taking.after taking.flags taking.segments)
        (stands_first code entry.offset marked rest entry.stands) (ap (λ r. exec r (core_of w5 left.flags ss)) (instrs_of-unlinked row) ∙ taking.runs))))))
        (inl (record {
          frame = z2;
          callers = zs;
          bytes = bytes;
          printed = printed;
          taken = taken;
          depth = suc depth;
          words = taking.after;
          flags = taking.flags;
          segments = taking.segments;
          offset = entry.after;
          here = entry.here;
          is_function = entry.is_function;
          is_block = entry.is_block;
          stands = subst (λ p. Stands code p rest) (sym here) (stands_behind code entry.offset marked rest entry.stands);
          whole = whole2;
          source = refl;
          target = refl;
        })))
