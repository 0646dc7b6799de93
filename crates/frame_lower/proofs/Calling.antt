-- A call, from the start of the function that is called.
use Rattle.std.proofs.Common.{◌≡◌, ℕ, zero, suc, ◌+◌, ◌-◌, ◌*◌, ◌<◌, ◌≤◌, true, false, nat_le, if◌then◌else◌, List, ◌∷◌, ◌++◌, length, drop, Option, Some, Ok, Err, refl, sym, ◌∙◌, subst, inl, inr, ◌⊎◌, arith}
use Rattle.std.specs.Prelude.{slice_get, get_or}
use Rattle.std.proofs.lemmas.Bool.{lt-leb, cases_lt}
use Rattle.std.proofs.lemmas.Option.{slice_get-get_or}
use Rattle.behavior.specs.Simulation.{Comes}
use Rattle.behavior.proofs.Stretch.{comes_join, comes_wider, met_by}
use Rattle.ir_core.specs.declared.TheConstants.{MAX_CALLS}
use Rattle.ir_core.specs.State.{Nothing}
use Rattle.ir_core.specs.Stops.{Answer, Depth}
use Rattle.rd_num.specs.Number.{le_bytes}
use Rattle.x86_core.specs.declared.flags.Flags.{Flags}
use Rattle.x86_core.specs.declared.image.Segment.{Segment}
use Rattle.x86_core.specs.Data.{stack_start, stack_end}
use Rattle.x86_core.specs.Step.{State}
use Rattle.x86_rows.specs.Addresses.{byte_at, SameShape, Written}
use Rattle.x86_rows.specs.Saving.{IsStack}
use Rattle.x86_rows.specs.Straight.{Core}
use Rattle.x86_rows.proofs.Shapes.{shape_trans}
use Rattle.low_core.specs.declared.sel.SelBlock.{SelBlock}
use Rattle.low_core.specs.declared.sel.SelFun.{SelFun}
use Rattle.low_core.specs.declared.sel.SelOp.{SelOp}
use Rattle.low_core.specs.declared.sel.Sel.{Sel}
use Rattle.low_core.specs.Flat.{Span, Bytes, is_inside, forgotten}
use Rattle.low_core.specs.Plan.{Plan, Content}
use Rattle.low_core.specs.SelParts.{assigns_of}
use Rattle.low_core.specs.SelState.{SelFrame, SelState, SelTurn, sel_turned, first_sel_frame}
use Rattle.low_core.specs.SelStep as sel_step
use Rattle.obj_core.specs.declared.object.Object.{Object}
use Rattle.obj_core.specs.declared.object.Place.{Place}
use Rattle.obj_core.specs.Slots.{slot_start}
use Rattle.obj_core.specs.SymbolicMachine.{symbolic_step}
use Rattle.obj_rows.specs.Marked.{all_unlinked, row_size, Stands}
use Rattle.obj_rows.specs.Standing.{Outside, standing}
use Rattle.frame_rows.specs.declared.spot.Spot.{Spot}
use Rattle.frame_rows.specs.Steps.{IsAllocated}
use Rattle.frame_rows.specs.Ties.{IsHome, Keeps, Tied}
use Rattle.frame_rows.specs.Words.{Words, core_of}
use Rattle.frame_rows.proofs.Registers.{Same}
use Rattle.frame_lower.specs.Calls.{argument_registers, take_row}
use Rattle.frame_lower.specs.Chain.{Stored, IsWay, HasRoom, function_in, code_in, rest_in, starts_in, pushes_of, spans_of, IsOff, Chain}
use Rattle.frame_lower.specs.Meaning.{most_steps}
use Rattle.frame_lower.specs.Rows.{Making}
use Rattle.frame_lower.specs.Suits.{Suits}
use Rattle.frame_lower.proofs.Arguments.{AreSmall, AreHeld, StandAt, six_held, stand_same}
use Rattle.frame_lower.proofs.Bodies.{block_stands}
use Rattle.frame_lower.proofs.Chains.{chain_same, chain_moved, chain_high, reserved_low, moved_to}
use Rattle.frame_lower.proofs.Entered.{planned}
use Rattle.frame_lower.proofs.Facts.{function_shaped, frame_few}
use Rattle.frame_lower.proofs.Front.{Begins, begins}
use Rattle.frame_lower.proofs.OwnMemory.{contains_made}
use Rattle.frame_lower.proofs.PlainStep.{stack_same, Turned}
use Rattle.frame_lower.proofs.TooDeep.{too_deep}
use Rattle.frame_lower.proofs.Waiting.{way_of, stored_of, beside_new}
use Rattle.frame_lower.proofs.Stage.{state_of, flat_in, globals, last, Whole, Stage, A, B}

module _ (o : Object) (sel : Sel) (plan : Plan) (contents : List Content) (by : ℕ → Making) (live : ℕ → ℕ → ℕ → ℕ → Type 0) (suits : Suits o sel plan contents by live) (input : List ℕ) where
  abbrev Tells : SelFrame → ℕ → List SelFrame → (ℕ → Type 0) → Bytes → Words → List Segment → Type 0
  Tells = Whole o sel plan contents by live suits input

  abbrev globals_ : List Span
  globals_ = globals o sel plan contents by live suits input

  abbrev last_ : Place
  last_ = last o sel plan contents by live suits input

  abbrev step : State Place → State Place
  step = symbolic_step o

  module _ (f : SelFrame) (callers : List SelFrame) (bytes : Bytes) (printed : List ℕ) (taken depth : ℕ) (w : Words) (fl : Flags) (ss : List Segment) (off : ℕ) (b : SelBlock)
      (is_function : slice_get sel.functions f.function ≡ Some (function_in sel f.function)) (is_block : slice_get (function_in sel f.function).blocks f.block ≡ Some b)
      (stands : Stands (code_in sel by f.function) off (rest_in sel by f.function off f.block f.next b)) (whole : Tells f depth callers (live f.function f.block f.next) bytes w ss)
      (op : SelOp) (there : slice_get b.ops f.next ≡ Some op) (into : Option ℕ) (is_into : assigns_of op ≡ into)
      (g : ℕ) (is_callee : slice_get sel.functions g ≡ Some (function_in sel g)) (ns : List ℕ) (long : length ns ≡ length (function_in sel g).params) (small : AreSmall ns) (fit : length (drop 6 ns) ≤ (by f.function).words)
      (w1 : Words) (fl1 : Flags) (ss1 : List Segment) (same : Same w w1)
      (tied1 : Tied (by f.function).homes f.base (by f.function).words (live f.function f.block f.next) f.registers (flat_in o sel plan contents by live suits input (f ∷ callers) bytes) w1 ss1)
      (held : AreHeld w1 argument_registers ns) (stand : StandAt ss1 f.base (drop 6 ns)) (shape1 : SameShape ss ss1) (outside1 : (p : ℕ) → (p < f.base) ⊎ (f.base + 8 * length (drop 6 ns) ≤ p) → byte_at ss1 p ≡ byte_at ss p)
      (k : ℕ) (is_slot : k < length o.slots) (pushed : Written ss1 (f.base - 8) (le_bytes 8 (slot_start o k + 5)))
      (comes : Comes step 1 200 (standing (record { left = drop taken input; printed = printed; taken = taken }) (Place.Code f.function off) (core_of w fl ss))
      (standing (record { left = drop taken input; printed = printed; taken = taken }) (Place.Code g 0) (core_of (record w1 { rsp = f.base - 8 }) fl1 pushed.segments)))
      (offset : ℕ) (returns : (out : Outside) (core : Core) → step (standing out (Place.Slot k 5) core) ≡ standing out (Place.Code f.function offset) core)
      (stands2 : Stands (code_in sel by f.function) offset (all_unlinked (take_row (by f.function).homes into) ++ rest_in sel by f.function (offset + row_size (all_unlinked (take_row (by f.function).homes into))) f.block
      (f.next + 1) b)) where
    abbrev s : SelState
    s = state_of f callers bytes printed taken

    abbrev out : Outside
    out = record { left = drop taken input; printed = printed; taken = taken }

    abbrev t0 : State Place
    t0 = standing out (Place.Code f.function off) (core_of w fl ss)

    abbrev Turned_ : Answer SelTurn → Type 0
    Turned_ = Turned o sel plan contents by live suits input f callers bytes printed taken depth w fl ss off b is_function is_block stands whole

    abbrev x : Making
    x = by f.function

    abbrev y : Making
    y = by g

    abbrev callee : SelFun
    callee = function_in sel g

    -- the frame that begins
    abbrev pub new : SelFrame
    new = first_sel_frame g callee (planned o sel plan contents by live suits g) f.base ns into

    abbrev pub turn : Answer SelTurn
    turn = sel_step.begins s f callers new

    abbrev w2 : Words
    w2 = record w1 { rsp = f.base - 8 }

    abbrev ss2 : List Segment
    ss2 = pushed.segments

    abbrev t1 : State Place
    t1 = standing out (Place.Code g 0) (core_of w2 fl1 ss2)

    first_block : (c : SelBlock) × (slice_get callee.blocks 0 ≡ Some c)
    first_block =
        let some = (function_shaped o sel plan contents by live suits g callee is_callee).some_block in
        (get_or callee.blocks 0 b, slice_get-get_or callee.blocks 0 b some)

    -- one call more
    module _ (d : ℕ) (deep : depth ≡ suc d) where
      abbrev lower : ℕ
      lower = new.base

      abbrev z : SelFrame
      z = moved_to o sel by globals_ live last_ f f.block (f.next + 1) f.registers

      abbrev bytes2 : Bytes
      bytes2 = forgotten bytes new.own.start new.own.size

      room2 : HasRoom lower d
      room2 = let r = whole.room in let m = frame_few o sel plan contents by live suits g callee is_callee in omega (arith, r, m, deep)

      base_is : f.base ≡ lower + y.room + 48
      base_is = let r = whole.room in let m = frame_few o sel plan contents by live suits g callee is_callee in omega (arith, r, m, deep)

      wide : 8 * x.words ≤ x.room
      wide = let e = suits.rooms f.function _ is_function in omega (arith, e)

      rooms : y.room ≡ 8 * y.words + callee.frame
      rooms = suits.rooms g callee is_callee

      stack2 : IsStack stack_start stack_end ss2
      stack2 = stack_same stack_start stack_end ss ss2 (shape_trans ss ss1 ss2 shape1 pushed.shape) whole.stack

      -- what lies below the frame, or above the words that were passed, is as it was
      same2 : (q : ℕ) → (q < lower) ⊎ (f.base + 8 * x.words ≤ q) → byte_at ss2 q ≡ byte_at ss q
      same2 q c =
          let e = base_is in
          elim c [
            | inl lt ↦ pushed.outside q (inl (omega (arith, lt, e))) ∙ outside1 q (inl (omega (arith, lt, e)))
            | inr le ↦ pushed.outside q (inr (omega (arith, le, e))) ∙ outside1 q (inr (omega (arith, le, fit)))
          ]

      -- the flat memory that there was lies elsewhere
      away : (q : ℕ) → is_inside q 1 (spans_of o sel by globals_ live last_ (f ∷ callers)) ≡ true → (q < stack_start) ⊎ (f.base + 8 * x.words ≤ q)
      away q i = elim (cases_lt q stack_start) [
        | inl lt ↦ inl lt
        | inr ge ↦ elim (cases_lt q (f.base + 8 * x.words)) [ inl lt ↦ absurd ((whole.off q i).0 ge lt) | inr le ↦ inr le ]
      ]

      beginning : Begins o sel plan contents by live suits g lower d out ns (live g 0 0) (flat_in o sel plan contents by live suits input (new ∷ z ∷ callers) bytes2) w2 fl1 ss2
      beginning =
          let e = base_is in
          let r = room2 in
          let h = chain_high o sel by globals_ live last_ callers ss f depth whole.chain in
          let wd = wide in
          let rs = rooms in
          let counter = whole.counter in
          let c15 = same.r15 in
          let active = whole.active in
          begins o sel plan contents by live suits g lower d out ns (live g 0 0) (flat_in o sel plan contents by live suits input (new ∷ z ∷ callers) bytes2) w2 fl1 ss2 first_block.0 is_callee first_block.1
          (c15 ∙ counter ∙ deep) (omega (arith, active, deep)) (omega (arith, e)) stack2 (omega (arith, r)) (omega (arith, e, h, wd, fit)) long small
          (six_held w1 w2 ns (record { rdi = refl; rsi = refl; rdx = refl; rcx = refl; r8 = refl; r9 = refl }) held)
          (subst (λ p. StandAt ss2 p (drop 6 ns)) e (stand_same ss1 ss2 (drop 6 ns) f.base (λ p from to. pushed.outside p (inr (omega (arith, from, e)))) stand))
          (λ ts shape outer.
          contains_made f.base x.words lower y.words (lower + 8 * y.words) callee.frame f.base (spans_of o sel by globals_ live last_ (f ∷ callers)) bytes ss ts (stack_same stack_start stack_end ss2 ts shape stack2)
          (shape_trans ss ss2 ts (shape_trans ss ss1 ss2 shape1 pushed.shape) shape)
          (omega (arith, r)) (omega arith) (omega (arith, e, rs)) (omega (arith, h)) (λ p i lo hi. (whole.off p i).0 lo (omega (arith, hi)))
          (λ p i. elim (away p i) [
            | inl lt ↦ outer p (inl (omega (arith, lt, r))) ∙ same2 p (inl (omega (arith, lt, r)))
            | inr le ↦ outer p (inr (omega (arith, le, e))) ∙ same2 p (inr le)
          ]) whole.tied.memory)

      abbrev ts : List Segment
      ts = beginning.segments

      -- from there on too
      same3 : (q : ℕ) → f.base + 8 * x.words ≤ q → byte_at ts q ≡ byte_at ss q
      same3 q le = let e = base_is in beginning.outside q (inr (omega (arith, le, e))) ∙ same2 q (inr le)

      landing : IsWay o ts (pushes_of o sel by globals_ live last_ new + 40) (Place.Slot k 5)
      landing =
          let e = base_is in
          way_of o k is_slot suits.few ss1 (f.base - 8) (pushes_of o sel by globals_ live last_ new + 40) pushed ts (omega (arith, e)) (λ q from. beginning.outside q (inr from))

      allocated : IsAllocated x.homes (live f.function f.block f.next) (live f.function f.block (f.next + 1)) op
      allocated = (suits.allotted f.function _ is_function).ops f.block f.next b op is_block there

      -- the words of the function that waits
      stored : (h : Spot) (n : ℕ) → IsHome x.words h → Keeps w1 ss1 h n → Stored ts y.order (pushes_of o sel by globals_ live last_ new) (pushes_of o sel by globals_ live last_ new + 48) h n
      stored =
          let e = base_is in
          stored_of x.words y.order (lower + y.room) (f.base - 8) w1 ss1 ts (tied1.at_base ∙ e) beginning.saved (λ q le. beginning.outside q (inr (omega (arith, le))) ∙ pushed.outside q (inr (omega (arith, le, e))))

      waits : Chain o sel by globals_ live last_ ts new d (z ∷ callers)
      waits =
          let e = base_is in
          let wd = wide in
          let r = whole.room in (
            record {
              back = Place.Slot k 5;
              way = landing;
              offset = offset;
              returns = returns;
              here = b;
              is_function = is_function;
              is_block = is_block;
              after = offset + row_size (all_unlinked (take_row x.homes into));
              after_is = refl;
              stands = stands2;
              base = omega (arith, e);
              own = whole.own;
              room = omega (arith, r, deep);
              small = whole.tied.small;
              apart = λ u v i l ne. allocated.apart u v (is_into ∙ i) l ne;
              stored = λ u n l ne i. stored (x.homes u) n (suits.homes f.function u) (tied1.kept u n (allocated.stays u l (λ i2. ne (sym is_into ∙ i2))) i);
            },
            whole.off,
            chain_moved o sel by globals_ live last_ callers ts f (suc d) f.block (f.next + 1) f.registers
                (chain_same o sel by globals_ live last_ suits.five suits.homes callers ss ts f (suc d)
                (λ q i. same3 q (let lo = reserved_low o sel by globals_ live last_ callers ss f depth q whole.chain i in omega (arith, lo, wd)))
                (subst (λ m. Chain o sel by globals_ live last_ ss f m callers) deep whole.chain)),
          )

      off2 : IsOff o sel by globals_ live last_ new (z ∷ callers)
      off2 =
          let r = room2 in
          let rs = rooms in
          beside_new o sel by globals_ live last_ new f callers f.block (f.next + 1) callee.frame f.registers refl (omega (arith, rs)) base_is (omega (arith, r))
          (λ q u. reserved_low o sel by globals_ live last_ (z ∷ callers) ts new d q waits u) whole.off

      whole2 : Tells new d (z ∷ callers) (live g 0 0) bytes2 beginning.words ts
      whole2 =
          let active = whole.active in
          record {
            tied = beginning.tied;
            counter = beginning.counter;
            stack = stack_same stack_start stack_end ss2 ts beginning.shape stack2;
            room = room2;
            active = omega (arith, active, deep);
            own = refl;
            off = off2;
            chain = waits;
          }

      pub begun : Turned_ turn
      begun =
          let active = whole.active in
          let few : nat_le MAX_CALLS (suc (length callers)) ≡ false = lt-leb MAX_CALLS (suc (length callers)) (omega (arith, active, deep)) in
          let going : Answer SelTurn = Ok (record { frames = new ∷ z ∷ callers; bytes = bytes2; exchange = Nothing }) in
          let t2 = standing out (Place.Code g (starts_in sel by g 0)) (core_of beginning.words beginning.flags ts) in
          subst (λ q. Turned_ (if q then Err Depth else Ok (record { frames = new ∷ z ∷ callers; bytes = bytes2; exchange = Nothing }))) (sym few)
          (inr (met_by (A o sel plan contents by live suits input) (B o sel plan contents by live suits input) (Stage o sel plan contents by live suits input) (λ _. 0) most_steps s (sel_turned s going) t0 t2
          (comes_wider step (1 + 1) (200 + 100) 1 most_steps t0 t2 (omega arith) (omega arith) (comes_join step 1 200 1 100 t0 t1 t2 comes beginning.comes))
          (inl (record {
            frame = new;
            callers = z ∷ callers;
            bytes = bytes2;
            printed = printed;
            taken = taken;
            depth = d;
            words = beginning.words;
            flags = beginning.flags;
            segments = ts;
            offset = starts_in sel by g 0;
            here = first_block.0;
            is_function = is_callee;
            is_block = first_block.1;
            stands = block_stands sel by g 0 first_block.0 first_block.1;
            whole = whole2;
            source = refl;
            target = refl;
          }))))

    -- either of them
    pub called : Turned_ turn
    called = by_depth depth refl
      where
        by_depth : (m : ℕ) → depth ≡ m → Turned_ turn
        by_depth zero e = too_deep o sel plan contents by live suits input f callers bytes printed taken depth w fl ss off b is_function is_block stands whole into g is_callee ns w2 fl1 ss2 same.r15 comes e
        by_depth (suc d) e = begun d e
