-- What was tied before a routine from outside is tied when it comes back, with what it did to memory.
use Rattle.std.proofs.Common.{◌≡◌, ℕ, zero, suc, ◌+◌, ◌-◌, ◌*◌, ◌<◌, ◌≤◌, true, List, [], ◌∷◌, drop, length, get_or, Option, Some, refl, sym, ◌∙◌, ap, subst, inl, inr, ◌⊎◌, arith}
use Rattle.std.specs.Prelude.{slice_get, slice_index}
use Rattle.std.proofs.lemmas.Bool.{cases_lt}
use Rattle.rd_num.specs.Number.{le_bytes}
use Rattle.x86_core.specs.declared.flags.Flags.{Flags}
use Rattle.x86_core.specs.declared.image.Segment.{Segment}
use Rattle.x86_core.specs.declared.reg.Reg.TheVariants.{Rbx, Rbp, R12, R13, R14, R15}
use Rattle.x86_core.specs.Data.{stack_start, stack_end}
use Rattle.x86_core.specs.Memory.{reads, writes}
use Rattle.x86_rows.specs.Addresses.{byte_at, range_at, SameShape}
use Rattle.x86_rows.proofs.Covers.{range_same}
use Rattle.x86_rows.proofs.Saving.{stack_same}
use Rattle.x86_rows.proofs.Shapes.{one_same, shape_trans}
use Rattle.low_core.specs.declared.sel.SelFun.{SelFun}
use Rattle.low_core.specs.declared.sel.Sel.{Sel}
use Rattle.low_core.specs.Flat.{Span, Bytes, is_inside}
use Rattle.low_core.specs.Plan.{Plan, Content}
use Rattle.low_core.specs.SelState.{SelFrame}
use Rattle.obj_core.specs.declared.object.Object.{Object}
use Rattle.obj_core.specs.declared.object.Place.{Place}
use Rattle.obj_rows.specs.Routines.{ComesBack}
use Rattle.obj_rows.specs.Standing.{Outside}
use Rattle.frame_rows.specs.declared.spot.Spot.{Spot}
use Rattle.frame_rows.specs.declared.spot.Spot.TheVariants.{Own, Frame}
use Rattle.frame_rows.specs.Ties.{IsHome, Keeps}
use Rattle.frame_rows.specs.Words.{Words, core_of}
use Rattle.frame_rows.proofs.Registers.{Same, home_same}
use Rattle.frame_rows.proofs.Homes.{room_same}
use Rattle.frame_lower.specs.Chain.{pushes_of, spans_of, Reserved}
use Rattle.frame_lower.specs.Rows.{Making}
use Rattle.frame_lower.specs.Suits.{Suits}
use Rattle.frame_lower.proofs.Chains.{chain_same, reserved_low}
use Rattle.frame_lower.proofs.Passing.{Passes}
use Rattle.frame_lower.proofs.Sixteen.{words_of}
use Rattle.frame_lower.proofs.Stage.{last, globals, flat_in, Whole}

-- flat memory once a range has become these bytes: it lies in the memory that may be used, other bytes that are told were told
-- before, and in the range these are told or none
pub record Changed (spans : List Span) (bytes bytes2 : Bytes) (at : ℕ) (bs : List ℕ) : Type 0 where
  pub target : (q : ℕ) → at ≤ q → q < at + length bs → is_inside q 1 spans ≡ true
  pub old : (q b : ℕ) → (q < at) ⊎ (at + length bs ≤ q) → bytes2 q ≡ Some b → bytes q ≡ Some b
  pub new : (i b : ℕ) → i < length bs → bytes2 (at + i) ≡ Some b → (slice_index bs i ≡ b) × (b < 256)

-- a routine that writes nothing
pub unchanged : (spans : List Span) (bytes : Bytes) → Changed spans bytes bytes 0 []
unchanged spans bytes = record { target = λ q lo hi. absurd (omega (arith, hi)); old = λ q b o e. e; new = λ i b lt e. absurd (omega (arith, lt)) }

-- a byte of a range
pub range_byte : (ss : List Segment) (n at i : ℕ) → i < n → get_or (range_at ss at n) i 0 ≡ byte_at ss (at + i)
range_byte ss zero at i lt = absurd (omega (arith, lt))
range_byte ss (suc n) at zero lt = let e : at ≡ at + 0 = omega arith in ap (byte_at ss) e
range_byte ss (suc n) at (suc i) lt = let e : at + 1 + i ≡ at + suc i = omega arith in range_byte ss n (at + 1) i (omega (arith, lt)) ∙ ap (byte_at ss) e

module _ (o : Object) (sel : Sel) (plan : Plan) (contents : List Content) (by : ℕ → Making) (live : ℕ → ℕ → ℕ → ℕ → Type 0) (suits : Suits o sel plan contents by live) (input : List ℕ) where
  abbrev Tells : SelFrame → ℕ → List SelFrame → (ℕ → Type 0) → Bytes → Words → List Segment → Type 0
  Tells = Whole o sel plan contents by live suits input

  abbrev globals_ : List Span
  globals_ = globals o sel plan contents by live suits input

  abbrev last_ : Place
  last_ = last o sel plan contents by live suits input

  abbrev pushes : SelFrame → ℕ
  pushes = pushes_of o sel by globals_ live last_

  module _ (f : SelFrame) (depth : ℕ) (callers : List SelFrame) (alive : ℕ → Type 0) (fn : SelFun) (is_function : slice_get sel.functions f.function ≡ Some fn) where
    abbrev by_ : Making
    by_ = by f.function

    -- what waits lies above the words of the frame
    waits_high : (bytes : Bytes) (w : Words) (ss : List Segment) (q : ℕ) → Tells f depth callers alive bytes w ss → Reserved o sel by globals_ live last_ callers (pushes f) q → f.base + 8 * by_.words ≤ q
    waits_high bytes w ss q t i = let low = reserved_low o sel by globals_ live last_ callers ss f depth q t.chain i in let e = suits.rooms f.function fn is_function in omega (arith, low, e)

    -- arguments that are passed leave it tied
    pub whole_pass : (bytes : Bytes) (w : Words) (fl : Flags) (ss : List Segment) (args ns : List ℕ) → length (drop 6 ns) ≤ by_.words → Tells f depth callers alive bytes w ss →
        (x : Passes by_.homes f.base by_.words alive f.registers (flat_in o sel plan contents by live suits input (f ∷ callers) bytes) args ns w fl ss) → Tells f depth callers alive bytes x.after x.segments
    whole_pass bytes w fl ss args ns fit t x = record {
      tied = x.tied;
      counter = x.same.r15 ∙ t.counter;
      stack = stack_same stack_start stack_end ss x.segments x.shape t.stack;
      room = t.room;
      active = t.active;
      own = t.own;
      off = t.off;
      chain = chain_same o sel by globals_ live last_ suits.five suits.homes callers ss x.segments f depth (λ q i. x.outside q (inr (let high = waits_high bytes w ss q t i in omega (arith, high, fit)))) t.chain;
    }

    -- a routine was called with the way back below the frame
    module _ (bytes bytes2 : Bytes) (w : Words) (ss : List Segment) (whole : Tells f depth callers alive bytes w ss) (top : ℕ) (above : f.base ≡ top + 8) (fl : Flags) (called : List Segment) (shape1 : SameShape ss called)
        (outside1 : (p : ℕ) → (p < top) ⊎ (top + 8 ≤ p) → byte_at called p ≡ byte_at ss p) (at : ℕ) (bs : List ℕ) (changed : Changed (spans_of o sel by globals_ live last_ (f ∷ callers)) bytes bytes2 at bs)
        (h most : ℕ) (out out2 : Outside) (place : Place) (answer : Option ℕ) (back : ComesBack o h most (core_of (record w { rsp = top }) fl called) out out2 place answer at bs) where
      abbrev pub back_words : Words
      back_words = words_of back.core.regs

      abbrev ts : List Segment
      ts = back.core.segments

      abbrev spans : List Span
      spans = spans_of o sel by globals_ live last_ (f ∷ callers)

      low : stack_start + 4096 ≤ top + 8
      low = let r = whole.room in omega (arith, r, above)

      shape : SameShape ss ts
      shape = shape_trans ss called ts shape1 back.shape

      pub back_same : Same w back_words
      back_same = record {
        rbx = back.kept Rbx refl;
        rbp = back.kept Rbp refl;
        rsp = back.top ∙ sym (whole.tied.at_base ∙ above);
        r12 = back.kept R12 refl;
        r13 = back.kept R13 refl;
        r14 = back.kept R14 refl;
        r15 = back.kept R15 refl;
      }

      -- what is neither below the frame nor in the range is as it was
      same : (q : ℕ) → (q < stack_start) ⊎ (f.base ≤ q) → (q < at) ⊎ (at + length bs ≤ q) → byte_at ts q ≡ byte_at ss q
      same q c d =
          let l = low in
          elim c [
            | inl lt ↦ back.others q (inl lt) d ∙ outside1 q (inl (omega (arith, lt, l)))
            | inr le ↦ back.others q (inr (omega (arith, le, above))) d ∙ outside1 q (inr (omega (arith, le, above)))
          ]

      -- what is no flat memory is not in the range
      beside : (q : ℕ) → (is_inside q 1 spans ≡ true → ⊥) → (q < at) ⊎ (at + length bs ≤ q)
      beside q none = elim (cases_lt q at) [
        | inl lt ↦ inl lt
        | inr le ↦ elim (cases_lt q (at + length bs)) [ inl lt ↦ absurd (none (changed.target q le lt)) | inr ge ↦ inr ge ]
      ]

      -- homes have what they had
      home_back : (g : Spot) (n : ℕ) → IsHome by_.words g → Keeps w ss g n → Keeps back_words ts g n
      home_back (Own r) n is e = home_same w back_words r is back_same ∙ e
      home_back (Frame k) n is e =
          let b = whole.tied.at_base in
          let l = low in
          subst (λ p. range_at ts (p + 8 * k) 8 ≡ le_bytes 8 n) (sym back_same.rsp)
          (range_same ts ss 8 (w.rsp + 8 * k) (λ q from to.
          same q (inr (omega (arith, b, from))) (beside q (λ i. (whole.off q i).0 (omega (arith, l, above, b, from)) (omega (arith, b, to, is))))) ∙ e)

      -- each byte that is told is there
      told_back : (q b : ℕ) → is_inside q 1 spans ≡ true → bytes2 q ≡ Some b → (byte_at ts q ≡ b) × (b < 256)
      told_back q b i e = elim (cases_lt q at) [
        | inl lt ↦ outer (inl lt)
        | inr le ↦ elim (cases_lt q (at + length bs)) [
          | inl lt ↦
              let z : at + (q - at) ≡ q = omega (arith, le) in
              let n = changed.new (q - at) b (omega (arith, le, lt)) (ap bytes2 z ∙ e) in
              (ap (byte_at ts) (sym z) ∙ sym (range_byte ts (length bs) at (q - at) (omega (arith, le, lt))) ∙ ap (λ l. get_or l (q - at) 0) back.range ∙ n.0, n.1)
          | inr ge ↦ outer (inr ge)
        ]
      ]
        where
          outer : (q < at) ⊎ (at + length bs ≤ q) → (byte_at ts q ≡ b) × (b < 256)
          outer d =
              let y = whole.tied.memory.told q b i (changed.old q b d e) in
              let c : (q < stack_start) ⊎ (f.base ≤ q) = elim (cases_lt q stack_start) [
                | inl lt ↦ inl lt
                | inr ge ↦ elim (cases_lt q f.base) [ inl lt ↦ absurd ((whole.off q i).0 ge (omega (arith, lt))) | inr over ↦ inr over ]
              ] in
              (same q c d ∙ y.0, y.1)

      pub whole_back : Tells f depth callers alive bytes2 back_words ts
      whole_back = record {
        tied = record {
          room = room_same f.base by_.words ss ts shape whole.tied.room;
          at_base = back_same.rsp ∙ whole.tied.at_base;
          spots = whole.tied.spots;
          kept = λ x n l e. home_back (by_.homes x) n (whole.tied.spots x) (whole.tied.kept x n l e);
          small = whole.tied.small;
          memory = record {
            told = told_back;
            readable = λ q n i some. sym (one_same reads ss ts q n shape) ∙ whole.tied.memory.readable q n i some;
            writable = λ q n i some. sym (one_same writes ss ts q n shape) ∙ whole.tied.memory.writable q n i some;
            beside = whole.tied.memory.beside;
          };
        };
        counter = back_same.r15 ∙ whole.counter;
        stack = stack_same stack_start stack_end ss ts shape whole.stack;
        room = whole.room;
        active = whole.active;
        own = whole.own;
        off = whole.off;
        chain = chain_same o sel by globals_ live last_ suits.five suits.homes callers ss ts f depth
            (λ q i. same q (inr (let high = waits_high bytes w ss q whole i in omega (arith, high))) (beside q (λ j. (whole.off q j).1 i))) whole.chain;
      }
