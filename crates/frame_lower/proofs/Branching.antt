-- Ends that lead to blocks of the same function, and the end that stops.
use Rattle.std.proofs.Common.{◌≡◌, ℕ, ◌+◌, ◌^◌, ◌<◌, ◌≤◌, List, [], ◌∷◌, ◌++◌, length, drop, Some, None, Err, refl, sym, ◌∙◌, ap, subst, inl, inr, arith}
use Rattle.std.specs.Prelude.{get_or, slice_get}
use Rattle.std.specs.List.{All}
use Rattle.std.proofs.lemmas.List.Elements.{All-head, All-tail}
use Rattle.std.proofs.lemmas.Option.{slice_get-get_or}
use Rattle.behavior.specs.Ending as ending
use Rattle.behavior.specs.System.{System}
use Rattle.behavior.proofs.Stretch.{comes_one, comes_wider, met_by}
use Rattle.ir_core.specs.Stops as stop
use Rattle.ir_core.specs.Stops.{Answer, and_then}
use Rattle.x86_core.specs.declared.flags.Flags.{Flags}
use Rattle.x86_core.specs.declared.image.Segment.{Segment}
use Rattle.x86_core.specs.declared.instr.Instr.TheVariants.{Jmp, Ud2}
use Rattle.x86_core.specs.Step.{State}
use Rattle.x86_rows.specs.Straight.{Stopped, and_on, exec}
use Rattle.x86_rows.proofs.Leaves.{ud2}
use Rattle.low_core.specs.declared.sel.SelBlock.{SelBlock}
use Rattle.low_core.specs.declared.sel.SelEnd.{SelEnd}
use Rattle.low_core.specs.declared.sel.SelEnd.TheVariants as end
use Rattle.low_core.specs.declared.sel.Sel.{Sel}
use Rattle.low_core.specs.Flat.{Span, Bytes}
use Rattle.low_core.specs.Plan.{Plan, Content}
use Rattle.low_core.specs.SelParts.{IsOneOf, leads_to}
use Rattle.low_core.specs.SelState.{SelFrame, SelState, SelTurn, sel_turned}
use Rattle.low_core.specs.SelStep.{to_block}
use Rattle.obj_core.specs.declared.object.Object.{Object}
use Rattle.obj_core.specs.declared.object.Place.{Place}
use Rattle.obj_core.specs.SymbolicMachine.{symbolic_step}
use Rattle.obj_rows.specs.Marked.{Marked, unlinked, row_size, Stands}
use Rattle.obj_rows.specs.Standing.{Outside, standing}
use Rattle.obj_rows.proofs.Branches.{jumps}
use Rattle.obj_rows.proofs.Rows.{row_size-append}
use Rattle.frame_rows.specs.Words.{Words, core_of}
use Rattle.frame_rows.proofs.Kept.{tied_same, tied_fewer}
use Rattle.frame_rows.proofs.Registers.{Same}
use Rattle.frame_lower.specs.Chain.{function_in, code_in, starts_in, rest_in}
use Rattle.frame_lower.specs.Rows.{Making, between, end_row}
use Rattle.frame_lower.specs.Suits.{Suits}
use Rattle.frame_lower.proofs.Bodies.{block_stands}
use Rattle.frame_lower.proofs.Chains.{chain_moved, moved_to}
use Rattle.frame_lower.proofs.Displacements.{leads}
use Rattle.frame_lower.proofs.Facts.{block_shaped}
use Rattle.frame_lower.proofs.PlainStep.{Turned, stops_at}
use Rattle.frame_lower.proofs.Rests.{end_stands}
use Rattle.frame_lower.specs.Meaning.{most_steps}
use Rattle.frame_lower.proofs.Stage.{state_of, flat_in, globals, last, Whole, Stage, A, B}

-- a part of a row ends inside of it
pub within : (row : List Marked) (off : ℕ) (part : List Marked) → Stands row off part → off + row_size part ≤ row_size row
within row off part s =
    let e = ap row_size s.split in
    let a = row_size-append s.before (part ++ s.behind) in
    let b = row_size-append part s.behind in
    let o = s.offset in
    omega (arith, e, a, b, o)

-- each of a list holds of its members
one_of : (P : ℕ → Type 0) (ns : List ℕ) (n : ℕ) → All P ns → IsOneOf n ns → P n
one_of P [] n all one = absurd one
one_of P (m ∷ ns) n all (inl e) = subst P (sym e) (All-head P m ns all)
one_of P (m ∷ ns) n all (inr one) = one_of P ns n (All-tail P m ns all) one

module _ (o : Object) (sel : Sel) (plan : Plan) (contents : List Content) (by : ℕ → Making) (live : ℕ → ℕ → ℕ → ℕ → Type 0) (suits : Suits o sel plan contents by live) (input : List ℕ) where
  abbrev Tells : SelFrame → ℕ → List SelFrame → (ℕ → Type 0) → Bytes → Words → List Segment → Type 0
  Tells = Whole o sel plan contents by live suits input

  abbrev Stage_ : SelState → State Place → Type 0
  Stage_ = Stage o sel plan contents by live suits input

  abbrev A_ : System SelState
  A_ = A o sel plan contents by live suits input

  abbrev B_ : System (State Place)
  B_ = B o sel plan contents by live suits input

  abbrev globals_ : List Span
  globals_ = globals o sel plan contents by live suits input

  abbrev last_ : Place
  last_ = last o sel plan contents by live suits input

  abbrev step : State Place → State Place
  step = symbolic_step o

  -- at another place of its function, with other scratch registers and less that lives
  pub whole_same : (f : SelFrame) (depth k n : ℕ) (callers : List SelFrame) (alive after : ℕ → Type 0) (bytes : Bytes) (w v : Words) (ss : List Segment) → Same w v → ((x : ℕ) → after x → alive x) → Tells f depth callers alive bytes w ss →
      Tells (moved_to o sel by globals_ live last_ f k n f.registers) depth callers after bytes v ss
  whole_same f depth k n callers alive after bytes w v ss same fewer t =
      let flat = flat_in o sel plan contents by live suits input (f ∷ callers) bytes in
      record {
        tied = tied_fewer (by f.function).homes f.base (by f.function).words alive after f.registers flat v ss fewer (tied_same (by f.function).homes f.base (by f.function).words alive f.registers flat w v ss same t.tied);
        counter = same.r15 ∙ t.counter;
        stack = t.stack;
        room = t.room;
        active = t.active;
        own = t.own;
        off = t.off;
        chain = chain_moved o sel by globals_ live last_ callers ss f depth k n f.registers t.chain;
      }

  module _ (f : SelFrame) (callers : List SelFrame) (bytes : Bytes) (printed : List ℕ) (taken depth : ℕ) (w : Words) (fl : Flags) (ss : List Segment) (off : ℕ) (b : SelBlock)
      (is_function : slice_get sel.functions f.function ≡ Some (function_in sel f.function)) (is_block : slice_get (function_in sel f.function).blocks f.block ≡ Some b)
      (stands : Stands (code_in sel by f.function) off (rest_in sel by f.function off f.block f.next b)) (whole : Tells f depth callers (live f.function f.block f.next) bytes w ss) (none : slice_get b.ops f.next ≡ None) where
    abbrev pub s : SelState
    s = state_of f callers bytes printed taken

    abbrev pub out : Outside
    out = record { left = drop taken input; printed = printed; taken = taken }

    abbrev pub at : ℕ → Words → Flags → State Place
    at p v fl2 = standing out (Place.Code f.function p) (core_of v fl2 ss)

    abbrev pub t : State Place
    t = at off w fl

    abbrev pub Turned_ : Answer SelTurn → Type 0
    Turned_ = Turned o sel plan contents by live suits input f callers bytes printed taken depth w fl ss off b is_function is_block stands whole

    abbrev pub row : List Marked
    row = code_in sel by f.function

    abbrev pub start : ℕ → ℕ
    start = starts_in sel by f.function

    pub end_here : (e : SelEnd) → b.end ≡ e → Stands row off (end_row (by f.function) start off e)
    end_here e is = subst (λ x. Stands row off (end_row (by f.function) start off x)) is (end_stands sel by f.function f.block f.next b row off stands none)

    pub low : (p : ℕ) (part : List Marked) → Stands row p part → p + row_size part < 2 ^ 31
    low p part h = let m = within row p part h in let short = suits.short f.function _ is_function in omega (arith, m, short)

    target_of : (d : ℕ) → IsOneOf d (leads_to b.end) → (c : SelBlock) × (slice_get (function_in sel f.function).blocks d ≡ Some c)
    target_of d leads =
        let below = one_of (λ n. n < length (function_in sel f.function).blocks) (leads_to b.end) d (block_shaped o sel plan contents by live suits f.function f.block _ b is_function is_block).targets leads in
        (get_or (function_in sel f.function).blocks d b, slice_get-get_or (function_in sel f.function).blocks d b below)

    pub low_start : (d : ℕ) → IsOneOf d (leads_to b.end) → start d < 2 ^ 31
    low_start d goes =
        let c = target_of d goes in
        let m = low (start d) (rest_in sel by f.function (start d) d 0 c.0) (block_stands sel by f.function d c.0 c.1) in
        omega (arith, m)

    -- to the start of a block, with other scratch registers
    pub arrives : (d : ℕ) (v : Words) (fl2 : Flags) → IsOneOf d (leads_to b.end) → Same w v → Stage_ (sel_turned s (to_block s f callers d)) (at (start d) v fl2)
    arrives d v fl2 goes same =
        let c = target_of d goes in
        record {
          frame = moved_to o sel by globals_ live last_ f d 0 f.registers;
          callers = callers;
          bytes = bytes;
          printed = printed;
          taken = taken;
          depth = depth;
          words = v;
          flags = fl2;
          segments = ss;
          offset = start d;
          here = c.0;
          is_function = is_function;
          is_block = c.1;
          stands = block_stands sel by f.function d c.0 c.1;
          whole = whole_same f depth d 0 callers (live f.function f.block f.next) (live f.function d 0) bytes w v ss same (λ x l. (suits.allotted f.function _ is_function).edges f.block f.next d x b is_block none goes l) whole;
          source = refl;
          target = refl;
        }

    -- a jump in the function
    pub jumps_to : (p to : ℕ) (v : Words) (fl2 : Flags) → to < 2 ^ 31 → p + 5 < 2 ^ 31 → Stands row p (unlinked (Jmp (between (p + 5) to)) ∷ []) → step (at p v fl2) ≡ at to v fl2
    jumps_to p to v fl2 a z h =
        jumps o f.function row (suits.codes f.function _ is_function) out p (core_of v fl2 ss) None (between (p + 5) to) h ∙ ap (λ q. at q v fl2) (leads (p + 5) to z a)

    pub go_step : (d : ℕ) → b.end ≡ end.Go d → Turned_ (to_block s f callers d)
    go_step d is =
        let to : IsOneOf d (leads_to b.end) = subst (λ x. IsOneOf d (leads_to x)) (sym is) (inl refl) in
        let here : off + 0 ≡ off = omega arith in
        let h : Stands row off (unlinked (Jmp (between (off + 5) (start d))) ∷ []) = subst (λ p. Stands row off (unlinked (Jmp (between (p + 5) (start d))) ∷ [])) here (end_here (end.Go d) is) in
        let u = at (start d) w fl in
        let near = low off (unlinked (Jmp (between (off + 5) (start d))) ∷ []) h in
        inr (met_by A_ B_ Stage_ (λ _. 0) most_steps s (sel_turned s (to_block s f callers d)) t u
        (comes_wider step 1 1 1 most_steps t u (omega arith) (omega arith) (comes_one step t u (jumps_to off (start d) w fl (low_start d to) (omega (arith, near)) h)))
        (inl (arrives d w fl to (record { rbx = refl; rbp = refl; rsp = refl; r12 = refl; r13 = refl; r14 = refl; r15 = refl }))))

    pub trap_step : b.end ≡ end.Trap → Turned_ (Err stop.Trap)
    trap_step is =
        let stops : exec (Ud2 ∷ []) (core_of w fl ss) ≡ Stopped ending.Invalid = ap (λ r. and_on r (exec [])) (ud2 (core_of w fl ss)) in
        stops_at o sel plan contents by live suits input f callers bytes printed taken depth w fl ss off b is_function is_block stands whole (Ud2 ∷ []) [] stop.Trap ending.Invalid (end_here end.Trap is) stops (omega arith)
        (omega arith) refl refl
