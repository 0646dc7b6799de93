-- The run of an object comes from its entry to the first block of the program's first function.
use Rattle.std.proofs.Common.{◌≡◌, ℕ, ◌+◌, ◌*◌, ◌≤◌, List, [], ◌∷◌, length, drop, Option, Some, None, refl, sym, ◌∙◌, ap, subst, inl, inr, ◌⊎◌, arith}
use Rattle.std.specs.Prelude.{replicate, slice_get, get_or}
use Rattle.std.proofs.lemmas.Option.{slice_get-get_or}
use Rattle.behavior.specs.Simulation.{Comes, Starts}
use Rattle.behavior.proofs.Stretch.{comes_join, comes_wider, starts_by}
use Rattle.x86_core.specs.declared.flags.Flags.{Flags}
use Rattle.x86_core.specs.declared.image.Segment.{Segment}
use Rattle.x86_core.specs.Data.{stack_start, stack_end}
use Rattle.x86_core.specs.Step.{State}
use Rattle.x86_rows.specs.Addresses.{range_at}
use Rattle.x86_rows.specs.Saving.{IsStack}
use Rattle.x86_rows.proofs.Covers.{range_same}
use Rattle.x86_rows.proofs.Shapes.{shape_trans}
use Rattle.low_core.specs.declared.sel.SelBlock.{SelBlock}
use Rattle.low_core.specs.declared.sel.SelEnd.TheVariants as end
use Rattle.low_core.specs.declared.sel.SelFun.{SelFun}
use Rattle.low_core.specs.declared.sel.Sel.{Sel}
use Rattle.low_core.specs.Flat.{Span, Bytes, forgotten}
use Rattle.low_core.specs.Plan.{Plan, Content, first_bytes}
use Rattle.low_core.specs.SelRun.{sel_start_in, sel_start}
use Rattle.low_core.specs.SelState.{SelFrame, bound, first_sel_frame}
use Rattle.obj_core.specs.declared.object.Object.{Object}
use Rattle.obj_core.specs.declared.object.Place.{Place}
use Rattle.obj_core.specs.SymbolicMachine.{symbolic_start, symbolic_step}
use Rattle.obj_rows.specs.Routines.{IsStart, few_steps}
use Rattle.obj_rows.specs.Standing.{Outside, standing, first_core, first_outside}
use Rattle.frame_rows.specs.Ties.{Tied}
use Rattle.frame_rows.specs.Words.{Words, core_of}
use Rattle.frame_lower.specs.Calls.{argument_registers}
use Rattle.frame_lower.specs.Chain.{function_in, starts_in, pushes_of, IsOff, Chain}
use Rattle.frame_lower.specs.Rows.{Making}
use Rattle.frame_lower.specs.Suits.{Suits}
use Rattle.frame_lower.proofs.Arguments.{AreSmall, AreHeld, StandAt}
use Rattle.frame_lower.proofs.Bodies.{block_stands}
use Rattle.frame_lower.proofs.Entered.{planned}
use Rattle.frame_lower.proofs.Facts.{function_shaped, frame_few}
use Rattle.frame_lower.proofs.Front.{Begins, begins}
use Rattle.frame_lower.proofs.Globals.{globals_off}
use Rattle.frame_lower.proofs.OwnMemory.{one_more, contains_made}
use Rattle.frame_lower.proofs.PlainStep.{stack_same}
use Rattle.frame_lower.proofs.Sixteen.{words_of, words_again}
use Rattle.frame_lower.specs.Meaning.{most_steps}
use Rattle.frame_lower.proofs.Stage.{state_of, flat_in, globals, last, function_is, Whole, Stage, A, B}

-- the words of the two arguments of the first function, where it has parameters
record Given (params : List ℕ) (w : Words) : Type 0 where
  words : List ℕ
  long : length words ≡ length params
  small : AreSmall words
  held : AreHeld w argument_registers words
  same : (registers : List (Option ℕ)) → bound params words registers ≡ bound params (0 ∷ 0 ∷ []) registers
  none : drop 6 words ≡ []

given : (params : List ℕ) (w : Words) → w.rdi ≡ 0 → w.rsi ≡ 0 → (length params ≡ 0) ⊎ (length params ≡ 2) → Given params w
given [] w a b count = record { words = []; long = refl; small = tt; held = tt; same = λ registers. refl; none = refl }
given (x ∷ []) w a b count = absurd (elim count [ inl e ↦ omega (arith, e) | inr e ↦ omega (arith, e) ])
given (x ∷ y ∷ []) w a b count = record { words = 0 ∷ 0 ∷ []; long = refl; small = (omega arith, (omega arith, tt)); held = (a, (b, tt)); same = λ registers. refl; none = refl }
given (x ∷ y ∷ z ∷ more) w a b count = absurd (elim count [ inl e ↦ omega (arith, e) | inr e ↦ omega (arith, e) ])

module _ (o : Object) (sel : Sel) (plan : Plan) (contents : List Content) (by : ℕ → Making) (live : ℕ → ℕ → ℕ → ℕ → Type 0) (suits : Suits o sel plan contents by live) (input : List ℕ) where
  abbrev globals_ : List Span
  globals_ = globals o sel plan contents by live suits input

  abbrev last_ : Place
  last_ = last o sel plan contents by live suits input

  abbrev step : State Place → State Place
  step = symbolic_step o

  abbrev g : ℕ
  g = sel.main

  abbrev y : Making
  y = by g

  abbrev callee : SelFun
  callee = function_in sel g

  main_is : slice_get sel.functions g ≡ Some callee
  main_is = suits.is_sel.main_stands ∙ ap Some (sym (function_is sel g suits.is_sel.main_fun suits.is_sel.main_stands))

  two_or_none : (length callee.params ≡ 0) ⊎ (length callee.params ≡ 2)
  two_or_none = subst (λ (fn : SelFun). (length fn.params ≡ 0) ⊎ (length fn.params ≡ 2)) (sym (function_is sel g suits.is_sel.main_fun suits.is_sel.main_stands)) suits.is_sel.main.params

  abbrev bytes0 : Bytes
  bytes0 = first_bytes plan.globals contents

  abbrev pub new : SelFrame
  new = first_sel_frame g callee (planned o sel plan contents by live suits g) stack_end (0 ∷ 0 ∷ []) None

  abbrev bytes2 : Bytes
  bytes2 = forgotten bytes0 new.own.start new.own.size

  -- the first state of the program
  starts_at : sel_start sel plan contents ≡ state_of new [] bytes2 [] 0
  unfolding sel_start
  starts_at = ap (λ q. sel_start_in plan contents g q (slice_get plan.frames g)) main_is ∙ ap (sel_start_in plan contents g (Some callee)) (suits.frames g callee main_is)

  abbrev start : IsStart o g 8192 input
  start = suits.routines.start input

  abbrev out : Outside
  out = first_outside input

  abbrev w : Words
  w = words_of start.core.regs

  abbrev fl : Flags
  fl = start.core.flags

  abbrev ss : List Segment
  ss = start.core.segments

  again : start.core ≡ core_of w fl ss
  again = ap (λ regs. record { regs = regs; flags = fl; segments = ss }) (sym (words_again start.core.regs start.long))

  abbrev lower : ℕ
  lower = new.base

  few : y.room + 48 ≤ 65536
  few = frame_few o sel plan contents by live suits g callee main_is

  base_is : stack_end ≡ lower + y.room + 48
  base_is = let m = few in omega (arith, m)

  rooms : y.room ≡ 8 * y.words + callee.frame
  rooms = suits.rooms g callee main_is

  stack : IsStack stack_start stack_end ss
  stack = stack_same stack_start stack_end (first_core o).segments ss start.shape suits.stack

  arguments : Given callee.params w
  arguments = given callee.params w start.first_argument start.second_argument two_or_none

  first_block : (c : SelBlock) × (slice_get callee.blocks 0 ≡ Some c)
  first_block =
      let some = (function_shaped o sel plan contents by live suits g callee main_is).some_block in
      (get_or callee.blocks 0 (record { ops = []; end = end.Trap }), slice_get-get_or callee.blocks 0 (record { ops = []; end = end.Trap }) some)

  abbrev ns : List ℕ
  ns = arguments.words

  beginning : Begins o sel plan contents by live suits g lower 8191 out ns (live g 0 0) (flat_in o sel plan contents by live suits input (new ∷ []) bytes2) w fl ss
  beginning =
      let e = base_is in
      let m = few in
      let rs = rooms in
      let top = start.top in
      let none = ap length arguments.none in
      begins o sel plan contents by live suits g lower 8191 out ns (live g 0 0) (flat_in o sel plan contents by live suits input (new ∷ []) bytes2) w fl ss first_block.0 main_is first_block.1
      start.calls_left (omega arith) (omega (arith, top, e)) stack (omega (arith, m)) (omega (arith, e, none)) arguments.long arguments.small arguments.held
      (subst (λ vs. StandAt ss (lower + y.room + 48) vs) (sym arguments.none) tt)
      (λ ts shape outer.
      contains_made stack_end 0 lower y.words (lower + 8 * y.words) callee.frame stack_end globals_ bytes0 (first_core o).segments ts (stack_same stack_start stack_end ss ts shape stack)
      (shape_trans (first_core o).segments ss ts start.shape shape)
      (omega (arith, m)) (omega arith) (omega (arith, e, rs)) (omega arith) (λ p i lo hi. elim (globals_off sel plan contents suits.fits p i) [ inl lt ↦ omega (arith, lt, lo) | inr le ↦ omega (arith, le, hi) ])
      (λ p i. elim (globals_off sel plan contents suits.fits p i) [
        | inl lt ↦ outer p (inl (omega (arith, lt, m))) ∙ start.others p (inl (omega (arith, lt)))
        | inr le ↦ outer p (inr (omega (arith, le, e))) ∙ start.others p (inr le)
      ]) suits.globals)

  abbrev ts : List Segment
  ts = beginning.segments

  waits : Chain o sel by globals_ live last_ ts new 8191 []
  waits =
      let e = base_is in
      let top = start.top in
      let p : w.rsp ≡ pushes_of o sel by globals_ live last_ new + 40 = omega (arith, e, top) in
      let lands = start.lands in (
        omega (arith, e),
        record {
          word = lands.landing;
          small = lands.small;
          there = range_same ts ss 8 (pushes_of o sel by globals_ live last_ new + 40) (λ q from to. beginning.outside q (inr (omega (arith, from)))) ∙ ap (λ a. range_at ss a 8) (sym p) ∙ lands.there;
          lands = lands.lands;
        },
      )

  off : IsOff o sel by globals_ live last_ new []
  off p i =
      let e = base_is in
      let m = few in
      let rs = rooms in
      elim (one_more (lower + 8 * y.words) callee.frame globals_ p 1 i) [
        | inl c ↦ let lo = c.low in let hi = c.high in (λ l u. absurd (omega (arith, lo, u)), λ u. let u0 = u.0 in absurd (omega (arith, hi, u0, rs)))
        | inr j ↦ elim (globals_off sel plan contents suits.fits p j) [
          | inl lt ↦ (λ l u. absurd (omega (arith, lt, l)), λ u. let u0 = u.0 in absurd (omega (arith, lt, u0, m)))
          | inr le ↦ (λ l u. absurd (omega (arith, le, u, e, rs)), λ u. let u1 = u.1 in absurd (omega (arith, le, u1, e)))
        ]
      ]

  whole : Whole o sel plan contents by live suits input new 8191 [] (live g 0 0) bytes2 beginning.words ts
  whole =
      let m = few in
      record {
        tied = subst (λ registers. Tied y.homes lower y.words (live g 0 0) registers (flat_in o sel plan contents by live suits input (new ∷ []) bytes2) beginning.words ts) (arguments.same (replicate callee.registers None)) beginning.tied;
        counter = beginning.counter;
        stack = stack_same stack_start stack_end ss ts beginning.shape stack;
        room = omega (arith, m);
        active = refl;
        own = refl;
        off = off;
        chain = waits;
      }

  pub starts : Starts (A o sel plan contents by live suits input) (B o sel plan contents by live suits input) (Stage o sel plan contents by live suits input) most_steps (sel_start sel plan contents) (symbolic_start o input)
  starts =
      let t0 = symbolic_start o input in
      let t2 = standing out (Place.Code g 0) (core_of w fl ss) in
      let t3 = standing out (Place.Code g (starts_in sel by g 0)) (core_of beginning.words beginning.flags ts) in
      let first : Comes step 1 few_steps t0 t2 = subst (λ c. Comes step 1 few_steps t0 (standing out (Place.Code g 0) c)) again start.comes in
      subst (λ a. Starts (A o sel plan contents by live suits input) (B o sel plan contents by live suits input) (Stage o sel plan contents by live suits input) most_steps a t0) (sym starts_at)
      (starts_by (A o sel plan contents by live suits input) (B o sel plan contents by live suits input) (Stage o sel plan contents by live suits input) (λ _. 0) most_steps most_steps (state_of new [] bytes2 [] 0) t0 t3
      (record { printed = refl; taken = refl; ending = refl })
      (comes_wider step (1 + 1) (few_steps + 100) 0 most_steps t0 t3 (omega arith) (omega arith) (comes_join step 1 few_steps 1 100 t0 t2 t3 first beginning.comes))
      (inl (record {
        frame = new;
        callers = [];
        bytes = bytes2;
        printed = [];
        taken = 0;
        depth = 8191;
        words = beginning.words;
        flags = beginning.flags;
        segments = ts;
        offset = starts_in sel by g 0;
        here = first_block.0;
        is_function = main_is;
        is_block = first_block.1;
        stands = block_stands sel by g 0 first_block.0 first_block.1;
        whole = whole;
        source = refl;
        target = refl;
      })))
