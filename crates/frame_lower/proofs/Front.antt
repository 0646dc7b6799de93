-- From the start of a function to its first block.
use Rattle.std.proofs.Common.{◌≡◌, ℕ, suc, ◌+◌, ◌*◌, ◌^◌, ◌<◌, ◌≤◌, true, List, [], ◌∷◌, ◌++◌, length, drop, Some, None, refl, sym, ◌∙◌, ap, subst, inl, inr, ◌⊎◌, arith, length-append}
use Rattle.std.specs.Prelude.{pos, replicate, slice_get}
use Rattle.std.proofs.lemmas.List.{append-nil}
use Rattle.behavior.specs.Simulation.{Comes}
use Rattle.behavior.proofs.Stretch.{comes_one, comes_join, comes_wider}
use Rattle.x86_core.specs.declared.flags.Flags.{Flags}
use Rattle.x86_core.specs.declared.image.Segment.{Segment}
use Rattle.x86_core.specs.declared.reg.Reg.{Reg}
use Rattle.x86_core.specs.declared.reg.Reg.TheVariants.{Rbx, Rbp, R12, R13, R14}
use Rattle.x86_core.specs.declared.instr.Cond.{Cond}
use Rattle.x86_core.specs.declared.instr.Instr.{Instr}
use Rattle.x86_core.specs.declared.instr.Instr.TheVariants.{Jcc, Int3}
use Rattle.x86_core.specs.Data.{stack_start, stack_end}
use Rattle.x86_rows.specs.Addresses.{byte_at, SameShape}
use Rattle.x86_rows.specs.Saving.{IsStack}
use Rattle.x86_rows.specs.Straight.{Through, exec}
use Rattle.x86_rows.proofs.Shapes.{shape_trans}
use Rattle.low_core.specs.declared.sel.SelBlock.{SelBlock}
use Rattle.low_core.specs.declared.sel.SelFun.{SelFun}
use Rattle.low_core.specs.declared.sel.Sel.{Sel}
use Rattle.low_core.specs.Flat.{Flat}
use Rattle.low_core.specs.Plan.{Plan, Content}
use Rattle.low_core.specs.SelState.{bound}
use Rattle.obj_core.specs.declared.object.Object.{Object}
use Rattle.obj_core.specs.declared.object.Place.{Place}
use Rattle.obj_core.specs.Disassembly.{size_of}
use Rattle.obj_core.specs.SymbolicMachine.{symbolic_step}
use Rattle.obj_rows.specs.Marked.{Marked, unlinked, all_unlinked, row_size, Stands}
use Rattle.obj_rows.specs.Standing.{Outside, standing}
use Rattle.obj_rows.proofs.Branches.{branches}
use Rattle.obj_rows.proofs.Rows.{instrs_of-unlinked, length-unlinked, stands_one, stands_next, stands_first}
use Rattle.obj_rows.proofs.Runs.{row_comes}
use Rattle.frame_rows.specs.Ties.{is_home, Contains, Tied}
use Rattle.frame_rows.specs.Words.{Words, in_order, held_in, core_of}
use Rattle.frame_rows.proofs.Registers.{word_held}
use Rattle.frame_lower.specs.Blocks.{blocks_row}
use Rattle.frame_lower.specs.Calls.{argument_registers, receive_row}
use Rattle.frame_lower.specs.Chain.{upward, Saved, function_in, first_slot, code_in, starts_in}
use Rattle.frame_lower.specs.Functions.{front_row}
use Rattle.frame_lower.specs.Rows.{Making, push_row}
use Rattle.frame_lower.specs.Suits.{Suits}
use Rattle.frame_lower.proofs.Arguments.{AreSmall, AreHeld, StandAt, six_held, stand_same}
use Rattle.frame_lower.proofs.Bodies.{front_stands, first_starts}
use Rattle.frame_lower.proofs.Bound.{homes_apart}
use Rattle.frame_lower.proofs.Chains.{saved_same}
use Rattle.frame_lower.proofs.Counting.{one_fewer, counts_down}
use Rattle.frame_lower.proofs.Counts.{push_count, receive_count}
use Rattle.frame_lower.proofs.Entering.{makes_room, enters}
use Rattle.frame_lower.proofs.Facts.{function_shaped}
use Rattle.frame_lower.proofs.Order.{upward_long}
use Rattle.frame_lower.proofs.PlainStep.{stack_same}
use Rattle.frame_lower.proofs.Receiving.{receives}
use Rattle.frame_lower.proofs.RetStep.{room_in}
use Rattle.frame_lower.proofs.Saved.{saved_of}

-- a home doesn't hang on the count
home_count : (w : Words) (n : ℕ) (r : Reg) → is_home r ≡ true → held_in (record w { r15 = n }) r ≡ held_in w r
home_count w n Rbx is = refl
home_count w n Rbp is = refl
home_count w n R12 is = refl
home_count w n R13 is = refl
home_count w n R14 is = refl
home_count w n r is = absurd (cc)

module _ (o : Object) (sel : Sel) (plan : Plan) (contents : List Content) (by : ℕ → Making) (live : ℕ → ℕ → ℕ → ℕ → Type 0) (suits : Suits o sel plan contents by live) where
  -- at the first block: the parameters are at home, the five registers were pushed, and only what lies below the word on the stack
  -- has changed
  pub record Begins (g lower depth : ℕ) (out : Outside) (ns : List ℕ) (alive : ℕ → Type 0) (flat : Flat) (w : Words) (fl : Flags) (ss : List Segment) : Type 0 where
    pub words : Words
    pub flags : Flags
    pub segments : List Segment
    pub comes : Comes (symbolic_step o) 1 100 (standing out (Place.Code g 0) (core_of w fl ss)) (standing out (Place.Code g (starts_in sel by g 0)) (core_of words flags segments))
    pub tied : Tied (by g).homes lower (by g).words alive (bound (function_in sel g).params ns (replicate (function_in sel g).registers None)) flat words segments
    pub counter : words.r15 ≡ depth
    pub saved : (r : Reg) → is_home r ≡ true → Saved segments (upward (by g).order) (lower + (by g).room) r (held_in w r)
    pub shape : SameShape ss segments
    pub outside : (q : ℕ) → (q < lower) ⊎ (lower + (by g).room + 40 ≤ q) → byte_at segments q ≡ byte_at ss q

  module _ (g lower depth : ℕ) (out : Outside) (ns : List ℕ) (alive : ℕ → Type 0) (flat : Flat) (w : Words) (fl : Flags) (ss : List Segment) (b : SelBlock)
      (is_function : slice_get sel.functions g ≡ Some (function_in sel g)) (is_block : slice_get (function_in sel g).blocks 0 ≡ Some b) where
    abbrev x : Making
    x = by g

    abbrev fn : SelFun
    fn = function_in sel g

    -- the instructions behind the count
    abbrev pub rest : List Instr
    rest = push_row x.order ++ (makes_room x.room ∷ receive_row x.homes x.room fn.params)

    abbrev pub blocks : List Marked
    blocks = blocks_row x (starts_in sel by g) (row_size (front_row x fn)) (first_slot sel g) fn.blocks

    abbrev code : List Marked
    code = code_in sel by g

    pub stands0 : Stands code 0 (unlinked one_fewer ∷ unlinked (Jcc Cond.Ae (pos 1)) ∷ unlinked Int3 ∷ (all_unlinked rest ++ blocks))
    stands0 = front_stands sel by g

    stands1 : Stands code (size_of one_fewer) (unlinked (Jcc Cond.Ae (pos 1)) ∷ unlinked Int3 ∷ (all_unlinked rest ++ blocks))
    stands1 =
        let e : 0 + size_of one_fewer ≡ size_of one_fewer = omega arith in
        subst (λ p. Stands code p (unlinked (Jcc Cond.Ae (pos 1)) ∷ unlinked Int3 ∷ (all_unlinked rest ++ blocks))) e
        (stands_next code 0 (unlinked one_fewer) (unlinked (Jcc Cond.Ae (pos 1)) ∷ unlinked Int3 ∷ (all_unlinked rest ++ blocks)) stands0)

    stands2 : Stands code 14 (all_unlinked rest ++ blocks)
    stands2 = stands_next code 13 (unlinked Int3) (all_unlinked rest ++ blocks) (stands_next code 7 (unlinked (Jcc Cond.Ae (pos 1))) (unlinked Int3 ∷ (all_unlinked rest ++ blocks)) stands1)

    pub begins : w.r15 ≡ suc depth → depth < 2 ^ 32 → w.rsp ≡ lower + x.room + 40 → IsStack stack_start stack_end ss → stack_start ≤ lower → lower + x.room + 48 + 8 * length (drop 6 ns) ≤ stack_end → length ns ≡ length fn.params →
        AreSmall ns → AreHeld w argument_registers ns → StandAt ss (lower + x.room + 48) (drop 6 ns) →
        ((ts : List Segment) → SameShape ss ts → ((q : ℕ) → (q < lower) ⊎ (lower + x.room + 40 ≤ q) → byte_at ts q ≡ byte_at ss q) → Contains lower x.words flat ts) → Begins g lower depth out ns alive flat w fl ss
    begins counter few rsp stack low high long small held stand memory =
        let shaped = function_shaped o sel plan contents by live suits g fn is_function in
        let five = suits.five g in
        let rooms = suits.rooms g fn is_function in
        let count = counts_down w fl ss depth counter few in
        let w3 : Words = record w { r15 = depth } in
        let e = enters stack_start stack_end x.order x.room w3 count.flags ss lower stack (omega (arith, rsp, five)) (omega (arith, low)) (omega (arith, high, five)) in
        let w4 : Words = record w3 { rsp = lower } in
        let stack2 = stack_same stack_start stack_end ss e.segments e.shape stack in
        let outer : (q : ℕ) → (q < lower) ⊎ (lower + x.room + 40 ≤ q) → byte_at e.segments q ≡ byte_at ss q = λ q c. e.outside q (elim c [ inl lt ↦ inl (omega (arith, lt)) | inr le ↦ inr (omega (arith, le, five)) ]) in
        let r = receives x.homes lower x.words (suits.homes g) stack_start stack_end x.room fn.params ns fn.registers alive flat w4 e.flags e.segments
        (homes_apart x.homes fn.params shaped.params_apart (suits.allotted g fn is_function).params) long small stack2 (omega (arith, low)) high (omega (arith, rooms))
        (six_held w w4 ns (record { rdi = refl; rsi = refl; rdx = refl; rcx = refl; r8 = refl; r9 = refl }) held)
        (stand_same ss e.segments (drop 6 ns) (lower + x.room + 48) (λ q from to. outer q (inr (omega (arith, from)))) stand)
        (room_in lower x.words e.segments stack2 low (omega (arith, high, rooms))) refl (memory e.segments e.shape outer) in
        let marked = all_unlinked rest in
        let n = length marked in
        let t0 = standing out (Place.Code g 0) (core_of w fl ss) in
        let t1 = standing out (Place.Code g 7) (core_of w3 count.flags ss) in
        let t2 = standing out (Place.Code g 14) (core_of w3 count.flags ss) in
        let t3 = standing out (Place.Code g (starts_in sel by g 0)) (core_of r.after e.flags r.segments) in
        let place : 14 + row_size marked ≡ starts_in sel by g 0 = omega arith ∙ sym (first_starts sel by g b is_block) in
        let receive = receive_row x.homes x.room fn.params in
        let run : exec rest (core_of w3 count.flags ss) ≡ Through (core_of r.after e.flags r.segments) = e.runs receive ∙ ap (λ q. exec q (core_of w4 e.flags e.segments)) (sym (append-nil receive)) ∙ r.runs [] in
        let pushes = push_count x.order in
        let homes = receive_count x.homes x.room fn.params in
        let most = shaped.few in
        let all = length-append (push_row x.order) (makes_room x.room ∷ receive) in
        let same = length-unlinked rest in
        let up = upward_long x.order in
        record {
          words = r.after;
          flags = e.flags;
          segments = r.segments;
          comes =
              comes_wider (symbolic_step o) (1 + (1 + n)) (1 + (1 + n)) 1 100 t0 t3 (omega arith) (omega (arith, pushes, homes, most, all, same, five))
              (comes_join (symbolic_step o) 1 1 (1 + n) (1 + n) t0 t1 t3
              (row_comes o g code (suits.codes g fn is_function) out (unlinked one_fewer ∷ []) 0 (core_of w fl ss) (core_of w3 count.flags ss)
              (stands_one code 0 (unlinked one_fewer) (unlinked (Jcc Cond.Ae (pos 1)) ∷ unlinked Int3 ∷ (marked ++ blocks)) stands0) count.runs)
              (comes_join (symbolic_step o) 1 1 n n t1 t2 t3
              (comes_one (symbolic_step o) t1 t2 (branches o g code (suits.codes g fn is_function) out 7 (core_of w3 count.flags ss) Cond.Ae None (pos 1)
              (stands_one code 7 (unlinked (Jcc Cond.Ae (pos 1))) (unlinked Int3 ∷ (marked ++ blocks)) stands1) count.taken))
              (subst (λ p. Comes (symbolic_step o) n n t2 (standing out (Place.Code g p) (core_of r.after e.flags r.segments))) place
              (row_comes o g code (suits.codes g fn is_function) out marked 14 (core_of w3 count.flags ss) (core_of r.after e.flags r.segments) (stands_first code 14 marked blocks stands2)
              (ap (λ q. exec q (core_of w3 count.flags ss)) (instrs_of-unlinked rest) ∙ run)))));
          tied = r.tied;
          counter = r.depth;
          saved = λ q is.
              saved_same e.segments r.segments (upward x.order) (lower + x.room) q (held_in w q) (λ p from to. r.outside p (inr (omega (arith, from, rooms))))
              (saved_of e.segments (upward x.order) (lower + x.room) (in_order w3) q (held_in w q) e.saved (word_held w3 q ∙ home_count w depth q is));
          shape = shape_trans ss e.segments r.segments e.shape r.shape;
          outside = λ q c. r.outside q (elim c [ inl lt ↦ inl lt | inr le ↦ inr (omega (arith, le, rooms)) ]) ∙ outer q c;
        }
