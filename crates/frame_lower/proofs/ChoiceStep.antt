-- The end that leads to one of two blocks.
use Rattle.std.proofs.Common.{◌≡◌, ℕ, ◌+◌, ◌%◌, ◌^◌, ◌<◌, Bool, true, false, not, nat_eq, if◌then◌else◌, List, [], ◌∷◌, drop, Some, None, Ok, refl, sym, ◌∙◌, ap, subst, inl, inr, arith}
use Rattle.std.specs.Prelude.{slice_get}
use Rattle.behavior.specs.System.{System}
use Rattle.behavior.proofs.Stretch.{comes_one, comes_step, comes_wider, met_by}
use Rattle.ir_core.specs.Stops.{Answer, and_then}
use Rattle.x86_core.specs.declared.flags.Flags.{Flags}
use Rattle.x86_core.specs.declared.image.Segment.{Segment}
use Rattle.x86_core.specs.declared.reg.Reg.TheVariants.{Rax}
use Rattle.x86_core.specs.declared.instr.Cond.{Cond}
use Rattle.x86_core.specs.declared.instr.Instr.TheVariants.{Jcc, Jmp}
use Rattle.x86_core.specs.Arithmetic.{holds}
use Rattle.x86_core.specs.Step.{State}
use Rattle.low_core.specs.declared.sel.SelBlock.{SelBlock}
use Rattle.low_core.specs.declared.sel.SelEnd.TheVariants as end
use Rattle.low_core.specs.declared.sel.Sel.{Sel}
use Rattle.low_core.specs.Flat.{Bytes}
use Rattle.low_core.specs.Plan.{Plan, Content}
use Rattle.low_core.specs.SelParts.{IsOneOf, leads_to, end_reads}
use Rattle.low_core.specs.SelState.{SelFrame, SelState, SelTurn, sel_turned, word_in}
use Rattle.low_core.specs.SelStep.{to_block, end_turn}
use Rattle.obj_core.specs.declared.object.Object.{Object}
use Rattle.obj_core.specs.declared.object.Place.{Place}
use Rattle.obj_core.specs.Disassembly.{size_of}
use Rattle.obj_core.specs.SymbolicMachine.{symbolic_step}
use Rattle.obj_rows.specs.Marked.{Marked, unlinked, row_size, Stands}
use Rattle.obj_rows.specs.Standing.{Outside, standing}
use Rattle.obj_rows.proofs.Branches.{branches, falls}
use Rattle.obj_rows.proofs.Rows.{stands_one, stands_next}
use Rattle.obj_rows.proofs.Runs.{step_through}
use Rattle.frame_rows.specs.Code.{home_read}
use Rattle.frame_rows.specs.Words.{Words, core_of}
use Rattle.frame_rows.proofs.Meeting.{word_cases}
use Rattle.frame_rows.proofs.Registers.{Same}
use Rattle.frame_rows.proofs.Results.{reads_one}
use Rattle.frame_lower.specs.Chain.{function_in, code_in, starts_in, rest_in}
use Rattle.frame_lower.specs.Rows.{Making, between}
use Rattle.frame_lower.specs.Suits.{Suits}
use Rattle.frame_lower.proofs.Bits.{low_bit, bit_law}
use Rattle.frame_lower.proofs.Branching.{arrives, end_here, jumps_to, low, low_start}
use Rattle.frame_lower.proofs.Displacements.{leads}
use Rattle.frame_lower.proofs.PlainStep.{Turned}
use Rattle.frame_lower.specs.Meaning.{most_steps}
use Rattle.frame_lower.proofs.Stage.{state_of, flat_in, Whole, Stage, A, B}

module _ (o : Object) (sel : Sel) (plan : Plan) (contents : List Content) (by : ℕ → Making) (live : ℕ → ℕ → ℕ → ℕ → Type 0) (suits : Suits o sel plan contents by live) (input : List ℕ) where
  abbrev A_ : System SelState
  A_ = A o sel plan contents by live suits input

  abbrev B_ : System (State Place)
  B_ = B o sel plan contents by live suits input

  abbrev Stage_ : SelState → State Place → Type 0
  Stage_ = Stage o sel plan contents by live suits input

  abbrev step : State Place → State Place
  step = symbolic_step o

  module _ (f : SelFrame) (callers : List SelFrame) (bytes : Bytes) (printed : List ℕ) (taken depth : ℕ) (w : Words) (fl : Flags) (ss : List Segment) (off : ℕ) (b : SelBlock)
      (is_function : slice_get sel.functions f.function ≡ Some (function_in sel f.function)) (is_block : slice_get (function_in sel f.function).blocks f.block ≡ Some b)
      (stands : Stands (code_in sel by f.function) off (rest_in sel by f.function off f.block f.next b)) (whole : Whole o sel plan contents by live suits input f depth callers (live f.function f.block f.next) bytes w ss)
      (none : slice_get b.ops f.next ≡ None) where
    abbrev s : SelState
    s = state_of f callers bytes printed taken

    abbrev out : Outside
    out = record { left = drop taken input; printed = printed; taken = taken }

    abbrev at : ℕ → Words → Flags → State Place
    at p v fl2 = standing out (Place.Code f.function p) (core_of v fl2 ss)

    abbrev Turned_ : Answer SelTurn → Type 0
    Turned_ = Turned o sel plan contents by live suits input f callers bytes printed taken depth w fl ss off b is_function is_block stands whole

    abbrev row : List Marked
    row = code_in sel by f.function

    abbrev start : ℕ → ℕ
    start = starts_in sel by f.function

    -- a branch whose test is known
    tests : (p to : ℕ) (q : Bool) (v : Words) (fl2 : Flags) → to < 2 ^ 31 → p + 6 < 2 ^ 31 → holds Cond.Ne fl2 ≡ Some q → Stands row p (unlinked (Jcc Cond.Ne (between (p + 6) to)) ∷ []) →
        step (at p v fl2) ≡ (if q then at to v fl2 else at (p + 6) v fl2)
    tests p to true v fl2 a z h stood =
        branches o f.function row (suits.codes f.function _ is_function) out p (core_of v fl2 ss) Cond.Ne None (between (p + 6) to) stood h ∙ ap (λ q. at q v fl2) (leads (p + 6) to z a)
    tests p to false v fl2 a z h stood = falls o f.function row (suits.codes f.function _ is_function) out p (core_of v fl2 ss) Cond.Ne None (between (p + 6) to) stood h

    if_word : (c d e v : ℕ) → b.end ≡ end.If c d e → word_in f.registers c ≡ Ok v → Turned_ (to_block s f callers (if nat_eq (v % 2) 0 then e else d))
    if_word c d e v is told =
        let i = home_read ((by f.function).homes c) Rax in
        let p1 = off + size_of i in
        let p2 = p1 + size_of low_bit in
        let p3 = p2 + 6 in
        let back = off + (size_of i + (size_of low_bit + 0)) in
        let jcc : Marked = unlinked (Jcc Cond.Ne (between (back + 6) (start d))) in
        let jmp : Marked = unlinked (Jmp (between (back + 11) (start e))) in
        let h0 : Stands row off (unlinked i ∷ unlinked low_bit ∷ jcc ∷ jmp ∷ []) =
        end_here o sel plan contents by live suits input f callers bytes printed taken depth w fl ss off b is_function is_block stands whole none (end.If c d e) is in
        let h1 : Stands row p1 (unlinked low_bit ∷ jcc ∷ jmp ∷ []) = stands_next row off (unlinked i) (unlinked low_bit ∷ jcc ∷ jmp ∷ []) h0 in
        let h2 : Stands row p2 (jcc ∷ jmp ∷ []) = stands_next row p1 (unlinked low_bit) (jcc ∷ jmp ∷ []) h1 in
        let h3 : Stands row p3 (jmp ∷ []) = stands_next row p2 jcc (jmp ∷ []) h2 in
        let same : back ≡ p2 = omega arith in
        let last : back + 11 ≡ p3 + 5 = omega arith in
        let near : p3 + row_size (jmp ∷ []) < 2 ^ 31 = low o sel plan contents by live suits input f callers bytes printed taken depth w fl ss off b is_function is_block stands whole none p3 (jmp ∷ []) h3 in
        let w1 : Words = record w { rax = v } in
        let bit = bit_law w1 fl ss in
        let w2 : Words = record w { rax = v % 2 } in
        let to_d : IsOneOf d (leads_to b.end) = subst (λ x. IsOneOf d (leads_to x)) (sym is) (inl refl) in
        let to_e : IsOneOf e (leads_to b.end) = subst (λ x. IsOneOf e (leads_to x)) (sym is) (inr (inl refl)) in
        let alive = (suits.allotted f.function _ is_function).end_reads f.block f.next c b is_block none (subst (λ x. IsOneOf c (end_reads x)) (sym is) (inl refl)) in
        let s0 : step (at off w fl) ≡ at p1 w1 fl = step_through o f.function row (suits.codes f.function _ is_function) out off (unlinked i) (core_of w fl ss) (core_of w1 fl ss)
        (stands_one row off (unlinked i) (unlinked low_bit ∷ jcc ∷ jmp ∷ []) h0)
        (reads_one (by f.function).homes f.base (by f.function).words (live f.function f.block f.next) f.registers (flat_in o sel plan contents by live suits input (f ∷ callers) bytes) w fl ss whole.tied c v Rax alive told) in
        let s1 : step (at p1 w1 fl) ≡ at p2 w2 bit.flags = step_through o f.function row (suits.codes f.function _ is_function) out p1 (unlinked low_bit) (core_of w1 fl ss) (core_of w2 bit.flags ss)
        (stands_one row p1 (unlinked low_bit) (jcc ∷ jmp ∷ []) h1) bit.runs in
        let j2 : Stands row p2 (unlinked (Jcc Cond.Ne (between (p2 + 6) (start d))) ∷ []) = subst (λ q. Stands row p2 (unlinked (Jcc Cond.Ne (between (q + 6) (start d))) ∷ [])) same (stands_one row p2 jcc (jmp ∷ []) h2) in
        let j3 : Stands row p3 (unlinked (Jmp (between (p3 + 5) (start e))) ∷ []) = subst (λ q. Stands row p3 (unlinked (Jmp (between q (start e))) ∷ [])) last h3 in
        let low_d = low_start o sel plan contents by live suits input f callers bytes printed taken depth w fl ss off b is_function is_block stands whole none d to_d in
        let low_e = low_start o sel plan contents by live suits input f callers bytes printed taken depth w fl ss off b is_function is_block stands whole none e to_e in
        let s2 : (q : Bool) → not (nat_eq (v % 2) 0) ≡ q → step (at p2 w2 bit.flags) ≡ (if q then at (start d) w2 bit.flags else at p3 w2 bit.flags) =
        λ q eq. tests p2 (start d) q w2 bit.flags low_d (omega (arith, near)) (bit.tells ∙ ap Some eq) j2 in
        let s3 : step (at p3 w2 bit.flags) ≡ at (start e) w2 bit.flags =
        jumps_to o sel plan contents by live suits input f callers bytes printed taken depth w fl ss off b is_function is_block stands whole none p3 (start e) w2 bit.flags low_e (omega (arith, near)) j3 in
        let kept : Same w w2 = record { rbx = refl; rbp = refl; rsp = refl; r12 = refl; r13 = refl; r14 = refl; r15 = refl } in
        by_test (nat_eq (v % 2) 0) refl
        (λ eq. inr (met_by A_ B_ Stage_ (λ _. 0) most_steps s (sel_turned s (to_block s f callers d)) (at off w fl) (at (start d) w2 bit.flags)
        (comes_wider step 3 3 1 most_steps (at off w fl) (at (start d) w2 bit.flags) (omega arith) (omega arith)
        (comes_step step 2 2 (at off w fl) (at p1 w1 fl) (at (start d) w2 bit.flags) s0
        (comes_step step 1 1 (at p1 w1 fl) (at p2 w2 bit.flags) (at (start d) w2 bit.flags) s1 (comes_one step (at p2 w2 bit.flags) (at (start d) w2 bit.flags) (s2 true (ap not eq))))))
        (inl (arrives o sel plan contents by live suits input f callers bytes printed taken depth w fl ss off b is_function is_block stands whole none d w2 bit.flags to_d kept))))
        (λ eq. inr (met_by A_ B_ Stage_ (λ _. 0) most_steps s (sel_turned s (to_block s f callers e)) (at off w fl) (at (start e) w2 bit.flags)
        (comes_wider step 4 4 1 most_steps (at off w fl) (at (start e) w2 bit.flags) (omega arith) (omega arith)
        (comes_step step 3 3 (at off w fl) (at p1 w1 fl) (at (start e) w2 bit.flags) s0
        (comes_step step 2 2 (at p1 w1 fl) (at p2 w2 bit.flags) (at (start e) w2 bit.flags) s1
        (comes_step step 1 1 (at p2 w2 bit.flags) (at p3 w2 bit.flags) (at (start e) w2 bit.flags) (s2 false (ap not eq)) (comes_one step (at p3 w2 bit.flags) (at (start e) w2 bit.flags) s3)))))
        (inl (arrives o sel plan contents by live suits input f callers bytes printed taken depth w fl ss off b is_function is_block stands whole none e w2 bit.flags to_e kept))))
      where
        by_test : (q : Bool) → nat_eq (v % 2) 0 ≡ q → (nat_eq (v % 2) 0 ≡ false → Turned_ (to_block s f callers d)) → (nat_eq (v % 2) 0 ≡ true → Turned_ (to_block s f callers e)) →
            Turned_ (to_block s f callers (if nat_eq (v % 2) 0 then e else d))
        by_test true eq one other = subst (λ q. Turned_ (to_block s f callers (if q then e else d))) (sym eq) (other eq)
        by_test false eq one other = subst (λ q. Turned_ (to_block s f callers (if q then e else d))) (sym eq) (one eq)

    -- a register without a word leaves the run
    pub if_step : (c d e : ℕ) → b.end ≡ end.If c d e → Turned_ (end_turn s f callers (end.If c d e))
    if_step c d e is = elim (word_cases f.registers c) [
      | inl p ↦ subst (λ q. Turned_ (and_then q (λ n. to_block s f callers (if nat_eq (n % 2) 0 then e else d)))) (sym p.1) (if_word c d e p.0 is p.1)
      | inr n ↦ subst (λ q. Turned_ (and_then q (λ n. to_block s f callers (if nat_eq (n % 2) 0 then e else d)))) (sym n) (inl refl)
    ]
