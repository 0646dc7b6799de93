-- A step at the end of a block.
use Rattle.std.proofs.Common.{◌≡◌, ℕ, ◌^◌, ◌<◌, List, [], ◌∷◌, Option, Some, None, Ok, refl, sym, ◌∙◌, subst, inl, inr, arith}
use Rattle.std.specs.Prelude.{slice_get}
use Rattle.ir_core.specs.Stops.{Answer, and_then}
use Rattle.x86_core.specs.declared.flags.Flags.{Flags}
use Rattle.x86_core.specs.declared.image.Segment.{Segment}
use Rattle.x86_core.specs.declared.reg.Reg.TheVariants.{Rax}
use Rattle.x86_rows.specs.Straight.{Through, exec}
use Rattle.x86_rows.proofs.Rows.{exec-first}
use Rattle.low_core.specs.declared.sel.SelBlock.{SelBlock}
use Rattle.low_core.specs.declared.sel.SelEnd.{SelEnd}
use Rattle.low_core.specs.declared.sel.SelEnd.TheVariants.{Go, If, Ret}
use Rattle.low_core.specs.declared.sel.SelEnd.TheVariants as end
use Rattle.low_core.specs.declared.sel.Sel.{Sel}
use Rattle.low_core.specs.Flat.{Bytes}
use Rattle.low_core.specs.Plan.{Plan, Content}
use Rattle.low_core.specs.SelParts.{IsOneOf, end_reads}
use Rattle.low_core.specs.SelState.{SelFrame, SelState, SelTurn, word_in}
use Rattle.low_core.specs.SelStep.{goes, delivered, with_result, returns_with, end_turn}
use Rattle.obj_core.specs.declared.object.Object.{Object}
use Rattle.obj_rows.specs.Marked.{all_unlinked, Stands}
use Rattle.obj_rows.proofs.Rows.{stands_first}
use Rattle.frame_rows.specs.Code.{home_read}
use Rattle.frame_rows.specs.Words.{Words, core_of}
use Rattle.frame_rows.proofs.Meeting.{word_cases}
use Rattle.frame_rows.proofs.Registers.{Same}
use Rattle.frame_rows.proofs.Results.{reads_one}
use Rattle.frame_lower.specs.Chain.{function_in, code_in, rest_in}
use Rattle.frame_lower.specs.Rows.{Making, leave_row}
use Rattle.frame_lower.specs.Suits.{Suits}
use Rattle.frame_lower.proofs.Branching.{end_here, go_step, trap_step}
use Rattle.frame_lower.proofs.ChoiceStep.{if_step}
use Rattle.frame_lower.proofs.LastStep.{ended}
use Rattle.frame_lower.proofs.PlainStep.{Turned}
use Rattle.frame_lower.proofs.RetStep.{returned}
use Rattle.frame_lower.proofs.Stage.{flat_in, state_of, Whole}

module _ (o : Object) (sel : Sel) (plan : Plan) (contents : List Content) (by : ℕ → Making) (live : ℕ → ℕ → ℕ → ℕ → Type 0) (suits : Suits o sel plan contents by live) (input : List ℕ) where
  module _ (f : SelFrame) (callers : List SelFrame) (bytes : Bytes) (printed : List ℕ) (taken depth : ℕ) (w : Words) (fl : Flags) (ss : List Segment) (off : ℕ) (b : SelBlock)
      (is_function : slice_get sel.functions f.function ≡ Some (function_in sel f.function)) (is_block : slice_get (function_in sel f.function).blocks f.block ≡ Some b)
      (stands : Stands (code_in sel by f.function) off (rest_in sel by f.function off f.block f.next b)) (whole : Whole o sel plan contents by live suits input f depth callers (live f.function f.block f.next) bytes w ss)
      (none : slice_get b.ops f.next ≡ None) where
    abbrev s : SelState
    s = state_of f callers bytes printed taken

    abbrev Turned_ : Answer SelTurn → Type 0
    Turned_ = Turned o sel plan contents by live suits input f callers bytes printed taken depth w fl ss off b is_function is_block stands whole

    -- with a result in rax
    gives : (r n : ℕ) → b.end ≡ Ret (Some r) → word_in f.registers r ≡ Ok n → Turned_ (returns_with s f callers (Some n))
    gives r n is told =
        let x = by f.function in
        let i = home_read (x.homes r) Rax in
        let w1 : Words = record w { rax = n } in
        let alive = (suits.allotted f.function _ is_function).end_reads f.block f.next r b is_block none (subst (λ e. IsOneOf r (end_reads e)) (sym is) (inl refl)) in
        let runs : exec (i ∷ []) (core_of w fl ss) ≡ Through (core_of w1 fl ss) =
        exec-first i [] (core_of w fl ss) (core_of w1 fl ss) (reads_one x.homes f.base x.words (live f.function f.block f.next) f.registers (flat_in o sel plan contents by live suits input (f ∷ callers) bytes) w fl ss whole.tied
        r n Rax alive told) in
        let same : Same w w1 = record { rbx = refl; rbp = refl; rsp = refl; r12 = refl; r13 = refl; r14 = refl; r15 = refl } in
        let closes : Stands (code_in sel by f.function) off (all_unlinked (i ∷ leave_row x)) =
        stands_first (code_in sel by f.function) off (all_unlinked (i ∷ leave_row x)) []
        (end_here o sel plan contents by live suits input f callers bytes printed taken depth w fl ss off b is_function is_block stands whole none (Ret (Some r)) is) in
        by_callers callers whole runs same closes (whole.tied.small r n told)
      where
        by_callers : (xs : List SelFrame) (whole2 : Whole o sel plan contents by live suits input f depth xs (live f.function f.block f.next) bytes w ss) →
            exec (home_read ((by f.function).homes r) Rax ∷ []) (core_of w fl ss) ≡ Through (core_of (record w { rax = n }) fl ss) → Same w (record w { rax = n }) →
            Stands (code_in sel by f.function) off (all_unlinked (home_read ((by f.function).homes r) Rax ∷ leave_row (by f.function))) → n < 2 ^ 64 →
            Turned o sel plan contents by live suits input f xs bytes printed taken depth w fl ss off b is_function is_block stands whole2 (returns_with (state_of f xs bytes printed taken) f xs (Some n))
        by_callers [] whole2 runs same closes small =
            ended o sel plan contents by live suits input f bytes printed taken depth w fl ss off b is_function is_block stands whole2 (home_read ((by f.function).homes r) Rax ∷ []) (record w { rax = n }) runs (omega arith) same
            closes n refl
        by_callers (z ∷ zs) whole2 runs same closes small =
            let s2 = state_of f (z ∷ zs) bytes printed taken in
            subst (λ q. Turned o sel plan contents by live suits input f (z ∷ zs) bytes printed taken depth w fl ss off b is_function is_block stands whole2 (and_then q (λ h. goes s2 (h ∷ zs)))) (sym (delivers f.into z))
            (returned o sel plan contents by live suits input f z zs bytes printed taken depth w fl ss off b is_function is_block stands whole2 (home_read ((by f.function).homes r) Rax ∷ []) (record w { rax = n }) runs (omega arith)
            same closes n (λ q e. (refl, small)))
          where
            delivers : (into : Option ℕ) (z : SelFrame) → delivered into (Some n) z ≡ Ok (record z { registers = with_result into n z.registers })
            delivers (Some r) z = refl
            delivers None z = refl

    -- without one
    gives_none : b.end ≡ Ret None → Turned_ (returns_with s f callers None)
    gives_none is =
        let x = by f.function in
        let same : Same w w = record { rbx = refl; rbp = refl; rsp = refl; r12 = refl; r13 = refl; r14 = refl; r15 = refl } in
        let closes : Stands (code_in sel by f.function) off (all_unlinked (leave_row x)) =
        stands_first (code_in sel by f.function) off (all_unlinked (leave_row x)) []
        (end_here o sel plan contents by live suits input f callers bytes printed taken depth w fl ss off b is_function is_block stands whole none (Ret None) is) in
        by_callers callers whole same closes
      where
        by_callers : (xs : List SelFrame) (whole2 : Whole o sel plan contents by live suits input f depth xs (live f.function f.block f.next) bytes w ss) → Same w w →
            Stands (code_in sel by f.function) off (all_unlinked (leave_row (by f.function))) →
            Turned o sel plan contents by live suits input f xs bytes printed taken depth w fl ss off b is_function is_block stands whole2 (returns_with (state_of f xs bytes printed taken) f xs None)
        by_callers [] whole2 same closes = inl refl
        by_callers (z ∷ zs) whole2 same closes = by_into f.into refl
          where
            no_result : (r : ℕ) → f.into ≡ Some r → f.into ≡ None → ⊥
            no_result r e n = let z : None ≡ Some r = sym n ∙ e in absurd (cc)

            by_into : (into : Option ℕ) → f.into ≡ into → Turned o sel plan contents by live suits input f (z ∷ zs) bytes printed taken depth w fl ss off b is_function is_block stands whole2
                (and_then (delivered f.into None z) (λ h. goes (state_of f (z ∷ zs) bytes printed taken) (h ∷ zs)))
            by_into (Some r) e = subst (λ q. Turned o sel plan contents by live suits input f (z ∷ zs) bytes printed taken depth w fl ss off b is_function is_block stands whole2
                (and_then (delivered q None z) (λ h. goes (state_of f (z ∷ zs) bytes printed taken) (h ∷ zs)))) (sym e) (inl refl)
            by_into None e =
                subst (λ q. Turned o sel plan contents by live suits input f (z ∷ zs) bytes printed taken depth w fl ss off b is_function is_block stands whole2
                (and_then (delivered q None z) (λ h. goes (state_of f (z ∷ zs) bytes printed taken) (h ∷ zs)))) (sym e)
                (subst (λ q. Turned o sel plan contents by live suits input f (z ∷ zs) bytes printed taken depth w fl ss off b is_function is_block stands whole2
                (goes (state_of f (z ∷ zs) bytes printed taken) (record z { registers = with_result q 0 z.registers } ∷ zs))) e
                (returned o sel plan contents by live suits input f z zs bytes printed taken depth w fl ss off b is_function is_block stands whole2 [] w refl (omega arith) same closes 0 (λ r g. absurd (no_result r g e))))

    -- by the end's kind
    by_end : (e : SelEnd) → b.end ≡ e → Turned_ (end_turn s f callers e)
    by_end (Go d) is = go_step o sel plan contents by live suits input f callers bytes printed taken depth w fl ss off b is_function is_block stands whole none d is
    by_end (If c d e) is = if_step o sel plan contents by live suits input f callers bytes printed taken depth w fl ss off b is_function is_block stands whole none c d e is
    by_end (Ret (Some r)) is = elim (word_cases f.registers r) [
      | inl p ↦ subst (λ q. Turned_ (and_then q (λ n. returns_with s f callers (Some n)))) (sym p.1) (gives r p.0 is p.1)
      | inr n ↦ subst (λ q. Turned_ (and_then q (λ m. returns_with s f callers (Some m)))) (sym n) (inl refl)
    ]
    by_end (Ret None) is = gives_none is
    by_end end.Trap is = trap_step o sel plan contents by live suits input f callers bytes printed taken depth w fl ss off b is_function is_block stands whole none is

    pub end_step : Turned_ (end_turn s f callers b.end)
    end_step = by_end b.end refl
