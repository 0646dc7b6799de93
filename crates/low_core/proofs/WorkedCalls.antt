-- Runs of small programs of registers with several blocks and calls, computed, and where a loop needs a register.
use Rattle.std.proofs.Common.{◌≡◌, ℕ, List, [], ◌∷◌, inl, inr, true, false, refl, sym, subst, Some, None, Err, arith}
use Rattle.rd_num.specs.declared.width.Width.TheVariants.{W8, W16, W32, W64}
use Rattle.behavior.specs.Ending.{Ending, Going, Ended, Trap, Left}
use Rattle.behavior.specs.Moment.{Moment}
use Rattle.ir_core.specs.declared.memory.Reason.TheVariants.{Bounds, Unset}
use Rattle.ir_core.specs.Stops.{reason_number}
use Rattle.low_core.specs.declared.sel.SelAlu.TheVariants.{Add, Sar, Shl, Sub}
use Rattle.low_core.specs.declared.sel.Which.TheVariants.{Putchar, Getchar, Exit, Memcpy, Memset}
use Rattle.low_core.specs.declared.sel.Which.TheVariants as outer
use Rattle.low_core.specs.declared.sel.SelOp.{SelOp}
use Rattle.low_core.specs.declared.sel.SelOp.TheVariants.{Set, Copy, Alu, Div, Load, Store, FrameAt, GlobalAt, Call, CallAt, Outside}
use Rattle.low_core.specs.declared.sel.SelEnd.{SelEnd}
use Rattle.low_core.specs.declared.sel.SelEnd.TheVariants.{Go, If, Ret}
use Rattle.low_core.specs.declared.sel.SelEnd.TheVariants as end
use Rattle.low_core.specs.declared.sel.SelBlock.{SelBlock}
use Rattle.low_core.specs.declared.sel.SelFun.{SelFun}
use Rattle.low_core.specs.declared.sel.Sel.{Sel}
use Rattle.low_core.specs.Plan.{Plan, Content, FramePlan}
use Rattle.std.specs.Prelude.{replicate, is_ok}
use Rattle.ir_core.specs.Stops.{Depth}
use Rattle.low_core.specs.SelParts.{IsOneOf}
use Rattle.low_core.specs.SelState.{SelState, SelFrame, first_sel_frame}
use Rattle.low_core.specs.SelStep.{sel_step, begins}
use Rattle.low_core.specs.SelRun.{sel_start, sel_run}
use Rattle.low_core.specs.SelWeights.{calls_of}
use Rattle.low_core.specs.Liveness.{Needed, Here, Later, Reads, Follows, Does, Ends}

-- a block, a function of eight registers with sixteen bytes of its own, and a program that begins in the first of its functions
abbrev block : List SelOp → SelEnd → SelBlock
block ops end = record { ops = ops; end = end }

abbrev fun : List ℕ → List SelBlock → SelFun
fun params blocks = record { params = params; registers = 8; frame = 16; blocks = blocks }

abbrev program : List SelFun → Sel
program fs = record { functions = fs; main = 0; taken = true ∷ true ∷ true ∷ [] }

abbrev fp : FramePlan
fp = record { bytes = 256; allocas = 64 }

-- two globals that touch
abbrev plan : Plan
plan = record { globals = 805306368 ∷ 805306372 ∷ []; functions = 268435456 ∷ 268435472 ∷ 268435488 ∷ []; frames = fp ∷ fp ∷ fp ∷ [] }

abbrev contents : List Content
contents = record { constant = false; bytes = 1 ∷ 2 ∷ 3 ∷ 4 ∷ [] } ∷ record { constant = false; bytes = 5 ∷ 0 ∷ 6 ∷ 7 ∷ [] } ∷ []

abbrev shown : List ℕ → ℕ → Ending → Moment
shown printed taken ending = record { printed = printed; taken = taken; ending = ending }

abbrev runs : List SelFun → List ℕ → ℕ → Moment
runs fs input n = sel_run (program fs) plan contents input n

-- by the low bit, and on to another block
odd : runs (fun [] (block (Set 1 3 ∷ []) (If 1 1 2) ∷ block (Set 0 7 ∷ []) (Ret (Some 0)) ∷ block (Set 0 8 ∷ []) (Go 1) ∷ []) ∷ []) [] 4 ≡ shown [] 0 (Ended 7)
unfolding sel_run sel_start sel_step
odd = refl

even : runs (fun [] (block (Set 1 2 ∷ []) (If 1 1 2) ∷ block (Set 0 7 ∷ []) (Ret (Some 0)) ∷ block (Set 0 8 ∷ []) (Ret (Some 0)) ∷ []) ∷ []) [] 4 ≡ shown [] 0 (Ended 8)
unfolding sel_run sel_start sel_step
even = refl

-- a callee writes into the caller's own memory, 4 + 3 registers
through : runs (fun [] (block (FrameAt 0 0 ∷ Call 1 None (0 ∷ []) ∷ Load W8 1 0 ∷ []) (Ret (Some 1)) ∷ []) ∷ fun (3 ∷ []) (block (Set 1 9 ∷ Store W8 3 1 ∷ []) (Ret None) ∷ []) ∷ []) [] 7 ≡ shown [] 0 (Ended 9)
unfolding sel_run sel_start sel_step
through = refl

-- memory of a call that has returned
gone : runs (fun [] (block (Call 1 (Some 0) [] ∷ Store W8 0 0 ∷ []) (Ret (Some 0)) ∷ []) ∷ fun [] (block (FrameAt 1 0 ∷ []) (Ret (Some 1)) ∷ []) ∷ []) [] 4 ≡ shown [] 0 (Left (reason_number Bounds))
unfolding sel_run sel_start sel_step
gone = refl

-- a second call doesn't see what the first stored
again : runs (fun [] (block (Set 0 1 ∷ Call 1 (Some 0) (0 ∷ []) ∷ Set 1 0 ∷ Call 1 (Some 0) (1 ∷ []) ∷ []) (Ret (Some 0)) ∷ [])
    ∷ fun (0 ∷ []) (block (FrameAt 1 0 ∷ []) (If 0 1 2) ∷ block (Store W8 1 0 ∷ []) (Ret (Some 0)) ∷ block (Load W8 2 1 ∷ []) (Ret (Some 2)) ∷ []) ∷ []) [] 11 ≡ shown [] 0 (Left (reason_number Unset))
unfolding sel_run sel_start sel_step
again = refl

-- two globals side by side aren't one
across : runs (fun [] (block (GlobalAt 0 0 ∷ Load W64 1 0 ∷ []) (Ret (Some 1)) ∷ []) ∷ []) [] 2 ≡ shown [] 0 (Left (reason_number Bounds))
unfolding sel_run sel_start sel_step
across = refl

-- an argument without a word comes before the callee
unset_first : runs (fun [] (block (Set 0 0 ∷ CallAt 0 None (1 ∷ []) ∷ []) (Ret (Some 0)) ∷ []) ∷ []) [] 2 ≡ shown [] 0 (Left (reason_number Unset))
unfolding sel_run sel_start sel_step
unset_first = refl

-- the first call has 0 and 0; a later call of the same function returns to its caller
main_again : runs (fun (0 ∷ 1 ∷ []) (block [] (If 0 1 2) ∷ block (Set 2 5 ∷ []) (Ret (Some 2)) ∷ block (Set 3 1 ∷ Call 0 (Some 4) (3 ∷ 1 ∷ []) ∷ Alu Add W32 5 4 3 ∷ []) (Ret (Some 5)) ∷ []) ∷ []) [] 8 ≡ shown [] 0 (Ended 6)
unfolding sel_run sel_start sel_step
main_again = refl

-- upper bits go, and shift amounts count modulo the width; the remainder has the sign of the first
narrow : runs (fun [] (block (Set 0 511 ∷ Set 1 2 ∷ Alu Add W8 2 0 1 ∷ Set 3 9 ∷ Alu Shl W8 4 2 3 ∷ []) (Ret (Some 4)) ∷ []) ∷ []) [] 6 ≡ shown [] 0 (Ended 2)
unfolding sel_run sel_start sel_step
narrow = refl

remainder : runs (fun [] (block (Set 0 249 ∷ Set 1 2 ∷ Div true true W8 2 0 1 ∷ []) (Ret (Some 2)) ∷ []) ∷ []) [] 4 ≡ shown [] 0 (Ended 255)
unfolding sel_run sel_start sel_step
remainder = refl

-- bytes are copied and filled
moved : runs (fun [] (block (FrameAt 0 0 ∷ GlobalAt 1 1 ∷ Set 2 4 ∷ Outside Memcpy None (0 ∷ 1 ∷ 2 ∷ []) ∷ Load W32 3 0 ∷ Set 4 24 ∷ Alu Sar W32 5 3 4 ∷ []) (Ret (Some 5)) ∷ []) ∷ []) [] 8 ≡ shown [] 0 (Ended 7)
unfolding sel_run sel_start sel_step
moved = refl

filled_with : runs (fun [] (block (FrameAt 0 0 ∷ Set 1 770 ∷ Set 2 16 ∷ Outside Memset None (0 ∷ 1 ∷ 2 ∷ []) ∷ FrameAt 3 14 ∷ Load W16 4 3 ∷ Set 5 8 ∷ Alu Sar W64 6 4 5 ∷ []) (Ret (Some 6)) ∷ []) ∷ []) [] 9 ≡ shown [] 0 (Ended 2)
unfolding sel_run sel_start sel_step
filled_with = refl

stops : runs (fun [] (block (Outside outer.Trap None [] ∷ []) end.Trap ∷ []) ∷ []) [] 1 ≡ shown [] 0 Trap
unfolding sel_run sel_start sel_step
stops = refl

exits : runs (fun [] (block (Set 0 258 ∷ Outside Exit None (0 ∷ []) ∷ []) end.Trap ∷ []) ∷ []) [] 2 ≡ shown [] 0 (Ended 2)
unfolding sel_run sel_start sel_step
exits = refl

-- a trap is no call that goes by a slot
trap_not_counted : calls_of (program (fun [] (block (Outside outer.Trap None [] ∷ []) end.Trap ∷ []) ∷ [])) ≡ 0
trap_not_counted = refl

ends_in_trap : runs (fun [] (block [] end.Trap ∷ []) ∷ []) [] 1 ≡ shown [] 0 Trap
unfolding sel_run sel_start sel_step
ends_in_trap = refl

-- the own memory begins at the 64th byte of the frame, which ends where the stack does: 3221225472 - 256 + 64
own_place : runs (fun [] (block (FrameAt 0 3 ∷ Set 1 3221225280 ∷ Alu Sub W64 2 0 1 ∷ []) (Ret (Some 2)) ∷ []) ∷ []) [] 4 ≡ shown [] 0 (Ended 3)
unfolding sel_run sel_start sel_step
own_place = refl

-- a loop: register 0 is assigned before it and read at its head, so it is needed at its end
abbrev loop : SelFun
loop = fun [] (block (Set 0 1 ∷ []) (Go 1) ∷ block (Copy 1 0 ∷ []) (Go 2) ∷ block (Set 2 5 ∷ []) (If 2 1 3) ∷ block [] (Ret (Some 1)) ∷ [])

at_the_tail : Needed loop 0 6
at_the_tail = Later 6 3 (Ends (If 2 1 3)) refl (λ h. h) (1, (inl refl, refl)) (Here 3 (Does (Copy 1 0)) refl (inl refl))

-- at its end it isn't
not_at_the_end : Needed loop 0 7 → ⊥
not_at_the_end (Here p x is reads) =
    let same : Ends (Ret (Some 1)) ≡ x = cc in
    none (subst (λ y. Reads y 0) (sym same) reads)
  where
    none : IsOneOf 0 (1 ∷ []) → ⊥
    none (inl e) = absurd (omega (arith, e))
    none (inr h) = h
not_at_the_end (Later p q x is kept follows more) =
    let same : Ends (Ret (Some 1)) ≡ x = cc in
    let goes : Follows loop (Ends (Ret (Some 1))) 7 q = subst (λ y. Follows loop y 7 q) (sym same) follows in
    goes.1.0

-- one call is too many where 8,192 are active, and not where one fewer is
abbrev call : SelFrame
call = first_sel_frame 0 (fun [] []) fp 3221225472 [] None

abbrev active : ℕ → SelState
active n = record { frames = replicate n call; bytes = λ p. None; printed = []; taken = 0; ending = Going }

too_deep : begins (active 8192) call [] call ≡ Err Depth
too_deep = refl

deep_enough : is_ok (begins (active 8191) call [] call) ≡ true
deep_enough = refl
