-- Runs of small programs of registers, computed.
use Rattle.std.proofs.Common.{◌≡◌, ℕ, List, [], ◌∷◌, true, false, refl, Some, None}
use Rattle.rd_num.specs.declared.width.Width.TheVariants.{W1, W8, W16, W32, W64}
use Rattle.behavior.specs.Ending.{Ending, Ended, Divide, Left}
use Rattle.behavior.specs.Moment.{Moment}
use Rattle.ir_core.specs.declared.instruction.Pred.TheVariants.{Slt, Ult}
use Rattle.ir_core.specs.declared.memory.Reason.TheVariants.{Bounds, Unset, Overlap}
use Rattle.ir_core.specs.Stops.{reason_number}
use Rattle.low_core.specs.declared.sel.SelAlu.TheVariants.{Add, Sar}
use Rattle.low_core.specs.declared.sel.Which.TheVariants.{Putchar, Getchar, Memcpy, Memset}
use Rattle.low_core.specs.declared.sel.SelOp.{SelOp}
use Rattle.low_core.specs.declared.sel.SelOp.TheVariants.{Set, Copy, Alu, Div, Widen, Test, Pick, Load, Store, FrameAt, GlobalAt, FunctionAt, Call, CallAt, Outside}
use Rattle.low_core.specs.declared.sel.SelEnd.{SelEnd}
use Rattle.low_core.specs.declared.sel.SelEnd.TheVariants.{Ret}
use Rattle.low_core.specs.declared.sel.SelBlock.{SelBlock}
use Rattle.low_core.specs.declared.sel.SelFun.{SelFun}
use Rattle.low_core.specs.declared.sel.Sel.{Sel}
use Rattle.low_core.specs.Plan.{Plan, Content}
use Rattle.low_core.specs.SelStep.{sel_step}
use Rattle.low_core.specs.SelRun.{sel_start, sel_run}

-- a block, a function of eight registers with sixteen bytes of its own, and a program that begins in its first function
abbrev block : List SelOp → SelEnd → SelBlock
block ops end = record { ops = ops; end = end }

abbrev function : List ℕ → List SelOp → SelEnd → SelFun
function params ops end = record { params = params; registers = 8; frame = 16; blocks = block ops end ∷ [] }

-- a second function adds its two parameters, a third gives nothing; pointers to the first two may arise
abbrev program : List SelOp → SelEnd → Sel
program ops end = record {
  functions = function [] ops end ∷ function (0 ∷ 1 ∷ []) (Alu Add W32 2 0 1 ∷ []) (Ret (Some 2)) ∷ function [] (FrameAt 0 0 ∷ []) (Ret None) ∷ [];
  main = 0;
  taken = true ∷ true ∷ false ∷ [];
}

-- two globals, the second constant; frames of 256 bytes, whose own memory begins at the 64th
abbrev plan : Plan
plan = record {
  globals = 805306368 ∷ 536870912 ∷ [];
  functions = 268435456 ∷ 268435472 ∷ 268435488 ∷ [];
  frames = record { bytes = 256; allocas = 64 } ∷ record { bytes = 256; allocas = 64 } ∷ record { bytes = 256; allocas = 64 } ∷ [];
}

abbrev contents : List Content
contents = record { constant = false; bytes = 1 ∷ 2 ∷ 3 ∷ 4 ∷ [] } ∷ record { constant = true; bytes = 5 ∷ 0 ∷ [] } ∷ []

abbrev shown : List ℕ → ℕ → Ending → Moment
shown printed taken ending = record { printed = printed; taken = taken; ending = ending }

abbrev runs : List SelOp → SelEnd → List ℕ → ℕ → Moment
runs ops end input n = sel_run (program ops end) plan contents input n

-- what it prints, and the low eight bits with which it ends
prints : runs (Set 0 321 ∷ Outside Putchar (Some 1) (0 ∷ []) ∷ []) (Ret (Some 1)) [] 3 ≡ shown (65 ∷ []) 0 (Ended 65)
unfolding sel_run sel_start sel_step
prints = refl

-- a byte of the input, and -1 in 32 bits at its end, of which nothing is taken
takes : runs (Outside Getchar (Some 0) [] ∷ Outside Getchar (Some 1) [] ∷ Set 2 4294967295 ∷ Test Ult W64 3 1 2 ∷ Alu Add W64 4 0 3 ∷ []) (Ret (Some 4)) (7 ∷ []) 6 ≡ shown [] 1 (Ended 7)
unfolding sel_run sel_start sel_step
takes = refl

-- a register without a word
unset_register : runs (Copy 0 1 ∷ []) (Ret (Some 0)) [] 1 ≡ shown [] 0 (Left (reason_number Unset))
unfolding sel_run sel_start sel_step
unset_register = refl

-- the frame's own memory has no bytes at first
unset_byte : runs (FrameAt 0 0 ∷ Load W32 1 0 ∷ []) (Ret (Some 1)) [] 2 ≡ shown [] 0 (Left (reason_number Unset))
unfolding sel_run sel_start sel_step
unset_byte = refl

-- two bytes of what was stored; a store of 32 bits puts four
stored : runs (FrameAt 0 4 ∷ Set 1 66051 ∷ Store W32 0 1 ∷ FrameAt 2 5 ∷ Load W16 3 2 ∷ []) (Ret (Some 3)) [] 6 ≡ shown [] 0 (Ended 2)
unfolding sel_run sel_start sel_step
stored = refl

-- its last byte may be used, the one behind it may not
past_frame : runs (FrameAt 0 15 ∷ Store W16 0 0 ∷ []) (Ret (Some 0)) [] 2 ≡ shown [] 0 (Left (reason_number Bounds))
unfolding sel_run sel_start sel_step
past_frame = refl

-- a global is read with its low byte first, and one that is constant isn't written
global_read : runs (GlobalAt 0 0 ∷ Load W32 1 0 ∷ Set 2 24 ∷ Alu Sar W64 3 1 2 ∷ []) (Ret (Some 3)) [] 5 ≡ shown [] 0 (Ended 4)
unfolding sel_run sel_start sel_step
global_read = refl

constant_written : runs (GlobalAt 0 1 ∷ Store W8 0 0 ∷ []) (Ret (Some 0)) [] 2 ≡ shown [] 0 (Left (reason_number Bounds))
unfolding sel_run sel_start sel_step
constant_written = refl

-- ranges that overlap; the same range twice, whose bytes are missing; and no bytes, from nowhere
overlapping : runs (FrameAt 0 0 ∷ FrameAt 1 1 ∷ Set 2 4 ∷ Outside Memcpy None (0 ∷ 1 ∷ 2 ∷ []) ∷ []) (Ret (Some 0)) [] 4 ≡ shown [] 0 (Left (reason_number Overlap))
unfolding sel_run sel_start sel_step
overlapping = refl

same_range : runs (FrameAt 0 0 ∷ Set 2 4 ∷ Outside Memcpy None (0 ∷ 0 ∷ 2 ∷ []) ∷ []) (Ret (Some 2)) [] 4 ≡ shown [] 0 (Ended 4)
unfolding sel_run sel_start sel_step
same_range = refl

of_nothing : runs (Set 0 0 ∷ Outside Memset None (0 ∷ 0 ∷ 0 ∷ []) ∷ []) (Ret (Some 0)) [] 3 ≡ shown [] 0 (Ended 0)
unfolding sel_run sel_start sel_step
of_nothing = refl

-- missing bytes are copied as they are
copied_unset : runs (FrameAt 0 0 ∷ FrameAt 1 8 ∷ Set 2 8 ∷ Outside Memset None (1 ∷ 2 ∷ 2 ∷ []) ∷ Outside Memcpy None (1 ∷ 0 ∷ 2 ∷ []) ∷ Load W8 3 1 ∷ []) (Ret (Some 3)) [] 6
    ≡ shown [] 0 (Left (reason_number Unset))
unfolding sel_run sel_start sel_step
copied_unset = refl

-- calls by number and by address; the sum is modulo 2^32
called : runs (Set 0 4294967295 ∷ Set 1 8 ∷ FunctionAt 2 1 ∷ CallAt 2 (Some 3) (0 ∷ 1 ∷ []) ∷ Call 1 (Some 4) (3 ∷ 3 ∷ []) ∷ []) (Ret (Some 4)) [] 10 ≡ shown [] 0 (Ended 14)
unfolding sel_run sel_start sel_step
called = refl

-- an address of no function, of one with another number of parameters, and of one to which no pointer may arise
called_null : runs (Set 0 0 ∷ CallAt 0 None [] ∷ []) (Ret (Some 0)) [] 2 ≡ shown [] 0 (Left (reason_number Bounds))
unfolding sel_run sel_start sel_step
called_null = refl

called_as_other : runs (FunctionAt 0 1 ∷ CallAt 0 (Some 1) (0 ∷ []) ∷ []) (Ret (Some 1)) [] 2 ≡ shown [] 0 (Left (reason_number Bounds))
unfolding sel_run sel_start sel_step
called_as_other = refl

called_untaken : runs (Set 0 268435488 ∷ CallAt 0 None [] ∷ []) (Ret (Some 0)) [] 2 ≡ shown [] 0 (Left (reason_number Bounds))
unfolding sel_run sel_start sel_step
called_untaken = refl

-- a return without a result, to a call that takes none and to one that takes one
none_taken : runs (Call 2 None [] ∷ Set 0 3 ∷ []) (Ret (Some 0)) [] 5 ≡ shown [] 0 (Ended 3)
unfolding sel_run sel_start sel_step
none_taken = refl

none_given : runs (Call 2 (Some 0) [] ∷ []) (Ret (Some 0)) [] 3 ≡ shown [] 0 (Left (reason_number Bounds))
unfolding sel_run sel_start sel_step
none_given = refl

-- no quotient: a zero divisor, and the least number of eight bits by -1, of which upper bits don't count
divided_by_zero : runs (Set 0 1 ∷ Set 1 256 ∷ Div false true W8 2 0 1 ∷ []) (Ret (Some 2)) [] 3 ≡ shown [] 0 Divide
unfolding sel_run sel_start sel_step
divided_by_zero = refl

overflowing : runs (Set 0 128 ∷ Set 1 511 ∷ Div true false W8 2 0 1 ∷ []) (Ret (Some 2)) [] 3 ≡ shown [] 0 Divide
unfolding sel_run sel_start sel_step
overflowing = refl

-- of one bit, 1 is below 0 as a signed number; widened with its sign it is all ones; and the choice goes by the lowest bit
one_bit : runs (Set 0 1 ∷ Set 1 0 ∷ Test Slt W1 2 0 1 ∷ Widen true W1 W8 3 0 ∷ Set 4 2 ∷ Pick 5 4 0 3 ∷ Pick 6 2 5 0 ∷ []) (Ret (Some 6)) [] 8 ≡ shown [] 0 (Ended 255)
unfolding sel_run sel_start sel_step
one_bit = refl
