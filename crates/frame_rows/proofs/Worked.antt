-- Rows that were counted and run by hand.
use Rattle.std.proofs.Common.{◌≡◌, ℕ, true, false, nat_eq, if◌then◌else◌, [], ◌∷◌, Option, Some, None, refl}
use Rattle.behavior.specs.Ending.{Divide}
use Rattle.rd_num.specs.declared.width.Width.TheVariants.{W1, W8, W16, W32, W64}
use Rattle.ir_core.specs.declared.instruction.Pred.TheVariants.{Slt, Ult}
use Rattle.x86_core.specs.declared.flags.Flag.TheVariants.{Zero}
use Rattle.x86_core.specs.declared.flags.Flags.{Flags}
use Rattle.x86_core.specs.declared.reg.Reg.TheVariants.{Rbx, Rbp, R12}
use Rattle.x86_core.specs.Registers.{word}
use Rattle.x86_core.specs.Effect.{effect_of}
use Rattle.x86_rows.specs.Straight.{Passage, Through, Stopped, Away, exec}
use Rattle.low_core.specs.declared.sel.SelAlu.TheVariants.{Sub, Mul, And, Shl, Sar}
use Rattle.low_core.specs.declared.sel.SelOp.{SelOp}
use Rattle.low_core.specs.declared.sel.SelOp.TheVariants.{Set, Copy, Alu, Div, Widen, Test, Pick, Load, Store, FrameAt, GlobalAt}
use Rattle.frame_rows.specs.declared.spot.Spot.{Spot}
use Rattle.frame_rows.specs.declared.spot.Spot.TheVariants.{Own, Frame}
use Rattle.frame_rows.specs.Words.{core_of}
use Rattle.frame_rows.specs.Code.{op_row}
use Rattle.frame_rows.specs.Sizes.{row_bytes}
use Rattle.frame_rows.specs.Bodies.{addresses_of}

-- the bytes of an operation on registers that all live in the frame
abbrev framed : SelOp → ℕ
framed op = row_bytes (op_row (λ x. Frame x) (addresses_of [] []) 64 op)

constant_bytes : framed (Set 0 1) ≡ 18
constant_bytes = refl

copy_bytes : framed (Copy 0 1) ≡ 16
copy_bytes = refl

bit_and_bytes : framed (Alu And W1 0 1 2) ≡ 32
bit_and_bytes = refl

product_bytes : framed (Alu Mul W64 0 1 2) ≡ 31
product_bytes = refl

sign_shift_bytes : framed (Alu Sar W8 0 1 2) ≡ 41
sign_shift_bytes = refl

remainder_bytes : framed (Div true true W8 0 1 2) ≡ 42
remainder_bytes = refl

bit_sign_bytes : framed (Widen true W1 W1 0 1) ≡ 33
bit_sign_bytes = refl

bit_test_bytes : framed (Test Slt W1 0 1 2) ≡ 44
bit_test_bytes = refl

pick_bytes : framed (Pick 0 1 2 3) ≡ 42
pick_bytes = refl

load_bytes : framed (Load W64 0 1) ≡ 23
load_bytes = refl

store_bytes : framed (Store W16 0 1) ≡ 23
store_bytes = refl

place_bytes : framed (FrameAt 0 8) ≡ 16
place_bytes = refl

-- three registers in rbx, rbp and r12, and the word that a row leaves in the third
abbrev homes : ℕ → Spot
homes x = if nat_eq x 0 then Own Rbx else (if nat_eq x 1 then Own Rbp else Own R12)

abbrev third : Passage → Option ℕ
third (Through c) = Some (word c.regs R12)
third (Stopped e) = None
third Away = None

abbrev clear : Flags
clear = record { c = Zero; z = Zero; s = Zero; o = Zero }

-- the passage of a row from two words on
abbrev run : ℕ → ℕ → SelOp → Passage
run a b op = exec (op_row homes (addresses_of (4096 ∷ []) []) 64 op) (core_of (record { rax = 1; rcx = 2; rdx = 3; rbx = a; rsp = 4; rbp = b; rsi = 5; rdi = 6; r8 = 7; r9 = 8; r10 = 9; r11 = 10; r12 = 11; r13 = 12; r14 = 13; r15 = 14 }) clear [])

-- upper bits of operands don't count
difference : third (run 259 5 (Alu Sub W8 2 0 1)) ≡ Some 254
unfolding effect_of
difference = refl

-- by 9 modulo 8
sign_shift : third (run 128 9 (Alu Sar W8 2 0 1)) ≡ Some 192
unfolding effect_of
sign_shift = refl

left_shift : third (run 3 63 (Alu Shl W64 2 0 1)) ≡ Some 9223372036854775808
unfolding effect_of
left_shift = refl

-- of single bits the set one is the lesser signed number
signed_bits : third (run 1 0 (Test Slt W1 2 0 1)) ≡ Some 1
unfolding effect_of
signed_bits = refl

unsigned_bits : third (run 1 0 (Test Ult W1 2 0 1)) ≡ Some 0
unfolding effect_of
unsigned_bits = refl

-- -7 by 2 leaves -1
remainder : third (run 65529 2 (Div true true W16 2 0 1)) ≡ Some 65535
unfolding effect_of
remainder = refl

byte_remainder : third (run 249 2 (Div true true W8 2 0 1)) ≡ Some 255
unfolding effect_of
byte_remainder = refl

-- the least number by -1, and a number by 0
least_number : run 128 255 (Div true false W8 2 0 1) ≡ Stopped Divide
unfolding effect_of
least_number = refl

least_remainder : run 2147483648 4294967295 (Div true true W32 2 0 1) ≡ Stopped Divide
unfolding effect_of
least_remainder = refl

by_zero : run 5 65536 (Div false false W16 2 0 1) ≡ Stopped Divide
unfolding effect_of
by_zero = refl

-- all bits of a byte are the sign of a single bit
bit_sign : third (run 3 0 (Widen true W1 W8 2 0)) ≡ Some 255
unfolding effect_of
bit_sign = refl

-- the low bit of 2 is 0
picked : third (run 2 7 (Pick 2 0 0 1)) ≡ Some 7
unfolding effect_of
picked = refl

-- the frame's own memory, and a global
place : third (run 0 0 (FrameAt 2 8)) ≡ Some 76
unfolding effect_of
place = refl

global : third (run 0 0 (GlobalAt 2 0)) ≡ Some 4096
unfolding effect_of
global = refl
