-- Arithmetic, comparisons, casts and choices of instructions, computed at operands that tell each from its neighbours.
use Rattle.std.proofs.Common.{◌≡◌, ℕ, true, false, [], refl}
use Rattle.std.specs.Prelude.{Ok, Err}
use denote.Hole.Carrier.{out}
use Rattle.rd_num.specs.declared.width.Width.TheVariants.{W1, W8, W16, W32, W64}
use Rattle.ir_core.specs.declared.ty.Ty.{Ty, out-Ty}
use Rattle.ir_core.specs.declared.operand.Operand.{Operand}
use Rattle.ir_core.specs.declared.instruction.BinOp.{BinOp}
use Rattle.ir_core.specs.declared.instruction.Pred.{Pred}
use Rattle.ir_core.specs.declared.instruction.CastOp.{CastOp}
use Rattle.ir_core.specs.declared.instruction.Op.{Op}
use Rattle.ir_core.specs.declared.memory.Value.{Value}
use Rattle.ir_core.specs.declared.memory.Value.TheVariants.{Num, Null}
use Rattle.ir_core.specs.Stops.{Answer, Divide}
use Rattle.ir_core.specs.Step.{result_of}
use Rattle.ir_core.proofs.WorkedWords.{i1, i8, i16, i32, i64, int, minus, module_of}

-- what an instruction on literals gives
abbrev result : Op → Answer Value
result op = result_of (module_of [] []) [] [] op

-- an operation on two literals
abbrev of_two : BinOp → Ty → Operand → Operand → Answer Value
of_two op ty a b = result (Op.Bin op ty a b)

-- a number of a byte
abbrev byte : ℕ → Answer Value
byte n = Ok (Num W8 n)

-- 200 + 100 is 300, past a byte
add_wraps : of_two BinOp.Add i8 (int 200) (int 100) ≡ byte 44
unfolding out-Ty out
add_wraps = refl

-- the greatest number of 64 bits and 2
add_wraps_at_64 : of_two BinOp.Add i64 (minus 0) (int 2) ≡ Ok (Num W64 1)
unfolding out-Ty out
add_wraps_at_64 = refl

-- 3 - 5 is -2
sub_wraps : of_two BinOp.Sub i8 (int 3) (int 5) ≡ byte 254
unfolding out-Ty out
sub_wraps = refl

-- 17 times 18 is 306
mul_wraps : of_two BinOp.Mul i8 (int 17) (int 18) ≡ byte 50
unfolding out-Ty out
mul_wraps = refl

-- 249 by 2, and not -7 by 2
udiv_unsigned : of_two BinOp.Udiv i8 (minus 6) (int 2) ≡ byte 124
unfolding out-Ty out
udiv_unsigned = refl

-- no number by zero
udiv_by_zero : of_two BinOp.Udiv i8 (int 7) (int 0) ≡ Err Divide
unfolding out-Ty out
udiv_by_zero = refl

-- the least signed number by -1 is 128 by 255 here
udiv_of_least : of_two BinOp.Udiv i8 (minus 127) (minus 0) ≡ byte 0
unfolding out-Ty out
udiv_of_least = refl

-- -7 by 2 is -3, towards zero
sdiv_of_negative : of_two BinOp.Sdiv i8 (minus 6) (int 2) ≡ byte 253
unfolding out-Ty out
sdiv_of_negative = refl

-- 7 by -2 is -3
sdiv_by_negative : of_two BinOp.Sdiv i8 (int 7) (minus 1) ≡ byte 253
unfolding out-Ty out
sdiv_by_negative = refl

-- -7 by -2 is 3
sdiv_of_two_negatives : of_two BinOp.Sdiv i8 (minus 6) (minus 1) ≡ byte 3
unfolding out-Ty out
sdiv_of_two_negatives = refl

-- the least signed number by 1 is itself
sdiv_of_least : of_two BinOp.Sdiv i8 (minus 127) (int 1) ≡ byte 128
unfolding out-Ty out
sdiv_of_least = refl

-- the least signed number by -1 has no quotient of its width
sdiv_overflows : of_two BinOp.Sdiv i32 (minus 2147483647) (minus 0) ≡ Err Divide
unfolding out-Ty out
sdiv_overflows = refl

-- one more than the least by -1 has
sdiv_beside_overflow : of_two BinOp.Sdiv i32 (minus 2147483646) (minus 0) ≡ Ok (Num W32 2147483647)
unfolding out-Ty out
sdiv_beside_overflow = refl

-- no number by zero
sdiv_by_zero : of_two BinOp.Sdiv i8 (minus 127) (int 0) ≡ Err Divide
unfolding out-Ty out
sdiv_by_zero = refl

-- what 249 by 4 leaves, and not what -7 by 4 leaves
urem_unsigned : of_two BinOp.Urem i8 (minus 6) (int 4) ≡ byte 1
unfolding out-Ty out
urem_unsigned = refl

-- no number by zero
urem_by_zero : of_two BinOp.Urem i8 (int 7) (int 0) ≡ Err Divide
unfolding out-Ty out
urem_by_zero = refl

-- what -7 by 4 leaves has the sign of -7
srem_of_negative : of_two BinOp.Srem i8 (minus 6) (int 4) ≡ byte 253
unfolding out-Ty out
srem_of_negative = refl

-- and what 7 by -4 leaves that of 7
srem_by_negative : of_two BinOp.Srem i8 (int 7) (minus 3) ≡ byte 3
unfolding out-Ty out
srem_by_negative = refl

-- the least signed number by -1 leaves nothing, and traps all the same
srem_overflows : of_two BinOp.Srem i64 (minus 9223372036854775807) (minus 0) ≡ Err Divide
unfolding out-Ty out
srem_overflows = refl

-- no number by zero
srem_by_zero : of_two BinOp.Srem i8 (minus 127) (int 0) ≡ Err Divide
unfolding out-Ty out
srem_by_zero = refl

-- by 9 is by 1 on a byte, and the highest bit is lost
shl_past_width : of_two BinOp.Shl i8 (int 129) (int 9) ≡ byte 2
unfolding out-Ty out
shl_past_width = refl

-- by 33 is by 1 on 32 bits
shl_past_width_at_32 : of_two BinOp.Shl i32 (int 3) (int 33) ≡ Ok (Num W32 6)
unfolding out-Ty out
shl_past_width_at_32 = refl

-- by 9 is by 1, and zero comes in
lshr_past_width : of_two BinOp.Lshr i8 (int 129) (int 9) ≡ byte 64
unfolding out-Ty out
lshr_past_width = refl

-- by 9 is by 1, and the sign comes in
ashr_past_width : of_two BinOp.Ashr i8 (int 129) (int 9) ≡ byte 192
unfolding out-Ty out
ashr_past_width = refl

-- -1 stays
ashr_of_minus_one : of_two BinOp.Ashr i64 (minus 0) (int 63) ≡ Ok (Num W64 18446744073709551615)
unfolding out-Ty out
ashr_of_minus_one = refl

-- a number that isn't negative by 8 is by 0
ashr_by_width : of_two BinOp.Ashr i8 (int 127) (int 8) ≡ byte 127
unfolding out-Ty out
ashr_by_width = refl

-- bits of both
and_bits : of_two BinOp.And i8 (int 204) (int 170) ≡ byte 136
unfolding out-Ty out
and_bits = refl

-- bits of one or both
or_bits : of_two BinOp.Or i8 (int 204) (int 170) ≡ byte 238
unfolding out-Ty out
or_bits = refl

-- bits of one alone
xor_bits : of_two BinOp.Xor i8 (int 204) (int 170) ≡ byte 102
unfolding out-Ty out
xor_bits = refl

-- truth values too
xor_of_truths : of_two BinOp.Xor i1 (Operand.Bool true) (minus 0) ≡ Ok (Num W1 0)
unfolding out-Ty out
xor_of_truths = refl

-- whether a comparison of two literals holds
abbrev holds : Pred → Ty → Operand → Operand → ℕ → Type 0
holds pred ty a b n = result (Op.Compare pred ty a b) ≡ Ok (Num W1 n)

-- -1 and 255 are one byte
eq_modulo_width : holds Pred.Eq i8 (minus 0) (int 255) 1
unfolding out-Ty out
eq_modulo_width = refl

-- and 254 is another
eq_of_others : holds Pred.Eq i8 (minus 0) (int 254) 0
unfolding out-Ty out
eq_of_others = refl

-- one byte doesn't differ from itself
ne_modulo_width : holds Pred.Ne i8 (minus 0) (int 255) 0
unfolding out-Ty out
ne_modulo_width = refl

-- other bytes do
ne_of_others : holds Pred.Ne i8 (minus 0) (int 254) 1
unfolding out-Ty out
ne_of_others = refl

-- 128 is above 127 without signs
ult_of_least : holds Pred.Ult i8 (minus 127) (int 127) 0
unfolding out-Ty out
ult_of_least = refl

-- and 127 below 128
ult_of_greatest : holds Pred.Ult i8 (int 127) (minus 127) 1
unfolding out-Ty out
ult_of_greatest = refl

-- no number is below itself
ult_of_same : holds Pred.Ult i8 (int 127) (int 127) 0
unfolding out-Ty out
ult_of_same = refl

-- 127 is at most 128
ule_of_greatest : holds Pred.Ule i8 (int 127) (minus 127) 1
unfolding out-Ty out
ule_of_greatest = refl

-- a number is at most itself
ule_of_same : holds Pred.Ule i8 (int 127) (int 127) 1
unfolding out-Ty out
ule_of_same = refl

-- 128 isn't at most 127
ule_of_least : holds Pred.Ule i8 (minus 127) (int 127) 0
unfolding out-Ty out
ule_of_least = refl

-- 128 is above 127
ugt_of_least : holds Pred.Ugt i8 (minus 127) (int 127) 1
unfolding out-Ty out
ugt_of_least = refl

-- no number is above itself
ugt_of_same : holds Pred.Ugt i8 (int 127) (int 127) 0
unfolding out-Ty out
ugt_of_same = refl

-- 127 isn't above 128
ugt_of_greatest : holds Pred.Ugt i8 (int 127) (minus 127) 0
unfolding out-Ty out
ugt_of_greatest = refl

-- 128 is at least 127
uge_of_least : holds Pred.Uge i8 (minus 127) (int 127) 1
unfolding out-Ty out
uge_of_least = refl

-- a number is at least itself
uge_of_same : holds Pred.Uge i8 (int 127) (int 127) 1
unfolding out-Ty out
uge_of_same = refl

-- 127 isn't at least 128
uge_of_greatest : holds Pred.Uge i8 (int 127) (minus 127) 0
unfolding out-Ty out
uge_of_greatest = refl

-- -128 is below 127
slt_of_least : holds Pred.Slt i8 (minus 127) (int 127) 1
unfolding out-Ty out
slt_of_least = refl

-- no number is below itself
slt_of_same : holds Pred.Slt i8 (minus 127) (minus 127) 0
unfolding out-Ty out
slt_of_same = refl

-- the truth value that holds is -1
slt_of_truths : holds Pred.Slt i1 (Operand.Bool true) (Operand.Bool false) 1
unfolding out-Ty out
slt_of_truths = refl

-- the least number of 64 bits is below the greatest
slt_at_64 : holds Pred.Slt i64 (minus 9223372036854775807) (int 9223372036854775807) 1
unfolding out-Ty out
slt_at_64 = refl

-- a number is at most itself
sle_of_same : holds Pred.Sle i8 (minus 127) (minus 127) 1
unfolding out-Ty out
sle_of_same = refl

-- 127 isn't at most -128
sle_of_greatest : holds Pred.Sle i8 (int 127) (minus 127) 0
unfolding out-Ty out
sle_of_greatest = refl

-- -1 is at most 0
sle_of_truths : holds Pred.Sle i1 (Operand.Bool true) (Operand.Bool false) 1
unfolding out-Ty out
sle_of_truths = refl

-- 127 is above -128
sgt_of_greatest : holds Pred.Sgt i8 (int 127) (minus 127) 1
unfolding out-Ty out
sgt_of_greatest = refl

-- no number is above itself
sgt_of_same : holds Pred.Sgt i8 (minus 127) (minus 127) 0
unfolding out-Ty out
sgt_of_same = refl

-- 0 is above -1
sgt_of_truths : holds Pred.Sgt i1 (Operand.Bool false) (Operand.Bool true) 1
unfolding out-Ty out
sgt_of_truths = refl

-- a number is at least itself
sge_of_same : holds Pred.Sge i8 (minus 127) (minus 127) 1
unfolding out-Ty out
sge_of_same = refl

-- -128 isn't at least 127
sge_of_least : holds Pred.Sge i8 (minus 127) (int 127) 0
unfolding out-Ty out
sge_of_least = refl

-- 0 is at least -1
sge_of_truths : holds Pred.Sge i1 (Operand.Bool false) (Operand.Bool true) 1
unfolding out-Ty out
sge_of_truths = refl

-- the low byte of 0x1FF
trunc_to_byte : result (Op.Cast CastOp.Trunc i16 (int 511) i8) ≡ byte 255
unfolding out-Ty out
trunc_to_byte = refl

-- the low bit of 2
trunc_to_truth : result (Op.Cast CastOp.Trunc i8 (int 2) i1) ≡ Ok (Num W1 0)
unfolding out-Ty out
trunc_to_truth = refl

-- zeros come in
zext_of_negative : result (Op.Cast CastOp.Zext i8 (minus 127) i16) ≡ Ok (Num W16 128)
unfolding out-Ty out
zext_of_negative = refl

-- the sign comes in
sext_of_negative : result (Op.Cast CastOp.Sext i8 (minus 127) i16) ≡ Ok (Num W16 65408)
unfolding out-Ty out
sext_of_negative = refl

-- a number that isn't negative stays
sext_of_positive : result (Op.Cast CastOp.Sext i8 (int 127) i64) ≡ Ok (Num W64 127)
unfolding out-Ty out
sext_of_positive = refl

-- the truth value that holds is all ones
sext_of_truth : result (Op.Cast CastOp.Sext i1 (Operand.Bool true) i32) ≡ Ok (Num W32 4294967295)
unfolding out-Ty out
sext_of_truth = refl

-- the first of two where the condition holds
select_first : result (Op.Select (Operand.Bool true) i8 (int 5) i8 (int 6)) ≡ byte 5
unfolding out-Ty out
select_first = refl

-- the second where it doesn't
select_second : result (Op.Select (Operand.Bool false) i8 (int 5) i8 (int 6)) ≡ byte 6
unfolding out-Ty out
select_second = refl

-- an undefined condition doesn't hold
select_by_undef : result (Op.Select Operand.Undef i8 (int 5) i8 (int 6)) ≡ byte 6
unfolding out-Ty out
select_by_undef = refl

-- a frozen number stays
freeze_of_number : result (Op.Freeze i8 (minus 0)) ≡ byte 255
unfolding out-Ty out
freeze_of_number = refl

-- a frozen undef is zero
freeze_of_undef : result (Op.Freeze i32 Operand.Undef) ≡ Ok (Num W32 0)
unfolding out-Ty out
freeze_of_undef = refl

-- a frozen poison pointer is null
freeze_of_poison : result (Op.Freeze Ty.Ptr Operand.Poison) ≡ Ok Null
unfolding out-Ty out
freeze_of_poison = refl
