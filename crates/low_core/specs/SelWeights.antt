-- What code and frames programs of registers may ask for, as `Weights` has it of programs without phis. A constant is at
-- least the bytes of the code of its part, every register in the frame, where loading or storing one takes eight.
use Rattle.std.specs.Prelude.{ℕ, ◌+◌, ◌*◌, ◌-◌, length, map}
use Rattle.std.specs.List.{sum_by}
use Rattle.ir_core.specs.Counts.{greatest}
use Rattle.low_core.specs.declared.sel.SelAlu.{SelAlu}
use Rattle.low_core.specs.declared.sel.SelAlu.TheVariants.{Add, Sub, Mul, And, Or, Xor, Shl, Shr, Sar}
use Rattle.low_core.specs.declared.sel.Which.TheVariants as outer
use Rattle.low_core.specs.declared.sel.SelOp.{SelOp}
use Rattle.low_core.specs.declared.sel.SelOp.TheVariants.{Set, Copy, Alu, Div, Widen, Test, Pick, Load, Store, FrameAt, GlobalAt, FunctionAt, Call, CallAt, Outside}
use Rattle.low_core.specs.declared.sel.SelEnd.{SelEnd}
use Rattle.low_core.specs.declared.sel.SelEnd.TheVariants.{Go, If, Ret, Trap}
use Rattle.low_core.specs.declared.sel.SelBlock.{SelBlock}
use Rattle.low_core.specs.declared.sel.SelFun.{SelFun}
use Rattle.low_core.specs.declared.sel.Sel.{Sel}
use Rattle.low_core.specs.SelParts.{ops_of}

-- a shift brings its amount into `cl` first
abbrev pub alu_weight : SelAlu → ℕ
alu_weight Add = 32
alu_weight Sub = 32
alu_weight Mul = 32
alu_weight And = 32
alu_weight Or = 32
alu_weight Xor = 32
alu_weight Shl = 42
alu_weight Shr = 42
alu_weight Sar = 42

-- an argument past the sixth is loaded and stored; the others are loaded
abbrev pub call_weight : ℕ → ℕ
call_weight arguments = 64 + 16 * arguments

-- an operation
abbrev pub sel_op_weight : SelOp → ℕ
sel_op_weight (Set r n) = 18
sel_op_weight (Copy r s) = 16
sel_op_weight (Alu op w r s t) = alu_weight op
sel_op_weight (Div signed rest w r s t) = 48
sel_op_weight (Widen signed from to r s) = 34
sel_op_weight (Test pred w r s t) = 44
sel_op_weight (Pick r c s t) = 44
sel_op_weight (Load w r s) = 24
sel_op_weight (Store w s t) = 24
sel_op_weight (FrameAt r at) = 16
sel_op_weight (GlobalAt r g) = 18
sel_op_weight (FunctionAt r f) = 18
sel_op_weight (Call f r args) = call_weight (length args)
sel_op_weight (CallAt s r args) = call_weight (length args)
sel_op_weight (Outside which r args) = call_weight (length args)

-- the end of a block
abbrev pub sel_end_weight : SelEnd → ℕ
sel_end_weight (Go b) = 8
sel_end_weight (If c b d) = 28
sel_end_weight (Ret r) = 40
sel_end_weight Trap = 8

abbrev pub sel_block_weight : SelBlock → ℕ
sel_block_weight b = sum_by sel_op_weight b.ops + sel_end_weight b.end

-- a function, with what it does first: it takes 32 parameters to their homes
abbrev pub sel_function_weight : SelFun → ℕ
sel_function_weight f = 512 + sum_by sel_block_weight f.blocks

-- a program
abbrev pub sel_weight : Sel → ℕ
sel_weight sel = sum_by sel_function_weight sel.functions

-- the arguments of a call
abbrev pub arguments_of : SelOp → ℕ
arguments_of (Call f r args) = length args
arguments_of (CallAt s r args) = length args
arguments_of (Outside which r args) = length args
arguments_of other = 0

-- the most arguments past the sixth of any call in a function
abbrev pub words_passed : SelFun → ℕ
words_passed f = greatest (map (λ (op : SelOp). arguments_of op - 6) (ops_of f))

-- what a function has of its own: where it goes back and five saved registers, which are 48 bytes, and 64 to spare
abbrev pub sel_own : ℕ
sel_own = 112

-- what a function asks of its frame: each register is a word, and so is each argument that is passed on the stack
abbrev pub sel_room : SelFun → ℕ
sel_room f = sel_own + 8 * f.registers + 8 * words_passed f + f.frame

-- an operation that goes by a slot; a trap is no call
abbrev pub calls_at : SelOp → ℕ
calls_at (Call f r args) = 1
calls_at (CallAt s r args) = 1
calls_at (Outside outer.Trap r args) = 0
calls_at (Outside which r args) = 1
calls_at other = 0

-- the calls of a program
abbrev pub calls_of : Sel → ℕ
calls_of sel = sum_by (λ (f : SelFun). sum_by (λ (b : SelBlock). sum_by calls_at b.ops) f.blocks) sel.functions

-- slots that a program may come to: one for each function and each call, the entry, and five of the routines
abbrev pub most_slots_of : Sel → ℕ
most_slots_of sel = length sel.functions + calls_of sel + 6

-- the returns of a program, and its calls by address: no pass makes more of them
abbrev pub is_return : SelEnd → ℕ
is_return (Ret r) = 1
is_return other = 0

abbrev pub sel_returns_of : Sel → ℕ
sel_returns_of sel = sum_by (λ (f : SelFun). sum_by (λ (b : SelBlock). is_return b.end) f.blocks) sel.functions

abbrev pub is_call_by_address : SelOp → ℕ
is_call_by_address (CallAt s r args) = 1
is_call_by_address other = 0

abbrev pub calls_by_address_of : Sel → ℕ
calls_by_address_of sel = sum_by (λ (f : SelFun). sum_by (λ (b : SelBlock). sum_by is_call_by_address b.ops) f.blocks) sel.functions
