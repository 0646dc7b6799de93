-- One step of a program of registers: an operation, or the end of a block.
use Rattle.std.specs.Prelude.{ℕ, suc, ◌+◌, ◌%◌, ◌^◌, ◌-◌, List, [], ◌∷◌, Bool, true, false, ◌&&◌, nat_eq, nat_le, length, slice_get, option_map, Option, Some, None, Ok, Err, if◌then◌else◌}
use Rattle.rd_num.specs.declared.width.Width.{Width}
use Rattle.behavior.specs.Ending.{if_going}
use Rattle.ir_core.specs.declared.TheConstants.{MAX_CALLS}
use Rattle.ir_core.specs.declared.instruction.BinOp.{BinOp}
use Rattle.ir_core.specs.declared.instruction.BinOp.TheVariants as bin
use Rattle.ir_core.specs.declared.instruction.CastOp.{CastOp}
use Rattle.ir_core.specs.declared.instruction.CastOp.TheVariants.{Zext, Sext}
use Rattle.ir_core.specs.declared.memory.Reason.TheVariants.{Bounds}
use Rattle.ir_core.specs.Stops.{Ended, Depth, Left, Answer, and_then, found_or, Malformed}
use Rattle.ir_core.specs.Stops as stop
use Rattle.ir_core.specs.Arithmetic.{modulus, binary, compared, cast}
use Rattle.ir_core.specs.Shapes.{bytes_of}
use Rattle.ir_core.specs.State.{Exchange, Nothing, Print, Take}
use Rattle.low_core.specs.declared.sel.SelAlu.{SelAlu}
use Rattle.low_core.specs.declared.sel.SelAlu.TheVariants.{Add, Sub, Mul, And, Or, Xor, Shl, Shr, Sar}
use Rattle.low_core.specs.declared.sel.Which.{Which}
use Rattle.low_core.specs.declared.sel.Which.TheVariants.{Putchar, Getchar, Exit, Memcpy, Memset}
use Rattle.low_core.specs.declared.sel.Which.TheVariants as outer
use Rattle.low_core.specs.declared.sel.SelOp.{SelOp}
use Rattle.low_core.specs.declared.sel.SelOp.TheVariants.{Set, Copy, Alu, Div, Widen, Test, Pick, Load, Store, FrameAt, GlobalAt, FunctionAt, Call, CallAt, Outside}
use Rattle.low_core.specs.declared.sel.SelEnd.{SelEnd}
use Rattle.low_core.specs.declared.sel.SelEnd.TheVariants.{Go, If, Ret, Trap}
use Rattle.low_core.specs.declared.sel.SelBlock.{SelBlock}
use Rattle.low_core.specs.declared.sel.Sel.{Sel}
use Rattle.low_core.specs.Flat.{Flat, Bytes, word_at, with_word_at, copied, filled, forgotten}
use Rattle.low_core.specs.Plan.{Plan, Content}
use Rattle.low_core.specs.SelParts.{assigns_of}
use Rattle.low_core.specs.SelState.{SelFrame, SelState, SelTurn, sel_turned, flat_of, word_in, words_in, with_register, first_sel_frame}

-- the low bits of a word
abbrev pub low_bits : Width → ℕ → ℕ
low_bits w n = n % modulus w

-- operations as modules have them
abbrev pub alu_op : SelAlu → BinOp
alu_op Add = bin.Add
alu_op Sub = bin.Sub
alu_op Mul = bin.Mul
alu_op And = bin.And
alu_op Or = bin.Or
alu_op Xor = bin.Xor
alu_op Shl = bin.Shl
alu_op Shr = bin.Lshr
alu_op Sar = bin.Ashr

-- signed or not, the remainder or the quotient
abbrev pub division : Bool → Bool → BinOp
division false false = bin.Udiv
division false true = bin.Urem
division true false = bin.Sdiv
division true true = bin.Srem

abbrev pub widening : Bool → CastOp
widening false = Zext
widening true = Sext

-- two registers by an operation on their low bits
abbrev pub of_two : List (Option ℕ) → Width → ℕ → ℕ → (ℕ → ℕ → Answer ℕ) → Answer ℕ
of_two registers w s t f = and_then (word_in registers s) (λ a. and_then (word_in registers t) (λ b. f (low_bits w a) (low_bits w b)))

-- the word of an operation that gives one and changes nothing else
abbrev pub word_of_op : Plan → SelFrame → Flat → SelOp → Answer ℕ
word_of_op plan f flat (Set r n) = Ok n
word_of_op plan f flat (Copy r s) = word_in f.registers s
word_of_op plan f flat (Alu op w r s t) = of_two f.registers w s t (λ a b. binary (alu_op op) w a b)
word_of_op plan f flat (Div signed rest w r s t) = of_two f.registers w s t (λ a b. binary (division signed rest) w a b)
word_of_op plan f flat (Widen signed from to r s) = and_then (word_in f.registers s) (λ a. Ok (cast (widening signed) from to (low_bits from a)))
word_of_op plan f flat (Test pred w r s t) = of_two f.registers w s t (λ a b. Ok (if compared pred w a b then 1 else 0))
word_of_op plan f flat (Pick r c s t) = and_then (word_in f.registers c) (λ x. and_then (word_in f.registers s) (λ a. and_then (word_in f.registers t) (λ b.
    Ok (if nat_eq (x % 2) 0 then b else a))))
word_of_op plan f flat (Load w r s) = and_then (word_in f.registers s) (λ at. word_at flat at (bytes_of w))
word_of_op plan f flat (FrameAt r at) = Ok (f.own.start + at)
word_of_op plan f flat (GlobalAt r g) = found_or Malformed (slice_get plan.globals g)
word_of_op plan f flat (FunctionAt r g) = found_or Malformed (slice_get plan.functions g)
word_of_op plan f flat other = Err Malformed

-- a register that may be assigned
abbrev pub with_result : Option ℕ → ℕ → List (Option ℕ) → List (Option ℕ)
with_result (Some r) word registers = with_register registers r word
with_result None word registers = registers

-- the call once the operation is done
abbrev pub past_op : SelFrame → SelFrame
past_op f = record f { next = f.next + 1 }

-- calls, and memory as it is
abbrev pub goes : SelState → List SelFrame → Answer SelTurn
goes s frames = Ok (record { frames = frames; bytes = s.bytes; exchange = Nothing })

-- the innermost call goes on with a word, with an exchange with the outside
abbrev pub gives_word : SelState → SelFrame → List SelFrame → Option ℕ → ℕ → Exchange → Answer SelTurn
gives_word s f callers into word exchange =
    Ok (record { frames = record f { next = f.next + 1; registers = with_result into word f.registers } ∷ callers; bytes = s.bytes; exchange = exchange })

-- it goes on with other bytes in memory
abbrev pub puts_bytes : SelFrame → List SelFrame → Answer Bytes → Answer SelTurn
puts_bytes f callers bytes = and_then bytes (λ m. Ok (record { frames = past_op f ∷ callers; bytes = m; exchange = Nothing }))

-- a call of a function begins, unless too many are active; nothing is known of the bytes of its own memory
abbrev pub begins : SelState → SelFrame → List SelFrame → SelFrame → Answer SelTurn
begins s f callers new =
    if nat_le MAX_CALLS (length s.frames) then Err Depth
    else Ok (record { frames = new ∷ past_op f ∷ callers; bytes = forgotten s.bytes new.own.start new.own.size; exchange = Nothing })

-- a function is called; with another number of arguments than it has parameters the run comes to a stop
abbrev pub enters : stop.Stop → Sel → Plan → SelState → SelFrame → List SelFrame → Option ℕ → List ℕ → ℕ → Answer SelTurn
enters wrong sel plan s f callers into arguments g =
    and_then (found_or Malformed (slice_get sel.functions g)) (λ fn. and_then (found_or Malformed (slice_get plan.frames g)) (λ p.
    if nat_eq (length fn.params) (length arguments) then begins s f callers (first_sel_frame g fn p f.base arguments into) else Err wrong))

-- the function to which a pointer may arise that has this address
abbrev pub function_at : ℕ → List Bool → List ℕ → Option ℕ
function_at at [] places = None
function_at at (t ∷ ts) [] = None
function_at at (t ∷ ts) (p ∷ ps) = if t && nat_eq p at then Some 0 else option_map suc (function_at at ts ps)

-- one byte is taken, and given as a number; at the end of the input nothing is taken, and the word is that of -1 in 32 bits
abbrev pub takes_byte : SelState → SelFrame → List SelFrame → Option ℕ → Option ℕ → Answer SelTurn
takes_byte s f callers into (Some byte) = gives_word s f callers into byte Take
takes_byte s f callers into None = gives_word s f callers into (2 ^ 32 - 1) Nothing

-- a call of a function outside of the program is one step
abbrev pub outside_turn : Flat → List ℕ → SelState → SelFrame → List SelFrame → Option ℕ → Which → List ℕ → Answer SelTurn
outside_turn flat input s f callers into Putchar (n ∷ []) = gives_word s f callers into (n % 256) (Print (n % 256))
outside_turn flat input s f callers into Getchar [] = takes_byte s f callers into (slice_get input s.taken)
outside_turn flat input s f callers into Exit (n ∷ []) = Err (Ended (n % 256))
outside_turn flat input s f callers into Memcpy (to ∷ from ∷ count ∷ []) = puts_bytes f callers (copied flat to from count)
outside_turn flat input s f callers into Memset (to ∷ byte ∷ count ∷ []) = puts_bytes f callers (filled flat to (byte % 256) count)
outside_turn flat input s f callers into outer.Trap [] = Err stop.Trap
outside_turn flat input s f callers into which arguments = Err Malformed

-- an operation of the innermost call
abbrev pub op_turn : Sel → Plan → Flat → List ℕ → SelState → SelFrame → List SelFrame → SelOp → Answer SelTurn
op_turn sel plan flat input s f callers (Store w a b) =
    and_then (word_in f.registers a) (λ at. and_then (word_in f.registers b) (λ word. puts_bytes f callers (with_word_at flat at (bytes_of w) word)))
op_turn sel plan flat input s f callers (Call g r args) = and_then (words_in f.registers args) (λ ns. enters Malformed sel plan s f callers r ns g)
op_turn sel plan flat input s f callers (CallAt a r args) =
    and_then (word_in f.registers a) (λ at. and_then (words_in f.registers args) (λ ns.
    and_then (found_or (Left Bounds) (function_at at sel.taken plan.functions)) (λ g. enters (Left Bounds) sel plan s f callers r ns g)))
op_turn sel plan flat input s f callers (Outside which r args) = and_then (words_in f.registers args) (λ ns. outside_turn flat input s f callers r which ns)
op_turn sel plan flat input s f callers op = and_then (word_of_op plan f flat op) (λ n. gives_word s f callers (assigns_of op) n Nothing)

-- to the start of a block
abbrev pub to_block : SelState → SelFrame → List SelFrame → ℕ → Answer SelTurn
to_block s f callers b = goes s (record f { block = b; next = 0 } ∷ callers)

-- the caller with the result, where it takes one
abbrev pub delivered : Option ℕ → Option ℕ → SelFrame → Answer SelFrame
delivered (Some r) (Some n) g = Ok (record g { registers = with_register g.registers r n })
delivered (Some r) None g = Err (Left Bounds)
delivered None result g = Ok g

-- a return; that of the call with which the run began ends it with the low 8 bits of its result
abbrev pub returns_with : SelState → SelFrame → List SelFrame → Option ℕ → Answer SelTurn
returns_with s f [] (Some n) = Err (Ended (n % 256))
returns_with s f [] None = Err Malformed
returns_with s f (g ∷ gs) result = and_then (delivered f.into result g) (λ h. goes s (h ∷ gs))

-- the end of a block
abbrev pub end_turn : SelState → SelFrame → List SelFrame → SelEnd → Answer SelTurn
end_turn s f callers (Go b) = to_block s f callers b
end_turn s f callers (If c b d) = and_then (word_in f.registers c) (λ n. to_block s f callers (if nat_eq (n % 2) 0 then d else b))
end_turn s f callers (Ret (Some r)) = and_then (word_in f.registers r) (λ n. returns_with s f callers (Some n))
end_turn s f callers (Ret None) = returns_with s f callers None
end_turn s f callers Trap = Err stop.Trap

-- an operation, or the end past the last one
abbrev pub sel_turn_at : Sel → Plan → Flat → List ℕ → SelState → SelFrame → List SelFrame → SelBlock → Option SelOp → Answer SelTurn
sel_turn_at sel plan flat input s f callers b (Some op) = op_turn sel plan flat input s f callers op
sel_turn_at sel plan flat input s f callers b None = end_turn s f callers b.end

-- what the innermost call does next
abbrev pub sel_turn_of : Sel → Plan → Flat → List ℕ → SelState → List SelFrame → Answer SelTurn
sel_turn_of sel plan flat input s [] = Err Malformed
sel_turn_of sel plan flat input s (f ∷ callers) =
    and_then (found_or Malformed (slice_get sel.functions f.function)) (λ fn.
    and_then (found_or Malformed (slice_get fn.blocks f.block)) (λ b. sel_turn_at sel plan flat input s f callers b (slice_get b.ops f.next)))

-- a run that has stopped stays as it is
unfoldable pub sel_step : Sel → Plan → List Content → List ℕ → SelState → SelState
sel_step sel plan contents input s = if_going s.ending (sel_turned s (sel_turn_of sel plan (flat_of plan contents s) input s s.frames)) s
