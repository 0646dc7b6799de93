-- A small memory and small rows, worked out.
use Rattle.std.proofs.Common.{◌≡◌, List, [], ◌∷◌, ◌++◌, false, refl}
use Rattle.std.specs.Prelude.{replicate, negsuc, pos}
use Rattle.behavior.specs.Ending.{Divide, Invalid, PageFault, NoFlag}
use Rattle.x86_core.specs.declared.reg.Reg.TheVariants.{Rax, Rcx, Rdx, Rbx, Rsp}
use Rattle.x86_core.specs.declared.flags.Flag.TheVariants.{Zero, One, Unknown}
use Rattle.x86_core.specs.declared.instr.Wide.{Wide}
use Rattle.x86_core.specs.declared.instr.Size.{Size}
use Rattle.x86_core.specs.declared.instr.AluOp.{AluOp}
use Rattle.x86_core.specs.declared.instr.Cond.{Cond}
use Rattle.x86_core.specs.declared.instr.Instr.TheVariants.{MovImm32, Alu, Div, Load, Store, Push, Pop, Jcc, Jmp, Ud2}
use Rattle.x86_core.specs.declared.image.Segment.{Segment}
use Rattle.x86_core.specs.Effect.{effect_of}
use Rattle.x86_core.specs.Data.{segment}
use Rattle.x86_rows.specs.Addresses.{byte_at, range_at, has_address}
use Rattle.x86_rows.specs.Saving.{push_row, pop_row}
use Rattle.x86_rows.specs.Straight.{Core, Through, Stopped, Away, exec}

-- two bytes at 16 that may be read, and eight at 32 that may be written too
abbrev memory : List Segment
memory = segment 16 (7 ∷ 9 ∷ []) 4 ∷ segment 32 (1 ∷ 2 ∷ 3 ∷ 4 ∷ 5 ∷ 6 ∷ 7 ∷ 8 ∷ []) 6 ∷ []

-- the stack's end is behind them
abbrev start : Core
start = record { regs = 0 ∷ 0 ∷ 0 ∷ 16 ∷ 40 ∷ replicate 11 0; flags = record { c = Zero; z = One; s = Unknown; o = Zero }; segments = memory }

second_byte : byte_at memory 17 ≡ 9
second_byte = refl

no_byte : byte_at memory 18 ≡ 0
no_byte = refl

no_address : has_address memory 18 ≡ false
no_address = refl

part_of_range : range_at memory 33 3 ≡ 2 ∷ 3 ∷ 4 ∷ []
part_of_range = refl

-- 5 + 3
sums : exec (MovImm32 Rax 5 ∷ MovImm32 Rcx 3 ∷ Alu AluOp.Add Wide.W64 Rax Rcx ∷ []) start ≡ Through (record { regs = 8 ∷ 3 ∷ 0 ∷ 16 ∷ 40 ∷ replicate 11 0; flags = record { c = Zero; z = Zero; s = Zero; o = Zero }; segments = memory })
unfolding effect_of
sums = refl

-- two bytes are loaded: 7 + 256 * 9
loads : exec (Load Size.W16 Rdx (record { base = Rbx; disp = pos 0 }) ∷ []) start ≡ Through (record start { regs = 0 ∷ 0 ∷ 2311 ∷ 16 ∷ 40 ∷ replicate 11 0 })
unfolding effect_of
loads = refl

-- a byte below the stack's end, and one that may only be read
stores : exec (MovImm32 Rax 258 ∷ Store Size.W8 (record { base = Rsp; disp = negsuc 7 }) Rax ∷ []) start ≡ Through (record start { regs = 258 ∷ 0 ∷ 0 ∷ 16 ∷ 40 ∷ replicate 11 0; segments = segment 16 (7 ∷ 9 ∷ []) 4 ∷ segment 32 (2 ∷ 2 ∷ 3 ∷ 4 ∷ 5 ∷ 6 ∷ 7 ∷ 8 ∷ []) 6 ∷ [] })
unfolding effect_of
stores = refl

store_refused : exec (Store Size.W8 (record { base = Rbx; disp = pos 0 }) Rax ∷ Ud2 ∷ []) start ≡ Stopped PageFault
unfolding effect_of
store_refused = refl

-- a word goes to the stack and comes back
pushes_and_pops : exec (Push Rbx ∷ Pop Rax ∷ []) start ≡ Through (record start { regs = 16 ∷ 0 ∷ 0 ∷ 16 ∷ 40 ∷ replicate 11 0; segments = segment 16 (7 ∷ 9 ∷ []) 4 ∷ segment 32 (16 ∷ replicate 7 0) 6 ∷ [] })
unfolding effect_of
pushes_and_pops = refl

-- by 0, and what is behind isn't done
divides_by_zero : exec (Div false Size.W64 Rcx ∷ MovImm32 Rax 5 ∷ []) start ≡ Stopped Divide
unfolding effect_of
divides_by_zero = refl

-- a branch that isn't taken, one that is, one of which that isn't known, and a jump
falls_through : exec (Jcc Cond.Ne (pos 100) ∷ []) start ≡ Through start
unfolding effect_of
falls_through = refl

branches : exec (Jcc Cond.E (pos 100) ∷ Ud2 ∷ []) start ≡ Away
unfolding effect_of
branches = refl

not_known : exec (Jcc Cond.L (pos 100) ∷ []) start ≡ Stopped NoFlag
unfolding effect_of
not_known = refl

jumps : exec (Jmp (pos 100) ∷ Ud2 ∷ []) start ≡ Away
unfolding effect_of
jumps = refl

stops : exec (Ud2 ∷ Jmp (pos 100) ∷ []) start ≡ Stopped Invalid
unfolding effect_of
stops = refl

-- rbx is pushed first, so that rax has the lower address
pushed_last_first : push_row (Rax ∷ Rbx ∷ []) ≡ Push Rbx ∷ Push Rax ∷ []
pushed_last_first = refl

-- a register saved by a row is taken back by another one, after it had another word
saved_and_restored : exec (push_row (Rbx ∷ []) ++ (MovImm32 Rbx 5 ∷ pop_row (Rbx ∷ []))) start ≡ Through (record start { segments = segment 16 (7 ∷ 9 ∷ []) 4 ∷ segment 32 (16 ∷ replicate 7 0) 6 ∷ [] })
unfolding effect_of
saved_and_restored = refl
