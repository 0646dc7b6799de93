-- What each instruction does to registers, flags, memory and the next place, in the rows' order.
use Rattle.std.specs.Prelude.{ℕ, ◌+◌, ◌*◌, ◌^◌, Bool, if◌then◌else◌, List, ℤ, pos, negsuc, Option, Some, None}
use Rattle.x86_core.specs.declared.reg.Reg.{Reg}
use Rattle.x86_core.specs.declared.reg.Reg.TheVariants.{Rax, Rcx, Rdx, Rsp}
use Rattle.x86_core.specs.declared.flags.Flags.{Flags}
use Rattle.x86_core.specs.declared.instr.Wide.{Wide}
use Rattle.x86_core.specs.declared.instr.Size.{Size}
use Rattle.x86_core.specs.declared.instr.HighSize.{HighSize}
use Rattle.x86_core.specs.declared.instr.Mem.{Mem}
use Rattle.x86_core.specs.declared.instr.AluOp.{AluOp}
use Rattle.x86_core.specs.declared.instr.ShiftOp.{ShiftOp}
use Rattle.x86_core.specs.declared.instr.Instr.{Instr}
use Rattle.x86_core.specs.declared.instr.Instr.TheVariants.{Mov, MovImm64, MovImm32, Alu, AluImm, Imul, Shift, Div, High, Widen, Load, Store, Lea, Push, Pop, SetCond, Cmov, Jcc, Jmp, Call, Ret, CallR11, JmpR11, Syscall, Ud2, Int3, Nop}
use Rattle.x86_core.specs.declared.divide.Division.{Division}
use Rattle.x86_core.specs.declared.effect.Access.TheVariants.{Nothing, Read, Write}
use Rattle.x86_core.specs.declared.effect.Next.{Next}
use Rattle.x86_core.specs.declared.effect.Change.{Change}
use Rattle.x86_core.specs.Registers.{word, with_word}
use Rattle.x86_core.specs.Arithmetic.{wide_bits, size_bits, low, kept, moved, constant, alu_result, alu_flags, is_written, same_op, shift_count, shifted, shift_flags, unknown_flags, division, sign_fill, widened, holds}

-- other registers and flags, and on to the next instruction
abbrev pub plain : List ℕ → Flags → Change
plain regs flags = record { regs = regs; flags = flags; access = Nothing; next = Next.Fall }

-- no change but the next place
abbrev pub going : List ℕ → Flags → Next → Change
going regs flags next = record { regs = regs; flags = flags; access = Nothing; next = next }

-- an operation on a register and a number
abbrev pub alu_effect : AluOp → Wide → Reg → ℕ → List ℕ → Change
alu_effect op w d n regs =
    let bits = wide_bits w in
    let a = low bits (word regs d) in
    let b = low bits n in
    let r = alu_result op bits a b in
    plain (if is_written op then with_word regs d r else regs) (alu_flags op bits a b r)

-- the low bits of a product
abbrev pub imul_effect : Wide → Reg → Reg → List ℕ → Change
imul_effect w d s regs = plain (with_word regs d (low (wide_bits w) (word regs d * word regs s))) unknown_flags

-- a shift by the low byte of rcx
abbrev pub shift_effect : ShiftOp → Wide → Reg → List ℕ → Flags → Change
shift_effect op w d regs flags =
    let bits = wide_bits w in
    let by = shift_count bits (word regs Rcx) in
    let r = shifted op bits (low bits (word regs d)) by in
    plain (with_word regs d r) (shift_flags bits by r flags)

-- the number that is divided: ax, dx:ax, edx:eax or rdx:rax
abbrev pub dividend : Size → List ℕ → ℕ
dividend Size.W8 regs = low 16 (word regs Rax)
dividend Size.W16 regs = low 16 (word regs Rdx) * 2 ^ 16 + low 16 (word regs Rax)
dividend Size.W32 regs = low 32 (word regs Rdx) * 2 ^ 32 + low 32 (word regs Rax)
dividend Size.W64 regs = low 64 (word regs Rdx) * 2 ^ 64 + low 64 (word regs Rax)

-- the registers with the quotient in al, ax, eax or rax and the remainder in ah, dx, edx or rdx
abbrev pub with_division : Size → List ℕ → Division → List ℕ
with_division Size.W8 regs d = with_word regs Rax (kept Size.W16 (word regs Rax) (d.remainder * 2 ^ 8 + d.quotient))
with_division Size.W16 regs d = with_word (with_word regs Rax (kept Size.W16 (word regs Rax) d.quotient)) Rdx (kept Size.W16 (word regs Rdx) d.remainder)
with_division Size.W32 regs d = with_word (with_word regs Rax d.quotient) Rdx d.remainder
with_division Size.W64 regs d = with_word (with_word regs Rax d.quotient) Rdx d.remainder

-- the change by a division that has an answer, and none where it has none
abbrev pub divided : Size → List ℕ → Flags → Option Division → Change
divided size regs flags (Some d) = plain (with_division size regs d) unknown_flags
divided size regs flags None = going regs flags Next.Divide

-- a division of the dividend by the low bits of a register
abbrev pub div_effect : Bool → Size → Reg → List ℕ → Flags → Change
div_effect signed size s regs flags = divided size regs flags (division signed (size_bits size) (dividend size regs) (low (size_bits size) (word regs s)))

-- dx, edx or rdx filled with the sign of ax, eax or rax
abbrev pub high_effect : HighSize → List ℕ → List ℕ
high_effect HighSize.W16 regs = with_word regs Rdx (kept Size.W16 (word regs Rdx) (sign_fill 16 (word regs Rax)))
high_effect HighSize.W32 regs = with_word regs Rdx (sign_fill 32 (word regs Rax))
high_effect HighSize.W64 regs = with_word regs Rdx (sign_fill 64 (word regs Rax))

-- the address of a place in memory
abbrev pub address_of : List ℕ → Mem → ℕ
address_of regs m = moved (word regs m.base) m.disp

-- the registers with rsp moved
abbrev pub with_stack : List ℕ → ℤ → List ℕ
with_stack regs by = with_word regs Rsp (moved (word regs Rsp) by)

-- the low byte of a register set by a condition that is known
abbrev pub set_effect : Option Bool → Reg → List ℕ → Flags → Change
set_effect (Some t) d regs flags = plain (with_word regs d (kept Size.W8 (word regs d) (if t then 1 else 0))) flags
set_effect None d regs flags = going regs flags Next.NoFlag

-- a move under a condition that is known
abbrev pub cmov_effect : Option Bool → Reg → Reg → List ℕ → Flags → Change
cmov_effect (Some t) d s regs flags = plain (if t then with_word regs d (word regs s) else regs) flags
cmov_effect None d s regs flags = going regs flags Next.NoFlag

-- a branch under a condition that is known
abbrev pub jcc_effect : Option Bool → ℤ → List ℕ → Flags → Change
jcc_effect (Some t) by regs flags = going regs flags (if t then Next.Branch by else Next.Fall)
jcc_effect None by regs flags = going regs flags Next.NoFlag

-- the effect of each row
unfoldable pub effect_of : Instr → List ℕ → Flags → Change
effect_of (Mov w d s) regs flags = plain (with_word regs d (low (wide_bits w) (word regs s))) flags
effect_of (MovImm64 d n) regs flags = plain (with_word regs d n) flags
effect_of (MovImm32 d n) regs flags = plain (with_word regs d n) flags
effect_of (Alu op w d s) regs flags = alu_effect op w d (word regs s) regs
effect_of (AluImm op w d n) regs flags = alu_effect (same_op op) w d (constant n) regs
effect_of (Imul w d s) regs flags = imul_effect w d s regs
effect_of (Shift op w d) regs flags = shift_effect op w d regs flags
effect_of (Div signed size s) regs flags = div_effect signed size s regs flags
effect_of (High size) regs flags = plain (high_effect size regs) flags
effect_of (Widen kind d s) regs flags = plain (with_word regs d (widened kind (word regs s))) flags
effect_of (Load size d m) regs flags = record { regs = regs; flags = flags; access = Read (address_of regs m) size d; next = Next.Fall }
effect_of (Store size m s) regs flags = record { regs = regs; flags = flags; access = Write (address_of regs m) size (low (size_bits size) (word regs s)); next = Next.Fall }
effect_of (Lea d m) regs flags = plain (with_word regs d (address_of regs m)) flags
effect_of (Push r) regs flags = record { regs = with_stack regs (negsuc 7); flags = flags; access = Write (moved (word regs Rsp) (negsuc 7)) Size.W64 (word regs r); next = Next.Fall }
effect_of (Pop r) regs flags = record { regs = with_stack regs (pos 8); flags = flags; access = Read (word regs Rsp) Size.W64 r; next = Next.Fall }
effect_of (SetCond c d) regs flags = set_effect (holds c flags) d regs flags
effect_of (Cmov c d s) regs flags = cmov_effect (holds c flags) d s regs flags
effect_of (Jcc c by) regs flags = jcc_effect (holds c flags) by regs flags
effect_of (Jmp by) regs flags = going regs flags (Next.Branch by)
effect_of (Call by) regs flags = going (with_stack regs (negsuc 7)) flags (Next.Call by)
effect_of Ret regs flags = going (with_stack regs (pos 8)) flags Next.Return
effect_of CallR11 regs flags = going (with_stack regs (negsuc 7)) flags Next.CallR11
effect_of JmpR11 regs flags = going regs flags Next.ToR11
effect_of Syscall regs flags = going regs flags Next.Kernel
effect_of Ud2 regs flags = going regs flags Next.Invalid
effect_of Int3 regs flags = going regs flags Next.Breakpoint
effect_of Nop regs flags = plain regs flags
