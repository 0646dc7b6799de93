-- The bytes of each instruction, in the rows' order; above each its opcode in the manual's letters.
use Rattle.std.specs.Prelude.{ℕ, suc, ◌+◌, ◌-◌, ◌*◌, ◌%◌, ◌^◌, ◌<◌, Bool, true, false, nat_eq, nat_le, if◌then◌else◌, List, [], ◌∷◌, ◌++◌, ◌≡◌, length, drop, ℤ, pos, negsuc}
use Rattle.rd_num.specs.Number.{le_bytes}
use Rattle.x86_core.specs.declared.reg.Reg.{Reg}
use Rattle.x86_core.specs.declared.instr.Wide.{Wide}
use Rattle.x86_core.specs.declared.instr.Size.{Size}
use Rattle.x86_core.specs.declared.instr.HighSize.{HighSize}
use Rattle.x86_core.specs.declared.instr.Mem.{Mem}
use Rattle.x86_core.specs.declared.instr.AluOp.{AluOp}
use Rattle.x86_core.specs.declared.instr.ImmOp.{ImmOp}
use Rattle.x86_core.specs.declared.instr.ShiftOp.{ShiftOp}
use Rattle.x86_core.specs.declared.instr.WidenKind.{WidenKind}
use Rattle.x86_core.specs.declared.instr.Cond.{Cond}
use Rattle.x86_core.specs.declared.instr.Instr.{Instr}
use Rattle.x86_core.specs.declared.instr.Instr.TheVariants.{Mov, MovImm64, MovImm32, Alu, AluImm, Imul, Shift, Div, High, Widen, Load, Store, Lea, Push, Pop, SetCond, Cmov, Jcc, Jmp, Call, Ret, CallR11, JmpR11, Syscall, Ud2, Int3, Nop}
use Rattle.x86_core.specs.Registers.{number_of}

-- a bit as a number
abbrev pub bit : Bool → ℕ
bit true = 1
bit false = 0

-- the REX byte: 0100 W R 0 B
abbrev pub rex : Bool → Bool → Bool → ℕ
rex w r b = 0x40 + 8 * bit w + 4 * bit r + bit b

-- the REX byte where one of its bits is set
abbrev pub rex_if : Bool → Bool → Bool → List ℕ
rex_if false false false = []
rex_if true r b = rex true r b ∷ []
rex_if false true b = rex false true b ∷ []
rex_if false false true = rex false false true ∷ []

-- the high bit of a register's number, which REX holds
abbrev pub extended : Reg → Bool
extended r = nat_le 8 (number_of r)

-- the low three bits of a register's number
abbrev pub low3 : Reg → ℕ
low3 r = number_of r % 8

-- the W bit of an operation on registers
abbrev pub is_wide : Wide → Bool
is_wide Wide.W32 = false
is_wide Wide.W64 = true

-- the ModRM byte: mode, reg and rm
abbrev pub modrm : ℕ → ℕ → ℕ → ℕ
modrm mode reg rm = 64 * mode + 8 * reg + rm

-- the ModRM byte of two registers, the reg field first
abbrev pub registers : Reg → Reg → ℕ
registers r m = modrm 3 (low3 r) (low3 m)

-- the ModRM byte of a digit and a register
abbrev pub digit : ℕ → Reg → ℕ
digit n m = modrm 3 n (low3 m)

-- a signed number of 32 bits in two's complement
abbrev pub low32 : ℤ → ℕ
low32 (pos n) = n
low32 (negsuc n) = 2 ^ 32 - suc n

-- a displacement or a constant in four bytes
abbrev pub number32 : ℤ → List ℕ
number32 n = le_bytes 4 (low32 n)

-- the SIB byte that a base of rsp or r12 needs
abbrev pub index_of : Reg → List ℕ
index_of base = if nat_eq (low3 base) 4 then 0x24 ∷ [] else []

-- ModRM, SIB and displacement of a register and a place in memory
abbrev pub memory : Reg → Mem → List ℕ
memory r m = modrm 2 (low3 r) (low3 m.base) ∷ (index_of m.base ++ number32 m.disp)

-- the opcode of an operation on two registers
abbrev pub alu_opcode : AluOp → ℕ
alu_opcode AluOp.Add = 0x01
alu_opcode AluOp.Or = 0x09
alu_opcode AluOp.And = 0x21
alu_opcode AluOp.Sub = 0x29
alu_opcode AluOp.Xor = 0x31
alu_opcode AluOp.Cmp = 0x39
alu_opcode AluOp.Test = 0x85

-- the digit of an operation with a constant
abbrev pub imm_digit : ImmOp → ℕ
imm_digit ImmOp.Add = 0
imm_digit ImmOp.Or = 1
imm_digit ImmOp.And = 4
imm_digit ImmOp.Sub = 5
imm_digit ImmOp.Xor = 6
imm_digit ImmOp.Cmp = 7

-- the digit of a shift
abbrev pub shift_digit : ShiftOp → ℕ
shift_digit ShiftOp.Shl = 4
shift_digit ShiftOp.Shr = 5
shift_digit ShiftOp.Sar = 7

-- the digit of a division
abbrev pub div_digit : Bool → ℕ
div_digit false = 6
div_digit true = 7

-- the code of a condition
abbrev pub cond_code : Cond → ℕ
cond_code Cond.O = 0x0
cond_code Cond.No = 0x1
cond_code Cond.B = 0x2
cond_code Cond.Ae = 0x3
cond_code Cond.E = 0x4
cond_code Cond.Ne = 0x5
cond_code Cond.Be = 0x6
cond_code Cond.A = 0x7
cond_code Cond.S = 0x8
cond_code Cond.Ns = 0x9
cond_code Cond.L = 0xC
cond_code Cond.Ge = 0xD
cond_code Cond.Le = 0xE
cond_code Cond.G = 0xF

-- the bytes of an instruction
abbrev pub encoding : Instr → List ℕ
-- MOV r/m32, r32: 89 /r. MOV r/m64, r64: REX.W + 89 /r
encoding (Mov w d s) = rex_if (is_wide w) (extended s) (extended d) ++ (0x89 ∷ registers s d ∷ [])
-- MOV r64, imm64: REX.W + B8+rd io
encoding (MovImm64 d n) = rex true false (extended d) ∷ (0xB8 + low3 d) ∷ le_bytes 8 n
-- MOV r32, imm32: B8+rd id
encoding (MovImm32 d n) = rex_if false false (extended d) ++ ((0xB8 + low3 d) ∷ le_bytes 4 n)
-- ADD 01 /r, OR 09 /r, AND 21 /r, SUB 29 /r, XOR 31 /r, CMP 39 /r, TEST 85 /r: r/m32, r32 and REX.W + r/m64, r64
encoding (Alu op w d s) = rex_if (is_wide w) (extended s) (extended d) ++ (alu_opcode op ∷ registers s d ∷ [])
-- ADD 81 /0 id, OR 81 /1 id, AND 81 /4 id, SUB 81 /5 id, XOR 81 /6 id, CMP 81 /7 id: r/m32, imm32 and REX.W + r/m64, imm32
encoding (AluImm op w d n) = rex_if (is_wide w) false (extended d) ++ (0x81 ∷ digit (imm_digit op) d ∷ number32 n)
-- IMUL r32, r/m32: 0F AF /r. IMUL r64, r/m64: REX.W + 0F AF /r
encoding (Imul w d s) = rex_if (is_wide w) (extended d) (extended s) ++ (0x0F ∷ 0xAF ∷ registers d s ∷ [])
-- SHL D3 /4, SHR D3 /5, SAR D3 /7: r/m32, CL and REX.W + r/m64, CL
encoding (Shift op w d) = rex_if (is_wide w) false (extended d) ++ (0xD3 ∷ digit (shift_digit op) d ∷ [])
-- DIV r/m8: REX + F6 /6. IDIV r/m8: REX + F6 /7
encoding (Div signed Size.W8 s) = rex false false (extended s) ∷ 0xF6 ∷ digit (div_digit signed) s ∷ []
-- DIV r/m16: 66 F7 /6. IDIV r/m16: 66 F7 /7
encoding (Div signed Size.W16 s) = 0x66 ∷ (rex_if false false (extended s) ++ (0xF7 ∷ digit (div_digit signed) s ∷ []))
-- DIV r/m32: F7 /6. IDIV r/m32: F7 /7
encoding (Div signed Size.W32 s) = rex_if false false (extended s) ++ (0xF7 ∷ digit (div_digit signed) s ∷ [])
-- DIV r/m64: REX.W + F7 /6. IDIV r/m64: REX.W + F7 /7
encoding (Div signed Size.W64 s) = rex true false (extended s) ∷ 0xF7 ∷ digit (div_digit signed) s ∷ []
-- CWD: 66 99
encoding (High HighSize.W16) = 0x66 ∷ 0x99 ∷ []
-- CDQ: 99
encoding (High HighSize.W32) = 0x99 ∷ []
-- CQO: REX.W + 99
encoding (High HighSize.W64) = 0x48 ∷ 0x99 ∷ []
-- MOVZX r32, r/m8: 0F B6 /r, always with a REX, so that spl, bpl, sil and dil are meant
encoding (Widen WidenKind.Zero8 d s) = rex false (extended d) (extended s) ∷ 0x0F ∷ 0xB6 ∷ registers d s ∷ []
-- MOVZX r32, r/m16: 0F B7 /r
encoding (Widen WidenKind.Zero16 d s) = rex_if false (extended d) (extended s) ++ (0x0F ∷ 0xB7 ∷ registers d s ∷ [])
-- MOVSX r64, r/m8: REX.W + 0F BE /r
encoding (Widen WidenKind.Sign8 d s) = rex true (extended d) (extended s) ∷ 0x0F ∷ 0xBE ∷ registers d s ∷ []
-- MOVSX r64, r/m16: REX.W + 0F BF /r
encoding (Widen WidenKind.Sign16 d s) = rex true (extended d) (extended s) ∷ 0x0F ∷ 0xBF ∷ registers d s ∷ []
-- MOVSXD r64, r/m32: REX.W + 63 /r
encoding (Widen WidenKind.Sign32 d s) = rex true (extended d) (extended s) ∷ 0x63 ∷ registers d s ∷ []
-- MOV r64, r/m64: REX.W + 8B /r
encoding (Load Size.W64 d m) = rex true (extended d) (extended m.base) ∷ 0x8B ∷ memory d m
-- MOV r32, r/m32: 8B /r
encoding (Load Size.W32 d m) = rex_if false (extended d) (extended m.base) ++ (0x8B ∷ memory d m)
-- MOVZX r32, r/m16: 0F B7 /r
encoding (Load Size.W16 d m) = rex_if false (extended d) (extended m.base) ++ (0x0F ∷ 0xB7 ∷ memory d m)
-- MOVZX r32, r/m8: 0F B6 /r
encoding (Load Size.W8 d m) = rex_if false (extended d) (extended m.base) ++ (0x0F ∷ 0xB6 ∷ memory d m)
-- MOV r/m64, r64: REX.W + 89 /r
encoding (Store Size.W64 m s) = rex true (extended s) (extended m.base) ∷ 0x89 ∷ memory s m
-- MOV r/m32, r32: 89 /r
encoding (Store Size.W32 m s) = rex_if false (extended s) (extended m.base) ++ (0x89 ∷ memory s m)
-- MOV r/m16, r16: 66 89 /r
encoding (Store Size.W16 m s) = 0x66 ∷ (rex_if false (extended s) (extended m.base) ++ (0x89 ∷ memory s m))
-- MOV r/m8, r8: REX + 88 /r
encoding (Store Size.W8 m s) = rex false (extended s) (extended m.base) ∷ 0x88 ∷ memory s m
-- LEA r64, m: REX.W + 8D /r
encoding (Lea d m) = rex true (extended d) (extended m.base) ∷ 0x8D ∷ memory d m
-- PUSH r64: 50+rd
encoding (Push r) = rex_if false false (extended r) ++ ((0x50 + low3 r) ∷ [])
-- POP r64: 58+rd
encoding (Pop r) = rex_if false false (extended r) ++ ((0x58 + low3 r) ∷ [])
-- SETcc r/m8: REX + 0F 90+cc
encoding (SetCond c d) = rex false false (extended d) ∷ 0x0F ∷ (0x90 + cond_code c) ∷ digit 0 d ∷ []
-- CMOVcc r64, r/m64: REX.W + 0F 40+cc /r
encoding (Cmov c d s) = rex true (extended d) (extended s) ∷ 0x0F ∷ (0x40 + cond_code c) ∷ registers d s ∷ []
-- Jcc rel32: 0F 80+cc cd
encoding (Jcc c by) = 0x0F ∷ (0x80 + cond_code c) ∷ number32 by
-- JMP rel32: E9 cd
encoding (Jmp by) = 0xE9 ∷ number32 by
-- CALL rel32: E8 cd
encoding (Call by) = 0xE8 ∷ number32 by
-- RET: C3
encoding Ret = 0xC3 ∷ []
-- CALL r/m64: FF /2, of r11
encoding CallR11 = 0x41 ∷ 0xFF ∷ 0xD3 ∷ []
-- JMP r/m64: FF /4, of r11
encoding JmpR11 = 0x41 ∷ 0xFF ∷ 0xE3 ∷ []
-- SYSCALL: 0F 05
encoding Syscall = 0x0F ∷ 0x05 ∷ []
-- UD2: 0F 0B
encoding Ud2 = 0x0F ∷ 0x0B ∷ []
-- INT3: CC
encoding Int3 = 0xCC ∷ []
-- NOP: 90
encoding Nop = 0x90 ∷ []

-- a signed number of 32 bits
abbrev pub IsNumber32 : ℤ → Type 0
IsNumber32 (pos n) = n < 2 ^ 31
IsNumber32 (negsuc n) = n < 2 ^ 31

-- constants and displacements are in the range of their type
abbrev pub IsInstr : Instr → Type 0
IsInstr (Mov w d s) = Unit {0}
IsInstr (MovImm64 d n) = n < 2 ^ 64
IsInstr (MovImm32 d n) = n < 2 ^ 32
IsInstr (Alu op w d s) = Unit {0}
IsInstr (AluImm op w d n) = IsNumber32 n
IsInstr (Imul w d s) = Unit {0}
IsInstr (Shift op w d) = Unit {0}
IsInstr (Div signed size s) = Unit {0}
IsInstr (High size) = Unit {0}
IsInstr (Widen kind d s) = Unit {0}
IsInstr (Load size d m) = IsNumber32 m.disp
IsInstr (Store size m s) = IsNumber32 m.disp
IsInstr (Lea d m) = IsNumber32 m.disp
IsInstr (Push r) = Unit {0}
IsInstr (Pop r) = Unit {0}
IsInstr (SetCond c d) = Unit {0}
IsInstr (Cmov c d s) = Unit {0}
IsInstr (Jcc c by) = IsNumber32 by
IsInstr (Jmp by) = IsNumber32 by
IsInstr (Call by) = IsNumber32 by
IsInstr Ret = Unit {0}
IsInstr CallR11 = Unit {0}
IsInstr JmpR11 = Unit {0}
IsInstr Syscall = Unit {0}
IsInstr Ud2 = Unit {0}
IsInstr Int3 = Unit {0}
IsInstr Nop = Unit {0}

-- the bytes begin with an instruction
pub record Begins (bytes : List ℕ) (i : Instr) : Type 0 where
  pub is_instr : IsInstr i
  pub begins : bytes ≡ encoding i ++ drop (length (encoding i)) bytes

-- the bytes are the first ones of an instruction, and not all of it
pub record IsCut (bytes : List ℕ) : Type 0 where
  pub whole : Instr
  pub is_instr : IsInstr whole
  pub next : ℕ
  pub more : List ℕ
  pub goes_on : encoding whole ≡ bytes ++ (next ∷ more)
