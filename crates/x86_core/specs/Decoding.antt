-- The instruction that bytes begin with: prefix, opcode, operands. The laws that tie it to the
-- encodings stand in proofs/.
use Rattle.std.specs.Prelude.{ℕ, ◌+◌, ◌-◌, ◌*◌, ◌/◌, ◌%◌, ◌^◌, Bool, true, false, not, ◌&&◌, ◌||◌, nat_eq, nat_lt, if◌then◌else◌, List, [], ◌∷◌, ℤ, pos, negsuc, Option, Some, None}
use Rattle.rd_num.specs.Number.{le_number}
use Rattle.x86_core.specs.declared.reg.Reg.{Reg}
use Rattle.x86_core.specs.declared.reg.Reg.TheVariants.{Rax, Rcx, Rdx, Rbx, Rsp, Rbp, Rsi, Rdi, R8, R9, R10, R11, R12, R13, R14, R15}
use Rattle.x86_core.specs.declared.instr.Wide.{Wide}
use Rattle.x86_core.specs.declared.instr.Size.{Size}
use Rattle.x86_core.specs.declared.instr.HighSize.{HighSize}
use Rattle.x86_core.specs.declared.instr.Mem.{Mem}
use Rattle.x86_core.specs.declared.instr.AluOp.{AluOp}
use Rattle.x86_core.specs.declared.instr.ImmOp.{ImmOp}
use Rattle.x86_core.specs.declared.instr.ShiftOp.{ShiftOp}
use Rattle.x86_core.specs.declared.instr.WidenKind.{WidenKind}
use Rattle.x86_core.specs.declared.instr.Cond.{Cond}
use Rattle.x86_core.specs.declared.instr.Instr.{Instr}
use Rattle.x86_core.specs.declared.instr.Instr.TheVariants.{Mov, MovImm64, MovImm32, Alu, AluImm, Imul, Shift, Div, High, Widen, Load, Store, Lea, Push, Pop, SetCond, Cmov, Jcc, Jmp, Call, Ret, CallR11, JmpR11, Syscall, Ud2, Int3, Nop}
use Rattle.x86_core.specs.declared.instr.Decoded.{Decoded}
use Rattle.x86_core.specs.declared.instr.Decoded.TheVariants.{One, Short, Unknown}
use Rattle.x86_core.specs.declared.instr.Prefix.{Prefix}
use Rattle.x86_core.specs.declared.instr.Prefix.TheVariants.{Plain, Rex, Word}
use Rattle.x86_core.specs.Encoding.{bit}

-- the W bit of a prefix
abbrev pub wide_bit : Prefix → Bool
wide_bit Plain = false
wide_bit (Rex w r b) = w
wide_bit (Word r b) = false

-- the R bit of a prefix
abbrev pub reg_bit : Prefix → Bool
reg_bit Plain = false
reg_bit (Rex w r b) = r
reg_bit (Word r b) = r

-- the B bit of a prefix
abbrev pub rm_bit : Prefix → Bool
rm_bit Plain = false
rm_bit (Rex w r b) = b
rm_bit (Word r b) = b

-- how many bytes a prefix has
abbrev pub prefix_size : Prefix → ℕ
prefix_size Plain = 0
prefix_size (Rex w r b) = 1
prefix_size (Word r b) = if r || b then 2 else 1

-- no prefix
abbrev pub is_plain : Prefix → Bool
is_plain Plain = true
is_plain (Rex w r b) = false
is_plain (Word r b) = false

-- a prefix of a row of 32 or 64 bits: none, or a REX byte that says something
abbrev pub is_free : Prefix → Bool
is_free Plain = true
is_free (Rex w r b) = w || r || b
is_free (Word r b) = false

-- a prefix of a row of 16, 32 or 64 bits
abbrev pub is_sized : Prefix → Bool
is_sized Plain = true
is_sized (Rex w r b) = w || r || b
is_sized (Word r b) = true

-- a prefix of a row with no W
abbrev pub is_narrow : Prefix → Bool
is_narrow Plain = true
is_narrow (Rex w r b) = not w && (r || b)
is_narrow (Word r b) = false

-- a prefix of a row with W
abbrev pub is_long : Prefix → Bool
is_long Plain = false
is_long (Rex w r b) = w
is_long (Word r b) = false

-- a prefix of a row that names bytes of registers
abbrev pub is_byte : Prefix → Bool
is_byte Plain = false
is_byte (Rex w r b) = not w
is_byte (Word r b) = false

-- a prefix that doesn't begin with 66
abbrev pub is_usual : Prefix → Bool
is_usual Plain = true
is_usual (Rex w r b) = true
is_usual (Word r b) = false

-- the width of an operation on registers
abbrev pub wide_at : Prefix → Wide
wide_at p = if wide_bit p then Wide.W64 else Wide.W32

-- the width of a division or a store
abbrev pub size_at : Prefix → Size
size_at Plain = Size.W32
size_at (Rex w r b) = if w then Size.W64 else Size.W32
size_at (Word r b) = Size.W16

-- the register of a number below 16
abbrev pub reg_of : ℕ → Reg
reg_of n = if nat_eq n 0 then Rax else (if nat_eq n 1 then Rcx else (if nat_eq n 2 then Rdx else (if nat_eq n 3 then Rbx else (if nat_eq n 4 then Rsp else (if nat_eq n 5 then Rbp else (if nat_eq n 6 then Rsi else (if nat_eq n 7 then Rdi else (if nat_eq n 8 then R8 else (if nat_eq n 9 then R9 else (if nat_eq n 10 then R10 else (if nat_eq n 11 then R11 else (if nat_eq n 12 then R12 else (if nat_eq n 13 then R13 else (if nat_eq n 14 then R14 else R15))))))))))))))

-- the register of a high bit and three low bits
abbrev pub reg_at : Bool → ℕ → Reg
reg_at high low = reg_of (8 * bit high + low)

-- the operation of a digit
abbrev pub imm_at : ℕ → Option ImmOp
imm_at n = if nat_eq n 0 then Some ImmOp.Add else (if nat_eq n 1 then Some ImmOp.Or else (if nat_eq n 4 then Some ImmOp.And else (if nat_eq n 5 then Some ImmOp.Sub else (if nat_eq n 6 then Some ImmOp.Xor else (if nat_eq n 7 then Some ImmOp.Cmp else None)))))

-- the shift of a digit
abbrev pub shift_at : ℕ → Option ShiftOp
shift_at n = if nat_eq n 4 then Some ShiftOp.Shl else (if nat_eq n 5 then Some ShiftOp.Shr else (if nat_eq n 7 then Some ShiftOp.Sar else None))

-- whether the division of a digit is signed
abbrev pub div_at : ℕ → Option Bool
div_at n = if nat_eq n 6 then Some false else (if nat_eq n 7 then Some true else None)

-- the condition of a code
abbrev pub cond_at : ℕ → Option Cond
cond_at n = if nat_eq n 0 then Some Cond.O else (if nat_eq n 1 then Some Cond.No else (if nat_eq n 2 then Some Cond.B else (if nat_eq n 3 then Some Cond.Ae else (if nat_eq n 4 then Some Cond.E else (if nat_eq n 5 then Some Cond.Ne else (if nat_eq n 6 then Some Cond.Be else (if nat_eq n 7 then Some Cond.A else (if nat_eq n 8 then Some Cond.S else (if nat_eq n 9 then Some Cond.Ns else (if nat_eq n 12 then Some Cond.L else (if nat_eq n 13 then Some Cond.Ge else (if nat_eq n 14 then Some Cond.Le else (if nat_eq n 15 then Some Cond.G else None)))))))))))))

-- the signed number of 32 bits in two's complement
abbrev pub signed32 : ℕ → ℤ
signed32 n = if nat_lt n (2 ^ 31) then pos n else negsuc (2 ^ 32 - 1 - n)

-- the number in the first four bytes
abbrev pub first4 : List ℕ → Option ℕ
first4 (a ∷ b ∷ c ∷ d ∷ bs) = Some (le_number (a ∷ b ∷ c ∷ d ∷ []))
first4 bs = None

-- the number in the first eight bytes
abbrev pub first8 : List ℕ → Option ℕ
first8 (a ∷ b ∷ c ∷ d ∷ e ∷ f ∷ g ∷ h ∷ bs) = Some (le_number (a ∷ b ∷ c ∷ d ∷ e ∷ f ∷ g ∷ h ∷ []))
first8 bs = None

-- an instruction made of a number, where all bytes of it are there
abbrev pub taken : (ℕ → Instr) → ℕ → Option ℕ → Decoded
taken make size (Some n) = One (make n) size
taken make size None = Short

-- an instruction that ends with a signed number of four bytes
abbrev pub with_number : (ℤ → Instr) → ℕ → List ℕ → Decoded
with_number make size bs = taken (λ n. make (signed32 n)) size (first4 bs)

-- ModRM with two registers, the reg field first
abbrev pub two_registers : (Reg → Reg → Instr) → ℕ → Prefix → List ℕ → Decoded
two_registers make size p [] = Short
two_registers make size p (m ∷ bs) = if nat_eq (m / 64) 3 then One (make (reg_at (reg_bit p) (m / 8 % 8)) (reg_at (rm_bit p) (m % 8))) size else Unknown

-- ModRM with a digit and a register; then what these say
abbrev pub with_digit : (ℕ → Reg → List ℕ → Decoded) → Prefix → List ℕ → Decoded
with_digit row p [] = Short
with_digit row p (m ∷ bs) = if nat_eq (m / 64) 3 then row (m / 8 % 8) (reg_at (rm_bit p) (m % 8)) bs else Unknown

-- the SIB byte of rsp or r12, and the displacement
abbrev pub indexed : (ℤ → Instr) → ℕ → List ℕ → Decoded
indexed make size [] = Short
indexed make size (i ∷ bs) = if nat_eq i 0x24 then with_number make size bs else Unknown

-- the displacement, after a SIB byte where the base's low bits ask for one
abbrev pub displaced : (ℤ → Instr) → ℕ → ℕ → List ℕ → Decoded
displaced make size rm bs = if nat_eq rm 4 then indexed make (size + 1) bs else with_number make size bs

-- ModRM with a register and a place in memory
abbrev pub at_memory : (Reg → Mem → Instr) → ℕ → Prefix → List ℕ → Decoded
at_memory make size p [] = Short
at_memory make size p (m ∷ bs) = if nat_eq (m / 64) 2 then displaced (λ d. make (reg_at (reg_bit p) (m / 8 % 8)) (record { base = reg_at (rm_bit p) (m % 8); disp = d })) size (m % 8) bs else Unknown

-- ModRM of either kind, by its mode
abbrev pub by_mode : (List ℕ → Decoded) → (List ℕ → Decoded) → List ℕ → Decoded
by_mode regs mem [] = Short
by_mode regs mem (m ∷ bs) = if nat_eq (m / 64) 3 then regs (m ∷ bs) else mem (m ∷ bs)

-- 89 to registers
abbrev pub move_row : Prefix → List ℕ → Decoded
move_row p bs = if is_free p then two_registers (λ r m. Mov (wide_at p) m r) (prefix_size p + 2) p bs else Unknown

-- 89 to memory
abbrev pub store_row : Prefix → List ℕ → Decoded
store_row p bs = if is_sized p then at_memory (λ r m. Store (size_at p) m r) (prefix_size p + 6) p bs else Unknown

-- a constant of 64 or of 32 bits
abbrev pub constants : Prefix → Reg → List ℕ → Decoded
constants p d bs =
    if is_long p then taken (MovImm64 d) 10 (first8 bs) else
    (if is_narrow p then taken (MovImm32 d) (prefix_size p + 5) (first4 bs) else Unknown)

-- B8 to BF
abbrev pub constant_row : Prefix → ℕ → List ℕ → Decoded
constant_row p n bs = if reg_bit p then Unknown else constants p (reg_at (rm_bit p) n) bs

-- an operation on two registers
abbrev pub alu_row : AluOp → Prefix → List ℕ → Decoded
alu_row op p bs = if is_free p then two_registers (λ r m. Alu op (wide_at p) m r) (prefix_size p + 2) p bs else Unknown

-- an operation with a constant, by its digit
abbrev pub alu_imm : Option ImmOp → Wide → Reg → ℕ → List ℕ → Decoded
alu_imm (Some op) w d size bs = with_number (λ c. AluImm op w d c) size bs
alu_imm None w d size bs = Unknown

-- 81
abbrev pub alu_imm_row : Prefix → List ℕ → Decoded
alu_imm_row p bs = if is_free p && not (reg_bit p) then with_digit (λ n d rest. alu_imm (imm_at n) (wide_at p) d (prefix_size p + 6) rest) p bs else Unknown

-- 0F AF
abbrev pub imul_row : Prefix → List ℕ → Decoded
imul_row p bs = if is_free p then two_registers (λ r m. Imul (wide_at p) r m) (prefix_size p + 3) p bs else Unknown

-- a shift, by its digit
abbrev pub shifting : Option ShiftOp → Wide → Reg → ℕ → Decoded
shifting (Some op) w d size = One (Shift op w d) size
shifting None w d size = Unknown

-- D3
abbrev pub shift_row : Prefix → List ℕ → Decoded
shift_row p bs = if is_free p && not (reg_bit p) then with_digit (λ n d rest. shifting (shift_at n) (wide_at p) d (prefix_size p + 2)) p bs else Unknown

-- a division, by its digit
abbrev pub dividing : Option Bool → Size → Reg → ℕ → Decoded
dividing (Some signed) w s size = One (Div signed w s) size
dividing None w s size = Unknown

-- F6
abbrev pub byte_division_row : Prefix → List ℕ → Decoded
byte_division_row p bs = if is_byte p && not (reg_bit p) then with_digit (λ n s rest. dividing (div_at n) Size.W8 s 3) p bs else Unknown

-- F7
abbrev pub division_row : Prefix → List ℕ → Decoded
division_row p bs = if is_sized p && not (reg_bit p) then with_digit (λ n s rest. dividing (div_at n) (size_at p) s (prefix_size p + 2)) p bs else Unknown

-- 99
abbrev pub high_row : Prefix → Decoded
high_row Plain = One (High HighSize.W32) 1
high_row (Rex w r b) = if w && not (r || b) then One (High HighSize.W64) 2 else Unknown
high_row (Word r b) = if r || b then Unknown else One (High HighSize.W16) 2

-- 0F B6 of registers
abbrev pub widen_byte_row : Prefix → List ℕ → Decoded
widen_byte_row p bs = if is_byte p then two_registers (Widen WidenKind.Zero8) 4 p bs else Unknown

-- 0F B6 of memory
abbrev pub load_byte_row : Prefix → List ℕ → Decoded
load_byte_row p bs = if is_narrow p then at_memory (Load Size.W8) (prefix_size p + 7) p bs else Unknown

-- 0F B7 of registers
abbrev pub widen_word_row : Prefix → List ℕ → Decoded
widen_word_row p bs = two_registers (Widen WidenKind.Zero16) (prefix_size p + 3) p bs

-- 0F B7 of memory
abbrev pub load_word_row : Prefix → List ℕ → Decoded
load_word_row p bs = at_memory (Load Size.W16) (prefix_size p + 7) p bs

-- 0F BE, 0F BF
abbrev pub widen_sign_row : WidenKind → Prefix → List ℕ → Decoded
widen_sign_row kind p bs = if is_long p then two_registers (Widen kind) 4 p bs else Unknown

-- 63
abbrev pub widen_long_row : Prefix → List ℕ → Decoded
widen_long_row p bs = if is_long p then two_registers (Widen WidenKind.Sign32) 3 p bs else Unknown

-- 8B
abbrev pub load_row : Prefix → List ℕ → Decoded
load_row p bs = if is_free p then at_memory (Load (size_at p)) (prefix_size p + 6) p bs else Unknown

-- 88
abbrev pub store_byte_row : Prefix → List ℕ → Decoded
store_byte_row p bs = if is_byte p then at_memory (λ r m. Store Size.W8 m r) 7 p bs else Unknown

-- 8D
abbrev pub lea_row : Prefix → List ℕ → Decoded
lea_row p bs = if is_long p then at_memory Lea 7 p bs else Unknown

-- 50 to 57
abbrev pub push_row : Prefix → ℕ → Decoded
push_row p n = if is_narrow p && not (reg_bit p) then One (Push (reg_at (rm_bit p) n)) (prefix_size p + 1) else Unknown

-- 58 to 5F
abbrev pub pop_row : Prefix → ℕ → Decoded
pop_row p n = if is_narrow p && not (reg_bit p) then One (Pop (reg_at (rm_bit p) n)) (prefix_size p + 1) else Unknown

-- 0F 90 to 0F 9F
abbrev pub set_row : Option Cond → Prefix → List ℕ → Decoded
set_row (Some c) p bs = if is_byte p && not (reg_bit p) then with_digit (λ n d rest. if nat_eq n 0 then One (SetCond c d) 4 else Unknown) p bs else Unknown
set_row None p bs = Unknown

-- 0F 40 to 0F 4F
abbrev pub cmov_row : Option Cond → Prefix → List ℕ → Decoded
cmov_row (Some c) p bs = if is_long p then two_registers (Cmov c) 4 p bs else Unknown
cmov_row None p bs = Unknown

-- 0F 80 to 0F 8F
abbrev pub jcc_row : Option Cond → Prefix → List ℕ → Decoded
jcc_row (Some c) p bs = if is_plain p then with_number (Jcc c) 6 bs else Unknown
jcc_row None p bs = Unknown

-- an instruction that has no prefix and no operand
abbrev pub bare_row : Instr → ℕ → Prefix → Decoded
bare_row i size p = if is_plain p then One i size else Unknown

-- E8 and E9
abbrev pub branch_row : (ℤ → Instr) → Prefix → List ℕ → Decoded
branch_row make p bs = if is_plain p then with_number make 5 bs else Unknown

-- FF after 41
abbrev pub word_row : List ℕ → Decoded
word_row [] = Short
word_row (b ∷ bs) = if nat_eq b 0xD3 then One CallR11 3 else (if nat_eq b 0xE3 then One JmpR11 3 else Unknown)

-- FF
abbrev pub r11_row : Prefix → List ℕ → Decoded
r11_row Plain bs = Unknown
r11_row (Rex w r b) bs = if b && not (w || r) then word_row bs else Unknown
r11_row (Word r b) bs = Unknown

-- 0F B6
abbrev pub widen_byte_rows : Prefix → List ℕ → Decoded
widen_byte_rows p bs = if is_byte p || is_plain p then by_mode (widen_byte_row p) (load_byte_row p) bs else Unknown

-- 0F B7
abbrev pub widen_word_rows : Prefix → List ℕ → Decoded
widen_word_rows p bs = if is_narrow p then by_mode (widen_word_row p) (load_word_row p) bs else Unknown

-- the rows after 0F that widen, load and multiply
abbrev pub widen_rows : Prefix → ℕ → List ℕ → Decoded
widen_rows p b bs =
    if nat_eq b 0xAF then imul_row p bs else
    (if nat_eq b 0xB6 then widen_byte_rows p bs else
    (if nat_eq b 0xB7 then widen_word_rows p bs else
    (if nat_eq b 0xBE then widen_sign_row WidenKind.Sign8 p bs else
    (if nat_eq b 0xBF then widen_sign_row WidenKind.Sign16 p bs else Unknown))))

-- the rows after 0F
abbrev pub second_rows : Prefix → ℕ → List ℕ → Decoded
second_rows p b bs =
    if nat_eq b 0x05 then bare_row Syscall 2 p else
    (if nat_eq b 0x0B then bare_row Ud2 2 p else
    (if nat_eq (b / 16) 4 then cmov_row (cond_at (b % 16)) p bs else
    (if nat_eq (b / 16) 8 then jcc_row (cond_at (b % 16)) p bs else
    (if nat_eq (b / 16) 9 then set_row (cond_at (b % 16)) p bs else widen_rows p b bs))))

-- 0F
abbrev pub second : Prefix → List ℕ → Decoded
second p [] = if is_usual p then Short else Unknown
second p (b ∷ bs) = if is_usual p then second_rows p b bs else Unknown

-- 89
abbrev pub move_rows : Prefix → List ℕ → Decoded
move_rows p bs = if is_sized p then by_mode (move_row p) (store_row p) bs else Unknown

-- the rows of no group
abbrev pub bare_rows : Prefix → ℕ → List ℕ → Decoded
bare_rows p b bs =
    if nat_eq b 0xE8 then branch_row Call p bs else
    (if nat_eq b 0xE9 then branch_row Jmp p bs else
    (if nat_eq b 0xC3 then bare_row Ret 1 p else
    (if nat_eq b 0xCC then bare_row Int3 1 p else
    (if nat_eq b 0x90 then bare_row Nop 1 p else
    (if nat_eq b 0xFF then r11_row p bs else
    (if nat_eq b 0x99 then high_row p else Unknown))))))

-- the rows with a register in the opcode
abbrev pub register_rows : Prefix → ℕ → List ℕ → Decoded
register_rows p b bs =
    if nat_eq (b / 8) 10 then push_row p (b % 8) else
    (if nat_eq (b / 8) 11 then pop_row p (b % 8) else
    (if nat_eq (b / 8) 23 then constant_row p (b % 8) bs else bare_rows p b bs))

-- the rows with a digit
abbrev pub digit_rows : Prefix → ℕ → List ℕ → Decoded
digit_rows p b bs =
    if nat_eq b 0x81 then alu_imm_row p bs else
    (if nat_eq b 0xD3 then shift_row p bs else
    (if nat_eq b 0xF6 then byte_division_row p bs else
    (if nat_eq b 0xF7 then division_row p bs else register_rows p b bs)))

-- the rows that move
abbrev pub moving_rows : Prefix → ℕ → List ℕ → Decoded
moving_rows p b bs =
    if nat_eq b 0x89 then move_rows p bs else
    (if nat_eq b 0x8B then load_row p bs else
    (if nat_eq b 0x88 then store_byte_row p bs else
    (if nat_eq b 0x8D then lea_row p bs else
    (if nat_eq b 0x63 then widen_long_row p bs else digit_rows p b bs))))

-- all rows, by the opcode
abbrev pub opcode_rows : Prefix → ℕ → List ℕ → Decoded
opcode_rows p b bs =
    if nat_eq b 0x0F then second p bs else
    (if nat_eq b 0x01 then alu_row AluOp.Add p bs else
    (if nat_eq b 0x09 then alu_row AluOp.Or p bs else
    (if nat_eq b 0x21 then alu_row AluOp.And p bs else
    (if nat_eq b 0x29 then alu_row AluOp.Sub p bs else
    (if nat_eq b 0x31 then alu_row AluOp.Xor p bs else
    (if nat_eq b 0x39 then alu_row AluOp.Cmp p bs else
    (if nat_eq b 0x85 then alu_row AluOp.Test p bs else moving_rows p b bs)))))))

-- an opcode after a prefix
abbrev pub opcode : Prefix → List ℕ → Decoded
opcode p [] = Short
opcode p (b ∷ bs) = opcode_rows p b bs

-- whether a byte is a REX byte: 0100 W R 0 B
abbrev pub is_rex : ℕ → Bool
is_rex n = nat_eq (n / 16) 4 && nat_eq (n / 2 % 2) 0

-- the bits of a REX byte
abbrev pub rex_of : ℕ → Prefix
rex_of n = Rex (nat_eq (n / 8 % 2) 1) (nat_eq (n / 4 % 2) 1) (nat_eq (n % 2) 1)

-- a REX byte behind 66: with no W, and with one of the others
abbrev pub after_word : Prefix → List ℕ → Decoded
after_word Plain bs = Unknown
after_word (Rex w r b) bs = if not w && (r || b) then opcode (Word r b) bs else Unknown
after_word (Word r b) bs = Unknown

-- what stands behind 66
abbrev pub word_prefixed : List ℕ → Decoded
word_prefixed [] = Short
word_prefixed (b ∷ bs) = if is_rex b then after_word (rex_of b) bs else opcode_rows (Word false false) b bs

-- the instruction that bytes begin with
unfoldable pub decode : List ℕ → Decoded
decode [] = Short
decode (b ∷ bs) =
    if nat_eq b 0x66 then word_prefixed bs else
    (if is_rex b then opcode (rex_of b) bs else opcode_rows Plain b bs)
