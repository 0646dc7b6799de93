-- The instruction that an encoding begins with.
use Rattle.std.proofs.Common.{◌≡◌, ℕ, ◌+◌, ◌/◌, ◌%◌, ◌^◌, ◌<◌, Bool, true, false, List, [], ◌∷◌, ◌++◌, length, Option, Some, refl, sym, ◌∙◌, ap, append_assoc, length-append, add-zero, lit<, arith}
use Rattle.std.specs.Prelude.{ℤ, nat_eq, if◌then◌else◌}
use Rattle.std.proofs.lemmas.Bool.{eq-eqb, ne_eqb}
use Rattle.x86_core.specs.declared.reg.Reg.{Reg}
use Rattle.x86_core.specs.declared.reg.Reg.TheVariants.{Rax, Rsp, R12}
use Rattle.x86_core.specs.declared.instr.Wide.{Wide}
use Rattle.x86_core.specs.declared.instr.Size.{Size}
use Rattle.x86_core.specs.declared.instr.HighSize.{HighSize}
use Rattle.x86_core.specs.declared.instr.Mem.{Mem}
use Rattle.x86_core.specs.declared.instr.AluOp.{AluOp}
use Rattle.x86_core.specs.declared.instr.ImmOp.{ImmOp}
use Rattle.x86_core.specs.declared.instr.ShiftOp.{ShiftOp}
use Rattle.x86_core.specs.declared.instr.WidenKind.{WidenKind}
use Rattle.x86_core.specs.declared.instr.Cond.{Cond}
use Rattle.x86_core.specs.declared.instr.Instr.{Instr}
use Rattle.x86_core.specs.declared.instr.Instr.TheVariants.{Mov, MovImm64, MovImm32, Alu, AluImm, Imul, Shift, Div, High, Widen, Load, Store, Lea, Push, Pop, SetCond, Cmov, Jcc, Jmp, Call}
use Rattle.x86_core.specs.declared.instr.Decoded.{Decoded}
use Rattle.x86_core.specs.declared.instr.Decoded.TheVariants.{One, Unknown}
use Rattle.x86_core.specs.declared.instr.Prefix.{Prefix}
use Rattle.x86_core.specs.declared.instr.Prefix.TheVariants.{Plain, Rex, Word}
use Rattle.x86_core.specs.Encoding.{encoding, IsInstr, IsNumber32, rex, rex_if, is_wide, extended, low3, modrm, registers, digit, memory, index_of, number32, low32, alu_opcode, imm_digit, shift_digit, div_digit, cond_code}
use Rattle.x86_core.specs.Decoding
use Rattle.x86_core.specs.Decoding.{reg_bit, rm_bit, wide_at, size_at, reg_at, imm_at, shift_at, div_at, signed32, with_number, two_registers, with_digit, indexed, displaced, at_memory, by_mode, decode}
use Rattle.x86_core.proofs.Parts.{reg_back, low3_small, signed_back, low32_small, number_back4, number_back8}

-- a test that holds, and one that doesn't
yes : {A : Type 0} (t : Bool) (x y : A) → t ≡ true → (if t then x else y) ≡ x
yes t x y e = ap (λ (b : Bool). if b then x else y) e

no : {A : Type 0} (t : Bool) (x y : A) → t ≡ false → (if t then x else y) ≡ y
no t x y e = ap (λ (b : Bool). if b then x else y) e

-- the fields of a ModRM byte
mode_of : (mode reg rm : ℕ) → reg < 8 → rm < 8 → modrm mode reg rm / 64 ≡ mode
mode_of mode reg rm h k = omega arith

reg_of_byte : (mode reg rm : ℕ) → reg < 8 → rm < 8 → modrm mode reg rm / 8 % 8 ≡ reg
reg_of_byte mode reg rm h k = omega arith

rm_of_byte : (mode reg rm : ℕ) → reg < 8 → rm < 8 → modrm mode reg rm % 8 ≡ rm
rm_of_byte mode reg rm h k = omega arith

-- a register of the reg field, and one of the rm field
found_reg : (mode : ℕ) (high : Bool) (x : Reg) (rm : ℕ) → rm < 8 → high ≡ extended x → reg_at high (modrm mode (low3 x) rm / 8 % 8) ≡ x
found_reg mode high x rm h e = ap (λ (k : ℕ). reg_at high k) (reg_of_byte mode (low3 x) rm (low3_small x) h) ∙ ap (λ (b : Bool). reg_at b (low3 x)) e ∙ reg_back x

found_rm : (mode : ℕ) (high : Bool) (reg : ℕ) (y : Reg) → reg < 8 → high ≡ extended y → reg_at high (modrm mode reg (low3 y) % 8) ≡ y
found_rm mode high reg y h e = ap (λ (k : ℕ). reg_at high k) (rm_of_byte mode reg (low3 y) h (low3_small y)) ∙ ap (λ (b : Bool). reg_at b (low3 y)) e ∙ reg_back y

-- two registers
two_back : (make : Reg → Reg → Instr) (size : ℕ) (p : Prefix) (x y : Reg) (rest : List ℕ) → reg_bit p ≡ extended x → rm_bit p ≡ extended y →
    two_registers make size p (registers x y ∷ rest) ≡ One (make x y) size
two_back make size p x y rest hx hy =
    yes (nat_eq (registers x y / 64) 3) (One (make (reg_at (reg_bit p) (registers x y / 8 % 8)) (reg_at (rm_bit p) (registers x y % 8))) size) Unknown
    (eq-eqb (registers x y / 64) 3 (mode_of 3 (low3 x) (low3 y) (low3_small x) (low3_small y))) ∙
    ap (λ (r : Reg). One (make r (reg_at (rm_bit p) (registers x y % 8))) size) (found_reg 3 (reg_bit p) x (low3 y) (low3_small y) hx) ∙
    ap (λ (m : Reg). One (make x m) size) (found_rm 3 (rm_bit p) (low3 x) y (low3_small x) hy)

-- a digit and a register
digit_back : (row : ℕ → Reg → List ℕ → Decoded) (p : Prefix) (n : ℕ) (y : Reg) (rest : List ℕ) → n < 8 → rm_bit p ≡ extended y →
    with_digit row p (digit n y ∷ rest) ≡ row n y rest
digit_back row p n y rest h hy =
    yes (nat_eq (digit n y / 64) 3) (row (digit n y / 8 % 8) (reg_at (rm_bit p) (digit n y % 8)) rest) Unknown
    (eq-eqb (digit n y / 64) 3 (mode_of 3 n (low3 y) h (low3_small y))) ∙
    ap (λ (k : ℕ). row k (reg_at (rm_bit p) (digit n y % 8)) rest) (reg_of_byte 3 n (low3 y) h (low3_small y)) ∙
    ap (λ (m : Reg). row n m rest) (found_rm 3 (rm_bit p) n y h hy)

-- a signed number
number_back : (make : ℤ → Instr) (size : ℕ) (d : ℤ) (rest : List ℕ) → IsNumber32 d → with_number make size (number32 d ++ rest) ≡ One (make d) size
number_back make size d rest h =
    ap (λ (n : ℕ). One (make (signed32 n)) size) (number_back4 (low32 d) (low32_small d h)) ∙ ap (λ (e : ℤ). One (make e) size) (signed_back d h)

-- a register and a place in memory
module _ (make : Reg → Mem → Instr) (size : ℕ) where
  abbrev at : Reg → Reg → ℤ → Instr
  at r base d = make r (record { base = base; disp = d })

  displaced_back : (r base : Reg) (d : ℤ) (rest : List ℕ) → IsNumber32 d →
      displaced (at r base) size (low3 base) ((index_of base ++ number32 d) ++ rest) ≡ One (at r base d) (size + length (index_of base))
  displaced_back r Rsp d rest h = number_back (at r Rsp) (size + 1) d rest h
  displaced_back r R12 d rest h = number_back (at r R12) (size + 1) d rest h
  displaced_back r base d rest h = number_back (at r base) size d rest h ∙ ap (λ (n : ℕ). One (at r base d) n) (sym (add-zero size))

  pub memory_back : (p : Prefix) (r : Reg) (m : Mem) (rest : List ℕ) → IsNumber32 m.disp → reg_bit p ≡ extended r → rm_bit p ≡ extended m.base →
      at_memory make size p (memory r m ++ rest) ≡ One (make r m) (size + length (index_of m.base))
  memory_back p r m rest h hr hm =
      let byte : ℕ = modrm 2 (low3 r) (low3 m.base) in
      let tail : List ℕ = (index_of m.base ++ number32 m.disp) ++ rest in
      yes (nat_eq (byte / 64) 2) (displaced (at (reg_at (reg_bit p) (byte / 8 % 8)) (reg_at (rm_bit p) (byte % 8))) size (byte % 8) tail) Unknown
      (eq-eqb (byte / 64) 2 (mode_of 2 (low3 r) (low3 m.base) (low3_small r) (low3_small m.base))) ∙
      ap (λ (x : Reg). displaced (at x (reg_at (rm_bit p) (byte % 8))) size (byte % 8) tail) (found_reg 2 (reg_bit p) r (low3 m.base) (low3_small m.base) hr) ∙
      ap (λ (y : Reg). displaced (at r y) size (byte % 8) tail) (found_rm 2 (rm_bit p) (low3 r) m.base (low3_small r) hm) ∙
      ap (λ (k : ℕ). displaced (at r m.base) size k tail) (rm_of_byte 2 (low3 r) (low3 m.base) (low3_small r) (low3_small m.base)) ∙
      displaced_back r m.base m.disp rest h

-- the mode of a ModRM byte chooses
registers_mode : (f g : List ℕ → Decoded) (x y : Reg) (rest : List ℕ) → by_mode f g (registers x y ∷ rest) ≡ f (registers x y ∷ rest)
registers_mode f g x y rest =
    yes (nat_eq (registers x y / 64) 3) (f (registers x y ∷ rest)) (g (registers x y ∷ rest)) (eq-eqb (registers x y / 64) 3 (mode_of 3 (low3 x) (low3 y) (low3_small x) (low3_small y)))

memory_mode : (f g : List ℕ → Decoded) (r : Reg) (m : Mem) (rest : List ℕ) → by_mode f g (memory r m ++ rest) ≡ g (memory r m ++ rest)
memory_mode f g r m rest =
    let two : modrm 2 (low3 r) (low3 m.base) / 64 ≡ 2 = mode_of 2 (low3 r) (low3 m.base) (low3_small r) (low3_small m.base) in
    no (nat_eq (modrm 2 (low3 r) (low3 m.base) / 64) 3) (f (memory r m ++ rest)) (g (memory r m ++ rest)) (ne_eqb (modrm 2 (low3 r) (low3 m.base) / 64) 3 (λ e. omega arith))

-- the prefix of three bits
abbrev prefix_if : Bool → Bool → Bool → Prefix
prefix_if false false false = Plain
prefix_if true r b = Rex true r b
prefix_if false true b = Rex false true b
prefix_if false false true = Rex false false true

reg_if : (w r b : Bool) → reg_bit (prefix_if w r b) ≡ r
reg_if true r b = refl
reg_if false true b = refl
reg_if false false true = refl
reg_if false false false = refl

rm_if : (w r b : Bool) → rm_bit (prefix_if w r b) ≡ b
rm_if true r b = refl
rm_if false true b = refl
rm_if false false true = refl
rm_if false false false = refl

-- a row of two registers: what its front and its opcode lead to
module _ (front : Bool → Bool → List ℕ) (pre : Bool → Bool → Prefix) (op : List ℕ)
    (reg_is : (r b : Bool) → reg_bit (pre r b) ≡ r) (rm_is : (r b : Bool) → rm_bit (pre r b) ≡ b) where
  pub two_row_back : (make : Reg → Reg → Instr) →
      ((r b : Bool) (x y : Reg) (rest : List ℕ) → decode (front r b ++ (op ++ (registers x y ∷ rest))) ≡ two_registers make (length (front r b) + (length op + 1)) (pre r b) (registers x y ∷ rest)) →
      (x y : Reg) (rest : List ℕ) → decode ((front (extended x) (extended y) ++ (op ++ (registers x y ∷ []))) ++ rest) ≡ One (make x y) (length (front (extended x) (extended y) ++ (op ++ (registers x y ∷ []))))
  two_row_back make opens x y rest =
      let f : List ℕ = front (extended x) (extended y) in
      let whole : (f ++ (op ++ (registers x y ∷ []))) ++ rest ≡ f ++ (op ++ (registers x y ∷ rest)) =
      append_assoc f (op ++ (registers x y ∷ [])) rest ∙ ap (λ (xs : List ℕ). f ++ xs) (append_assoc op (registers x y ∷ []) rest)
      in
      let size : length f + (length op + 1) ≡ length (f ++ (op ++ (registers x y ∷ []))) = omega (arith, length-append f (op ++ (registers x y ∷ [])), length-append op (registers x y ∷ [])) in
      ap decode whole ∙ opens (extended x) (extended y) x y rest ∙
      two_back make (length f + (length op + 1)) (pre (extended x) (extended y)) x y rest (reg_is (extended x) (extended y)) (rm_is (extended x) (extended y)) ∙
      ap (λ (n : ℕ). One (make x y) n) size

  pub memory_row_back : (make : Reg → Mem → Instr) →
      ((r b : Bool) (x : Reg) (m : Mem) (rest : List ℕ) → decode (front r b ++ (op ++ (memory x m ++ rest))) ≡ at_memory make (length (front r b) + (length op + 5)) (pre r b) (memory x m ++ rest)) →
      (x : Reg) (m : Mem) (rest : List ℕ) → IsNumber32 m.disp →
      decode ((front (extended x) (extended m.base) ++ (op ++ memory x m)) ++ rest) ≡ One (make x m) (length (front (extended x) (extended m.base) ++ (op ++ memory x m)))
  memory_row_back make opens x m rest h =
      let f : List ℕ = front (extended x) (extended m.base) in
      let whole : (f ++ (op ++ memory x m)) ++ rest ≡ f ++ (op ++ (memory x m ++ rest)) =
      append_assoc f (op ++ memory x m) rest ∙ ap (λ (xs : List ℕ). f ++ xs) (append_assoc op (memory x m) rest)
      in
      let size : length f + (length op + 5) + length (index_of m.base) ≡ length (f ++ (op ++ memory x m)) =
      omega (arith, length-append f (op ++ memory x m), length-append op (memory x m), length-append (index_of m.base) (number32 m.disp))
      in
      ap decode whole ∙ opens (extended x) (extended m.base) x m rest ∙
      memory_back make (length f + (length op + 5)) (pre (extended x) (extended m.base)) x m rest h (reg_is (extended x) (extended m.base)) (rm_is (extended x) (extended m.base)) ∙
      ap (λ (n : ℕ). One (make x m) n) size

-- fronts with W fixed
abbrev pub long_front : Bool → Bool → List ℕ
long_front r b = rex true r b ∷ []

abbrev pub byte_front : Bool → Bool → List ℕ
byte_front r b = rex false r b ∷ []

-- 89 of registers
mov_opens : (w : Wide) (r b : Bool) (x y : Reg) (rest : List ℕ) → decode (rex_if (is_wide w) r b ++ (0x89 ∷ registers x y ∷ rest)) ≡ two_registers (λ s d. Mov w d s) (length (rex_if (is_wide w) r b) + 2) (prefix_if (is_wide w) r b) (registers x y ∷ rest)
unfolding decode
mov_opens Wide.W64 true true x y rest = registers_mode (Decoding.move_row (Rex true true true)) (Decoding.store_row (Rex true true true)) x y rest
mov_opens Wide.W64 true false x y rest = registers_mode (Decoding.move_row (Rex true true false)) (Decoding.store_row (Rex true true false)) x y rest
mov_opens Wide.W64 false true x y rest = registers_mode (Decoding.move_row (Rex true false true)) (Decoding.store_row (Rex true false true)) x y rest
mov_opens Wide.W64 false false x y rest = registers_mode (Decoding.move_row (Rex true false false)) (Decoding.store_row (Rex true false false)) x y rest
mov_opens Wide.W32 true true x y rest = registers_mode (Decoding.move_row (Rex false true true)) (Decoding.store_row (Rex false true true)) x y rest
mov_opens Wide.W32 true false x y rest = registers_mode (Decoding.move_row (Rex false true false)) (Decoding.store_row (Rex false true false)) x y rest
mov_opens Wide.W32 false true x y rest = registers_mode (Decoding.move_row (Rex false false true)) (Decoding.store_row (Rex false false true)) x y rest
mov_opens Wide.W32 false false x y rest = registers_mode (Decoding.move_row Plain) (Decoding.store_row Plain) x y rest

mov_back : (w : Wide) (d s : Reg) (rest : List ℕ) → decode (encoding (Mov w d s) ++ rest) ≡ One (Mov w d s) (length (encoding (Mov w d s)))
mov_back w d s rest = two_row_back (rex_if (is_wide w)) (prefix_if (is_wide w)) (0x89 ∷ []) (reg_if (is_wide w)) (rm_if (is_wide w)) (λ x y. Mov w y x) (mov_opens w) s d rest

-- B8 to BF
constant64_back : (d : Reg) (n : ℕ) (rest : List ℕ) → n < 2 ^ 64 → decode (encoding (MovImm64 d n) ++ rest) ≡ One (MovImm64 d n) 10
unfolding decode
constant64_back Rax n rest h = ap (λ (k : ℕ). One (MovImm64 Rax k) 10) (number_back8 n h)
constant64_back d n rest h = ap (λ (k : ℕ). One (MovImm64 d k) 10) (number_back8 n h)

constant32_back : (d : Reg) (n : ℕ) (rest : List ℕ) → n < 2 ^ 32 → decode (encoding (MovImm32 d n) ++ rest) ≡ One (MovImm32 d n) (length (encoding (MovImm32 d n)))
unfolding decode
constant32_back Rax n rest h = ap (λ (k : ℕ). One (MovImm32 Rax k) 5) (number_back4 n h)
constant32_back d n rest h = ap (λ (k : ℕ). One (MovImm32 d k) (length (encoding (MovImm32 d n)))) (number_back4 n h)

-- 01 and the others
alu_opens : (op : AluOp) (w : Wide) (r b : Bool) (bs : List ℕ) → decode (rex_if (is_wide w) r b ++ (alu_opcode op ∷ bs)) ≡ two_registers (λ s d. Alu op w d s) (length (rex_if (is_wide w) r b) + 2) (prefix_if (is_wide w) r b) bs
unfolding decode
alu_opens AluOp.Add Wide.W64 true true bs = refl
alu_opens AluOp.Add Wide.W64 true false bs = refl
alu_opens AluOp.Add Wide.W64 false true bs = refl
alu_opens AluOp.Add Wide.W64 false false bs = refl
alu_opens AluOp.Add Wide.W32 true true bs = refl
alu_opens AluOp.Add Wide.W32 true false bs = refl
alu_opens AluOp.Add Wide.W32 false true bs = refl
alu_opens AluOp.Add Wide.W32 false false bs = refl
alu_opens AluOp.Or Wide.W64 true true bs = refl
alu_opens AluOp.Or Wide.W64 true false bs = refl
alu_opens AluOp.Or Wide.W64 false true bs = refl
alu_opens AluOp.Or Wide.W64 false false bs = refl
alu_opens AluOp.Or Wide.W32 true true bs = refl
alu_opens AluOp.Or Wide.W32 true false bs = refl
alu_opens AluOp.Or Wide.W32 false true bs = refl
alu_opens AluOp.Or Wide.W32 false false bs = refl
alu_opens AluOp.And Wide.W64 true true bs = refl
alu_opens AluOp.And Wide.W64 true false bs = refl
alu_opens AluOp.And Wide.W64 false true bs = refl
alu_opens AluOp.And Wide.W64 false false bs = refl
alu_opens AluOp.And Wide.W32 true true bs = refl
alu_opens AluOp.And Wide.W32 true false bs = refl
alu_opens AluOp.And Wide.W32 false true bs = refl
alu_opens AluOp.And Wide.W32 false false bs = refl
alu_opens AluOp.Sub Wide.W64 true true bs = refl
alu_opens AluOp.Sub Wide.W64 true false bs = refl
alu_opens AluOp.Sub Wide.W64 false true bs = refl
alu_opens AluOp.Sub Wide.W64 false false bs = refl
alu_opens AluOp.Sub Wide.W32 true true bs = refl
alu_opens AluOp.Sub Wide.W32 true false bs = refl
alu_opens AluOp.Sub Wide.W32 false true bs = refl
alu_opens AluOp.Sub Wide.W32 false false bs = refl
alu_opens AluOp.Xor Wide.W64 true true bs = refl
alu_opens AluOp.Xor Wide.W64 true false bs = refl
alu_opens AluOp.Xor Wide.W64 false true bs = refl
alu_opens AluOp.Xor Wide.W64 false false bs = refl
alu_opens AluOp.Xor Wide.W32 true true bs = refl
alu_opens AluOp.Xor Wide.W32 true false bs = refl
alu_opens AluOp.Xor Wide.W32 false true bs = refl
alu_opens AluOp.Xor Wide.W32 false false bs = refl
alu_opens AluOp.Cmp Wide.W64 true true bs = refl
alu_opens AluOp.Cmp Wide.W64 true false bs = refl
alu_opens AluOp.Cmp Wide.W64 false true bs = refl
alu_opens AluOp.Cmp Wide.W64 false false bs = refl
alu_opens AluOp.Cmp Wide.W32 true true bs = refl
alu_opens AluOp.Cmp Wide.W32 true false bs = refl
alu_opens AluOp.Cmp Wide.W32 false true bs = refl
alu_opens AluOp.Cmp Wide.W32 false false bs = refl
alu_opens AluOp.Test Wide.W64 true true bs = refl
alu_opens AluOp.Test Wide.W64 true false bs = refl
alu_opens AluOp.Test Wide.W64 false true bs = refl
alu_opens AluOp.Test Wide.W64 false false bs = refl
alu_opens AluOp.Test Wide.W32 true true bs = refl
alu_opens AluOp.Test Wide.W32 true false bs = refl
alu_opens AluOp.Test Wide.W32 false true bs = refl
alu_opens AluOp.Test Wide.W32 false false bs = refl

alu_back : (op : AluOp) (w : Wide) (d s : Reg) (rest : List ℕ) → decode (encoding (Alu op w d s) ++ rest) ≡ One (Alu op w d s) (length (encoding (Alu op w d s)))
alu_back op w d s rest = two_row_back (rex_if (is_wide w)) (prefix_if (is_wide w)) (alu_opcode op ∷ []) (reg_if (is_wide w)) (rm_if (is_wide w)) (λ x y. Alu op w y x) (λ r b x y more. alu_opens op w r b (registers x y ∷ more)) s d rest

-- 0F AF
imul_opens : (w : Wide) (r b : Bool) (bs : List ℕ) → decode (rex_if (is_wide w) r b ++ (0x0F ∷ 0xAF ∷ bs)) ≡ two_registers (Imul w) (length (rex_if (is_wide w) r b) + 3) (prefix_if (is_wide w) r b) bs
unfolding decode
imul_opens Wide.W64 true true bs = refl
imul_opens Wide.W64 true false bs = refl
imul_opens Wide.W64 false true bs = refl
imul_opens Wide.W64 false false bs = refl
imul_opens Wide.W32 true true bs = refl
imul_opens Wide.W32 true false bs = refl
imul_opens Wide.W32 false true bs = refl
imul_opens Wide.W32 false false bs = refl

imul_back : (w : Wide) (d s : Reg) (rest : List ℕ) → decode (encoding (Imul w d s) ++ rest) ≡ One (Imul w d s) (length (encoding (Imul w d s)))
imul_back w d s rest = two_row_back (rex_if (is_wide w)) (prefix_if (is_wide w)) (0x0F ∷ 0xAF ∷ []) (reg_if (is_wide w)) (rm_if (is_wide w)) (Imul w) (λ r b x y more. imul_opens w r b (registers x y ∷ more)) d s rest

-- a row of a digit: what its front and its opcode lead to
module _ (front : Bool → List ℕ) (pre : Bool → Prefix) (op : List ℕ) (rm_is : (b : Bool) → rm_bit (pre b) ≡ b) (row : Bool → ℕ → Reg → List ℕ → Decoded)
    (opens : (b : Bool) (bs : List ℕ) → decode (front b ++ (op ++ bs)) ≡ with_digit (row b) (pre b) bs) where
  digit_row_back : (n : ℕ) (y : Reg) (tail rest : List ℕ) → n < 8 → decode ((front (extended y) ++ (op ++ (digit n y ∷ tail))) ++ rest) ≡ row (extended y) n y (tail ++ rest)
  digit_row_back n y tail rest h =
      let f : List ℕ = front (extended y) in
      let whole : (f ++ (op ++ (digit n y ∷ tail))) ++ rest ≡ f ++ (op ++ (digit n y ∷ (tail ++ rest))) =
      append_assoc f (op ++ (digit n y ∷ tail)) rest ∙ ap (λ (xs : List ℕ). f ++ xs) (append_assoc op (digit n y ∷ tail) rest)
      in
      ap decode whole ∙ opens (extended y) (digit n y ∷ (tail ++ rest)) ∙ digit_back (row (extended y)) (pre (extended y)) n y (tail ++ rest) h (rm_is (extended y))

-- 81
alu_imm_opens : (w : Wide) (b : Bool) (bs : List ℕ) → decode (rex_if (is_wide w) false b ++ (0x81 ∷ bs)) ≡ with_digit (λ n d rest. Decoding.alu_imm (imm_at n) w d (length (rex_if (is_wide w) false b) + 6) rest) (prefix_if (is_wide w) false b) bs
unfolding decode
alu_imm_opens Wide.W64 true bs = refl
alu_imm_opens Wide.W64 false bs = refl
alu_imm_opens Wide.W32 true bs = refl
alu_imm_opens Wide.W32 false bs = refl

imm_small : (op : ImmOp) → imm_digit op < 8
imm_small ImmOp.Add = lit< tt
imm_small op = lit< tt

imm_back : (op : ImmOp) → imm_at (imm_digit op) ≡ Some op
imm_back ImmOp.Add = refl
imm_back op = refl

alu_imm_back : (op : ImmOp) (w : Wide) (d : Reg) (n : ℤ) (rest : List ℕ) → IsNumber32 n → decode (encoding (AluImm op w d n) ++ rest) ≡ One (AluImm op w d n) (length (encoding (AluImm op w d n)))
alu_imm_back op w d n rest h =
    let front : List ℕ = rex_if (is_wide w) false (extended d) in
    let size : length front + 6 ≡ length (encoding (AluImm op w d n)) = omega (arith, length-append front (0x81 ∷ digit (imm_digit op) d ∷ number32 n)) in
    digit_row_back (λ b. rex_if (is_wide w) false b) (λ b. prefix_if (is_wide w) false b) (0x81 ∷ []) (λ b. rm_if (is_wide w) false b)
    (λ b k x more. Decoding.alu_imm (imm_at k) w x (length (rex_if (is_wide w) false b) + 6) more) (alu_imm_opens w) (imm_digit op) d (number32 n) rest (imm_small op) ∙
    ap (λ (o : Option ImmOp). Decoding.alu_imm o w d (length front + 6) (number32 n ++ rest)) (imm_back op) ∙
    number_back (λ c. AluImm op w d c) (length front + 6) n rest h ∙
    ap (λ (k : ℕ). One (AluImm op w d n) k) size

-- D3
shift_opens : (w : Wide) (b : Bool) (bs : List ℕ) → decode (rex_if (is_wide w) false b ++ (0xD3 ∷ bs)) ≡ with_digit (λ n d rest. Decoding.shifting (shift_at n) w d (length (rex_if (is_wide w) false b) + 2)) (prefix_if (is_wide w) false b) bs
unfolding decode
shift_opens Wide.W64 true bs = refl
shift_opens Wide.W64 false bs = refl
shift_opens Wide.W32 true bs = refl
shift_opens Wide.W32 false bs = refl

shift_small : (op : ShiftOp) → shift_digit op < 8
shift_small ShiftOp.Shl = lit< tt
shift_small op = lit< tt

shift_at_back : (op : ShiftOp) → shift_at (shift_digit op) ≡ Some op
shift_at_back ShiftOp.Shl = refl
shift_at_back op = refl

shift_back : (op : ShiftOp) (w : Wide) (d : Reg) (rest : List ℕ) → decode (encoding (Shift op w d) ++ rest) ≡ One (Shift op w d) (length (encoding (Shift op w d)))
shift_back op w d rest =
    let front : List ℕ = rex_if (is_wide w) false (extended d) in
    let size : length front + 2 ≡ length (encoding (Shift op w d)) = omega (arith, length-append front (0xD3 ∷ digit (shift_digit op) d ∷ [])) in
    digit_row_back (λ b. rex_if (is_wide w) false b) (λ b. prefix_if (is_wide w) false b) (0xD3 ∷ []) (λ b. rm_if (is_wide w) false b)
    (λ b k x more. Decoding.shifting (shift_at k) w x (length (rex_if (is_wide w) false b) + 2)) (shift_opens w) (shift_digit op) d [] rest (shift_small op) ∙
    ap (λ (o : Option ShiftOp). Decoding.shifting o w d (length front + 2)) (shift_at_back op) ∙
    ap (λ (k : ℕ). One (Shift op w d) k) size

-- F6 and F7
abbrev div_front : Size → Bool → List ℕ
div_front Size.W8 b = rex false false b ∷ []
div_front Size.W16 b = 0x66 ∷ rex_if false false b
div_front Size.W32 b = rex_if false false b
div_front Size.W64 b = rex true false b ∷ []

abbrev div_prefix : Size → Bool → Prefix
div_prefix Size.W8 b = Rex false false b
div_prefix Size.W16 b = Word false b
div_prefix Size.W32 b = prefix_if false false b
div_prefix Size.W64 b = Rex true false b

abbrev div_opcode : Size → ℕ
div_opcode Size.W8 = 0xF6
div_opcode Size.W16 = 0xF7
div_opcode Size.W32 = 0xF7
div_opcode Size.W64 = 0xF7

div_rm : (size : Size) (b : Bool) → rm_bit (div_prefix size b) ≡ b
div_rm Size.W8 b = refl
div_rm Size.W16 b = refl
div_rm Size.W32 b = rm_if false false b
div_rm Size.W64 b = refl

div_opens : (size : Size) (b : Bool) (bs : List ℕ) → decode (div_front size b ++ (div_opcode size ∷ bs)) ≡ with_digit (λ n s rest. Decoding.dividing (div_at n) size s (length (div_front size b) + 2)) (div_prefix size b) bs
unfolding decode
div_opens Size.W8 true bs = refl
div_opens Size.W8 false bs = refl
div_opens Size.W16 true bs = refl
div_opens Size.W16 false bs = refl
div_opens Size.W32 true bs = refl
div_opens Size.W32 false bs = refl
div_opens Size.W64 true bs = refl
div_opens Size.W64 false bs = refl

div_bytes : (signed : Bool) (size : Size) (s : Reg) → encoding (Div signed size s) ≡ div_front size (extended s) ++ (div_opcode size ∷ digit (div_digit signed) s ∷ [])
div_bytes signed Size.W8 s = refl
div_bytes signed size s = refl

div_small : (signed : Bool) → div_digit signed < 8
div_small true = lit< tt
div_small false = lit< tt

div_at_back : (signed : Bool) → div_at (div_digit signed) ≡ Some signed
div_at_back true = refl
div_at_back false = refl

div_back : (signed : Bool) (size : Size) (s : Reg) (rest : List ℕ) → decode (encoding (Div signed size s) ++ rest) ≡ One (Div signed size s) (length (encoding (Div signed size s)))
div_back signed size s rest =
    let front : List ℕ = div_front size (extended s) in
    let spelling : List ℕ = front ++ (div_opcode size ∷ digit (div_digit signed) s ∷ []) in
    let bytes : encoding (Div signed size s) ≡ spelling = div_bytes signed size s in
    let sized : length front + 2 ≡ length spelling = omega (arith, length-append front (div_opcode size ∷ digit (div_digit signed) s ∷ [])) in
    ap (λ (xs : List ℕ). decode (xs ++ rest)) bytes ∙
    digit_row_back (div_front size) (div_prefix size) (div_opcode size ∷ []) (div_rm size)
    (λ b k x more. Decoding.dividing (div_at k) size x (length (div_front size b) + 2)) (div_opens size) (div_digit signed) s [] rest (div_small signed) ∙
    ap (λ (o : Option Bool). Decoding.dividing o size s (length front + 2)) (div_at_back signed) ∙
    ap (λ (k : ℕ). One (Div signed size s) k) (sized ∙ ap length (sym bytes))

-- 99
high_back : (size : HighSize) (rest : List ℕ) → decode (encoding (High size) ++ rest) ≡ One (High size) (length (encoding (High size)))
unfolding decode
high_back HighSize.W16 rest = refl
high_back HighSize.W32 rest = refl
high_back HighSize.W64 rest = refl

-- the rows that widen
zero8_opens : (r b : Bool) (x y : Reg) (rest : List ℕ) → decode (byte_front r b ++ (0x0F ∷ 0xB6 ∷ registers x y ∷ rest)) ≡ two_registers (Widen WidenKind.Zero8) 4 (Rex false r b) (registers x y ∷ rest)
unfolding decode
zero8_opens true true x y rest = registers_mode (Decoding.widen_byte_row (Rex false true true)) (Decoding.load_byte_row (Rex false true true)) x y rest
zero8_opens true false x y rest = registers_mode (Decoding.widen_byte_row (Rex false true false)) (Decoding.load_byte_row (Rex false true false)) x y rest
zero8_opens false true x y rest = registers_mode (Decoding.widen_byte_row (Rex false false true)) (Decoding.load_byte_row (Rex false false true)) x y rest
zero8_opens false false x y rest = registers_mode (Decoding.widen_byte_row (Rex false false false)) (Decoding.load_byte_row (Rex false false false)) x y rest

zero16_opens : (r b : Bool) (x y : Reg) (rest : List ℕ) → decode (rex_if false r b ++ (0x0F ∷ 0xB7 ∷ registers x y ∷ rest)) ≡ two_registers (Widen WidenKind.Zero16) (length (rex_if false r b) + 3) (prefix_if false r b) (registers x y ∷ rest)
unfolding decode
zero16_opens true true x y rest = registers_mode (Decoding.widen_word_row (Rex false true true)) (Decoding.load_word_row (Rex false true true)) x y rest
zero16_opens true false x y rest = registers_mode (Decoding.widen_word_row (Rex false true false)) (Decoding.load_word_row (Rex false true false)) x y rest
zero16_opens false true x y rest = registers_mode (Decoding.widen_word_row (Rex false false true)) (Decoding.load_word_row (Rex false false true)) x y rest
zero16_opens false false x y rest = registers_mode (Decoding.widen_word_row Plain) (Decoding.load_word_row Plain) x y rest

sign8_opens : (r b : Bool) (bs : List ℕ) → decode (long_front r b ++ (0x0F ∷ 0xBE ∷ bs)) ≡ two_registers (Widen WidenKind.Sign8) 4 (Rex true r b) bs
unfolding decode
sign8_opens true true bs = refl
sign8_opens true false bs = refl
sign8_opens false true bs = refl
sign8_opens false false bs = refl

sign16_opens : (r b : Bool) (bs : List ℕ) → decode (long_front r b ++ (0x0F ∷ 0xBF ∷ bs)) ≡ two_registers (Widen WidenKind.Sign16) 4 (Rex true r b) bs
unfolding decode
sign16_opens true true bs = refl
sign16_opens true false bs = refl
sign16_opens false true bs = refl
sign16_opens false false bs = refl

sign32_opens : (r b : Bool) (bs : List ℕ) → decode (long_front r b ++ (0x63 ∷ bs)) ≡ two_registers (Widen WidenKind.Sign32) 3 (Rex true r b) bs
unfolding decode
sign32_opens true true bs = refl
sign32_opens true false bs = refl
sign32_opens false true bs = refl
sign32_opens false false bs = refl

widen_back : (kind : WidenKind) (d s : Reg) (rest : List ℕ) → decode (encoding (Widen kind d s) ++ rest) ≡ One (Widen kind d s) (length (encoding (Widen kind d s)))
widen_back WidenKind.Zero8 d s rest = two_row_back byte_front (λ r b. Rex false r b) (0x0F ∷ 0xB6 ∷ []) (λ r b. refl) (λ r b. refl) (Widen WidenKind.Zero8) zero8_opens d s rest
widen_back WidenKind.Zero16 d s rest = two_row_back (rex_if false) (prefix_if false) (0x0F ∷ 0xB7 ∷ []) (reg_if false) (rm_if false) (Widen WidenKind.Zero16) zero16_opens d s rest
widen_back WidenKind.Sign8 d s rest = two_row_back long_front (λ r b. Rex true r b) (0x0F ∷ 0xBE ∷ []) (λ r b. refl) (λ r b. refl) (Widen WidenKind.Sign8) (λ r b x y more. sign8_opens r b (registers x y ∷ more)) d s rest
widen_back WidenKind.Sign16 d s rest = two_row_back long_front (λ r b. Rex true r b) (0x0F ∷ 0xBF ∷ []) (λ r b. refl) (λ r b. refl) (Widen WidenKind.Sign16) (λ r b x y more. sign16_opens r b (registers x y ∷ more)) d s rest
widen_back WidenKind.Sign32 d s rest = two_row_back long_front (λ r b. Rex true r b) (0x63 ∷ []) (λ r b. refl) (λ r b. refl) (Widen WidenKind.Sign32) (λ r b x y more. sign32_opens r b (registers x y ∷ more)) d s rest

-- the loads
load64_opens : (r b : Bool) (bs : List ℕ) → decode (long_front r b ++ (0x8B ∷ bs)) ≡ at_memory (Load Size.W64) 7 (Rex true r b) bs
unfolding decode
load64_opens true true bs = refl
load64_opens true false bs = refl
load64_opens false true bs = refl
load64_opens false false bs = refl

load32_opens : (r b : Bool) (bs : List ℕ) → decode (rex_if false r b ++ (0x8B ∷ bs)) ≡ at_memory (Load Size.W32) (length (rex_if false r b) + 6) (prefix_if false r b) bs
unfolding decode
load32_opens true true bs = refl
load32_opens true false bs = refl
load32_opens false true bs = refl
load32_opens false false bs = refl

load16_opens : (r b : Bool) (x : Reg) (m : Mem) (rest : List ℕ) → decode (rex_if false r b ++ (0x0F ∷ 0xB7 ∷ (memory x m ++ rest))) ≡ at_memory (Load Size.W16) (length (rex_if false r b) + 7) (prefix_if false r b) (memory x m ++ rest)
unfolding decode
load16_opens true true x m rest = memory_mode (Decoding.widen_word_row (Rex false true true)) (Decoding.load_word_row (Rex false true true)) x m rest
load16_opens true false x m rest = memory_mode (Decoding.widen_word_row (Rex false true false)) (Decoding.load_word_row (Rex false true false)) x m rest
load16_opens false true x m rest = memory_mode (Decoding.widen_word_row (Rex false false true)) (Decoding.load_word_row (Rex false false true)) x m rest
load16_opens false false x m rest = memory_mode (Decoding.widen_word_row Plain) (Decoding.load_word_row Plain) x m rest

load8_opens : (r b : Bool) (x : Reg) (m : Mem) (rest : List ℕ) → decode (rex_if false r b ++ (0x0F ∷ 0xB6 ∷ (memory x m ++ rest))) ≡ at_memory (Load Size.W8) (length (rex_if false r b) + 7) (prefix_if false r b) (memory x m ++ rest)
unfolding decode
load8_opens true true x m rest = memory_mode (Decoding.widen_byte_row (Rex false true true)) (Decoding.load_byte_row (Rex false true true)) x m rest
load8_opens true false x m rest = memory_mode (Decoding.widen_byte_row (Rex false true false)) (Decoding.load_byte_row (Rex false true false)) x m rest
load8_opens false true x m rest = memory_mode (Decoding.widen_byte_row (Rex false false true)) (Decoding.load_byte_row (Rex false false true)) x m rest
load8_opens false false x m rest = memory_mode (Decoding.widen_byte_row Plain) (Decoding.load_byte_row Plain) x m rest

load_back : (size : Size) (d : Reg) (m : Mem) (rest : List ℕ) → IsNumber32 m.disp → decode (encoding (Load size d m) ++ rest) ≡ One (Load size d m) (length (encoding (Load size d m)))
load_back Size.W64 d m rest h = memory_row_back long_front (λ r b. Rex true r b) (0x8B ∷ []) (λ r b. refl) (λ r b. refl) (Load Size.W64) (λ r b x n more. load64_opens r b (memory x n ++ more)) d m rest h
load_back Size.W32 d m rest h = memory_row_back (rex_if false) (prefix_if false) (0x8B ∷ []) (reg_if false) (rm_if false) (Load Size.W32) (λ r b x n more. load32_opens r b (memory x n ++ more)) d m rest h
load_back Size.W16 d m rest h = memory_row_back (rex_if false) (prefix_if false) (0x0F ∷ 0xB7 ∷ []) (reg_if false) (rm_if false) (Load Size.W16) load16_opens d m rest h
load_back Size.W8 d m rest h = memory_row_back (rex_if false) (prefix_if false) (0x0F ∷ 0xB6 ∷ []) (reg_if false) (rm_if false) (Load Size.W8) load8_opens d m rest h

-- the stores
abbrev word_front : Bool → Bool → List ℕ
word_front r b = 0x66 ∷ rex_if false r b

store64_opens : (r b : Bool) (x : Reg) (m : Mem) (rest : List ℕ) → decode (long_front r b ++ (0x89 ∷ (memory x m ++ rest))) ≡ at_memory (λ s n. Store Size.W64 n s) 7 (Rex true r b) (memory x m ++ rest)
unfolding decode
store64_opens true true x m rest = memory_mode (Decoding.move_row (Rex true true true)) (Decoding.store_row (Rex true true true)) x m rest
store64_opens true false x m rest = memory_mode (Decoding.move_row (Rex true true false)) (Decoding.store_row (Rex true true false)) x m rest
store64_opens false true x m rest = memory_mode (Decoding.move_row (Rex true false true)) (Decoding.store_row (Rex true false true)) x m rest
store64_opens false false x m rest = memory_mode (Decoding.move_row (Rex true false false)) (Decoding.store_row (Rex true false false)) x m rest

store32_opens : (r b : Bool) (x : Reg) (m : Mem) (rest : List ℕ) → decode (rex_if false r b ++ (0x89 ∷ (memory x m ++ rest))) ≡ at_memory (λ s n. Store Size.W32 n s) (length (rex_if false r b) + 6) (prefix_if false r b) (memory x m ++ rest)
unfolding decode
store32_opens true true x m rest = memory_mode (Decoding.move_row (Rex false true true)) (Decoding.store_row (Rex false true true)) x m rest
store32_opens true false x m rest = memory_mode (Decoding.move_row (Rex false true false)) (Decoding.store_row (Rex false true false)) x m rest
store32_opens false true x m rest = memory_mode (Decoding.move_row (Rex false false true)) (Decoding.store_row (Rex false false true)) x m rest
store32_opens false false x m rest = memory_mode (Decoding.move_row Plain) (Decoding.store_row Plain) x m rest

store16_opens : (r b : Bool) (x : Reg) (m : Mem) (rest : List ℕ) → decode (word_front r b ++ (0x89 ∷ (memory x m ++ rest))) ≡ at_memory (λ s n. Store Size.W16 n s) (length (word_front r b) + 6) (Word r b) (memory x m ++ rest)
unfolding decode
store16_opens true true x m rest = memory_mode (Decoding.move_row (Word true true)) (Decoding.store_row (Word true true)) x m rest
store16_opens true false x m rest = memory_mode (Decoding.move_row (Word true false)) (Decoding.store_row (Word true false)) x m rest
store16_opens false true x m rest = memory_mode (Decoding.move_row (Word false true)) (Decoding.store_row (Word false true)) x m rest
store16_opens false false x m rest = memory_mode (Decoding.move_row (Word false false)) (Decoding.store_row (Word false false)) x m rest

store8_opens : (r b : Bool) (bs : List ℕ) → decode (byte_front r b ++ (0x88 ∷ bs)) ≡ at_memory (λ s n. Store Size.W8 n s) 7 (Rex false r b) bs
unfolding decode
store8_opens true true bs = refl
store8_opens true false bs = refl
store8_opens false true bs = refl
store8_opens false false bs = refl

lea_opens : (r b : Bool) (bs : List ℕ) → decode (long_front r b ++ (0x8D ∷ bs)) ≡ at_memory Lea 7 (Rex true r b) bs
unfolding decode
lea_opens true true bs = refl
lea_opens true false bs = refl
lea_opens false true bs = refl
lea_opens false false bs = refl

store_back : (size : Size) (m : Mem) (s : Reg) (rest : List ℕ) → IsNumber32 m.disp → decode (encoding (Store size m s) ++ rest) ≡ One (Store size m s) (length (encoding (Store size m s)))
store_back Size.W64 m s rest h = memory_row_back long_front (λ r b. Rex true r b) (0x89 ∷ []) (λ r b. refl) (λ r b. refl) (λ x n. Store Size.W64 n x) store64_opens s m rest h
store_back Size.W32 m s rest h = memory_row_back (rex_if false) (prefix_if false) (0x89 ∷ []) (reg_if false) (rm_if false) (λ x n. Store Size.W32 n x) store32_opens s m rest h
store_back Size.W16 m s rest h = memory_row_back word_front (λ r b. Word r b) (0x89 ∷ []) (λ r b. refl) (λ r b. refl) (λ x n. Store Size.W16 n x) store16_opens s m rest h
store_back Size.W8 m s rest h = memory_row_back byte_front (λ r b. Rex false r b) (0x88 ∷ []) (λ r b. refl) (λ r b. refl) (λ x n. Store Size.W8 n x) (λ r b x n more. store8_opens r b (memory x n ++ more)) s m rest h

lea_back : (d : Reg) (m : Mem) (rest : List ℕ) → IsNumber32 m.disp → decode (encoding (Lea d m) ++ rest) ≡ One (Lea d m) (length (encoding (Lea d m)))
lea_back d m rest h = memory_row_back long_front (λ r b. Rex true r b) (0x8D ∷ []) (λ r b. refl) (λ r b. refl) Lea (λ r b x n more. lea_opens r b (memory x n ++ more)) d m rest h

-- 50 to 5F
push_back : (r : Reg) (rest : List ℕ) → decode (encoding (Push r) ++ rest) ≡ One (Push r) (length (encoding (Push r)))
unfolding decode
push_back Rax rest = refl
push_back r rest = refl

pop_back : (r : Reg) (rest : List ℕ) → decode (encoding (Pop r) ++ rest) ≡ One (Pop r) (length (encoding (Pop r)))
unfolding decode
pop_back Rax rest = refl
pop_back r rest = refl

-- the rows of conditions
set_opens : (c : Cond) (b : Bool) (bs : List ℕ) → decode ((rex false false b ∷ []) ++ (0x0F ∷ (0x90 + cond_code c) ∷ bs)) ≡ with_digit (λ n d rest. if nat_eq n 0 then One (SetCond c d) 4 else Unknown) (Rex false false b) bs
unfolding decode
set_opens Cond.O true bs = refl
set_opens Cond.O false bs = refl
set_opens Cond.No true bs = refl
set_opens Cond.No false bs = refl
set_opens Cond.B true bs = refl
set_opens Cond.B false bs = refl
set_opens Cond.Ae true bs = refl
set_opens Cond.Ae false bs = refl
set_opens Cond.E true bs = refl
set_opens Cond.E false bs = refl
set_opens Cond.Ne true bs = refl
set_opens Cond.Ne false bs = refl
set_opens Cond.Be true bs = refl
set_opens Cond.Be false bs = refl
set_opens Cond.A true bs = refl
set_opens Cond.A false bs = refl
set_opens Cond.S true bs = refl
set_opens Cond.S false bs = refl
set_opens Cond.Ns true bs = refl
set_opens Cond.Ns false bs = refl
set_opens Cond.L true bs = refl
set_opens Cond.L false bs = refl
set_opens Cond.Ge true bs = refl
set_opens Cond.Ge false bs = refl
set_opens Cond.Le true bs = refl
set_opens Cond.Le false bs = refl
set_opens Cond.G true bs = refl
set_opens Cond.G false bs = refl

set_back : (c : Cond) (d : Reg) (rest : List ℕ) → decode (encoding (SetCond c d) ++ rest) ≡ One (SetCond c d) 4
set_back c d rest =
    digit_row_back (λ b. rex false false b ∷ []) (λ b. Rex false false b) (0x0F ∷ (0x90 + cond_code c) ∷ []) (λ b. refl)
    (λ b n x more. if nat_eq n 0 then One (SetCond c x) 4 else Unknown) (set_opens c) 0 d [] rest (lit< tt)

cmov_opens : (c : Cond) (r b : Bool) (bs : List ℕ) → decode (long_front r b ++ (0x0F ∷ (0x40 + cond_code c) ∷ bs)) ≡ two_registers (Cmov c) 4 (Rex true r b) bs
unfolding decode
cmov_opens Cond.O true true bs = refl
cmov_opens Cond.O true false bs = refl
cmov_opens Cond.O false true bs = refl
cmov_opens Cond.O false false bs = refl
cmov_opens Cond.No true true bs = refl
cmov_opens Cond.No true false bs = refl
cmov_opens Cond.No false true bs = refl
cmov_opens Cond.No false false bs = refl
cmov_opens Cond.B true true bs = refl
cmov_opens Cond.B true false bs = refl
cmov_opens Cond.B false true bs = refl
cmov_opens Cond.B false false bs = refl
cmov_opens Cond.Ae true true bs = refl
cmov_opens Cond.Ae true false bs = refl
cmov_opens Cond.Ae false true bs = refl
cmov_opens Cond.Ae false false bs = refl
cmov_opens Cond.E true true bs = refl
cmov_opens Cond.E true false bs = refl
cmov_opens Cond.E false true bs = refl
cmov_opens Cond.E false false bs = refl
cmov_opens Cond.Ne true true bs = refl
cmov_opens Cond.Ne true false bs = refl
cmov_opens Cond.Ne false true bs = refl
cmov_opens Cond.Ne false false bs = refl
cmov_opens Cond.Be true true bs = refl
cmov_opens Cond.Be true false bs = refl
cmov_opens Cond.Be false true bs = refl
cmov_opens Cond.Be false false bs = refl
cmov_opens Cond.A true true bs = refl
cmov_opens Cond.A true false bs = refl
cmov_opens Cond.A false true bs = refl
cmov_opens Cond.A false false bs = refl
cmov_opens Cond.S true true bs = refl
cmov_opens Cond.S true false bs = refl
cmov_opens Cond.S false true bs = refl
cmov_opens Cond.S false false bs = refl
cmov_opens Cond.Ns true true bs = refl
cmov_opens Cond.Ns true false bs = refl
cmov_opens Cond.Ns false true bs = refl
cmov_opens Cond.Ns false false bs = refl
cmov_opens Cond.L true true bs = refl
cmov_opens Cond.L true false bs = refl
cmov_opens Cond.L false true bs = refl
cmov_opens Cond.L false false bs = refl
cmov_opens Cond.Ge true true bs = refl
cmov_opens Cond.Ge true false bs = refl
cmov_opens Cond.Ge false true bs = refl
cmov_opens Cond.Ge false false bs = refl
cmov_opens Cond.Le true true bs = refl
cmov_opens Cond.Le true false bs = refl
cmov_opens Cond.Le false true bs = refl
cmov_opens Cond.Le false false bs = refl
cmov_opens Cond.G true true bs = refl
cmov_opens Cond.G true false bs = refl
cmov_opens Cond.G false true bs = refl
cmov_opens Cond.G false false bs = refl

cmov_back : (c : Cond) (d s : Reg) (rest : List ℕ) → decode (encoding (Cmov c d s) ++ rest) ≡ One (Cmov c d s) (length (encoding (Cmov c d s)))
cmov_back c d s rest = two_row_back long_front (λ r b. Rex true r b) (0x0F ∷ (0x40 + cond_code c) ∷ []) (λ r b. refl) (λ r b. refl) (Cmov c) (λ r b x y more. cmov_opens c r b (registers x y ∷ more)) d s rest

jcc_back : (c : Cond) (d : ℤ) (rest : List ℕ) → IsNumber32 d → decode (encoding (Jcc c d) ++ rest) ≡ One (Jcc c d) 6
unfolding decode
jcc_back Cond.O d rest h = number_back (Jcc Cond.O) 6 d rest h
jcc_back c d rest h = number_back (Jcc c) 6 d rest h

-- the branches, and the rows with no operand
jmp_back : (d : ℤ) (rest : List ℕ) → IsNumber32 d → decode (encoding (Jmp d) ++ rest) ≡ One (Jmp d) 5
unfolding decode
jmp_back d rest h = number_back Jmp 5 d rest h

call_back : (d : ℤ) (rest : List ℕ) → IsNumber32 d → decode (encoding (Call d) ++ rest) ≡ One (Call d) 5
unfolding decode
call_back d rest h = number_back Call 5 d rest h

-- every row
pub decode_back : (i : Instr) (rest : List ℕ) → IsInstr i → decode (encoding i ++ rest) ≡ One i (length (encoding i))
unfolding decode
decode_back (Mov w d s) rest h = mov_back w d s rest
decode_back (MovImm64 d n) rest h = constant64_back d n rest h
decode_back (MovImm32 d n) rest h = constant32_back d n rest h
decode_back (Alu op w d s) rest h = alu_back op w d s rest
decode_back (AluImm op w d n) rest h = alu_imm_back op w d n rest h
decode_back (Imul w d s) rest h = imul_back w d s rest
decode_back (Shift op w d) rest h = shift_back op w d rest
decode_back (Div signed size s) rest h = div_back signed size s rest
decode_back (High size) rest h = high_back size rest
decode_back (Widen kind d s) rest h = widen_back kind d s rest
decode_back (Load size d m) rest h = load_back size d m rest h
decode_back (Store size m s) rest h = store_back size m s rest h
decode_back (Lea d m) rest h = lea_back d m rest h
decode_back (Push r) rest h = push_back r rest
decode_back (Pop r) rest h = pop_back r rest
decode_back (SetCond c d) rest h = set_back c d rest
decode_back (Cmov c d s) rest h = cmov_back c d s rest
decode_back (Jcc c d) rest h = jcc_back c d rest h
decode_back (Jmp d) rest h = jmp_back d rest h
decode_back (Call d) rest h = call_back d rest h
decode_back i rest h = refl
