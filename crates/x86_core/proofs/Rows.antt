-- What the prefixes spell, and that each row's answers are right.
use Rattle.std.proofs.Common.{◌≡◌, ℕ, suc, ◌+◌, Bool, true, false, List, [], ◌∷◌, ◌++◌, length, Option, Some, None, refl, sym, ◌∙◌, ap, append_assoc, length-append, lit<, arith}
use Rattle.std.specs.Prelude.{ℤ, pos, not, ◌&&◌, nat_eq, if◌then◌else◌}
use Rattle.std.proofs.lemmas.Bool.{eqb-true}
use Rattle.x86_core.specs.declared.reg.Reg.{Reg}
use Rattle.x86_core.specs.declared.instr.Size.{Size}
use Rattle.x86_core.specs.declared.instr.Mem.{Mem}
use Rattle.x86_core.specs.declared.instr.AluOp.{AluOp}
use Rattle.x86_core.specs.declared.instr.ImmOp.{ImmOp}
use Rattle.x86_core.specs.declared.instr.ShiftOp.{ShiftOp}
use Rattle.x86_core.specs.declared.instr.WidenKind.{WidenKind}
use Rattle.x86_core.specs.declared.instr.Cond.{Cond}
use Rattle.x86_core.specs.declared.instr.Instr.{Instr}
use Rattle.x86_core.specs.declared.instr.Instr.TheVariants.{Mov, Alu, AluImm, Imul, Shift, Div, Widen, Load, Store, Lea, SetCond, Cmov}
use Rattle.x86_core.specs.declared.instr.Decoded.TheVariants.{One, Unknown}
use Rattle.x86_core.specs.declared.instr.Prefix.{Prefix}
use Rattle.x86_core.specs.declared.instr.Prefix.TheVariants.{Plain, Rex, Word}
use Rattle.x86_core.specs.Encoding.{encoding, IsInstr, IsNumber32, rex, rex_if, is_wide, extended, registers, digit, memory, number32, alu_opcode, imm_digit, shift_digit, div_digit, cond_code}
use Rattle.x86_core.specs.Decoding
use Rattle.x86_core.specs.Decoding.{wide_bit, reg_bit, rm_bit, prefix_size, is_plain, is_free, is_sized, is_narrow, is_long, is_byte, is_usual, wide_at, size_at, reg_at, imm_at, shift_at, div_at, cond_at, first4, first8, taken, with_number, two_registers, with_digit, at_memory, by_mode}
use Rattle.x86_core.proofs.Parts.{HasBits, reg_at_bits, ImmHas, imm_at_digit, ShiftHas, shift_at_digit, DivHas, div_at_digit, CondHas}
use Rattle.x86_core.proofs.Good.{Good, good_unknown, good_where, good_one, cut_of, good_two, good_digit, good_number, good_memory}

-- the bytes of a prefix
abbrev pub spelled : Prefix → List ℕ
spelled Plain = []
spelled (Rex w r b) = rex w r b ∷ []
spelled (Word r b) = 0x66 ∷ rex_if false r b

pub prefix_length : (p : Prefix) → prefix_size p ≡ length (spelled p)
prefix_length Plain = refl
prefix_length (Rex w r b) = refl
prefix_length (Word true b) = refl
prefix_length (Word false true) = refl
prefix_length (Word false false) = refl

-- the length of a prefix and what stands behind it
pub sized_front : (p : Prefix) (op : List ℕ) (k : ℕ) → length op ≡ k → prefix_size p + k ≡ length (spelled p ++ op)
sized_front p op k e = omega (arith, length-append (spelled p) op, prefix_length p)

-- a tested half of a conjunction
pub left_true : (a b : Bool) → a && b ≡ true → a ≡ true
left_true true b e = refl
left_true false b e = e

pub right_true : (a b : Bool) → a && b ≡ true → b ≡ true
right_true true b e = e
right_true false b e = absurd (cc)

pub not_true : (a : Bool) → not a ≡ true → a ≡ false
not_true true e = sym e
not_true false e = refl

-- what the prefix of each kind of row spells
free_spelled : (p : Prefix) → is_free p ≡ true → rex_if (is_wide (wide_at p)) (reg_bit p) (rm_bit p) ≡ spelled p
free_spelled Plain e = refl
free_spelled (Rex true r b) e = refl
free_spelled (Rex false true b) e = refl
free_spelled (Rex false false true) e = refl
free_spelled (Rex false false false) e = absurd (cc)
free_spelled (Word r b) e = absurd (cc)

narrow_spelled : (p : Prefix) → is_narrow p ≡ true → rex_if false (reg_bit p) (rm_bit p) ≡ spelled p
narrow_spelled Plain e = refl
narrow_spelled (Rex true r b) e = absurd (cc)
narrow_spelled (Rex false true b) e = refl
narrow_spelled (Rex false false true) e = refl
narrow_spelled (Rex false false false) e = absurd (cc)
narrow_spelled (Word r b) e = absurd (cc)

long_spelled : (p : Prefix) → is_long p ≡ true → rex true (reg_bit p) (rm_bit p) ∷ [] ≡ spelled p
long_spelled Plain e = absurd (cc)
long_spelled (Rex true r b) e = refl
long_spelled (Rex false r b) e = absurd (cc)
long_spelled (Word r b) e = absurd (cc)

byte_spelled : (p : Prefix) → is_byte p ≡ true → rex false (reg_bit p) (rm_bit p) ∷ [] ≡ spelled p
byte_spelled Plain e = absurd (cc)
byte_spelled (Rex true r b) e = absurd (cc)
byte_spelled (Rex false r b) e = refl
byte_spelled (Word r b) e = absurd (cc)

-- the prefix that stands before a row's opcode, by the bits of two registers
module _ (p : Prefix) (x y : Bool) (hx : x ≡ reg_bit p) (hy : y ≡ rm_bit p) where
  bits_if : (w : Bool) → rex_if w x y ≡ rex_if w (reg_bit p) (rm_bit p)
  bits_if w = ap (λ (r : Bool). rex_if w r y) hx ∙ ap (λ (b : Bool). rex_if w (reg_bit p) b) hy

  bits : (w : Bool) → rex w x y ∷ [] ≡ rex w (reg_bit p) (rm_bit p) ∷ []
  bits w = ap (λ (r : Bool). rex w r y ∷ []) hx ∙ ap (λ (b : Bool). rex w (reg_bit p) b ∷ []) hy

  pub free_front : is_free p ≡ true → rex_if (is_wide (wide_at p)) x y ≡ spelled p
  free_front e = bits_if (is_wide (wide_at p)) ∙ free_spelled p e

  pub narrow_front : is_narrow p ≡ true → rex_if false x y ≡ spelled p
  narrow_front e = bits_if false ∙ narrow_spelled p e

  pub long_front : is_long p ≡ true → rex true x y ∷ [] ≡ spelled p
  long_front e = bits true ∙ long_spelled p e

  pub byte_front : is_byte p ≡ true → rex false x y ∷ [] ≡ spelled p
  byte_front e = bits false ∙ byte_spelled p e

-- a front with an opcode and operands
pub fronted : (xs ys op more : List ℕ) → xs ≡ ys → xs ++ (op ++ more) ≡ (ys ++ op) ++ more
fronted xs ys op more e = sym (append_assoc xs op more) ∙ ap (λ (zs : List ℕ). (zs ++ op) ++ more) e

-- a row of two registers, of its prefix and its opcode
two_row : (p : Prefix) (op : List ℕ) (k size : ℕ) (make : Reg → Reg → Instr) (front : Reg → Reg → List ℕ) → size ≡ prefix_size p + k → suc (length op) ≡ k →
    ((r m : Reg) → IsInstr (make r m)) → ((r m : Reg) → encoding (make r m) ≡ front r m ++ (op ++ (registers r m ∷ []))) →
    ((r m : Reg) → extended r ≡ reg_bit p → extended m ≡ rm_bit p → front r m ≡ spelled p) → Good (spelled p ++ op) (two_registers make size p)
two_row p op k size make front n o real bytes same =
    good_two (spelled p ++ op) make size p
    (λ r m hr hm. record { is_instr = real r m; bytes = bytes r m ∙ fronted (front r m) (spelled p) op (registers r m ∷ []) (same r m hr hm) })
    (let s : prefix_size p + length op ≡ length (spelled p ++ op) = sized_front p op (length op) refl in omega arith)

-- a row of a register and a place in memory
memory_row : (p : Prefix) (op : List ℕ) (k size : ℕ) (make : Reg → Mem → Instr) (front : Reg → Mem → List ℕ) → size ≡ prefix_size p + k → length op + 5 ≡ k →
    ((r : Reg) (m : Mem) → IsNumber32 m.disp → IsInstr (make r m)) → ((r : Reg) (m : Mem) → encoding (make r m) ≡ front r m ++ (op ++ memory r m)) →
    ((r : Reg) (m : Mem) → extended r ≡ reg_bit p → extended m.base ≡ rm_bit p → front r m ≡ spelled p) → Good (spelled p ++ op) (at_memory make size p)
memory_row p op k size make front n o real bytes same =
    good_memory (spelled p ++ op) make size p
    (λ r m h hr hm. record { is_instr = real r m h; bytes = bytes r m ∙ fronted (front r m) (spelled p) op (memory r m) (same r m hr hm) })
    (let s : prefix_size p + length op ≡ length (spelled p ++ op) = sized_front p op (length op) refl in omega arith)

-- 89 of registers
pub move_good : (p : Prefix) → Good (spelled p ++ 0x89 ∷ []) (Decoding.move_row p)
move_good p =
    good_where _ (is_free p) (two_registers (λ r m. Mov (wide_at p) m r) (prefix_size p + 2) p)
    (λ e. two_row p (0x89 ∷ []) 2 _ (λ r m. Mov (wide_at p) m r) (λ r m. rex_if (is_wide (wide_at p)) (extended r) (extended m)) refl refl (λ r m. tt) (λ r m. refl)
    (λ r m hr hm. free_front p _ _ hr hm e))

-- 01 and the others
pub alu_good : (op : AluOp) (p : Prefix) → Good (spelled p ++ alu_opcode op ∷ []) (Decoding.alu_row op p)
alu_good op p =
    good_where _ (is_free p) (two_registers (λ r m. Alu op (wide_at p) m r) (prefix_size p + 2) p)
    (λ e. two_row p (alu_opcode op ∷ []) 2 _ (λ r m. Alu op (wide_at p) m r) (λ r m. rex_if (is_wide (wide_at p)) (extended r) (extended m)) refl refl (λ r m. tt) (λ r m. refl)
    (λ r m hr hm. free_front p _ _ hr hm e))

-- 0F AF
pub imul_good : (p : Prefix) → Good (spelled p ++ (0x0F ∷ 0xAF ∷ [])) (Decoding.imul_row p)
imul_good p =
    good_where _ (is_free p) (two_registers (λ r m. Imul (wide_at p) r m) (prefix_size p + 3) p)
    (λ e. two_row p (0x0F ∷ 0xAF ∷ []) 3 _ (λ r m. Imul (wide_at p) r m) (λ r m. rex_if (is_wide (wide_at p)) (extended r) (extended m)) refl refl (λ r m. tt) (λ r m. refl)
    (λ r m hr hm. free_front p _ _ hr hm e))

-- a prefix with W and with no other byte has one byte
pub long_size : (p : Prefix) → is_long p ≡ true → prefix_size p ≡ 1
long_size Plain e = absurd (cc)
long_size (Rex w r b) e = refl
long_size (Word r b) e = absurd (cc)

pub byte_size : (p : Prefix) → is_byte p ≡ true → prefix_size p ≡ 1
byte_size Plain e = absurd (cc)
byte_size (Rex w r b) e = refl
byte_size (Word r b) e = absurd (cc)

-- 0F B6 of registers
pub widen_byte_good : (p : Prefix) → Good (spelled p ++ (0x0F ∷ 0xB6 ∷ [])) (Decoding.widen_byte_row p)
widen_byte_good p =
    good_where _ (is_byte p) (two_registers (Widen WidenKind.Zero8) 4 p)
    (λ e. two_row p (0x0F ∷ 0xB6 ∷ []) 3 4 (Widen WidenKind.Zero8) (λ r m. rex false (extended r) (extended m) ∷ []) (let s = byte_size p e in omega arith) refl (λ r m. tt) (λ r m. refl)
    (λ r m hr hm. byte_front p _ _ hr hm e))

-- 0F B7 of registers
pub widen_word_good : (p : Prefix) → is_narrow p ≡ true → Good (spelled p ++ (0x0F ∷ 0xB7 ∷ [])) (Decoding.widen_word_row p)
widen_word_good p e =
    two_row p (0x0F ∷ 0xB7 ∷ []) 3 _ (Widen WidenKind.Zero16) (λ r m. rex_if false (extended r) (extended m)) refl refl (λ r m. tt) (λ r m. refl)
    (λ r m hr hm. narrow_front p _ _ hr hm e)

-- 0F BE
pub widen_sign8_good : (p : Prefix) → Good (spelled p ++ (0x0F ∷ 0xBE ∷ [])) (Decoding.widen_sign_row WidenKind.Sign8 p)
widen_sign8_good p =
    good_where _ (is_long p) (two_registers (Widen WidenKind.Sign8) 4 p)
    (λ e. two_row p (0x0F ∷ 0xBE ∷ []) 3 4 (Widen WidenKind.Sign8) (λ r m. rex true (extended r) (extended m) ∷ []) (let s = long_size p e in omega arith) refl (λ r m. tt) (λ r m. refl)
    (λ r m hr hm. long_front p _ _ hr hm e))

-- 0F BF
pub widen_sign16_good : (p : Prefix) → Good (spelled p ++ (0x0F ∷ 0xBF ∷ [])) (Decoding.widen_sign_row WidenKind.Sign16 p)
widen_sign16_good p =
    good_where _ (is_long p) (two_registers (Widen WidenKind.Sign16) 4 p)
    (λ e. two_row p (0x0F ∷ 0xBF ∷ []) 3 4 (Widen WidenKind.Sign16) (λ r m. rex true (extended r) (extended m) ∷ []) (let s = long_size p e in omega arith) refl (λ r m. tt) (λ r m. refl)
    (λ r m hr hm. long_front p _ _ hr hm e))

-- 63
pub widen_long_good : (p : Prefix) → Good (spelled p ++ 0x63 ∷ []) (Decoding.widen_long_row p)
widen_long_good p =
    good_where _ (is_long p) (two_registers (Widen WidenKind.Sign32) 3 p)
    (λ e. two_row p (0x63 ∷ []) 2 3 (Widen WidenKind.Sign32) (λ r m. rex true (extended r) (extended m) ∷ []) (let s = long_size p e in omega arith) refl (λ r m. tt) (λ r m. refl)
    (λ r m hr hm. long_front p _ _ hr hm e))

-- 0F 40 to 0F 4F
pub cmov_good : (o : Option Cond) (n : ℕ) (p : Prefix) → CondHas n o → Good (spelled p ++ (0x0F ∷ (0x40 + n) ∷ [])) (Decoding.cmov_row o p)
cmov_good None n p h = good_unknown _
cmov_good (Some c) n p h =
    good_where _ (is_long p) (two_registers (Cmov c) 4 p)
    (λ e. two_row p (0x0F ∷ (0x40 + n) ∷ []) 3 4 (Cmov c) (λ r m. rex true (extended r) (extended m) ∷ []) (let s = long_size p e in omega arith) refl (λ r m. tt)
    (λ r m. ap (λ (k : ℕ). rex true (extended r) (extended m) ∷ 0x0F ∷ (0x40 + k) ∷ registers r m ∷ []) h)
    (λ r m hr hm. long_front p _ _ hr hm e))

-- 89 of memory, by the prefix
store_bytes : (p : Prefix) (r : Reg) (m : Mem) → is_sized p ≡ true → extended r ≡ reg_bit p → extended m.base ≡ rm_bit p → encoding (Store (size_at p) m r) ≡ (spelled p ++ 0x89 ∷ []) ++ memory r m
store_bytes Plain r m e hr hm = fronted (rex_if false (extended r) (extended m.base)) [] (0x89 ∷ []) (memory r m) (narrow_front Plain _ _ hr hm refl)
store_bytes (Rex true x y) r m e hr hm = fronted (rex true (extended r) (extended m.base) ∷ []) (spelled (Rex true x y)) (0x89 ∷ []) (memory r m) (long_front (Rex true x y) _ _ hr hm refl)
store_bytes (Rex false x y) r m e hr hm = fronted (rex_if false (extended r) (extended m.base)) (spelled (Rex false x y)) (0x89 ∷ []) (memory r m) (narrow_front (Rex false x y) _ _ hr hm e)
store_bytes (Word x y) r m e hr hm =
    fronted (0x66 ∷ rex_if false (extended r) (extended m.base)) (0x66 ∷ rex_if false x y) (0x89 ∷ []) (memory r m)
    (ap (λ (b : Bool). 0x66 ∷ rex_if false b (extended m.base)) hr ∙ ap (λ (b : Bool). 0x66 ∷ rex_if false x b) hm)

pub store_good : (p : Prefix) → Good (spelled p ++ 0x89 ∷ []) (Decoding.store_row p)
store_good p =
    good_where _ (is_sized p) (at_memory (λ r m. Store (size_at p) m r) (prefix_size p + 6) p)
    (λ e. good_memory (spelled p ++ 0x89 ∷ []) (λ r m. Store (size_at p) m r) (prefix_size p + 6) p
    (λ r m h hr hm. record { is_instr = h; bytes = store_bytes p r m e hr hm })
    (let s = sized_front p (0x89 ∷ []) 1 refl in omega arith))

-- 8B
load_bytes : (p : Prefix) (r : Reg) (m : Mem) → is_free p ≡ true → extended r ≡ reg_bit p → extended m.base ≡ rm_bit p → encoding (Load (size_at p) r m) ≡ (spelled p ++ 0x8B ∷ []) ++ memory r m
load_bytes Plain r m e hr hm = fronted (rex_if false (extended r) (extended m.base)) [] (0x8B ∷ []) (memory r m) (narrow_front Plain _ _ hr hm refl)
load_bytes (Rex true x y) r m e hr hm = fronted (rex true (extended r) (extended m.base) ∷ []) (spelled (Rex true x y)) (0x8B ∷ []) (memory r m) (long_front (Rex true x y) _ _ hr hm refl)
load_bytes (Rex false x y) r m e hr hm = fronted (rex_if false (extended r) (extended m.base)) (spelled (Rex false x y)) (0x8B ∷ []) (memory r m) (narrow_front (Rex false x y) _ _ hr hm e)
load_bytes (Word x y) r m e hr hm = absurd (cc)

pub load_good : (p : Prefix) → Good (spelled p ++ 0x8B ∷ []) (Decoding.load_row p)
load_good p =
    good_where _ (is_free p) (at_memory (Load (size_at p)) (prefix_size p + 6) p)
    (λ e. good_memory (spelled p ++ 0x8B ∷ []) (Load (size_at p)) (prefix_size p + 6) p
    (λ r m h hr hm. record { is_instr = h; bytes = load_bytes p r m e hr hm })
    (let s = sized_front p (0x8B ∷ []) 1 refl in omega arith))

-- 0F B6 of memory
pub load_byte_good : (p : Prefix) → Good (spelled p ++ (0x0F ∷ 0xB6 ∷ [])) (Decoding.load_byte_row p)
load_byte_good p =
    good_where _ (is_narrow p) (at_memory (Load Size.W8) (prefix_size p + 7) p)
    (λ e. memory_row p (0x0F ∷ 0xB6 ∷ []) 7 _ (Load Size.W8) (λ r m. rex_if false (extended r) (extended m.base)) refl refl (λ r m h. h) (λ r m. refl)
    (λ r m hr hm. narrow_front p _ _ hr hm e))

-- 0F B7 of memory
pub load_word_good : (p : Prefix) → is_narrow p ≡ true → Good (spelled p ++ (0x0F ∷ 0xB7 ∷ [])) (Decoding.load_word_row p)
load_word_good p e =
    memory_row p (0x0F ∷ 0xB7 ∷ []) 7 _ (Load Size.W16) (λ r m. rex_if false (extended r) (extended m.base)) refl refl (λ r m h. h) (λ r m. refl)
    (λ r m hr hm. narrow_front p _ _ hr hm e)

-- 88
pub store_byte_good : (p : Prefix) → Good (spelled p ++ 0x88 ∷ []) (Decoding.store_byte_row p)
store_byte_good p =
    good_where _ (is_byte p) (at_memory (λ r m. Store Size.W8 m r) 7 p)
    (λ e. memory_row p (0x88 ∷ []) 6 7 (λ r m. Store Size.W8 m r) (λ r m. rex false (extended r) (extended m.base) ∷ []) (let s = byte_size p e in omega arith) refl (λ r m h. h) (λ r m. refl)
    (λ r m hr hm. byte_front p _ _ hr hm e))

-- 8D
pub lea_good : (p : Prefix) → Good (spelled p ++ 0x8D ∷ []) (Decoding.lea_row p)
lea_good p =
    good_where _ (is_long p) (at_memory Lea 7 p)
    (λ e. memory_row p (0x8D ∷ []) 6 7 Lea (λ r m. rex true (extended r) (extended m.base) ∷ []) (let s = long_size p e in omega arith) refl (λ r m h. h) (λ r m. refl)
    (λ r m hr hm. long_front p _ _ hr hm e))

-- the rows of a digit have no R
-- 81
alu_imm_bytes : (p : Prefix) (op : ImmOp) (n : ℕ) (d : Reg) (c : ℤ) → imm_digit op ≡ n → is_free p ≡ true → reg_bit p ≡ false → extended d ≡ rm_bit p →
    encoding (AluImm op (wide_at p) d c) ≡ ((spelled p ++ 0x81 ∷ []) ++ digit n d ∷ []) ++ number32 c
alu_imm_bytes p op n d c h e none hd =
    ap (λ (k : ℕ). rex_if (is_wide (wide_at p)) false (extended d) ++ (0x81 ∷ digit k d ∷ number32 c)) h ∙
    fronted (rex_if (is_wide (wide_at p)) false (extended d)) (spelled p) (0x81 ∷ digit n d ∷ []) (number32 c) (free_front p false (extended d) (sym none) hd e) ∙
    ap (λ (xs : List ℕ). xs ++ number32 c) (sym (append_assoc (spelled p) (0x81 ∷ []) (digit n d ∷ [])))

pub alu_imm_good : (o : Option ImmOp) (n : ℕ) (p : Prefix) (d : Reg) → ImmHas n o → is_free p ≡ true → reg_bit p ≡ false → extended d ≡ rm_bit p →
    Good ((spelled p ++ 0x81 ∷ []) ++ digit n d ∷ []) (Decoding.alu_imm o (wide_at p) d (prefix_size p + 6))
alu_imm_good None n p d h e none hd = good_unknown _
alu_imm_good (Some op) n p d h e none hd =
    good_number ((spelled p ++ 0x81 ∷ []) ++ digit n d ∷ []) (λ c. AluImm op (wide_at p) d c) (prefix_size p + 6)
    (λ c hc. record { is_instr = hc; bytes = alu_imm_bytes p op n d c h e none hd })
    (let s = sized_front p (0x81 ∷ []) 1 refl in omega (arith, length-append (spelled p ++ 0x81 ∷ []) (digit n d ∷ [])))

pub alu_imm_row_good : (p : Prefix) → Good (spelled p ++ 0x81 ∷ []) (Decoding.alu_imm_row p)
alu_imm_row_good p =
    good_where _ (is_free p && not (reg_bit p)) (with_digit (λ n d rest. Decoding.alu_imm (imm_at n) (wide_at p) d (prefix_size p + 6) rest) p)
    (λ t. row (left_true (is_free p) (not (reg_bit p)) t) (not_true (reg_bit p) (right_true (is_free p) (not (reg_bit p)) t))) where
      row : is_free p ≡ true → reg_bit p ≡ false → Good (spelled p ++ 0x81 ∷ []) (with_digit (λ n d rest. Decoding.alu_imm (imm_at n) (wide_at p) d (prefix_size p + 6) rest) p)
      row e none =
          let zero_rm : HasBits (reg_at (rm_bit p) 0) (rm_bit p) 0 = reg_at_bits (rm_bit p) 0 (lit< tt) in
          let whole = alu_imm_bytes p ImmOp.Add 0 (reg_at (rm_bit p) 0) (pos 0) refl e none zero_rm.above in
          good_digit (spelled p ++ 0x81 ∷ []) (λ n d rest. Decoding.alu_imm (imm_at n) (wide_at p) d (prefix_size p + 6) rest) p
          (cut_of _ (AluImm ImmOp.Add (wide_at p) (reg_at (rm_bit p) 0) (pos 0)) (digit 0 (reg_at (rm_bit p) 0)) (number32 (pos 0)) (lit< tt) (whole ∙ append_assoc (spelled p ++ 0x81 ∷ []) (digit 0 (reg_at (rm_bit p) 0) ∷ []) (number32 (pos 0))))
          (λ n small d hd. alu_imm_good (imm_at n) n p d (imm_at_digit n small) e none hd)

-- D3
shift_bytes : (p : Prefix) (op : ShiftOp) (n : ℕ) (d : Reg) → shift_digit op ≡ n → is_free p ≡ true → reg_bit p ≡ false → extended d ≡ rm_bit p →
    encoding (Shift op (wide_at p) d) ≡ (spelled p ++ 0xD3 ∷ []) ++ digit n d ∷ []
shift_bytes p op n d h e none hd =
    ap (λ (k : ℕ). rex_if (is_wide (wide_at p)) false (extended d) ++ (0xD3 ∷ digit k d ∷ [])) h ∙
    fronted (rex_if (is_wide (wide_at p)) false (extended d)) (spelled p) (0xD3 ∷ []) (digit n d ∷ []) (free_front p false (extended d) (sym none) hd e)

pub shift_good : (o : Option ShiftOp) (n : ℕ) (p : Prefix) (d : Reg) → ShiftHas n o → is_free p ≡ true → reg_bit p ≡ false → extended d ≡ rm_bit p →
    Good ((spelled p ++ 0xD3 ∷ []) ++ digit n d ∷ []) (λ bs. Decoding.shifting o (wide_at p) d (prefix_size p + 2))
shift_good None n p d h e none hd = good_unknown _
shift_good (Some op) n p d h e none hd =
    good_one ((spelled p ++ 0xD3 ∷ []) ++ digit n d ∷ []) (Shift op (wide_at p) d) (prefix_size p + 2) tt (shift_bytes p op n d h e none hd)
    (let s = sized_front p (0xD3 ∷ []) 1 refl in omega (arith, length-append (spelled p ++ 0xD3 ∷ []) (digit n d ∷ [])))

pub shift_row_good : (p : Prefix) → Good (spelled p ++ 0xD3 ∷ []) (Decoding.shift_row p)
shift_row_good p =
    good_where _ (is_free p && not (reg_bit p)) (with_digit (λ n d rest. Decoding.shifting (shift_at n) (wide_at p) d (prefix_size p + 2)) p)
    (λ t. row (left_true (is_free p) (not (reg_bit p)) t) (not_true (reg_bit p) (right_true (is_free p) (not (reg_bit p)) t))) where
      row : is_free p ≡ true → reg_bit p ≡ false → Good (spelled p ++ 0xD3 ∷ []) (with_digit (λ n d rest. Decoding.shifting (shift_at n) (wide_at p) d (prefix_size p + 2)) p)
      row e none =
          let zero_rm : HasBits (reg_at (rm_bit p) 0) (rm_bit p) 0 = reg_at_bits (rm_bit p) 0 (lit< tt) in
          good_digit (spelled p ++ 0xD3 ∷ []) (λ n d rest. Decoding.shifting (shift_at n) (wide_at p) d (prefix_size p + 2)) p
          (cut_of _ (Shift ShiftOp.Shl (wide_at p) (reg_at (rm_bit p) 0)) _ [] tt (shift_bytes p ShiftOp.Shl 4 (reg_at (rm_bit p) 0) refl e none zero_rm.above))
          (λ n small d hd. shift_good (shift_at n) n p d (shift_at_digit n small) e none hd)

-- F6
byte_division_bytes : (p : Prefix) (signed : Bool) (n : ℕ) (s : Reg) → div_digit signed ≡ n → is_byte p ≡ true → reg_bit p ≡ false → extended s ≡ rm_bit p →
    encoding (Div signed Size.W8 s) ≡ (spelled p ++ 0xF6 ∷ []) ++ digit n s ∷ []
byte_division_bytes p signed n s h e none hs =
    ap (λ (k : ℕ). rex false false (extended s) ∷ 0xF6 ∷ digit k s ∷ []) h ∙
    fronted (rex false false (extended s) ∷ []) (spelled p) (0xF6 ∷ []) (digit n s ∷ []) (byte_front p false (extended s) (sym none) hs e)

pub byte_division_good : (o : Option Bool) (n : ℕ) (p : Prefix) (s : Reg) → DivHas n o → is_byte p ≡ true → reg_bit p ≡ false → extended s ≡ rm_bit p →
    Good ((spelled p ++ 0xF6 ∷ []) ++ digit n s ∷ []) (λ bs. Decoding.dividing o Size.W8 s 3)
byte_division_good None n p s h e none hs = good_unknown _
byte_division_good (Some signed) n p s h e none hs =
    good_one ((spelled p ++ 0xF6 ∷ []) ++ digit n s ∷ []) (Div signed Size.W8 s) 3 tt (byte_division_bytes p signed n s h e none hs)
    (let k = sized_front p (0xF6 ∷ []) 1 refl in let one = byte_size p e in omega (arith, length-append (spelled p ++ 0xF6 ∷ []) (digit n s ∷ [])))

pub byte_division_row_good : (p : Prefix) → Good (spelled p ++ 0xF6 ∷ []) (Decoding.byte_division_row p)
byte_division_row_good p =
    good_where _ (is_byte p && not (reg_bit p)) (with_digit (λ n s rest. Decoding.dividing (div_at n) Size.W8 s 3) p)
    (λ t. row (left_true (is_byte p) (not (reg_bit p)) t) (not_true (reg_bit p) (right_true (is_byte p) (not (reg_bit p)) t))) where
      row : is_byte p ≡ true → reg_bit p ≡ false → Good (spelled p ++ 0xF6 ∷ []) (with_digit (λ n s rest. Decoding.dividing (div_at n) Size.W8 s 3) p)
      row e none =
          let zero_rm : HasBits (reg_at (rm_bit p) 0) (rm_bit p) 0 = reg_at_bits (rm_bit p) 0 (lit< tt) in
          good_digit (spelled p ++ 0xF6 ∷ []) (λ n s rest. Decoding.dividing (div_at n) Size.W8 s 3) p
          (cut_of _ (Div false Size.W8 (reg_at (rm_bit p) 0)) _ [] tt (byte_division_bytes p false 6 (reg_at (rm_bit p) 0) refl e none zero_rm.above))
          (λ n small s hs. byte_division_good (div_at n) n p s (div_at_digit n small) e none hs)

-- F7, by the prefix
division_front : (p : Prefix) (signed : Bool) (s : Reg) → is_sized p ≡ true → reg_bit p ≡ false → extended s ≡ rm_bit p →
    encoding (Div signed (size_at p) s) ≡ (spelled p ++ 0xF7 ∷ []) ++ digit (div_digit signed) s ∷ []
division_front Plain signed s e none hs = fronted (rex_if false false (extended s)) [] (0xF7 ∷ []) (digit (div_digit signed) s ∷ []) (narrow_front Plain _ _ (sym none) hs refl)
division_front (Rex true x y) signed s e none hs = fronted (rex true false (extended s) ∷ []) (spelled (Rex true x y)) (0xF7 ∷ []) (digit (div_digit signed) s ∷ []) (long_front (Rex true x y) _ _ (sym none) hs refl)
division_front (Rex false x y) signed s e none hs = fronted (rex_if false false (extended s)) (spelled (Rex false x y)) (0xF7 ∷ []) (digit (div_digit signed) s ∷ []) (narrow_front (Rex false x y) _ _ (sym none) hs e)
division_front (Word x y) signed s e none hs =
    fronted (0x66 ∷ rex_if false false (extended s)) (0x66 ∷ rex_if false x y) (0xF7 ∷ []) (digit (div_digit signed) s ∷ [])
    (ap (λ (b : Bool). 0x66 ∷ rex_if false b (extended s)) (sym none) ∙ ap (λ (b : Bool). 0x66 ∷ rex_if false x b) hs)

division_bytes : (p : Prefix) (signed : Bool) (n : ℕ) (s : Reg) → div_digit signed ≡ n → is_sized p ≡ true → reg_bit p ≡ false → extended s ≡ rm_bit p →
    encoding (Div signed (size_at p) s) ≡ (spelled p ++ 0xF7 ∷ []) ++ digit n s ∷ []
division_bytes p signed n s h e none hs = division_front p signed s e none hs ∙ ap (λ (k : ℕ). (spelled p ++ 0xF7 ∷ []) ++ digit k s ∷ []) h

pub division_good : (o : Option Bool) (n : ℕ) (p : Prefix) (s : Reg) → DivHas n o → is_sized p ≡ true → reg_bit p ≡ false → extended s ≡ rm_bit p →
    Good ((spelled p ++ 0xF7 ∷ []) ++ digit n s ∷ []) (λ bs. Decoding.dividing o (size_at p) s (prefix_size p + 2))
division_good None n p s h e none hs = good_unknown _
division_good (Some signed) n p s h e none hs =
    good_one ((spelled p ++ 0xF7 ∷ []) ++ digit n s ∷ []) (Div signed (size_at p) s) (prefix_size p + 2) tt (division_bytes p signed n s h e none hs)
    (let k = sized_front p (0xF7 ∷ []) 1 refl in omega (arith, length-append (spelled p ++ 0xF7 ∷ []) (digit n s ∷ [])))

pub division_row_good : (p : Prefix) → Good (spelled p ++ 0xF7 ∷ []) (Decoding.division_row p)
division_row_good p =
    good_where _ (is_sized p && not (reg_bit p)) (with_digit (λ n s rest. Decoding.dividing (div_at n) (size_at p) s (prefix_size p + 2)) p)
    (λ t. row (left_true (is_sized p) (not (reg_bit p)) t) (not_true (reg_bit p) (right_true (is_sized p) (not (reg_bit p)) t))) where
      row : is_sized p ≡ true → reg_bit p ≡ false → Good (spelled p ++ 0xF7 ∷ []) (with_digit (λ n s rest. Decoding.dividing (div_at n) (size_at p) s (prefix_size p + 2)) p)
      row e none =
          let zero_rm : HasBits (reg_at (rm_bit p) 0) (rm_bit p) 0 = reg_at_bits (rm_bit p) 0 (lit< tt) in
          good_digit (spelled p ++ 0xF7 ∷ []) (λ n s rest. Decoding.dividing (div_at n) (size_at p) s (prefix_size p + 2)) p
          (cut_of _ (Div false (size_at p) (reg_at (rm_bit p) 0)) _ [] tt (division_bytes p false 6 (reg_at (rm_bit p) 0) refl e none zero_rm.above))
          (λ n small s hs. division_good (div_at n) n p s (div_at_digit n small) e none hs)

-- 0F 90 to 0F 9F
set_bytes : (p : Prefix) (c : Cond) (n k : ℕ) (d : Reg) → cond_code c ≡ n → 0 ≡ k → is_byte p ≡ true → reg_bit p ≡ false → extended d ≡ rm_bit p →
    encoding (SetCond c d) ≡ (spelled p ++ (0x0F ∷ (0x90 + n) ∷ [])) ++ digit k d ∷ []
set_bytes p c n k d h z e none hd =
    ap (λ (j : ℕ). rex false false (extended d) ∷ 0x0F ∷ (0x90 + j) ∷ digit 0 d ∷ []) h ∙
    ap (λ (j : ℕ). rex false false (extended d) ∷ 0x0F ∷ (0x90 + n) ∷ digit j d ∷ []) z ∙
    fronted (rex false false (extended d) ∷ []) (spelled p) (0x0F ∷ (0x90 + n) ∷ []) (digit k d ∷ []) (byte_front p false (extended d) (sym none) hd e)

pub set_good : (o : Option Cond) (n : ℕ) (p : Prefix) → CondHas n o → Good (spelled p ++ (0x0F ∷ (0x90 + n) ∷ [])) (Decoding.set_row o p)
set_good None n p h = good_unknown _
set_good (Some c) n p h =
    good_where _ (is_byte p && not (reg_bit p)) (with_digit (λ k d rest. if nat_eq k 0 then One (SetCond c d) 4 else Unknown) p)
    (λ t. row (left_true (is_byte p) (not (reg_bit p)) t) (not_true (reg_bit p) (right_true (is_byte p) (not (reg_bit p)) t))) where
      row : is_byte p ≡ true → reg_bit p ≡ false → Good (spelled p ++ (0x0F ∷ (0x90 + n) ∷ [])) (with_digit (λ k d rest. if nat_eq k 0 then One (SetCond c d) 4 else Unknown) p)
      row e none =
          let zero_rm : HasBits (reg_at (rm_bit p) 0) (rm_bit p) 0 = reg_at_bits (rm_bit p) 0 (lit< tt) in
          good_digit (spelled p ++ (0x0F ∷ (0x90 + n) ∷ [])) (λ k d rest. if nat_eq k 0 then One (SetCond c d) 4 else Unknown) p
          (cut_of _ (SetCond c (reg_at (rm_bit p) 0)) _ [] tt (set_bytes p c n 0 (reg_at (rm_bit p) 0) h refl e none zero_rm.above))
          (λ k small d hd. good_where ((spelled p ++ (0x0F ∷ (0x90 + n) ∷ [])) ++ digit k d ∷ []) (nat_eq k 0) (λ bs. One (SetCond c d) 4)
          (λ z. good_one ((spelled p ++ (0x0F ∷ (0x90 + n) ∷ [])) ++ digit k d ∷ []) (SetCond c d) 4 tt (set_bytes p c n k d h (sym (eqb-true k 0 z)) e none hd)
          (let s = sized_front p (0x0F ∷ (0x90 + n) ∷ []) 2 refl in let one = byte_size p e in omega (arith, length-append (spelled p ++ (0x0F ∷ (0x90 + n) ∷ [])) (digit k d ∷ [])))))
