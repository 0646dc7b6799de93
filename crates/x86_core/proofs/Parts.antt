-- The parts of an encoding and back: registers, digits, conditions, ModRM, numbers.
use Rattle.std.proofs.Common.{◌≡◌, ℕ, zero, suc, ◌+◌, ◌*◌, ◌/◌, ◌%◌, ◌^◌, ◌<◌, Bool, true, false, List, [], ◌∷◌, length, Option, Some, None, refl, ◌∙◌, ap, arith}
use Rattle.std.specs.Prelude.{ℤ, pos, negsuc, nat_eq, ◌&&◌}
use Rattle.std.proofs.lemmas.Bool.{eqb-true}
use Rattle.rd_num.specs.Number.{le_bytes, le_number}
use Rattle.x86_core.specs.declared.reg.Reg.{Reg}
use Rattle.x86_core.specs.declared.reg.Reg.TheVariants.{Rax}
use Rattle.x86_core.specs.declared.instr.ImmOp.{ImmOp}
use Rattle.x86_core.specs.declared.instr.ShiftOp.{ShiftOp}
use Rattle.x86_core.specs.declared.instr.Cond.{Cond}
use Rattle.x86_core.specs.Encoding.{bit, rex, extended, low3, modrm, low32, imm_digit, shift_digit, div_digit, cond_code, IsNumber32}
use Rattle.x86_core.specs.Decoding.{reg_at, imm_at, shift_at, div_at, cond_at, signed32, is_rex}

-- each is a byte
abbrev pub IsBytes : List ℕ → Type 0
IsBytes [] = Unit {0}
IsBytes (b ∷ bs) = (b < 256) × IsBytes bs

-- a register's bits give it back
pub reg_back : (r : Reg) → reg_at (extended r) (low3 r) ≡ r
reg_back Rax = refl
reg_back r = refl

pub low3_small : (r : Reg) → low3 r < 8
low3_small Rax = omega arith
low3_small r = omega arith

-- a register has the bits that it was found by
pub record HasBits (r : Reg) (high : Bool) (n : ℕ) : Type 0 where
  pub above : extended r ≡ high
  pub below : low3 r ≡ n

pub reg_at_bits : (high : Bool) (n : ℕ) → n < 8 → HasBits (reg_at high n) high n
reg_at_bits true zero h = record { above = refl; below = refl }
reg_at_bits false zero h = record { above = refl; below = refl }
reg_at_bits true (suc zero) h = record { above = refl; below = refl }
reg_at_bits false (suc zero) h = record { above = refl; below = refl }
reg_at_bits true (suc (suc zero)) h = record { above = refl; below = refl }
reg_at_bits false (suc (suc zero)) h = record { above = refl; below = refl }
reg_at_bits true (suc (suc (suc zero))) h = record { above = refl; below = refl }
reg_at_bits false (suc (suc (suc zero))) h = record { above = refl; below = refl }
reg_at_bits true (suc (suc (suc (suc zero)))) h = record { above = refl; below = refl }
reg_at_bits false (suc (suc (suc (suc zero)))) h = record { above = refl; below = refl }
reg_at_bits true (suc (suc (suc (suc (suc zero))))) h = record { above = refl; below = refl }
reg_at_bits false (suc (suc (suc (suc (suc zero))))) h = record { above = refl; below = refl }
reg_at_bits true (suc (suc (suc (suc (suc (suc zero)))))) h = record { above = refl; below = refl }
reg_at_bits false (suc (suc (suc (suc (suc (suc zero)))))) h = record { above = refl; below = refl }
reg_at_bits true (suc (suc (suc (suc (suc (suc (suc zero))))))) h = record { above = refl; below = refl }
reg_at_bits false (suc (suc (suc (suc (suc (suc (suc zero))))))) h = record { above = refl; below = refl }
reg_at_bits high (suc (suc (suc (suc (suc (suc (suc (suc n)))))))) h = absurd (omega arith)

-- a digit's operation has that digit
abbrev pub ImmHas : ℕ → Option ImmOp → Type 0
ImmHas n (Some op) = imm_digit op ≡ n
ImmHas n None = Unit {0}

pub imm_at_digit : (n : ℕ) → n < 8 → ImmHas n (imm_at n)
imm_at_digit zero h = refl
imm_at_digit (suc zero) h = refl
imm_at_digit (suc (suc zero)) h = tt
imm_at_digit (suc (suc (suc zero))) h = tt
imm_at_digit (suc (suc (suc (suc zero)))) h = refl
imm_at_digit (suc (suc (suc (suc (suc zero))))) h = refl
imm_at_digit (suc (suc (suc (suc (suc (suc zero)))))) h = refl
imm_at_digit (suc (suc (suc (suc (suc (suc (suc zero))))))) h = refl
imm_at_digit (suc (suc (suc (suc (suc (suc (suc (suc n)))))))) h = absurd (omega arith)

abbrev pub ShiftHas : ℕ → Option ShiftOp → Type 0
ShiftHas n (Some op) = shift_digit op ≡ n
ShiftHas n None = Unit {0}

pub shift_at_digit : (n : ℕ) → n < 8 → ShiftHas n (shift_at n)
shift_at_digit zero h = tt
shift_at_digit (suc zero) h = tt
shift_at_digit (suc (suc zero)) h = tt
shift_at_digit (suc (suc (suc zero))) h = tt
shift_at_digit (suc (suc (suc (suc zero)))) h = refl
shift_at_digit (suc (suc (suc (suc (suc zero))))) h = refl
shift_at_digit (suc (suc (suc (suc (suc (suc zero)))))) h = tt
shift_at_digit (suc (suc (suc (suc (suc (suc (suc zero))))))) h = refl
shift_at_digit (suc (suc (suc (suc (suc (suc (suc (suc n)))))))) h = absurd (omega arith)

abbrev pub DivHas : ℕ → Option Bool → Type 0
DivHas n (Some signed) = div_digit signed ≡ n
DivHas n None = Unit {0}

pub div_at_digit : (n : ℕ) → n < 8 → DivHas n (div_at n)
div_at_digit zero h = tt
div_at_digit (suc zero) h = tt
div_at_digit (suc (suc zero)) h = tt
div_at_digit (suc (suc (suc zero))) h = tt
div_at_digit (suc (suc (suc (suc zero)))) h = tt
div_at_digit (suc (suc (suc (suc (suc zero))))) h = tt
div_at_digit (suc (suc (suc (suc (suc (suc zero)))))) h = refl
div_at_digit (suc (suc (suc (suc (suc (suc (suc zero))))))) h = refl
div_at_digit (suc (suc (suc (suc (suc (suc (suc (suc n)))))))) h = absurd (omega arith)

-- a code's condition has that code
abbrev pub CondHas : ℕ → Option Cond → Type 0
CondHas n (Some c) = cond_code c ≡ n
CondHas n None = Unit {0}

pub cond_at_code : (n : ℕ) → n < 16 → CondHas n (cond_at n)
cond_at_code zero h = refl
cond_at_code (suc zero) h = refl
cond_at_code (suc (suc zero)) h = refl
cond_at_code (suc (suc (suc zero))) h = refl
cond_at_code (suc (suc (suc (suc zero)))) h = refl
cond_at_code (suc (suc (suc (suc (suc zero))))) h = refl
cond_at_code (suc (suc (suc (suc (suc (suc zero)))))) h = refl
cond_at_code (suc (suc (suc (suc (suc (suc (suc zero))))))) h = refl
cond_at_code (suc (suc (suc (suc (suc (suc (suc (suc zero)))))))) h = refl
cond_at_code (suc (suc (suc (suc (suc (suc (suc (suc (suc zero))))))))) h = refl
cond_at_code (suc (suc (suc (suc (suc (suc (suc (suc (suc (suc zero)))))))))) h = tt
cond_at_code (suc (suc (suc (suc (suc (suc (suc (suc (suc (suc (suc zero))))))))))) h = tt
cond_at_code (suc (suc (suc (suc (suc (suc (suc (suc (suc (suc (suc (suc zero)))))))))))) h = refl
cond_at_code (suc (suc (suc (suc (suc (suc (suc (suc (suc (suc (suc (suc (suc zero))))))))))))) h = refl
cond_at_code (suc (suc (suc (suc (suc (suc (suc (suc (suc (suc (suc (suc (suc (suc zero)))))))))))))) h = refl
cond_at_code (suc (suc (suc (suc (suc (suc (suc (suc (suc (suc (suc (suc (suc (suc (suc zero))))))))))))))) h = refl
cond_at_code (suc (suc (suc (suc (suc (suc (suc (suc (suc (suc (suc (suc (suc (suc (suc (suc n)))))))))))))))) h = absurd (omega arith)

-- the three fields of a ModRM byte give it back
pub modrm_back : (m mode : ℕ) → m / 64 ≡ mode → modrm mode (m / 8 % 8) (m % 8) ≡ m
modrm_back m mode h = omega arith

-- the bits of a REX byte give it back
bit_of : (n : ℕ) → n < 2 → bit (nat_eq n 1) ≡ n
bit_of zero h = refl
bit_of (suc zero) h = refl
bit_of (suc (suc n)) h = absurd (omega arith)

both_true : (a b : Bool) → a && b ≡ true → (a ≡ true) × (b ≡ true)
both_true true true h = (refl, refl)
both_true true false h = (refl, h)
both_true false b h = absurd (cc)

pub rex_back : (n : ℕ) → is_rex n ≡ true → rex (nat_eq (n / 8 % 2) 1) (nat_eq (n / 4 % 2) 1) (nat_eq (n % 2) 1) ≡ n
rex_back n h =
    let e = both_true (nat_eq (n / 16) 4) (nat_eq (n / 2 % 2) 0) h in
    let four : n / 16 ≡ 4 = eqb-true (n / 16) 4 e.0 in
    let none : n / 2 % 2 ≡ 0 = eqb-true (n / 2 % 2) 0 e.1 in
    let w : bit (nat_eq (n / 8 % 2) 1) ≡ n / 8 % 2 = bit_of (n / 8 % 2) (omega arith) in
    let r : bit (nat_eq (n / 4 % 2) 1) ≡ n / 4 % 2 = bit_of (n / 4 % 2) (omega arith) in
    let b : bit (nat_eq (n % 2) 1) ≡ n % 2 = bit_of (n % 2) (omega arith) in
    omega arith

-- a signed number of 32 bits and back
pub signed_back : (d : ℤ) → IsNumber32 d → signed32 (low32 d) ≡ d
signed_back (pos n) h = grind arith
signed_back (negsuc n) h = grind arith

pub low32_small : (d : ℤ) → IsNumber32 d → low32 d < 2 ^ 32
low32_small (pos n) h = omega arith
low32_small (negsuc n) h = omega arith

pub low32_back : (n : ℕ) → n < 2 ^ 32 → low32 (signed32 n) ≡ n
low32_back n h = grind arith

pub signed32_small : (n : ℕ) → n < 2 ^ 32 → IsNumber32 (signed32 n)
signed32_small n h = grind arith

-- bytes and the number that they spell
head_back : (x n : ℕ) → x < 256 → (x + 256 * n) % 256 ≡ x
head_back x n h = omega arith

tail_back : (x n : ℕ) → x < 256 → (x + 256 * n) / 256 ≡ n
tail_back x n h = omega arith

pub bytes_back : (xs : List ℕ) → IsBytes xs → le_bytes (length xs) (le_number xs) ≡ xs
bytes_back [] h = refl
bytes_back (x ∷ xs) h =
    ap (λ y. y ∷ le_bytes (length xs) ((x + 256 * le_number xs) / 256)) (head_back x (le_number xs) h.0) ∙
    ap (λ n. x ∷ le_bytes (length xs) n) (tail_back x (le_number xs) h.0) ∙
    ap (λ ys. x ∷ ys) (bytes_back xs h.1)

pub number_back4 : (n : ℕ) → n < 2 ^ 32 → le_number (le_bytes 4 n) ≡ n
number_back4 n h = omega arith

pub number_back8 : (n : ℕ) → n < 2 ^ 64 → le_number (le_bytes 8 n) ≡ n
number_back8 n h = omega arith
