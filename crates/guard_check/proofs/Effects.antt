-- No instruction makes a word of more than 64 bits.
use Rattle.std.proofs.Common.{◌≡◌, ℕ, zero, suc, ◌+◌, ◌-◌, ◌*◌, ◌/◌, ◌%◌, ◌^◌, ◌<◌, ◌≤◌, Bool, true, false, if◌then◌else◌, List, Option, Some, None, refl, subst, lit≤, arith}
use Rattle.std.specs.Prelude.{nat_eq, nat_lt, ℤ, pos, negsuc}
use Rattle.std.proofs.lemmas.Bool.{ltb-true}
use Rattle.std.proofs.lemmas.Nat.{and_le_l, or_lt, xor_lt}
use Rattle.x86_core.specs.declared.reg.Reg.{Reg}
use Rattle.x86_core.specs.declared.reg.Reg.TheVariants.{Rax, Rcx, Rdx, Rsp}
use Rattle.x86_core.specs.declared.flags.Flags.{Flags}
use Rattle.x86_core.specs.declared.instr.Wide.{Wide}
use Rattle.x86_core.specs.declared.instr.Size.{Size}
use Rattle.x86_core.specs.declared.instr.HighSize.{HighSize}
use Rattle.x86_core.specs.declared.instr.AluOp.{AluOp}
use Rattle.x86_core.specs.declared.instr.AluOp.TheVariants.{Add, Or, And, Sub, Xor, Cmp, Test}
use Rattle.x86_core.specs.declared.instr.ShiftOp.{ShiftOp}
use Rattle.x86_core.specs.declared.instr.ShiftOp.TheVariants.{Shl, Shr, Sar}
use Rattle.x86_core.specs.declared.instr.WidenKind.{WidenKind}
use Rattle.x86_core.specs.declared.instr.WidenKind.TheVariants.{Zero8, Zero16, Sign8, Sign16, Sign32}
use Rattle.x86_core.specs.declared.instr.Instr.{Instr}
use Rattle.x86_core.specs.declared.instr.Instr.TheVariants.{Mov, MovImm64, MovImm32, Alu, AluImm, Imul, Shift, Div, High, Widen, Load, Store, Lea, Push, Pop, SetCond, Cmov, Jcc, Jmp, Call, Ret, CallR11, JmpR11, Syscall, Ud2, Int3, Nop}
use Rattle.x86_core.specs.declared.divide.Division.{Division}
use Rattle.x86_core.specs.Registers.{word, with_word}
use Rattle.x86_core.specs.Arithmetic.{wide_bits, size_bits, low, is_negative, differ, kept, moved, constant, alu_result, is_written, same_op, shift_count, shifted, magnitude, with_sign, has_room, division, sign_fill, widened, holds}
use Rattle.x86_core.specs.Encoding.{IsInstr}
use Rattle.x86_core.specs.Effect.{effect_of, dividend, with_division, divided, high_effect, with_stack, set_effect, cmov_effect, jcc_effect}
use Rattle.guard_check.proofs.Words.{AreWords, word_small, words_with}

-- one of two numbers below a third
if_below : (t : Bool) (x y m : ℕ) → x < m → y < m → (if t then x else y) < m
if_below true x y m h k = h
if_below false x y m h k = k

-- remainders
rest_below : (n m : ℕ) → 0 < m → n % m < m
rest_below n m h = omega arith

quotient_most : (n m : ℕ) → n / m ≤ n
quotient_most n zero = search arith
quotient_most n (suc m) = most (n / suc m) (n % suc m) (omega arith)
  where
    most : (q r : ℕ) → suc m * q + r ≡ n → q ≤ n
    most q r e = split (omega arith)
      where
        split : suc m * q ≡ m * q + q → q ≤ n
        split f = omega (arith, e, f)

pub moved_small : (n : ℕ) (by : ℤ) → moved n by < 2 ^ 64
moved_small n (pos k) = rest_below (n + k) (2 ^ 64) (lit≤ tt)
moved_small n (negsuc k) = rest_below (n + 2 ^ 64 - suc k) (2 ^ 64) (lit≤ tt)

low_small : (w : Wide) (n : ℕ) → low (wide_bits w) n < 2 ^ 64
low_small Wide.W32 n = omega arith
low_small Wide.W64 n = omega arith

-- operations on two numbers
alu_32 : (op : AluOp) (a b : ℕ) → a < 2 ^ 32 → b < 2 ^ 32 → alu_result op 32 a b < 2 ^ 32
alu_32 Add a b h k = rest_below (a + b) (2 ^ 32) (lit≤ tt)
alu_32 Or a b h k = or_lt 32 a b h k
alu_32 And a b h k = omega (arith, and_le_l a b, h)
alu_32 Sub a b h k = rest_below (a + 2 ^ 32 - b) (2 ^ 32) (lit≤ tt)
alu_32 Xor a b h k = xor_lt 32 a b h k
alu_32 Cmp a b h k = rest_below (a + 2 ^ 32 - b) (2 ^ 32) (lit≤ tt)
alu_32 Test a b h k = omega (arith, and_le_l a b, h)

alu_64 : (op : AluOp) (a b : ℕ) → a < 2 ^ 64 → b < 2 ^ 64 → alu_result op 64 a b < 2 ^ 64
alu_64 Add a b h k = rest_below (a + b) (2 ^ 64) (lit≤ tt)
alu_64 Or a b h k = or_lt 64 a b h k
alu_64 And a b h k = omega (arith, and_le_l a b, h)
alu_64 Sub a b h k = rest_below (a + 2 ^ 64 - b) (2 ^ 64) (lit≤ tt)
alu_64 Xor a b h k = xor_lt 64 a b h k
alu_64 Cmp a b h k = rest_below (a + 2 ^ 64 - b) (2 ^ 64) (lit≤ tt)
alu_64 Test a b h k = omega (arith, and_le_l a b, h)

alu_small : (op : AluOp) (w : Wide) (a b : ℕ) → alu_result op (wide_bits w) (low (wide_bits w) a) (low (wide_bits w) b) < 2 ^ 64
alu_small op Wide.W32 a b =
    let x = alu_32 op (a % 2 ^ 32) (b % 2 ^ 32) (rest_below a (2 ^ 32) (lit≤ tt)) (rest_below b (2 ^ 32) (lit≤ tt)) in
    further _ x
  where
    further : (n : ℕ) → n < 2 ^ 32 → n < 2 ^ 64
    further n h = omega (arith, h)
alu_small op Wide.W64 a b = alu_64 op (a % 2 ^ 64) (b % 2 ^ 64) (rest_below a (2 ^ 64) (lit≤ tt)) (rest_below b (2 ^ 64) (lit≤ tt))

-- shifts
shift_small : (op : ShiftOp) (w : Wide) (a by : ℕ) → a < 2 ^ 64 → shifted op (wide_bits w) a by < 2 ^ 64
shift_small Shl Wide.W32 a by h = further (a * 2 ^ by)
  where
    further : (n : ℕ) → n % 2 ^ 32 < 2 ^ 64
    further n = omega arith
shift_small Shl Wide.W64 a by h = rest_below (a * 2 ^ by) (2 ^ 64) (lit≤ tt)
shift_small Shr w a by h = let x = quotient_most a (2 ^ by) in omega (arith, x, h)
shift_small Sar Wide.W32 a by h = if_below (nat_lt a (2 ^ 31)) _ _ _ (let x = quotient_most a (2 ^ by) in omega (arith, x, h)) (less ((2 ^ 32 - 1 - a) / 2 ^ by))
  where
    less : (n : ℕ) → 2 ^ 32 - 1 - n < 2 ^ 64
    less n = omega arith
shift_small Sar Wide.W64 a by h = if_below (nat_lt a (2 ^ 63)) _ _ _ (let x = quotient_most a (2 ^ by) in omega (arith, x, h)) (less ((2 ^ 64 - 1 - a) / 2 ^ by))
  where
    less : (n : ℕ) → 2 ^ 64 - 1 - n < 2 ^ 64
    less n = omega arith

-- both numbers of a division fit the width
record Fits (bits : ℕ) (d : Division) : Type 0 where
  quotient : d.quotient < 2 ^ bits
  remainder : d.remainder < 2 ^ bits

by_tests : (bits : ℕ) (t u : Bool) (d0 d : Division) → (t ≡ false → u ≡ true → Fits bits d0) → (if t then None else (if u then Some d0 else None)) ≡ Some d → Fits bits d
by_tests bits true u d0 d h e = absurd (cc)
by_tests bits false false d0 d h e = absurd (cc)
by_tests bits false true d0 d h e = let same : d0 ≡ d = cc in subst (Fits bits) same (h refl refl)

some_of : (n : ℕ) → nat_eq n 0 ≡ false → 0 < n
some_of zero e = absurd (cc)
some_of (suc n) e = omega arith

module _ (bits : ℕ) (some : 0 < 2 ^ bits) (half : 2 ^ (bits - 1) ≤ 2 ^ bits) where
  signed_fits : (negative : Bool) (n : ℕ) → has_room bits negative n ≡ true → with_sign bits negative n < 2 ^ bits
  signed_fits true n h = rest_below (2 ^ bits - n) (2 ^ bits) some
  signed_fits false n h = let lt = ltb-true n (2 ^ (bits - 1)) h in omega (arith, lt, half)

  rest_fits : (negative : Bool) (n : ℕ) → n < 2 ^ bits → with_sign bits negative n < 2 ^ bits
  rest_fits true n h = rest_below (2 ^ bits - n) (2 ^ bits) some
  rest_fits false n h = h

  magnitude_some : (t : Bool) (n : ℕ) → 0 < n → n < 2 ^ bits → 0 < (if t then 2 ^ bits - n else n)
  magnitude_some true n h k = omega (arith, h, k)
  magnitude_some false n h k = h

  magnitude_most : (t : Bool) (n : ℕ) → n < 2 ^ bits → (if t then 2 ^ bits - n else n) ≤ 2 ^ bits
  magnitude_most true n k = omega (arith, k)
  magnitude_most false n k = omega (arith, k)

  rest_most : (a b : ℕ) → 0 < b → b ≤ 2 ^ bits → a % b < 2 ^ bits
  rest_most a b h k = let x = rest_below a b h in omega (arith, x, k)

  division_fits : (signed : Bool) (n by : ℕ) → by < 2 ^ bits → (d : Division) → division signed bits n by ≡ Some d → Fits bits d
  division_fits false n by lt d e =
      by_tests bits (nat_eq by 0) (nat_lt (n / by) (2 ^ bits)) _ d
      (λ t u. record { quotient = ltb-true (n / by) (2 ^ bits) u; remainder = rest_most n by (some_of by t) (omega (arith, lt)) }) e
  division_fits true n by lt d e =
      let b = magnitude bits by in
      let a = magnitude (2 * bits) n in
      let negative = differ (is_negative (2 * bits) n) (is_negative bits by) in
      by_tests bits (nat_eq by 0) (has_room bits negative (a / b)) _ d
      (λ t u. record {
        quotient = signed_fits negative (a / b) u;
        remainder = rest_fits (is_negative (2 * bits) n) (a % b) (rest_most a b (magnitude_some (is_negative bits by) by (some_of by t) lt) (magnitude_most (is_negative bits by) by lt));
      }) e

size_fits : (signed : Bool) (size : Size) (n by : ℕ) (d : Division) → division signed (size_bits size) n (low (size_bits size) by) ≡ Some d → Fits (size_bits size) d
size_fits signed Size.W8 n by d e = division_fits 8 (lit≤ tt) (lit≤ tt) signed n (by % 2 ^ 8) (rest_below by (2 ^ 8) (lit≤ tt)) d e
size_fits signed Size.W16 n by d e = division_fits 16 (lit≤ tt) (lit≤ tt) signed n (by % 2 ^ 16) (rest_below by (2 ^ 16) (lit≤ tt)) d e
size_fits signed Size.W32 n by d e = division_fits 32 (lit≤ tt) (lit≤ tt) signed n (by % 2 ^ 32) (rest_below by (2 ^ 32) (lit≤ tt)) d e
size_fits signed Size.W64 n by d e = division_fits 64 (lit≤ tt) (lit≤ tt) signed n (by % 2 ^ 64) (rest_below by (2 ^ 64) (lit≤ tt)) d e

kept_8 : (old n : ℕ) → old < 2 ^ 64 → n < 2 ^ 8 → old / 2 ^ 8 * 2 ^ 8 + n < 2 ^ 64
kept_8 old n h k = omega (arith, h, k)

kept_16 : (old n : ℕ) → old < 2 ^ 64 → n < 2 ^ 16 → old / 2 ^ 16 * 2 ^ 16 + n < 2 ^ 64
kept_16 old n h k = omega (arith, h, k)

module _ (regs : List ℕ) (h : AreWords regs) where
  division_words : (size : Size) (d : Division) → Fits (size_bits size) d → AreWords (with_division size regs d)
  division_words Size.W8 d f = words_with regs Rax _ h (kept_16 (word regs Rax) (d.remainder * 2 ^ 8 + d.quotient) (word_small regs Rax h) (let q = f.quotient in let r = f.remainder in omega (arith, q, r)))
  division_words Size.W16 d f =
      words_with (with_word regs Rax (kept Size.W16 (word regs Rax) d.quotient)) Rdx _
      (words_with regs Rax _ h (kept_16 (word regs Rax) d.quotient (word_small regs Rax h) f.quotient))
      (kept_16 (word regs Rdx) d.remainder (word_small regs Rdx h) f.remainder)
  division_words Size.W32 d f =
      words_with (with_word regs Rax d.quotient) Rdx d.remainder
      (words_with regs Rax d.quotient h (let q = f.quotient in omega (arith, q))) (let r = f.remainder in omega (arith, r))
  division_words Size.W64 d f =
      words_with (with_word regs Rax d.quotient) Rdx d.remainder (words_with regs Rax d.quotient h f.quotient) f.remainder

  divided_words : (signed : Bool) (size : Size) (n by : ℕ) (flags : Flags) (x : Option Division) → division signed (size_bits size) n (low (size_bits size) by) ≡ x → AreWords (divided size regs flags x).regs
  divided_words signed size n by flags None e = h
  divided_words signed size n by flags (Some d) e = division_words size d (size_fits signed size n by d e)

  high_words : (size : HighSize) → AreWords (high_effect size regs)
  high_words HighSize.W16 = words_with regs Rdx _ h (kept_16 (word regs Rdx) (sign_fill 16 (word regs Rax)) (word_small regs Rdx h) (if_below (is_negative 16 (word regs Rax % 2 ^ 16)) _ _ _ (lit≤ tt) (lit≤ tt)))
  high_words HighSize.W32 = words_with regs Rdx _ h (if_below (is_negative 32 (word regs Rax % 2 ^ 32)) _ _ _ (lit≤ tt) (lit≤ tt))
  high_words HighSize.W64 = words_with regs Rdx _ h (if_below (is_negative 64 (word regs Rax % 2 ^ 64)) _ _ _ (lit≤ tt) (lit≤ tt))

  written_words : (t : Bool) (d : Reg) (r : ℕ) → r < 2 ^ 64 → AreWords (if t then with_word regs d r else regs)
  written_words true d r lt = words_with regs d r h lt
  written_words false d r lt = h

  set_words : (x : Option Bool) (d : Reg) (flags : Flags) → AreWords (set_effect x d regs flags).regs
  set_words None d flags = h
  set_words (Some t) d flags = words_with regs d _ h (kept_8 (word regs d) (if t then 1 else 0) (word_small regs d h) (if_below t 1 0 _ (lit≤ tt) (lit≤ tt)))

  move_words : (x : Option Bool) (d s : Reg) (flags : Flags) → AreWords (cmov_effect x d s regs flags).regs
  move_words None d s flags = h
  move_words (Some t) d s flags = written_words t d (word regs s) (word_small regs s h)

  jump_words : (x : Option Bool) (by : ℤ) (flags : Flags) → AreWords (jcc_effect x by regs flags).regs
  jump_words None by flags = h
  jump_words (Some t) by flags = h

  stack_words : (by : ℤ) → AreWords (with_stack regs by)
  stack_words by = words_with regs Rsp _ h (moved_small (word regs Rsp) by)

wide_small : (kind : WidenKind) (n : ℕ) → widened kind n < 2 ^ 64
wide_small Zero8 n = omega arith
wide_small Zero16 n = omega arith
wide_small Sign8 n = if_below (nat_lt (n % 2 ^ 8) (2 ^ 7)) _ _ _ (omega arith) (omega arith)
wide_small Sign16 n = if_below (nat_lt (n % 2 ^ 16) (2 ^ 15)) _ _ _ (omega arith) (omega arith)
wide_small Sign32 n = if_below (nat_lt (n % 2 ^ 32) (2 ^ 31)) _ _ _ (omega arith) (omega arith)

-- the registers after each row
pub effect_words : (i : Instr) (regs : List ℕ) (flags : Flags) → IsInstr i → AreWords regs → AreWords (effect_of i regs flags).regs
unfolding effect_of
effect_words (Mov w d s) regs flags ok h = words_with regs d _ h (low_small w (word regs s))
effect_words (MovImm64 d n) regs flags ok h = words_with regs d n h ok
effect_words (MovImm32 d n) regs flags ok h = words_with regs d n h (omega (arith, ok))
effect_words (Alu op w d s) regs flags ok h = written_words regs h (is_written op) d _ (alu_small op w (word regs d) (word regs s))
effect_words (AluImm op w d n) regs flags ok h = written_words regs h (is_written (same_op op)) d _ (alu_small (same_op op) w (word regs d) (constant n))
effect_words (Imul w d s) regs flags ok h = words_with regs d _ h (low_small w (word regs d * word regs s))
effect_words (Shift op w d) regs flags ok h = words_with regs d _ h (shift_small op w (low (wide_bits w) (word regs d)) (shift_count (wide_bits w) (word regs Rcx)) (low_small w (word regs d)))
effect_words (Div signed size s) regs flags ok h = divided_words regs h signed size (dividend size regs) (word regs s) flags _ refl
effect_words (High size) regs flags ok h = high_words regs h size
effect_words (Widen kind d s) regs flags ok h = words_with regs d _ h (wide_small kind (word regs s))
effect_words (Load size d m) regs flags ok h = h
effect_words (Store size m s) regs flags ok h = h
effect_words (Lea d m) regs flags ok h = words_with regs d _ h (moved_small (word regs m.base) m.disp)
effect_words (Push r) regs flags ok h = stack_words regs h (negsuc 7)
effect_words (Pop r) regs flags ok h = stack_words regs h (pos 8)
effect_words (SetCond c d) regs flags ok h = set_words regs h (holds c flags) d flags
effect_words (Cmov c d s) regs flags ok h = move_words regs h (holds c flags) d s flags
effect_words (Jcc c by) regs flags ok h = jump_words regs h (holds c flags) by flags
effect_words (Jmp by) regs flags ok h = h
effect_words (Call by) regs flags ok h = stack_words regs h (negsuc 7)
effect_words Ret regs flags ok h = stack_words regs h (pos 8)
effect_words CallR11 regs flags ok h = stack_words regs h (negsuc 7)
effect_words JmpR11 regs flags ok h = h
effect_words Syscall regs flags ok h = h
effect_words Ud2 regs flags ok h = h
effect_words Int3 regs flags ok h = h
effect_words Nop regs flags ok h = h
