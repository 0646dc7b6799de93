-- What the instructions of rows do to scratch registers. The table of effects is opened here, in `Homes` and in `Accesses` alone.
use Rattle.std.proofs.Common.{◌≡◌, ℕ, ◌*◌, ◌%◌, ◌^◌, Bool, true, false, List, refl, ◌∙◌, ap, arith}
use Rattle.std.specs.Prelude.{bit_and, pos}
use Rattle.std.proofs.lemmas.Nat.{and_mask}
use Rattle.rd_num.specs.declared.width.Width.{Width}
use Rattle.rd_num.specs.declared.width.Width.TheVariants.{W1, W8, W16, W32, W64}
use Rattle.rd_num.specs.Number.{bits}
use Rattle.x86_core.specs.declared.flags.Flags.{Flags}
use Rattle.x86_core.specs.declared.reg.Reg.{Reg}
use Rattle.x86_core.specs.declared.reg.Reg.TheVariants.{Rax, Rcx, Rsp}
use Rattle.x86_core.specs.declared.image.Segment.{Segment}
use Rattle.x86_core.specs.declared.instr.Wide.{Wide}
use Rattle.x86_core.specs.declared.instr.AluOp.{AluOp}
use Rattle.x86_core.specs.declared.instr.ShiftOp.{ShiftOp}
use Rattle.x86_core.specs.declared.instr.Instr.{Instr}
use Rattle.x86_core.specs.declared.instr.Instr.TheVariants.{MovImm64, Alu, Imul, Shift, Lea}
use Rattle.x86_core.specs.Registers.{word, with_word}
use Rattle.x86_core.specs.Arithmetic.{wide_bits, alu_result, alu_flags, is_written, shift_count, shifted, sign_extended, moved}
use Rattle.x86_core.specs.Effect.{effect_of}
use Rattle.x86_rows.specs.Straight.{Core, Through, ran}
use Rattle.frame_rows.specs.Words.{Words, in_order, held_in, with_held, core_of}
use Rattle.frame_rows.specs.Code.{cut, sign_filled, filled, amount}
use Rattle.frame_rows.proofs.Registers.{word_held, with_word_held}

-- an instruction is passed and leaves these words; which flags it leaves is not said
pub record Passes (i : Instr) (w : Words) (f : Flags) (ss : List Segment) (after : Words) : Type 0 where
  pub flags : Flags
  pub runs : ran i (core_of w f ss) ≡ Through (core_of after flags ss)

module _ (w : Words) (f : Flags) (ss : List Segment) where
  pub alu_passes : (o : AluOp) (wide : Wide) → is_written o ≡ true →
      Passes (Alu o wide Rax Rcx) w f ss (record w { rax = alu_result o (wide_bits wide) (w.rax % 2 ^ wide_bits wide) (w.rcx % 2 ^ wide_bits wide) })
  unfolding effect_of
  alu_passes AluOp.Add wide e = record { flags = _; runs = refl }
  alu_passes AluOp.Or wide e = record { flags = _; runs = refl }
  alu_passes AluOp.And wide e = record { flags = _; runs = refl }
  alu_passes AluOp.Sub wide e = record { flags = _; runs = refl }
  alu_passes AluOp.Xor wide e = record { flags = _; runs = refl }
  alu_passes o wide e = absurd (cc)

  pub imul_passes : (wide : Wide) → Passes (Imul wide Rax Rcx) w f ss (record w { rax = w.rax * w.rcx % 2 ^ wide_bits wide })
  unfolding effect_of
  imul_passes wide = record { flags = _; runs = refl }

  pub shift_passes : (o : ShiftOp) (wide : Wide) → Passes (Shift o wide Rax) w f ss (record w { rax = shifted o (wide_bits wide) (w.rax % 2 ^ wide_bits wide) (shift_count (wide_bits wide) w.rcx) })
  unfolding effect_of
  shift_passes o wide = record { flags = _; runs = refl }

  pub constant_passes : (n : ℕ) → Passes (MovImm64 Rax n) w f ss (record w { rax = n })
  unfolding effect_of
  constant_passes n = record { flags = f; runs = refl }

  pub place_passes : (d : ℕ) → Passes (Lea Rax (record { base = Rsp; disp = pos d })) w f ss (record w { rax = moved w.rsp (pos d) })
  unfolding effect_of
  place_passes d = record { flags = f; runs = refl }

  -- a register gets a word that is a function of its own
  own_word : (t : Reg) (f2 : Flags) (g : ℕ → ℕ) (n : ℕ) → g (held_in w t) ≡ n → let c : Core = record { regs = with_word (in_order w) t (g (word (in_order w) t)); flags = f2; segments = ss } in Through c ≡ Through (core_of (with_held w t n) f2 ss)
  own_word t f2 g n e =
      let c : ℕ → Core = λ k. record { regs = with_word (in_order w) t k; flags = f2; segments = ss } in
      ap (λ k. Through (c k)) (ap g (word_held w t) ∙ e) ∙
      ap (λ l. Through (record { regs = l; flags = f2; segments = ss })) (with_word_held w t n)

  one_bit : (n : ℕ) → bit_and (n % 2 ^ 32) 1 ≡ n % 2
  one_bit n = and_mask (n % 2 ^ 32) 1 ∙ omega arith

  -- the low bits of a register
  pub cut_passes : (wi : Width) (t : Reg) → Passes (cut wi t) w f ss (with_held w t (held_in w t % 2 ^ bits wi))
  unfolding effect_of
  cut_passes W1 t =
      let a = word (in_order w) t % 2 ^ 32 in
      let f2 = alu_flags AluOp.And 32 a 1 (bit_and a 1) in
      record { flags = f2; runs = own_word t f2 (λ n. bit_and (n % 2 ^ 32) 1) (held_in w t % 2) (one_bit (held_in w t)) }
  cut_passes W8 t = record { flags = f; runs = own_word t f (λ n. n % 2 ^ 8) (held_in w t % 2 ^ 8) refl }
  cut_passes W16 t = record { flags = f; runs = own_word t f (λ n. n % 2 ^ 16) (held_in w t % 2 ^ 16) refl }
  cut_passes W32 t = record { flags = f; runs = own_word t f (λ n. n % 2 ^ 32) (held_in w t % 2 ^ 32) refl }
  cut_passes W64 t = record { flags = f; runs = own_word t f (λ n. n % 2 ^ 64) (held_in w t % 2 ^ 64) refl }

-- the low bits with their sign, in 64 bits
abbrev pub sign_of : Width → ℕ → ℕ
sign_of W1 n = n % 2 ^ 64
sign_of W8 n = sign_extended 8 n
sign_of W16 n = sign_extended 16 n
sign_of W32 n = sign_extended 32 n
sign_of W64 n = n % 2 ^ 64

-- with the sign, or with zeros
abbrev pub fill_of : Bool → Width → ℕ → ℕ
fill_of true wi n = sign_of wi n
fill_of false wi n = n % 2 ^ bits wi

module _ (w : Words) (f : Flags) (ss : List Segment) where
  pub sign_passes : (wi : Width) (t : Reg) → Passes (sign_filled wi t) w f ss (with_held w t (sign_of wi (held_in w t)))
  unfolding effect_of
  sign_passes W1 t = record { flags = f; runs = own_word w f ss t f (λ n. n % 2 ^ 64) (sign_of W1 (held_in w t)) refl }
  sign_passes W8 t = record { flags = f; runs = own_word w f ss t f (λ n. sign_extended 8 n) (sign_of W8 (held_in w t)) refl }
  sign_passes W16 t = record { flags = f; runs = own_word w f ss t f (λ n. sign_extended 16 n) (sign_of W16 (held_in w t)) refl }
  sign_passes W32 t = record { flags = f; runs = own_word w f ss t f (λ n. sign_extended 32 n) (sign_of W32 (held_in w t)) refl }
  sign_passes W64 t = record { flags = f; runs = own_word w f ss t f (λ n. n % 2 ^ 64) (sign_of W64 (held_in w t)) refl }

  pub fill_passes : (signed : Bool) (wi : Width) (t : Reg) → Passes (filled signed wi t) w f ss (with_held w t (fill_of signed wi (held_in w t)))
  fill_passes true wi t = sign_passes wi t
  fill_passes false wi t = cut_passes w f ss wi t

  -- the amount of a shift
  masked : (m n : ℕ) → bit_and (w.rcx % 2 ^ 32) m ≡ n → let f2 = alu_flags AluOp.And 32 (w.rcx % 2 ^ 32) m (bit_and (w.rcx % 2 ^ 32) m) in
      Through (core_of (record w { rcx = bit_and (w.rcx % 2 ^ 32) m }) f2 ss) ≡ Through (core_of (record w { rcx = n }) f2 ss)
  masked m n e = ap (λ k. Through (core_of (record w { rcx = k }) (alu_flags AluOp.And 32 (w.rcx % 2 ^ 32) m (bit_and (w.rcx % 2 ^ 32) m)) ss)) e

  pub amount_passes : (wi : Width) → Passes (amount wi) w f ss (record w { rcx = w.rcx % bits wi })
  unfolding effect_of
  amount_passes W1 = record { flags = _; runs = masked 0 (w.rcx % 1) (and_mask (w.rcx % 2 ^ 32) 0 ∙ omega arith) }
  amount_passes W8 = record { flags = _; runs = masked 7 (w.rcx % 8) (and_mask (w.rcx % 2 ^ 32) 3 ∙ omega arith) }
  amount_passes W16 = record { flags = _; runs = masked 15 (w.rcx % 16) (and_mask (w.rcx % 2 ^ 32) 4 ∙ omega arith) }
  amount_passes W32 = record { flags = _; runs = masked 31 (w.rcx % 32) (and_mask (w.rcx % 2 ^ 32) 5 ∙ omega arith) }
  amount_passes W64 = record { flags = _; runs = masked 63 (w.rcx % 64) (and_mask (w.rcx % 2 ^ 32) 6 ∙ omega arith) }
