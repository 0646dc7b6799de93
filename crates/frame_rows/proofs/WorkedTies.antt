-- A frame with its memory that is tied: what the laws ask for is there.
use Rattle.std.proofs.Common.{◌≡◌, ℕ, zero, suc, ◌+◌, ◌*◌, ◌^◌, ◌<◌, ◌≤◌, Bool, true, false, ◌&&◌, ◌||◌, nat_eq, nat_le, if◌then◌else◌, List, [], ◌∷◌, Option, Some, None, Ok, Err, replicate, refl, sym, ◌∙◌, ap, subst, inl, inr, arith}
use Rattle.std.proofs.lemmas.Bool.{and_parts, and_from, or_cases, leb-true, le-leb, cases_eq, eq-eqb, ne_eqb}
use Rattle.rd_num.specs.Number.{le_bytes}
use Rattle.ir_core.specs.declared.memory.Reason.TheVariants.{Unset}
use Rattle.ir_core.specs.Stops.{Answer, Left}
use Rattle.x86_core.specs.declared.reg.Reg.TheVariants.{Rbx}
use Rattle.x86_core.specs.declared.image.Rights.{Rights}
use Rattle.x86_core.specs.declared.image.Segment.{Segment}
use Rattle.x86_core.specs.Data.{segment}
use Rattle.x86_core.specs.Memory.{reads, writes, one_covers}
use Rattle.x86_rows.specs.Addresses.{byte_at}
use Rattle.low_core.specs.Flat.{Span, Flat, covers}
use Rattle.low_core.specs.SelState.{word_in}
use Rattle.frame_rows.specs.declared.spot.Spot.{Spot}
use Rattle.frame_rows.specs.declared.spot.Spot.TheVariants.{Own, Frame}
use Rattle.frame_rows.specs.Words.{Words}
use Rattle.frame_rows.specs.Ties.{IsHome, Keeps, Contains, Tied}

-- two words of the frame from 4,096 on, and eight bytes of the function's own memory behind them, of which the first one is told
abbrev memory : List Segment
memory = segment 4096 (replicate 64 0) 6 ∷ []

abbrev own : Span
own = record { start = 4112; size = 8; writable = true }

abbrev flat : Flat
flat = record { spans = own ∷ []; bytes = λ p. if nat_eq p 4112 then Some 0 else None }

-- the first register in rbx, the others in the frame
abbrev homes : ℕ → Spot
homes zero = Own Rbx
homes (suc x) = Frame 1

abbrev registers : List (Option ℕ)
registers = Some 5 ∷ Some 0 ∷ None ∷ []

abbrev words : Words
words = record { rax = 1; rcx = 2; rdx = 3; rbx = 5; rsp = 4096; rbp = 6; rsi = 7; rdi = 8; r8 = 9; r9 = 10; r10 = 11; r11 = 12; r12 = 13; r13 = 14; r14 = 15; r15 = 0 }

-- a range of the own memory
record InOwn (p n : ℕ) : Type 0 where
  above : 4112 ≤ p
  below : p + n ≤ 4120

in_own : (p n : ℕ) → (covers p n own || false) ≡ true → InOwn p n
in_own p n h = elim (or_cases (covers p n own) false h) [
  | inl t ↦ let x = and_parts (nat_le 4112 p) (nat_le (p + n) 4120) t in record { above = leb-true 4112 p x.0; below = leb-true (p + n) 4120 x.1 }
  | inr f ↦ absurd (cc)
]

held : (b : Bool) → b ≡ true → (b || false) ≡ true
held b e = ap (λ c. c || false) e

covered : (p n : ℕ) → InOwn p n → (nat_le 4096 p && nat_le (p + n) 4160 || false) ≡ true
covered p n i =
    let a = i.above in
    let b = i.below in
    held (nat_le 4096 p && nat_le (p + n) 4160) (and_from (nat_le 4096 p) (nat_le (p + n) 4160) (le-leb 4096 p (omega (arith, a))) (le-leb (p + n) 4160 (omega (arith, b))))

-- the byte that is told
told_byte : (p b : ℕ) → (if nat_eq p 4112 then Some 0 else None) ≡ Some b → (p ≡ 4112) × (b ≡ 0)
told_byte p b e = elim (cases_eq p 4112) [
  | inl same ↦ let z : Some 0 ≡ Some b = sym (ap (λ t. if t then Some 0 else None) (eq-eqb p 4112 same)) ∙ e in (same, cc)
  | inr other ↦ let z : None ≡ Some b = sym (ap (λ t. if t then Some 0 else None) (ne_eqb p 4112 other)) ∙ e in absurd (cc)
]

contains : Contains 4096 2 flat memory
contains = record {
  told = λ p b inside e.
      let x = told_byte p b e in
      let small : 0 < 256 = omega arith in
      (ap (byte_at memory) x.0 ∙ sym x.1, subst (λ n. n < 256) (sym x.1) small);
  readable = λ p n inside some. covered p n (in_own p n inside);
  writable = λ p n may some. covered p n (in_own p n may);
  beside = λ p inside lo hi. let x = (in_own p 1 inside).above in omega (arith, x, hi);
}

-- words are in their homes
kept : (x n : ℕ) → word_in registers x ≡ Ok n → Keeps words memory (homes x) n
kept zero n e = let both : Answer ℕ = Ok 5 in let z : both ≡ Ok n = e in cc
kept (suc zero) n e = let both : Answer ℕ = Ok 0 in let z : both ≡ Ok n = e in let same : 0 ≡ n = cc in ap (le_bytes 8) same
kept (suc (suc zero)) n e = let none : Answer ℕ = Err (Left Unset) in let z : none ≡ Ok n = e in absurd (cc)
kept (suc (suc (suc x))) n e = let none : Answer ℕ = Err (Left Unset) in let z : none ≡ Ok n = e in absurd (cc)

small : (x n : ℕ) → word_in registers x ≡ Ok n → n < 2 ^ 64
small zero n e = let both : Answer ℕ = Ok 5 in let z : both ≡ Ok n = e in let same : 5 ≡ n = cc in omega (arith, same)
small (suc zero) n e = let both : Answer ℕ = Ok 0 in let z : both ≡ Ok n = e in let same : 0 ≡ n = cc in omega (arith, same)
small (suc (suc zero)) n e = let none : Answer ℕ = Err (Left Unset) in let z : none ≡ Ok n = e in absurd (cc)
small (suc (suc (suc x))) n e = let none : Answer ℕ = Err (Left Unset) in let z : none ≡ Ok n = e in absurd (cc)

is_home_of : (x : ℕ) → IsHome 2 (homes x)
is_home_of zero = refl
is_home_of (suc x) = omega arith

-- two words of a frame
each_word : (right : Rights → Bool) → right (record { 0 = 6 }) ≡ true → (k : ℕ) → k < 2 → one_covers right memory (4096 + 8 * k) 8 ≡ true
each_word right e zero lt = ap (λ b. b && true || false) e
each_word right e (suc zero) lt = ap (λ b. b && true || false) e
each_word right e (suc (suc k)) lt = absurd (omega (arith, lt))

tied : Tied homes 4096 2 (λ x. Unit {0}) registers flat words memory
tied = record {
  room = record { disjoint = (λ p here. refl, tt); below = omega arith; readable = each_word reads refl; writable = each_word writes refl };
  at_base = refl;
  spots = is_home_of;
  kept = λ x n l e. kept x n e;
  small = small;
  memory = contains;
}
