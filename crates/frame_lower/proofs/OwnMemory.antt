-- The flat memory of a call that begins, and of one that is over.
use Rattle.std.proofs.Common.{◌≡◌, ℕ, ◌+◌, ◌*◌, ◌<◌, ◌≤◌, Bool, true, false, ◌&&◌, ◌||◌, nat_le, nat_lt, if◌then◌else◌, List, ◌∷◌, Some, None, refl, sym, ◌∙◌, ap, inl, inr, ◌⊎◌, arith}
use Rattle.std.proofs.lemmas.Bool.{or_cases, and_parts, and_from, leb-true, le-leb, lt-ltb}
use Rattle.x86_core.specs.declared.image.Segment.{Segment}
use Rattle.x86_core.specs.Memory.{reads, writes}
use Rattle.x86_core.specs.Data.{stack_start, stack_end}
use Rattle.x86_rows.specs.Addresses.{byte_at, SameShape}
use Rattle.x86_rows.specs.Saving.{IsStack}
use Rattle.x86_rows.proofs.Shapes.{one_same}
use Rattle.low_core.specs.Flat.{Span, Bytes, covers, is_inside, is_writable, forgotten}
use Rattle.frame_rows.specs.Ties.{Contains}

-- a range in a span, in numbers
pub record Covered (p n start size : ℕ) : Type 0 where
  pub low : start ≤ p
  pub high : p + n ≤ start + size

abbrev pub span : ℕ → ℕ → Span
span start size = record { start = start; size = size; writable = true }

pub covered : (p n start size : ℕ) → covers p n (span start size) ≡ true → Covered p n start size
covered p n start size h = let x = and_parts (nat_le start p) (nat_le (p + n) (start + size)) h in record { low = leb-true _ _ x.0; high = leb-true _ _ x.1 }

-- in the new span, or in one of those that there were
pub one_more : (start size : ℕ) (spans : List Span) (p n : ℕ) → is_inside p n (span start size ∷ spans) ≡ true → Covered p n start size ⊎ (is_inside p n spans ≡ true)
one_more start size spans p n h = elim (or_cases (covers p n (span start size)) (is_inside p n spans) h) [
  | inl t ↦ inl (covered p n start size t)
  | inr t ↦ inr t
]

-- nothing is told of the bytes of the new span
forgotten_in : (bytes : Bytes) (start size p : ℕ) → start ≤ p → p < start + size → forgotten bytes start size p ≡ None
forgotten_in bytes start size p low high =
    ap (λ b. if b then None else bytes p) (and_from (nat_le start p) (nat_lt p (start + size)) (le-leb start p low) (lt-ltb p (start + size) high))

-- and of the others what was told
forgotten_told : (bytes : Bytes) (start size p b : ℕ) → forgotten bytes start size p ≡ Some b → bytes p ≡ Some b
forgotten_told bytes start size p b e = by_test (nat_le start p && nat_lt p (start + size)) e
  where
    by_test : (t : Bool) → (if t then None else bytes p) ≡ Some b → bytes p ≡ Some b
    by_test true e = absurd (cc)
    by_test false e = e

-- a call in a free part of the stack, below an address
pub contains_made : (base words base2 words2 start size top : ℕ) (spans : List Span) (bytes : Bytes) (ss ts : List Segment) → IsStack stack_start stack_end ts → SameShape ss ts → stack_start ≤ base2 → base2 + 8 * words2 ≤ start →
    start + size ≤ top → top ≤ stack_end →
    ((p : ℕ) → is_inside p 1 spans ≡ true → stack_start ≤ p → p < top → ⊥) → ((p : ℕ) → is_inside p 1 spans ≡ true → byte_at ts p ≡ byte_at ss p) → Contains base words (record { spans = spans; bytes = bytes }) ss →
    Contains base2 words2 (record { spans = span start size ∷ spans; bytes = forgotten bytes start size }) ts
contains_made base words base2 words2 start size top spans bytes ss ts stack shape low over under high quiet same c = record {
  told = λ p b i e. elim (one_more start size spans p 1 i) [
    | inl k ↦ let a = k.low in let h = k.high in let z : None ≡ Some b = sym (forgotten_in bytes start size p a (omega (arith, h))) ∙ e in absurd (cc)
    | inr j ↦ let y = c.told p b j (forgotten_told bytes start size p b e) in (same p j ∙ y.0, y.1)
  ];
  readable = λ p n i some. elim (one_more start size spans p n i) [
    | inl k ↦ let a = k.low in let h = k.high in stack.readable p n (omega (arith, low, over, a)) (omega (arith, under, high, h)) some
    | inr j ↦ sym (one_same reads ss ts p n shape) ∙ c.readable p n j some
  ];
  writable = λ p n i some. elim (or_cases (true && covers p n (span start size)) (is_writable p n spans) i) [
    | inl t ↦ let k = covered p n start size t in let a = k.low in let h = k.high in stack.writable p n (omega (arith, low, over, a)) (omega (arith, under, high, h)) some
    | inr j ↦ sym (one_same writes ss ts p n shape) ∙ c.writable p n j some
  ];
  beside = λ p i l h. elim (one_more start size spans p 1 i) [
    | inl k ↦ let a = k.low in absurd (omega (arith, a, h, over))
    | inr j ↦ quiet p j (omega (arith, l, low)) (omega (arith, h, over, under))
  ];
}

or_right : (a b : Bool) → b ≡ true → (a || b) ≡ true
or_right true b e = refl
or_right false b e = e

-- a call that is over leaves the spans of those that waited
pub contains_gone : (base words base2 words2 : ℕ) (own : Span) (spans : List Span) (bytes : Bytes) (ss : List Segment) → ((p : ℕ) → is_inside p 1 spans ≡ true → base2 ≤ p → p < base2 + 8 * words2 → ⊥) →
    Contains base words (record { spans = own ∷ spans; bytes = bytes }) ss →
    Contains base2 words2 (record { spans = spans; bytes = bytes }) ss
contains_gone base words base2 words2 own spans bytes ss off c = record {
  told = λ p b i e. c.told p b (or_right (covers p 1 own) (is_inside p 1 spans) i) e;
  readable = λ p n i some. c.readable p n (or_right (covers p n own) (is_inside p n spans) i) some;
  writable = λ p n i some. c.writable p n (or_right (own.writable && covers p n own) (is_writable p n spans) i) some;
  beside = off;
}
