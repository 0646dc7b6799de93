-- Ranges that a routine is lent: their parts, their bytes, and the word on the stack beside them.
use Rattle.std.proofs.Common.{◌≡◌, ℕ, zero, suc, ◌+◌, ◌*◌, ◌<◌, ◌≤◌, ◌⊎◌, ◌^◌, ◌%◌, Bool, true, false, ◌&&◌, ◌||◌, List, [], ◌∷◌, refl, ◌∙◌, ap, inl, inr, arith}
use Rattle.std.proofs.lemmas.Bool.{cases_lt, or_cases, and_parts, and_from}
use Rattle.rd_num.specs.Number.{le_bytes, le_number}
use Rattle.x86_core.specs.declared.image.Rights.{Rights}
use Rattle.x86_core.specs.declared.image.Segment.{Segment}
use Rattle.x86_core.specs.Data.{stack_start}
use Rattle.x86_core.specs.Memory.{covers, reads, writes, one_covers}
use Rattle.x86_core.proofs.Parts.{IsBytes, bytes_back}
use Rattle.x86_rows.specs.Addresses.{byte_at, range_at, AreDisjoint}
use Rattle.x86_rows.specs.Straight.{Core}
use Rattle.x86_rows.proofs.Covers.{covers_within, within_covers}
use Rattle.x86_rows.proofs.Numbers.{bytes_low}
use Rattle.obj_rows.specs.Routines.{IsLent, MayCopy}
use Rattle.rt_routines.proofs.Fills.{total, Writable}
use Rattle.rt_routines.proofs.Copies.{Copyable}

-- a part of a range that one segment has
pub part_covered : (right : Rights → Bool) (ss : List Segment) (at n p m : ℕ) → at ≤ p → p + m ≤ at + n → one_covers right ss at n ≡ true → one_covers right ss p m ≡ true
part_covered right [] at n p m low high e = absurd (cc)
part_covered right (s ∷ ss) at n p m low high e = elim (or_cases (right s.rights && covers s at n) (one_covers right ss at n) e) [
  | inl here ↦
      let both = and_parts (right s.rights) (covers s at n) here in
      let inside = covers_within s at n both.1 in
      let above = inside.above in
      let below = inside.below in
      ap (λ b. b || one_covers right ss p m)
      (and_from (right s.rights) (covers s p m) both.0 (within_covers s p m (omega (arith, above, low)) (omega (arith, below, high))))
  | inr behind ↦ either (right s.rights && covers s p m) (one_covers right ss p m) (part_covered right ss at n p m low high behind)
]
  where
    either : (a b : Bool) → b ≡ true → (a || b) ≡ true
    either true b e = refl
    either false b e = e

-- what is lent may be written, part by part
pub lent_writable : (c : Core) (to n : ℕ) → AreDisjoint c.segments → (1 ≤ n → IsLent writes c to n) → Writable c.segments to n
lent_writable c to n apart lent = record {
  disjoint = apart;
  below = λ some. (lent some).below;
  allowed = λ p m low high some. part_covered writes c.segments to n p m low high (lent (omega (arith, low, high, some))).allowed;
}

-- and copied
pub lent_copyable : (c : Core) (to from n : ℕ) → AreDisjoint c.segments → (1 ≤ n → MayCopy c to from n) → Copyable c.segments to from n
lent_copyable c to from n apart may = record {
  target = lent_writable c to n apart (λ some. (may some).target);
  below = λ some. (may some).source.below;
  allowed = λ p m low high some. part_covered reads c.segments from n p m low high (may (omega (arith, low, high, some))).source.allowed;
  bytes = λ q low high. (may (omega (arith, low, high))).bytes q low high;
  beside = elim (cases_lt 0 n) [
    | inl some ↦ (may some).beside
    | inr none ↦ elim (cases_lt to from) [ inl before ↦ inr (inl (omega (arith, none, before))) | inr after ↦ inr (inr (omega (arith, none, after))) ]
  ];
}

-- as many bytes are a word
pub count_small : (at n : ℕ) → (1 ≤ n → at + n < 2 ^ 64) → n < 2 ^ 64
count_small at n below = elim (cases_lt 0 n) [ inl some ↦ (let b = below some in omega (arith, b)) | inr none ↦ omega (arith, none) ]

-- the word on top of the stack isn't in what is lent
pub landing_apart : (to n top q : ℕ) → (1 ≤ n → (p : ℕ) → to ≤ p → p < to + n → (p < stack_start) ⊎ (top + 8 ≤ p)) → stack_start ≤ top → top ≤ q → q < top + 8 → (q < to) ⊎ (to + n ≤ q)
landing_apart to n top q apart low from up_to = elim (cases_lt q to) [
  | inl before ↦ inl before
  | inr after ↦ elim (cases_lt q (to + n)) [
    | inl inside ↦ elim (apart (omega (arith, after, inside)) q after inside) [
      | inl under ↦ absurd (omega (arith, under, low, from))
      | inr above ↦ absurd (omega (arith, above, up_to))
    ]
    | inr behind ↦ inr behind
  ]
]

-- so many rounds of eight bytes, and of one
pub total_eight : (r : ℕ) → total 8 r ≡ 8 * r
total_eight zero = refl
total_eight (suc r) = let e = total_eight r in omega (arith, e)

pub total_one : (r : ℕ) → total 1 r ≡ r
total_one zero = refl
total_one (suc r) = let e = total_one r in omega (arith, e)

-- bytes that are loaded are stored again
range_bytes : (ss : List Segment) (n p : ℕ) → ((q : ℕ) → p ≤ q → q < p + n → byte_at ss q < 256) → IsBytes (range_at ss p n)
range_bytes ss zero p small = tt
range_bytes ss (suc n) p small = (small p (omega arith) (omega arith), range_bytes ss n (p + 1) (λ q low high. small q (omega (arith, low)) (omega (arith, high))))

pub word_again : (ss : List Segment) (p : ℕ) → ((q : ℕ) → p ≤ q → q < p + 8 → byte_at ss q < 256) → le_bytes 8 (le_number (range_at ss p 8) % 2 ^ 64) ≡ range_at ss p 8
word_again ss p small = bytes_low 8 (le_number (range_at ss p 8)) ∙ bytes_back (range_at ss p 8) (range_bytes ss 8 p small)

pub byte_again : (ss : List Segment) (p : ℕ) → ((q : ℕ) → p ≤ q → q < p + 1 → byte_at ss q < 256) → le_bytes 1 (le_number (range_at ss p 1) % 2 ^ 8) ≡ range_at ss p 1
byte_again ss p small = bytes_low 1 (le_number (range_at ss p 1)) ∙ bytes_back (range_at ss p 1) (range_bytes ss 1 p small)

-- the first part of what may be written, or copied
pub writable_first : (ss : List Segment) (to n m : ℕ) → m ≤ n → Writable ss to n → Writable ss to m
writable_first ss to n m fits x = record {
  disjoint = x.disjoint;
  below = λ some. let b = x.below (omega (arith, some, fits)) in omega (arith, b, fits);
  allowed = λ p l low high some. x.allowed p l low (omega (arith, high, fits)) some;
}

pub copyable_first : (ss : List Segment) (to from n m : ℕ) → m ≤ n → Copyable ss to from n → Copyable ss to from m
copyable_first ss to from n m fits x = record {
  target = writable_first ss to n m fits x.target;
  below = λ some. let b = x.below (omega (arith, some, fits)) in omega (arith, b, fits);
  allowed = λ p l low high some. x.allowed p l low (omega (arith, high, fits)) some;
  bytes = λ q low high. x.bytes q low (omega (arith, high, fits));
  beside = elim x.beside [
    | inl one ↦ inl one
    | inr apart ↦ inr (elim apart [
      | inl before ↦ inl (omega (arith, before, fits))
      | inr after ↦ inr (omega (arith, after, fits))
    ])
  ];
}
