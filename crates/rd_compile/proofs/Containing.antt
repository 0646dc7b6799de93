-- The memory with which an object begins has the globals that were placed in it, each byte at its address.
use Rattle.std.proofs.Common.{◌≡◌, ℕ, zero, suc, ◌+◌, ◌-◌, ◌^◌, ◌<◌, ◌≤◌, ◌⊎◌, inl, inr, Bool, true, false, not, ◌&&◌, ◌||◌, nat_le, nat_lt, if◌then◌else◌, List, [], ◌∷◌, length, get_or, Some, slice_get, refl, ap, sym, ◌∙◌, arith}
use Rattle.std.proofs.lemmas.Bool.{cases_Bool, leb-true, ltb-true, and_parts}
use Rattle.ir_core.specs.declared.limit.TheConstants.{MAX_BYTES}
use Rattle.x86_core.specs.Data.{stack_end, data_segments}
use Rattle.x86_core.specs.Memory.{reads, writes, one_covers}
use Rattle.x86_rows.specs.Addresses.{byte_at}
use Rattle.x86_rows.proofs.First.{ro_readable, rw_readable, rw_writable, ro_byte, rw_byte}
use Rattle.low_core.specs.Flat.{covers, is_inside, is_writable}
use Rattle.low_core.specs.Placing.{ArePlaced, part_start}
use Rattle.low_core.specs.Plan.{Content, global_spans, first_bytes}
use Rattle.obj_core.specs.Object.{Each, IsByte}
use Rattle.frame_rows.specs.Ties.{Contains}
use Rattle.data_place.proofs.ByteLaws.{stands}

-- a global that has a range of addresses
record Holds (globals : List ℕ) (contents : List Content) (p n : ℕ) : Type 0 where
  pub number : ℕ
  pub at : ℕ
  pub content : Content
  pub address : slice_get globals number ≡ Some at
  pub is : slice_get contents number ≡ Some content
  pub above : at ≤ p
  pub below : p + n ≤ at + length content.bytes

abbrev further : (g : ℕ) (gs : List ℕ) (c : Content) (cs : List Content) (p n : ℕ) → Holds gs cs p n → Holds (g ∷ gs) (c ∷ cs) p n
further g gs c cs p n h = record { number = suc h.number; at = h.at; content = h.content; address = h.address; is = h.is; above = h.above; below = h.below }

covered : (at p n : ℕ) (c : Content) (b : Bool) → covers p n (record { start = at; size = length c.bytes; writable = b }) ≡ true → (at ≤ p) × (p + n ≤ at + length c.bytes)
covered at p n c b e = let both = and_parts (nat_le at p) (nat_le (p + n) (at + length c.bytes)) e in (leb-true at p both.0, leb-true (p + n) (at + length c.bytes) both.1)

either : (x y : Bool) → (x || y) ≡ true → (x ≡ true) ⊎ (y ≡ true)
either true y e = inl refl
either false y e = inr e

inside : (globals : List ℕ) (contents : List Content) (p n : ℕ) → is_inside p n (global_spans globals contents) ≡ true → Holds globals contents p n
inside [] cs p n e = absurd cc
inside (g ∷ gs) [] p n e = absurd cc
inside (g ∷ gs) (c ∷ cs) p n e = elim (either (covers p n (record { start = g; size = length c.bytes; writable = not c.constant })) (is_inside p n (global_spans gs cs)) e) [
  | inl here ↦ let at = covered g p n c (not c.constant) here in record { number = 0; at = g; content = c; address = refl; is = refl; above = at.0; below = at.1 }
  | inr more ↦ further g gs c cs p n (inside gs cs p n more)
]

varies : (b : Bool) → not b ≡ true → b ≡ false
varies true e = absurd cc
varies false e = refl

writable : (globals : List ℕ) (contents : List Content) (p n : ℕ) → is_writable p n (global_spans globals contents) ≡ true → (h : Holds globals contents p n) × (h.content.constant ≡ false)
writable [] cs p n e = absurd cc
writable (g ∷ gs) [] p n e = absurd cc
writable (g ∷ gs) (c ∷ cs) p n e = elim (either (not c.constant && covers p n (record { start = g; size = length c.bytes; writable = not c.constant })) (is_writable p n (global_spans gs cs)) e) [
  | inl here ↦
      let both = and_parts (not c.constant) (covers p n (record { start = g; size = length c.bytes; writable = not c.constant })) here in
      let at = covered g p n c (not c.constant) both.1 in
      (record { number = 0; at = g; content = c; address = refl; is = refl; above = at.0; below = at.1 }, varies c.constant both.0)
  | inr more ↦ let h = writable gs cs p n more in (further g gs c cs p n h.0, h.1)
]

-- a byte of a global
held : (globals : List ℕ) (contents : List Content) (p b : ℕ) → first_bytes globals contents p ≡ Some b → (h : Holds globals contents p 1) × (slice_get h.content.bytes (p - h.at) ≡ Some b)
held [] cs p b e = absurd cc
held (g ∷ gs) [] p b e = absurd cc
held (g ∷ gs) (c ∷ cs) p b e = elim (cases_Bool (nat_le g p && nat_lt p (g + length c.bytes))) [
  | inl here ↦
      let both = and_parts (nat_le g p) (nat_lt p (g + length c.bytes)) here in
      let low = leb-true g p both.0 in
      let high = ltb-true p (g + length c.bytes) both.1 in (
        record { number = 0; at = g; content = c; address = refl; is = refl; above = low; below = omega (arith, high) },
        sym (ap (λ x. if x then slice_get c.bytes (p - g) else first_bytes gs cs p) here) ∙ e,
      )
  | inr none ↦
      let h = held gs cs p b (sym (ap (λ x. if x then slice_get c.bytes (p - g) else first_bytes gs cs p) none) ∙ e) in
      (further g gs c cs p 1 h.0, h.1)
]

-- a byte that there is
got : (xs : List ℕ) (i b : ℕ) → slice_get xs i ≡ Some b → (get_or xs i 0 ≡ b) × (i < length xs)
got [] i b e = absurd cc
got (x ∷ xs) zero b e = ((let s : x ≡ b = cc in s), omega arith)
got (x ∷ xs) (suc i) b e = let r = got xs i b e in let low = r.1 in (r.0, omega (arith, low))

some_byte : (xs : List ℕ) (i : ℕ) → i < length xs → (b : ℕ) × (slice_get xs i ≡ Some b)
some_byte [] i low = absurd (omega (arith, low))
some_byte (x ∷ xs) zero low = (x, refl)
some_byte (x ∷ xs) (suc i) low = some_byte xs i (omega (arith, low))

is_byte : (xs : List ℕ) (i b : ℕ) → Each IsByte xs → slice_get xs i ≡ Some b → b < 256
is_byte [] i b all e = absurd cc
is_byte (x ∷ xs) zero b all e = let s : x ≡ b = cc in let low = all.0 in omega (arith, s, low)
is_byte (x ∷ xs) (suc i) b all e = is_byte xs i b all.1 e

module _ (contents : List Content) (globals ro rw : List ℕ) (placed : ArePlaced contents globals ro rw) (few : length ro + length rw ≤ MAX_BYTES) (ro_bytes : Each IsByte ro) (rw_bytes : Each IsByte rw) where
  few_ro : length ro ≤ 2 ^ 28
  few_ro = let most : MAX_BYTES ≡ 67108864 = refl in omega (arith, few, most)

  few_rw : length rw ≤ 2 ^ 28
  few_rw = let most : MAX_BYTES ≡ 67108864 = refl in omega (arith, few, most)

  -- a global's part begins at or in front of it
  starts : (p n : ℕ) (h : Holds globals contents p n) → part_start h.content.constant ≤ h.at
  starts p n h = let is = placed.addresses h.number h.at h.content h.address h.is in omega (arith, is)

  -- a byte of a global, in its part
  in_part : (p n i b : ℕ) (h : Holds globals contents p n) → slice_get h.content.bytes i ≡ Some b → slice_get (if h.content.constant then ro else rw) (h.at + i - part_start h.content.constant) ≡ Some b
  in_part p n i b h e = stands contents globals ro rw h.number h.at i b h.content placed h.address h.is e

  -- a range of a global lies in its part
  ends : (p n : ℕ) (h : Holds globals contents p n) → 1 ≤ n → p + n ≤ part_start h.content.constant + length (if h.content.constant then ro else rw)
  ends p n h some =
      let above = h.above in
      let below = h.below in
      let i : ℕ = p + n - 1 - h.at in
      let byte = some_byte h.content.bytes i (let e : i ≡ p + n - 1 - h.at = refl in omega (arith, above, below, some, e)) in
      let low = (got (if h.content.constant then ro else rw) (h.at + i - part_start h.content.constant) byte.0 (in_part p n i byte.0 h byte.1)).1 in
      let first = starts p n h in
      omega (arith, above, below, some, low, first)

  readable : (k : Bool) (p n : ℕ) → part_start k ≤ p → p + n ≤ part_start k + length (if k then ro else rw) → 1 ≤ n → one_covers reads (data_segments ro rw) p n ≡ true
  readable true p n low high some = ro_readable ro rw few_ro few_rw p n low high some
  readable false p n low high some = rw_readable ro rw few_ro few_rw p n low high some

  changeable : (k : Bool) (p n : ℕ) → k ≡ false → part_start k ≤ p → p + n ≤ part_start k + length (if k then ro else rw) → 1 ≤ n → one_covers writes (data_segments ro rw) p n ≡ true
  changeable true p n is low high some = absurd cc
  changeable false p n is low high some = rw_writable ro rw few_ro few_rw p n low high some

  told : (k : Bool) (p i b : ℕ) → p ≡ part_start k + i → slice_get (if k then ro else rw) i ≡ Some b → (byte_at (data_segments ro rw) p ≡ b) × (b < 256)
  told true p i b at e = let g = got ro i b e in (ap (byte_at (data_segments ro rw)) at ∙ ro_byte ro rw few_ro few_rw i g.1 ∙ g.0, is_byte ro i b ro_bytes e)
  told false p i b at e = let g = got rw i b e in (ap (byte_at (data_segments ro rw)) at ∙ rw_byte ro rw few_ro few_rw i g.1 ∙ g.0, is_byte rw i b rw_bytes e)

  pub contains : Contains stack_end 0 (record { spans = global_spans globals contents; bytes = first_bytes globals contents }) (data_segments ro rw)
  contains = record {
    told = λ p b within has. (let h = held globals contents p b has in let first = starts p 1 h.0 in let above = h.0.above in
        told h.0.content.constant p (h.0.at + (p - h.0.at) - part_start h.0.content.constant) b (omega (arith, first, above)) (in_part p 1 (p - h.0.at) b h.0 h.1));
    readable = λ p n within some. (let h = inside globals contents p n within in let first = starts p n h in let above = h.above in
        readable h.content.constant p n (omega (arith, first, above)) (ends p n h some) some);
    writable = λ p n within some. (let h = writable globals contents p n within in let first = starts p n h.0 in let above = h.0.above in
        changeable h.0.content.constant p n h.1 (omega (arith, first, above)) (ends p n h.0 some) some);
    beside = λ p within low high. omega (arith, low, high);
  }
