-- A read that is allowed gives the bytes of its range, and any other gives none.
use Rattle.std.proofs.Common.{◌≡◌, ℕ, zero, suc, ◌+◌, ◌-◌, ◌<◌, ◌≤◌, Bool, true, false, ◌&&◌, ◌||◌, List, [], ◌∷◌, length, get_or, take, drop, Some, None, if◌then◌else◌, refl, sym, ◌∙◌, ap, inl, inr, arith}
use Rattle.std.proofs.lemmas.Bool.{or_cases, and_parts}
use Rattle.std.proofs.lemmas.List.{drop_more}
use Rattle.x86_core.specs.declared.image.Segment.{Segment}
use Rattle.x86_core.specs.Memory.{covers, reads, one_covers, read_at}
use Rattle.x86_rows.specs.Addresses.{byte_at, range_at, AreDisjoint}
use Rattle.x86_rows.proofs.Covers.{covers_within, within_covers, chosen, passed_over, byte_first, byte_behind, none_before, not_here}

-- a part of the first segment's bytes is a range
part_is_range : (s : Segment) (ss : List Segment) (n skipped at : ℕ) → at ≡ s.start + skipped → skipped + n ≤ length s.bytes → take n (drop skipped s.bytes) ≡ range_at (s ∷ ss) at n
part_is_range s ss zero skipped at e fits = refl
part_is_range s ss (suc n) skipped at e fits =
    let here : covers s at 1 ≡ true = within_covers s at 1 (omega (arith, e)) (omega (arith, e, fits)) in
    let index : at - s.start ≡ skipped = omega (arith, e) in
    let byte : byte_at (s ∷ ss) at ≡ get_or s.bytes skipped 0 = byte_first s ss at here ∙ ap (λ k. get_or s.bytes k 0) index in
    ap (take (suc n)) (drop_more s.bytes skipped 0 (omega (arith, fits))) ∙
    ap (λ b. b ∷ take n (drop (skipped + 1) s.bytes)) (sym byte) ∙
    ap (λ bs. byte_at (s ∷ ss) at ∷ bs) (part_is_range s ss n (skipped + 1) (at + 1) (omega (arith, e)) (omega (arith, fits)))

-- a range of which the first segment has no address
range_behind : (s : Segment) (ss : List Segment) (n at : ℕ) → ((p : ℕ) → at ≤ p → p < at + n → covers s p 1 ≡ false) → range_at ss at n ≡ range_at (s ∷ ss) at n
range_behind s ss zero at none = refl
range_behind s ss (suc n) at none =
    ap (λ b. b ∷ range_at ss (at + 1) n) (sym (byte_behind s ss at (none at (omega arith) (omega arith)))) ∙
    ap (λ bs. byte_at (s ∷ ss) at ∷ bs) (range_behind s ss n (at + 1) (λ p from to. none p (omega (arith, from)) (omega (arith, to))))

pub read_range : (ss : List Segment) (at n : ℕ) → AreDisjoint ss → 1 ≤ n → one_covers reads ss at n ≡ true → read_at ss at n ≡ Some (range_at ss at n)
read_range [] at n apart some e = absurd (cc)
read_range (s ∷ ss) at n apart some e =
    let part = Some (take n (drop (at - s.start) s.bytes)) in
    elim (or_cases (reads s.rights && covers s at n) (one_covers reads ss at n) e) [
      | inl here ↦
          let w = covers_within s at n (and_parts (reads s.rights) (covers s at n) here).1 in
          chosen (reads s.rights && covers s at n) part (read_at ss at n) here ∙
          ap Some (part_is_range s ss n (at - s.start) at (omega (arith, w.above)) (omega (arith, w.above, w.below)))
      | inr behind ↦
          let none = not_here (reads s.rights) s at n some (none_before reads s ss at n at apart behind (omega arith) (omega (arith, some))) in
          passed_over (reads s.rights && covers s at n) part (read_at ss at n) none ∙
          read_range ss at n apart.1 some behind ∙
          ap Some (range_behind s ss n at (λ p from to. none_before reads s ss at n p apart behind from to))
    ]

-- no segment covers it that may be read
pub read_refused : (ss : List Segment) (at n : ℕ) → one_covers reads ss at n ≡ false → read_at ss at n ≡ None
read_refused [] at n e = refl
read_refused (s ∷ ss) at n e = by_test (reads s.rights && covers s at n) (read_refused ss at n) e
  where
    by_test : (b : Bool) → (one_covers reads ss at n ≡ false → read_at ss at n ≡ None) → (b || one_covers reads ss at n) ≡ false → (if b then Some (take n (drop (at - s.start) s.bytes)) else read_at ss at n) ≡ None
    by_test true others e = absurd (cc)
    by_test false others e = others e
