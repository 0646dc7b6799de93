-- A write that is allowed changes the bytes of its range and no others, and any other gives nothing.
use Rattle.std.proofs.Common.{◌≡◌, ℕ, ◌+◌, ◌-◌, ◌<◌, ◌≤◌, ◌⊎◌, Bool, true, false, ◌&&◌, ◌||◌, if◌then◌else◌, List, [], ◌∷◌, length, get_or, Some, None, refl, sym, ◌∙◌, ap, inl, inr, arith}
use Rattle.std.proofs.lemmas.Bool.{cases_Bool, or_cases, and_parts}
use Rattle.x86_core.specs.declared.image.Segment.{Segment}
use Rattle.x86_core.specs.Memory.{covers, writes, one_covers, with_bytes, behind as in_front, write_at}
use Rattle.x86_rows.specs.Addresses.{byte_at, AreDisjoint, SameShape, Written}
use Rattle.x86_rows.proofs.Replaced.{replaced_length, replaced_before, replaced_inside, replaced_behind}
use Rattle.x86_rows.proofs.Covers.{covers_within, within_covers, chosen, passed_over, byte_first, byte_behind, range_is, none_before, not_here}
use Rattle.x86_rows.proofs.Shapes.{shape_refl, covers_same}

-- the bytes one by one are those of the range
written : (ss : List Segment) (at : ℕ) (bs : List ℕ) (ts : List Segment) → write_at ss at bs ≡ Some ts → SameShape ss ts → ((i : ℕ) → i < length bs → byte_at ts (at + i) ≡ get_or bs i 0) → ((p : ℕ) → (p < at) ⊎ (at + length bs ≤ p) → byte_at ts p ≡ byte_at ss p) → Written ss at bs
written ss at bs ts gives shape inside outside = record { segments = ts; gives = gives; shape = shape; range = range_is ts bs at inside; inside = inside; outside = outside }

-- into the first segment
module _ (s : Segment) (ss : List Segment) (at : ℕ) (bs : List ℕ) (here : (writes s.rights && covers s at (length bs)) ≡ true) where
  above : s.start ≤ at
  above = (covers_within s at (length bs) (and_parts (writes s.rights) (covers s at (length bs)) here).1).above

  fits : at - s.start + length bs ≤ length s.bytes
  fits = let w = covers_within s at (length bs) (and_parts (writes s.rights) (covers s at (length bs)) here).1 in omega (arith, w.above, w.below)

  abbrev changed : Segment
  changed = with_bytes s at bs

  long : length s.bytes ≡ length changed.bytes
  long = sym (replaced_length s.bytes bs (at - s.start) fits)

  same_addresses : (p : ℕ) → covers changed p 1 ≡ covers s p 1
  same_addresses p = sym (covers_same s changed p 1 refl long)

  inside_first : (i : ℕ) → i < length bs → byte_at (changed ∷ ss) (at + i) ≡ get_or bs i 0
  inside_first i lt =
      let covered : covers changed (at + i) 1 ≡ true = within_covers changed (at + i) 1 (omega (arith, above)) (omega (arith, above, fits, long, lt)) in
      let index : at + i - s.start ≡ at - s.start + i = omega (arith, above) in
      byte_first changed ss (at + i) covered ∙ ap (λ k. get_or changed.bytes k 0) index ∙ replaced_inside s.bytes bs (at - s.start) fits i lt

  outside_first : (p : ℕ) → (p < at) ⊎ (at + length bs ≤ p) → byte_at (changed ∷ ss) p ≡ byte_at (s ∷ ss) p
  outside_first p other = elim (cases_Bool (covers s p 1)) [
    | inl covered ↦
        let from = (covers_within s p 1 covered).above in
        byte_first changed ss p (same_addresses p ∙ covered) ∙
        elim other [
          | inl before ↦ replaced_before s.bytes bs (at - s.start) fits (p - s.start) (omega (arith, before, from))
          | inr after ↦ replaced_behind s.bytes bs (at - s.start) fits (p - s.start) (omega (arith, after, from, above))
        ] ∙
        sym (byte_first s ss p covered)
    | inr none ↦ byte_behind changed ss p (same_addresses p ∙ none) ∙ sym (byte_behind s ss p none)
  ]

  written_first : Written (s ∷ ss) at bs
  written_first =
      let gives = chosen (writes s.rights && covers s at (length bs)) (Some (changed ∷ ss)) (in_front s (write_at ss at bs)) here in
      written (s ∷ ss) at bs (changed ∷ ss) gives (refl, long, refl, shape_refl ss) inside_first outside_first

-- into one behind it
written_behind : (s : Segment) (ss : List Segment) (at : ℕ) (bs : List ℕ) → AreDisjoint (s ∷ ss) → 1 ≤ length bs → one_covers writes ss at (length bs) ≡ true → Written ss at bs → Written (s ∷ ss) at bs
written_behind s ss at bs apart some allowed w =
    let none : (p : ℕ) → at ≤ p → p < at + length bs → covers s p 1 ≡ false = λ p from to. none_before writes s ss at (length bs) p apart allowed from to in
    let pass = not_here (writes s.rights) s at (length bs) some (none at (omega arith) (omega (arith, some))) in
    let gives = passed_over (writes s.rights && covers s at (length bs)) (Some (with_bytes s at bs ∷ ss)) (in_front s (write_at ss at bs)) pass ∙ ap (in_front s) w.gives in
    written (s ∷ ss) at bs (s ∷ w.segments) gives (refl, refl, refl, w.shape)
    (λ i lt. byte_behind s w.segments (at + i) (none (at + i) (omega arith) (omega (arith, lt))) ∙ w.inside i lt)
    (λ p other. elim (cases_Bool (covers s p 1)) [
      | inl covered ↦ byte_first s w.segments p covered ∙ sym (byte_first s ss p covered)
      | inr less ↦ byte_behind s w.segments p less ∙ w.outside p other ∙ sym (byte_behind s ss p less)
    ])

pub write_range : (ss : List Segment) (at : ℕ) (bs : List ℕ) → AreDisjoint ss → 1 ≤ length bs → one_covers writes ss at (length bs) ≡ true → Written ss at bs
write_range [] at bs apart some e = absurd (cc)
write_range (s ∷ ss) at bs apart some e = elim (or_cases (writes s.rights && covers s at (length bs)) (one_covers writes ss at (length bs)) e) [
  | inl here ↦ written_first s ss at bs here
  | inr behind ↦ written_behind s ss at bs apart some behind (write_range ss at bs apart.1 some behind)
]

-- no segment covers it that may be written
pub write_refused : (ss : List Segment) (at : ℕ) (bs : List ℕ) → one_covers writes ss at (length bs) ≡ false → write_at ss at bs ≡ None
write_refused [] at bs e = refl
write_refused (s ∷ ss) at bs e = by_test (writes s.rights && covers s at (length bs)) (write_refused ss at bs) e
  where
    by_test : (b : Bool) → (one_covers writes ss at (length bs) ≡ false → write_at ss at bs ≡ None) → (b || one_covers writes ss at (length bs)) ≡ false → (if b then Some (with_bytes s at bs ∷ ss) else in_front s (write_at ss at bs)) ≡ None
    by_test true others e = absurd (cc)
    by_test false others e = ap (in_front s) (others e)
