-- The memory with which a run begins: data that may be read, data that may be written too, and the stack.
use Rattle.std.proofs.Common.{◌≡◌, ℕ, ◌+◌, ◌-◌, ◌^◌, ◌<◌, ◌≤◌, Bool, true, false, ◌&&◌, ◌||◌, List, [], ◌∷◌, ◌++◌, length, get_or, refl, sym, ◌∙◌, ap, subst, inl, inr, arith}
use Rattle.std.proofs.lemmas.Bool.{cases_Bool}
use Rattle.x86_core.specs.declared.image.Rights.{Rights}
use Rattle.x86_core.specs.declared.image.Segment.{Segment}
use Rattle.x86_core.specs.Data.{ro_start, rw_start, stack_start, stack_end, segment, stack, unless_empty, data_segments}
use Rattle.x86_core.specs.Memory.{covers, reads, writes, one_covers}
use Rattle.x86_core.proofs.Stack.{stack_long}
use Rattle.x86_rows.specs.Addresses.{byte_at, has_address, AreDisjoint}
use Rattle.x86_rows.specs.Saving.{IsStack}
use Rattle.x86_rows.proofs.Covers.{covers_within, within_covers, byte_first, byte_behind}
use Rattle.x86_rows.proofs.Saving.{covered_among, segment_is_stack}

-- segments in the order of their addresses, from an address on
abbrev pub Rise : ℕ → List Segment → Type 0
Rise from [] = Unit {0}
Rise from (s ∷ ss) = (from ≤ s.start) × Rise (s.start + length s.bytes) ss

rise_sooner : (from later : ℕ) (ss : List Segment) → from ≤ later → Rise later ss → Rise from ss
rise_sooner from later [] le h = tt
rise_sooner from later (s ∷ ss) le h = (omega (arith, le, h.0), h.1)

-- a segment doesn't have what lies before it
not_before : (s : Segment) (p : ℕ) → p < s.start → covers s p 1 ≡ false
not_before s p lt = elim (cases_Bool (covers s p 1)) [
  | inl here ↦ let w = covers_within s p 1 here in absurd (omega (arith, w.above, lt))
  | inr none ↦ none
]

none_before : (from p : ℕ) (ss : List Segment) → p < from → Rise from ss → has_address ss p ≡ false
none_before from p [] lt h = refl
none_before from p (s ∷ ss) lt h =
    ap (λ b. b || has_address ss p) (not_before s p (omega (arith, lt, h.0))) ∙ none_before (s.start + length s.bytes) p ss (omega (arith, lt, h.0)) h.1

-- so they are apart
pub rise_disjoint : (from : ℕ) (ss : List Segment) → Rise from ss → AreDisjoint ss
rise_disjoint from [] h = tt
rise_disjoint from (s ∷ ss) h =
    (λ p here. let w = covers_within s p 1 here in none_before (s.start + length s.bytes) p ss (omega (arith, w.below)) h.1, rise_disjoint (s.start + length s.bytes) ss h.1)

-- a segment that is left out where it is empty
unless_rises : (from start rights : ℕ) (bs : List ℕ) (others : List Segment) → from ≤ start → Rise (start + length bs) others → Rise from (unless_empty bs (segment start bs rights) others)
unless_rises from start rights [] others le h = rise_sooner from (start + 0) others (omega (arith, le)) h
unless_rises from start rights (b ∷ bs) others le h = (le, h)

-- a segment among those that stand in front of others
unless_among : (right : Rights → Bool) (start rights : ℕ) (bs : List ℕ) (others : List Segment) (p n : ℕ) → right (segment start bs rights).rights ≡ true → start ≤ p → p + n ≤ start + length bs → 1 ≤ n → one_covers right (unless_empty bs (segment start bs rights) others) p n ≡ true
unless_among right start rights [] others p n allowed from to some = absurd (omega (arith, from, to, some))
unless_among right start rights (b ∷ bs) others p n allowed from to some =
    covered_among right [] (segment start (b ∷ bs) rights) others p n allowed (within_covers (segment start (b ∷ bs) rights) p n from to)

unless_behind : (right : Rights → Bool) (s : Segment) (bs : List ℕ) (others : List Segment) (p n : ℕ) → one_covers right others p n ≡ true → one_covers right (unless_empty bs s others) p n ≡ true
unless_behind right s [] others p n e = e
unless_behind right s (b ∷ bs) others p n e = either (right s.rights && covers s p n) (one_covers right others p n) e
  where
    either : (x y : Bool) → y ≡ true → (x || y) ≡ true
    either true y e = refl
    either false y e = e

-- its bytes, and those behind it
unless_byte : (start rights : ℕ) (bs : List ℕ) (others : List Segment) (i : ℕ) → i < length bs → byte_at (unless_empty bs (segment start bs rights) others) (start + i) ≡ get_or bs i 0
unless_byte start rights [] others i lt = absurd (omega (arith, lt))
unless_byte start rights (b ∷ bs) others i lt =
    let index : start + i - start ≡ i = omega arith in
    byte_first (segment start (b ∷ bs) rights) others (start + i) (within_covers (segment start (b ∷ bs) rights) (start + i) 1 (omega arith) (omega (arith, lt))) ∙
    ap (λ k. get_or (b ∷ bs) k 0) index

unless_byte_behind : (start rights : ℕ) (bs : List ℕ) (others : List Segment) (p : ℕ) → start + length bs ≤ p → byte_at (unless_empty bs (segment start bs rights) others) p ≡ byte_at others p
unless_byte_behind start rights [] others p le = refl
unless_byte_behind start rights (b ∷ bs) others p le = byte_behind (segment start (b ∷ bs) rights) others p (elim (cases_Bool (covers (segment start (b ∷ bs) rights) p 1)) [
  | inl here ↦ let w = covers_within (segment start (b ∷ bs) rights) p 1 here in absurd (omega (arith, w.below, le))
  | inr none ↦ none
])

module _ (ro rw : List ℕ) (few_ro : length ro ≤ 2 ^ 28) (few_rw : length rw ≤ 2 ^ 28) where
  pub data_disjoint : AreDisjoint (data_segments ro rw)
  data_disjoint =
      rise_disjoint 0 (data_segments ro rw)
      (unless_rises 0 ro_start 4 ro (unless_empty rw (segment rw_start rw 6) (stack ∷ [])) (omega arith)
      (unless_rises (ro_start + length ro) rw_start 6 rw (stack ∷ []) (omega (arith, few_ro)) (omega (arith, few_rw), tt)))

  -- the stack is behind the data
  stack_last : (before : List Segment) × (data_segments ro rw ≡ before ++ stack ∷ [])
  stack_last = by_both ro rw
    where
      by_both : (xs ys : List ℕ) → (before : List Segment) × (data_segments xs ys ≡ before ++ stack ∷ [])
      by_both [] [] = ([], refl)
      by_both [] (y ∷ ys) = (segment rw_start (y ∷ ys) 6 ∷ [], refl)
      by_both (x ∷ xs) [] = (segment ro_start (x ∷ xs) 4 ∷ [], refl)
      by_both (x ∷ xs) (y ∷ ys) = (segment ro_start (x ∷ xs) 4 ∷ segment rw_start (y ∷ ys) 6 ∷ [], refl)

  pub data_stack : IsStack stack_start stack_end (data_segments ro rw)
  data_stack =
      let end : stack.start + length stack.bytes ≡ stack_end = ap (λ n. stack_start + n) stack_long in
      let small : stack.start + length stack.bytes < 2 ^ 64 = omega (arith, end) in
      let apart : AreDisjoint (stack_last.0 ++ stack ∷ []) = subst AreDisjoint stack_last.1 data_disjoint in
      subst (λ high. IsStack stack_start high (data_segments ro rw)) end (subst (IsStack stack_start (stack.start + length stack.bytes)) (sym stack_last.1) (segment_is_stack stack_last.0 stack [] apart refl refl small))

  -- which data may be read, and which may be written
  pub ro_readable : (p n : ℕ) → ro_start ≤ p → p + n ≤ ro_start + length ro → 1 ≤ n → one_covers reads (data_segments ro rw) p n ≡ true
  ro_readable p n from to some = unless_among reads ro_start 4 ro (unless_empty rw (segment rw_start rw 6) (stack ∷ [])) p n refl from to some

  pub rw_readable : (p n : ℕ) → rw_start ≤ p → p + n ≤ rw_start + length rw → 1 ≤ n → one_covers reads (data_segments ro rw) p n ≡ true
  rw_readable p n from to some = unless_behind reads (segment ro_start ro 4) ro (unless_empty rw (segment rw_start rw 6) (stack ∷ [])) p n (unless_among reads rw_start 6 rw (stack ∷ []) p n refl from to some)

  pub rw_writable : (p n : ℕ) → rw_start ≤ p → p + n ≤ rw_start + length rw → 1 ≤ n → one_covers writes (data_segments ro rw) p n ≡ true
  rw_writable p n from to some = unless_behind writes (segment ro_start ro 4) ro (unless_empty rw (segment rw_start rw 6) (stack ∷ [])) p n (unless_among writes rw_start 6 rw (stack ∷ []) p n refl from to some)

  -- and its bytes
  pub ro_byte : (i : ℕ) → i < length ro → byte_at (data_segments ro rw) (ro_start + i) ≡ get_or ro i 0
  ro_byte i lt = unless_byte ro_start 4 ro (unless_empty rw (segment rw_start rw 6) (stack ∷ [])) i lt

  pub rw_byte : (i : ℕ) → i < length rw → byte_at (data_segments ro rw) (rw_start + i) ≡ get_or rw i 0
  rw_byte i lt =
      unless_byte_behind ro_start 4 ro (unless_empty rw (segment rw_start rw 6) (stack ∷ [])) (rw_start + i) (omega (arith, few_ro)) ∙
      unless_byte rw_start 6 rw (stack ∷ []) i lt
