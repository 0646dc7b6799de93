-- Homes that ranges get in turn.
use Rattle.std.proofs.Common.{◌≡◌, ◌≢◌, ℕ, suc, ◌<◌, ◌≤◌, ◌⊎◌, inl, inr, List, Option, Some, slice_get, ap, sym, ◌∙◌, subst, arith}
use Rattle.std.proofs.lemmas.Bool.{cases_eq}
use Rattle.low_core.specs.declared.sel.Home.{Home}
use Rattle.low_core.specs.declared.sel.Home.TheVariants.{Color, Frame}
use Rattle.regalloc.specs.declared.range.Range.{Range}
use Rattle.regalloc.specs.Ranges.{HasRange, AreSeparate}

-- what has a colour has a range, and the colour is taken beyond its end
pub record Taken (rs : List (Option Range)) (free : ℕ → ℕ) (x c : ℕ) : Type 0 where
  pub few : c < 5
  pub range : Range
  pub has : HasRange rs x range
  pub until : range.high < free c

abbrev Apart : Range → Range → Type 0
Apart a b = (a.high < b.low) ⊎ (b.high < a.low)

pub record Given (rs : List (Option Range)) (home : ℕ → Option Home) (free : ℕ → ℕ) : Type 0 where
  pub frames : (x k : ℕ) → home x ≡ Some (Frame k) → k ≡ x
  pub colored : (x c : ℕ) → home x ≡ Some (Color c) → Taken rs free x c
  pub apart : (x y c : ℕ) (a b : Range) → x ≢ y → home x ≡ Some (Color c) → home y ≡ Some (Color c) → HasRange rs x a → HasRange rs y b → Apart a b

-- one more register gets a colour
pub record Colors (home new : ℕ → Option Home) (free later : ℕ → ℕ) (r c : ℕ) (a : Range) : Type 0 where
  pub here : new r ≡ Some (Color c)
  pub others : (x : ℕ) → r ≢ x → new x ≡ home x
  pub taken : later c ≡ suc a.high
  pub rest : (d : ℕ) → c ≢ d → later d ≡ free d

one_range : (rs : List (Option Range)) (x : ℕ) (a b : Range) → HasRange rs x a → HasRange rs x b → a ≡ b
one_range rs x a b h k = cc

-- a colour that is free is taken by nothing that reaches so far
before : (rs : List (Option Range)) (home : ℕ → Option Home) (free : ℕ → ℕ) (a b : Range) (y c : ℕ) → Given rs home free → free c ≤ a.low → home y ≡ Some (Color c) → HasRange rs y b → b.high < a.low
before rs home free a b y c g is_free h has =
    let t = g.colored y c h in
    let until : t.range.high < free c = t.until in
    let same : b.high ≡ t.range.high = ap (λ (r : Range). r.high) (one_range rs y b t.range has t.has) in
    omega arith

pub colored_next : (rs : List (Option Range)) (home new : ℕ → Option Home) (free later : ℕ → ℕ) (r c : ℕ) (a : Range) →
    Given rs home free → HasRange rs r a → a.low ≤ a.high → c < 5 → free c ≤ a.low → Colors home new free later r c a → Given rs new later
colored_next rs home new free later r c a g has up few is_free s = record {
  frames = frames;
  colored = colored;
  apart = apart;
}
  where
    frames : (x k : ℕ) → new x ≡ Some (Frame k) → k ≡ x
    frames x k h = elim (cases_eq r x) [
      | inl e ↦ let here : new x ≡ Some (Color c) = subst (λ n. new n ≡ Some (Color c)) e s.here in absurd (cc)
      | inr ne ↦ g.frames x k (sym (s.others x ne) ∙ h)
    ]

    the_color : (x d : ℕ) → r ≡ x → new x ≡ Some (Color d) → c ≡ d
    the_color x d e h = let here : new x ≡ Some (Color c) = subst (λ n. new n ≡ Some (Color c)) e s.here in cc

    colored : (x d : ℕ) → new x ≡ Some (Color d) → Taken rs later x d
    colored x d h = elim (cases_eq r x) [
      | inl e ↦
          let same : c ≡ d = the_color x d e h in
          let taken : later c ≡ suc a.high = s.taken in
          let more : later c ≡ later d = ap later same in
          record { few = omega arith; range = a; has = subst (λ n. HasRange rs n a) e has; until = omega arith }
      | inr ne ↦
          let t = g.colored x d (sym (s.others x ne) ∙ h) in
          record { few = t.few; range = t.range; has = t.has; until = still x d t.range t.until }
    ]
      where
        still : (x d : ℕ) (b : Range) → b.high < free d → b.high < later d
        still x d b lt = elim (cases_eq c d) [
          | inl e ↦
              let taken : later c ≡ suc a.high = s.taken in
              let more : later c ≡ later d = ap later e in
              let same : free c ≡ free d = ap free e in
              omega arith
          | inr ne ↦ let same : later d ≡ free d = s.rest d ne in omega arith
        ]

    with_it : (x y d : ℕ) (b : Range) → r ≡ x → r ≢ y → new x ≡ Some (Color d) → new y ≡ Some (Color d) → HasRange rs y b → b.high < a.low
    with_it x y d b e ne hx hy hb =
        let same : d ≡ c = sym (the_color x d e hx) in
        let old : home y ≡ Some (Color d) = sym (s.others y ne) ∙ hy in
        before rs home free a b y c g is_free (old ∙ ap (λ n. Some (Color n)) same) hb

    its_range : (x : ℕ) (b : Range) → r ≡ x → HasRange rs x b → a ≡ b
    its_range x b e hb = one_range rs x a b (subst (λ n. HasRange rs n a) e has) hb

    apart : (x y d : ℕ) (b b2 : Range) → x ≢ y → new x ≡ Some (Color d) → new y ≡ Some (Color d) → HasRange rs x b → HasRange rs y b2 → Apart b b2
    apart x y d b b2 ne hx hy hb hb2 = elim (cases_eq r x) [
      | inl e ↦ elim (cases_eq r y) [
        | inl e2 ↦ absurd (ne (sym e ∙ e2))
        | inr n2 ↦
            let lt = with_it x y d b2 e n2 hx hy hb2 in
            let same : a.low ≡ b.low = ap (λ (q : Range). q.low) (its_range x b e hb) in
            inr (omega arith)
      ]
      | inr n1 ↦ elim (cases_eq r y) [
        | inl e2 ↦
            let lt = with_it y x d b e2 n1 hy hx hb in
            let same : a.low ≡ b2.low = ap (λ (q : Range). q.low) (its_range y b2 e2 hb2) in
            inl (omega arith)
        | inr n2 ↦ g.apart x y d b b2 ne (sym (s.others x n1) ∙ hx) (sym (s.others y n2) ∙ hy) hb hb2
      ]
    ]

-- what is given so is apart
pub given_apart : (rs : List (Option Range)) (hs : List Home) (free : ℕ → ℕ) → Given rs (slice_get hs) free → AreSeparate rs hs
given_apart rs hs free g x y p (Color c) ne hx hy cx cy =
    let a = cx.range in
    let b = cy.range in
    elim (g.apart x y c a b ne hx hy cx.has cy.has) [
      | inl lt ↦ let l1 : a.low ≤ p = cx.from_low in let l2 : p ≤ a.high = cx.to_high in let l3 : b.low ≤ p = cy.from_low in let l4 : p ≤ b.high = cy.to_high in absurd (omega arith)
      | inr lt ↦ let l1 : a.low ≤ p = cx.from_low in let l2 : p ≤ a.high = cx.to_high in let l3 : b.low ≤ p = cy.from_low in let l4 : p ≤ b.high = cy.to_high in absurd (omega arith)
    ]
given_apart rs hs free g x y p (Frame k) ne hx hy cx cy = absurd (ne (sym (g.frames x k hx) ∙ g.frames y k hy))

-- where nothing has a colour yet
pub none_given : (rs : List (Option Range)) (hs : List Home) (free : ℕ → ℕ) → ((x k : ℕ) → slice_get hs x ≡ Some (Frame k) → k ≡ x) → ((x c : ℕ) → slice_get hs x ≡ Some (Color c) → ⊥) → Given rs (slice_get hs) free
none_given rs hs free frames none = record {
  frames = frames;
  colored = λ x c h. absurd (none x c h);
  apart = λ x y c a b ne hx hy ha hb. absurd (none x c hx);
}
