-- Colours that are given in an order in which ranges begin: none is left out, and all are taken where a range gets none.
use Rattle.std.proofs.Common.{◌≡◌, ◌≢◌, ℕ, zero, suc, ◌+◌, ◌<◌, ◌≤◌, inl, inr, List, [], ◌∷◌, length, All, Option, Some, slice_get, refl, ap, sym, ◌∙◌, subst, arith}
use Rattle.std.proofs.lemmas.Bool.{cases_eq, cases_lt}
use Rattle.std.proofs.lemmas.List.Elements.{All-nil}
use Rattle.low_core.specs.declared.sel.Home.{Home}
use Rattle.low_core.specs.declared.sel.Home.TheVariants.{Color, Frame}
use Rattle.regalloc.specs.declared.range.Range.{Range}
use Rattle.regalloc.specs.Ranges.{HasRange, Covers, AreSix, IsOrder, AreGapless, AreCrowded}
use Rattle.regalloc.proofs.Coloring.{Colors}

all_cons : {X : Type 0} (P : X → Type 0) (x : X) (xs : List X) → P x → All P xs → All P (x ∷ xs)
all_cons P x xs here there zero d lt = here
all_cons P x xs here there (suc k) d lt = there k d (omega arith)

-- the last register that got a colour
pub record Holder (rs : List (Option Range)) (order : List ℕ) (i : ℕ) (home : ℕ → Option Home) (free : ℕ → ℕ) (c : ℕ) : Type 0 where
  pub register : ℕ
  pub range : Range
  pub has : HasRange rs register range
  pub home_is : home register ≡ Some (Color c)
  pub until : free c ≡ suc range.high
  pub earlier : (j y : ℕ) (b : Range) → i ≤ j → slice_get order j ≡ Some y → HasRange rs y b → range.low ≤ b.low

-- where i of an order have got their homes
pub record Passed (rs : List (Option Range)) (order : List ℕ) (i : ℕ) (home : ℕ → Option Home) (free : ℕ → ℕ) : Type 0 where
  pub waits : (j x : ℕ) → i ≤ j → slice_get order j ≡ Some x → home x ≡ Some (Frame x)
  pub number : ℕ
  pub few : number ≤ 5
  pub below : (x c : ℕ) → home x ≡ Some (Color c) → c < number
  pub fresh : (c : ℕ) → number ≤ c → free c ≡ 0
  pub holders : (c : ℕ) → c < number → Holder rs order i home free c
  pub crowded : (j x k : ℕ) (a : Range) → j < i → slice_get order j ≡ Some x → HasRange rs x a → home x ≡ Some (Frame k) → AreSix (Covers rs a.low)

-- a register gets a colour
pub passed_color : (rs : List (Option Range)) (order : List ℕ) (i : ℕ) (home new : ℕ → Option Home) (free later : ℕ → ℕ) (r c : ℕ) (a : Range) →
    IsOrder rs order → Passed rs order i home free → slice_get order i ≡ Some r → HasRange rs r a → c < 5 →
    ((d : ℕ) → d < c → a.low < free d) → Colors home new free later r c a → Passed rs order (i + 1) new later
passed_color rs order i home new free later r c a o g at has few least s = elim (cases_lt c g.number) [
  | inl lt ↦ record { waits = waits; number = g.number; few = g.few; below = below g.number lt (λ d k. k); fresh = fresh g.number lt (λ d k. k); holders = held; crowded = crowded }
  | inr ge ↦
      record {
        waits = waits;
        number = suc c;
        few = omega arith;
        below = below (suc c) (omega arith) (λ d k. omega (arith, up ge));
        fresh = fresh (suc c) (omega arith) (λ d k. omega (arith, up ge));
        holders = held_more ge;
        crowded = crowded;
      }
]
  where
    waits : (j x : ℕ) → i + 1 ≤ j → slice_get order j ≡ Some x → new x ≡ Some (Frame x)
    waits j x le h = elim (cases_eq r x) [
      | inl e ↦ let same : i ≡ j = o.apart i j x (at ∙ ap Some e) h in absurd (omega arith)
      | inr ne ↦ s.others x ne ∙ g.waits j x (omega arith) h
    ]

    up : g.number ≤ c → g.number ≤ c
    up le = le

    is_frame : home r ≡ Some (Frame r)
    is_frame = g.waits i r (omega arith) at

    the_color : (x d : ℕ) → r ≡ x → new x ≡ Some (Color d) → c ≡ d
    the_color x d e h = let here : new x ≡ Some (Color c) = subst (λ n. new n ≡ Some (Color c)) e s.here in cc

    below : (n : ℕ) → c < n → ((d : ℕ) → d < g.number → d < n) → (x d : ℕ) → new x ≡ Some (Color d) → d < n
    below n lt up x d h = elim (cases_eq r x) [
      | inl e ↦ let same : c ≡ d = the_color x d e h in omega arith
      | inr ne ↦ up d (g.below x d (sym (s.others x ne) ∙ h))
    ]

    fresh : (n : ℕ) → c < n → ((d : ℕ) → n ≤ d → g.number ≤ d) → (d : ℕ) → n ≤ d → later d ≡ 0
    fresh n lt down d le = let ne : c ≢ d = λ e. absurd (omega arith) in s.rest d ne ∙ g.fresh d (down d le)

    of_it : Holder rs order (i + 1) new later c
    of_it = record {
      register = r;
      range = a;
      has = has;
      home_is = s.here;
      until = s.taken;
      earlier = λ j y b le h hb. o.sorted i j r y a b (omega arith) at h has hb;
    }

    of_other : (d : ℕ) → c ≢ d → d < g.number → Holder rs order (i + 1) new later d
    of_other d ne lt =
        let h = g.holders d lt in
        let nr : r ≢ h.register = λ e. differ (sym (ap home e) ∙ is_frame) h.home_is in
        record {
          register = h.register;
          range = h.range;
          has = h.has;
          home_is = s.others h.register nr ∙ h.home_is;
          until = s.rest d ne ∙ h.until;
          earlier = λ j y b le at2 hb. h.earlier j y b (omega arith) at2 hb;
        }
      where
        differ : {x d k : ℕ} → home x ≡ Some (Frame k) → home x ≡ Some (Color d) → ⊥
        differ p q = absurd (cc)

    held : (d : ℕ) → d < g.number → Holder rs order (i + 1) new later d
    held d lt = elim (cases_eq c d) [
      | inl e ↦ subst (λ n. Holder rs order (i + 1) new later n) e of_it
      | inr ne ↦ of_other d ne lt
    ]

    held_more : g.number ≤ c → (d : ℕ) → d < suc c → Holder rs order (i + 1) new later d
    held_more ge d lt = elim (cases_eq c d) [
      | inl e ↦ subst (λ n. Holder rs order (i + 1) new later n) e of_it
      | inr ne ↦ of_other d ne (elim (cases_lt d g.number) [
        | inl l ↦ l
        | inr past ↦ let zero_is : free d ≡ 0 = g.fresh d past in let l : d < c = lesser d lt ne in let more : a.low < free d = least d l in absurd (omega arith)
      ])
    ]
      where
        lesser : (d : ℕ) → d < suc c → c ≢ d → d < c
        lesser d lt ne = elim (cases_lt d c) [
          | inl l ↦ l
          | inr le ↦ absurd (ne (omega arith))
        ]

    crowded : (j x k : ℕ) (b : Range) → j < i + 1 → slice_get order j ≡ Some x → HasRange rs x b → new x ≡ Some (Frame k) → AreSix (Covers rs b.low)
    crowded j x k b lt h hb f = elim (cases_eq r x) [
      | inl e ↦ let here : new x ≡ Some (Color c) = subst (λ n. new n ≡ Some (Color c)) e s.here in absurd (cc)
      | inr ne ↦ g.crowded j x k b (before (λ e. ne (same_at e))) h hb (sym (s.others x ne) ∙ f)
    ]
      where
        same_at : j ≡ i → r ≡ x
        same_at e = let both : slice_get order i ≡ Some x = subst (λ n. slice_get order n ≡ Some x) e h in cc

        before : (j ≢ i) → j < i
        before ne2 = elim (cases_lt j i) [
          | inl l ↦ l
          | inr le ↦ absurd (ne2 (omega arith))
        ]

-- a register for which no colour is free keeps its place of the frame
pub passed_frame : (rs : List (Option Range)) (order : List ℕ) (i : ℕ) (home : ℕ → Option Home) (free : ℕ → ℕ) (r : ℕ) (a : Range) →
    IsOrder rs order → Passed rs order i home free → slice_get order i ≡ Some r → HasRange rs r a → a.low ≤ a.high →
    ((d : ℕ) → d < 5 → a.low < free d) → Passed rs order (i + 1) home free
passed_frame rs order i home free r a o g at has up taken = record {
  waits = λ j x le h. g.waits j x (omega arith) h;
  number = g.number;
  few = g.few;
  below = g.below;
  fresh = g.fresh;
  holders = λ c lt. later c (g.holders c lt);
  crowded = crowded;
}
  where
    later : (c : ℕ) → Holder rs order i home free c → Holder rs order (i + 1) home free c
    later c h = record { register = h.register; range = h.range; has = h.has; home_is = h.home_is; until = h.until; earlier = λ j y b le at2 hb. h.earlier j y b (omega arith) at2 hb }

    holder : (c : ℕ) → c < 5 → Holder rs order i home free c
    holder c lt = elim (cases_lt c g.number) [
      | inl l ↦ g.holders c l
      | inr past ↦ let none : free c ≡ 0 = g.fresh c past in let more : a.low < free c = taken c lt in absurd (omega arith)
    ]

    covers : (c : ℕ) → c < 5 → (h : Holder rs order i home free c) → Covers rs a.low h.register
    covers c lt h =
        let until : free c ≡ suc h.range.high = h.until in
        let more : a.low < free c = taken c lt in
        record { range = h.range; has = h.has; from_low = h.earlier i r a (omega arith) at has; to_high = omega arith }

    not_it : (c : ℕ) (h : Holder rs order i home free c) → h.register ≡ r → ⊥
    not_it c h e =
        let frame : home r ≡ Some (Frame r) = g.waits i r (omega arith) at in
        let color : home r ≡ Some (Color c) = subst (λ n. home n ≡ Some (Color c)) e h.home_is in
        absurd (cc)

    differ : (c d : ℕ) → c ≢ d → (h : Holder rs order i home free c) (k : Holder rs order i home free d) → k.register ≡ h.register → ⊥
    differ c d ne h k e =
        let one : home h.register ≡ Some (Color c) = h.home_is in
        let two : home h.register ≡ Some (Color d) = subst (λ n. home n ≡ Some (Color d)) e k.home_is in
        let same : c ≡ d = cc in
        absurd (ne same)

    here : AreSix (Covers rs a.low)
    here =
        let h0 = holder 0 (omega arith) in
        let h1 = holder 1 (omega arith) in
        let h2 = holder 2 (omega arith) in
        let h3 = holder 3 (omega arith) in
        let h4 = holder 4 (omega arith) in
        record {
          six = r ∷ h0.register ∷ h1.register ∷ h2.register ∷ h3.register ∷ h4.register ∷ [];
          long = refl;
          apart = (
            all_cons (λ m. m ≡ r → ⊥) h0.register (h1.register ∷ h2.register ∷ h3.register ∷ h4.register ∷ []) (not_it 0 h0)
                (all_cons (λ m. m ≡ r → ⊥) h1.register (h2.register ∷ h3.register ∷ h4.register ∷ []) (not_it 1 h1)
                (all_cons (λ m. m ≡ r → ⊥) h2.register (h3.register ∷ h4.register ∷ []) (not_it 2 h2)
                (all_cons (λ m. m ≡ r → ⊥) h3.register (h4.register ∷ []) (not_it 3 h3)
                (all_cons (λ m. m ≡ r → ⊥) h4.register ([]) (not_it 4 h4)
                (All-nil (λ m. m ≡ r → ⊥)))))),
            (
              all_cons (λ m. m ≡ h0.register → ⊥) h1.register (h2.register ∷ h3.register ∷ h4.register ∷ []) (differ 0 1 (omega arith) h0 h1)
                  (all_cons (λ m. m ≡ h0.register → ⊥) h2.register (h3.register ∷ h4.register ∷ []) (differ 0 2 (omega arith) h0 h2)
                  (all_cons (λ m. m ≡ h0.register → ⊥) h3.register (h4.register ∷ []) (differ 0 3 (omega arith) h0 h3)
                  (all_cons (λ m. m ≡ h0.register → ⊥) h4.register ([]) (differ 0 4 (omega arith) h0 h4)
                  (All-nil (λ m. m ≡ h0.register → ⊥))))),
              (
                all_cons (λ m. m ≡ h1.register → ⊥) h2.register (h3.register ∷ h4.register ∷ []) (differ 1 2 (omega arith) h1 h2)
                    (all_cons (λ m. m ≡ h1.register → ⊥) h3.register (h4.register ∷ []) (differ 1 3 (omega arith) h1 h3)
                    (all_cons (λ m. m ≡ h1.register → ⊥) h4.register ([]) (differ 1 4 (omega arith) h1 h4)
                    (All-nil (λ m. m ≡ h1.register → ⊥)))),
                (
                  all_cons (λ m. m ≡ h2.register → ⊥) h3.register (h4.register ∷ []) (differ 2 3 (omega arith) h2 h3)
                      (all_cons (λ m. m ≡ h2.register → ⊥) h4.register ([]) (differ 2 4 (omega arith) h2 h4)
                      (All-nil (λ m. m ≡ h2.register → ⊥))),
                  (
                    all_cons (λ m. m ≡ h3.register → ⊥) h4.register ([]) (differ 3 4 (omega arith) h3 h4)
                        (All-nil (λ m. m ≡ h3.register → ⊥)),
                    (
                      All-nil (λ m. m ≡ h4.register → ⊥),
                      tt,
                    ),
                  ),
                ),
              ),
            ),
          );
          all = all_cons (Covers rs a.low) r (h0.register ∷ h1.register ∷ h2.register ∷ h3.register ∷ h4.register ∷ []) (record { range = a; has = has; from_low = omega arith; to_high = up })
              (all_cons (Covers rs a.low) h0.register (h1.register ∷ h2.register ∷ h3.register ∷ h4.register ∷ []) (covers 0 (omega arith) h0)
              (all_cons (Covers rs a.low) h1.register (h2.register ∷ h3.register ∷ h4.register ∷ []) (covers 1 (omega arith) h1)
              (all_cons (Covers rs a.low) h2.register (h3.register ∷ h4.register ∷ []) (covers 2 (omega arith) h2)
              (all_cons (Covers rs a.low) h3.register (h4.register ∷ []) (covers 3 (omega arith) h3)
              (all_cons (Covers rs a.low) h4.register ([]) (covers 4 (omega arith) h4)
              (All-nil (Covers rs a.low)))))));
        }

    crowded : (j x k : ℕ) (b : Range) → j < i + 1 → slice_get order j ≡ Some x → HasRange rs x b → home x ≡ Some (Frame k) → AreSix (Covers rs b.low)
    crowded j x k b lt h hb f = elim (cases_lt j i) [
      | inl l ↦ g.crowded j x k b l h hb f
      | inr le ↦
          let same : j ≡ i = omega arith in
          let both : slice_get order i ≡ Some x = subst (λ n. slice_get order n ≡ Some x) same h in
          let is : r ≡ x = cc in
          let its : HasRange rs r b = subst (λ n. HasRange rs n b) (sym is) hb in
          let ranges : a ≡ b = cc in
          subst (λ (q : Range). AreSix (Covers rs q.low)) ranges here
    ]

-- before the first, where all have places of the frame
pub passed_none : (rs : List (Option Range)) (order : List ℕ) (home : ℕ → Option Home) (free : ℕ → ℕ) → IsOrder rs order →
    ((x : ℕ) → x < length rs → home x ≡ Some (Frame x)) → ((x c : ℕ) → home x ≡ Some (Color c) → ⊥) → ((c : ℕ) → free c ≡ 0) → Passed rs order 0 home free
passed_none rs order home free o frames none fresh = record {
  waits = λ j x le h. frames x (o.within j x h);
  number = 0;
  few = omega arith;
  below = λ x c h. absurd (none x c h);
  fresh = λ c le. fresh c;
  holders = λ c lt. absurd (omega arith);
  crowded = λ j x k a lt h ha f. absurd (omega arith);
}

-- behind the last
pub all_crowded : (rs : List (Option Range)) (order : List ℕ) (hs : List Home) (free : ℕ → ℕ) → IsOrder rs order → Passed rs order (length order) (slice_get hs) free → AreCrowded rs hs
all_crowded rs order hs free o g x k a has f =
    let at = o.whole x a has in
    g.crowded at.0 x k a (within order at.0 x at.1) at.1 has f
  where
    within : (xs : List ℕ) (j x : ℕ) → slice_get xs j ≡ Some x → j < length xs
    within [] j x h = absurd (cc)
    within (y ∷ ys) zero x h = omega arith
    within (y ∷ ys) (suc j) x h = let lt : j < length ys = within ys j x h in omega arith

pub all_gapless : (rs : List (Option Range)) (order : List ℕ) (i : ℕ) (hs : List Home) (free : ℕ → ℕ) → Passed rs order i (slice_get hs) free → AreGapless (λ x. (a : Range) × HasRange rs x a) hs
all_gapless rs order i hs free g = record {
  number = g.number;
  few = g.few;
  below = g.below;
  used = λ c lt. let h = g.holders c lt in (h.register, ((h.range, h.has), h.home_is));
}
