-- A system that follows another one means the same.
use Rattle.std.proofs.Common.{◌≡◌, ℕ, zero, suc, ◌+◌, ◌-◌, ◌*◌, ◌<◌, ◌≤◌, List, false, refl, sym, ◌∙◌, ap, subst, inl, inr, ◌⊎◌, ⊎_elim, arith}
use Rattle.std.proofs.lemmas.Bool.{cases_lt}
use Rattle.std.proofs.Math.Nat.{mul-add}
use Rattle.behavior.specs.Ending.{is_left}
use Rattle.behavior.specs.Moment.{Moment, Agrees, IsLeft, HasStopped, AreBytes}
use Rattle.behavior.specs.Preserves.{Preserves, ReachesWithin}
use Rattle.behavior.specs.System.{iter, System, AddsAtMostOne, behavior_of}
use Rattle.behavior.specs.Simulation.{Lands, Met, Follows, Starts}
use Rattle.behavior.proofs.Laws.{agrees_sym, agrees_trans, agrees_equal, agrees_going, left_stopped, going_or_stopped, not_both}
use Rattle.behavior.proofs.Between.{iter_add, stays_along, between, adds_shown}

module _ {S T : Type 0} (A : System S) (B : System T) where
  -- once the first run has stopped, states that show the same show the same ever after
  stopped_along : (k n : ℕ) (a : S) (b : T) → HasStopped (A.moment a) → Agrees (A.moment a) (B.moment b) → Agrees (A.moment (iter A.step k a)) (B.moment (iter B.step n b))
  stopped_along k n a b stopped shown =
      let a2 : S = iter A.step k a in
      let b2 : T = iter B.step n b in
      let first = agrees_equal (A.moment a2) (A.moment a) (stays_along A k a stopped) in
      let second = agrees_equal (B.moment b2) (B.moment b) (stays_along B n b (sym (agrees_going (A.moment a) (B.moment b) shown) ∙ stopped)) in
      agrees_trans (A.moment a2) (A.moment a) (B.moment b2) first
      (agrees_trans (A.moment a) (B.moment b) (B.moment b2) shown (agrees_sym (B.moment b2) (B.moment b) second))

  -- a run that is left stays so
  left_along : (k : ℕ) (a : S) → IsLeft (A.moment a) → IsLeft (A.moment (iter A.step k a))
  left_along k a l = ap (λ (m : Moment). is_left m.ending) (stays_along A k a (left_stopped (A.moment a) l)) ∙ l

  -- what the second run shows after n steps, the first shows at some time, or it is left at some time
  abbrev pub ShownBy : S → T → ℕ → Type 0
  ShownBy a b n = (k : ℕ) × (IsLeft (A.moment (iter A.step k a)) ⊎ Agrees (A.moment (iter A.step k a)) (B.moment (iter B.step n b)))

  -- one step of the first in front
  earlier : (a : S) (b : T) (c n : ℕ) → c ≤ n → ShownBy (A.step a) (iter B.step c b) (n - c) → ShownBy a b n
  earlier a b c n le x =
      let e : c + (n - c) ≡ n = omega arith in
      let a2 : S = iter A.step x.0 (A.step a) in (
        suc x.0,
        elim x.1 [
          | inl l ↦ inl l
          | inr s ↦ inr (subst (λ t. Agrees (A.moment a2) (B.moment t)) (iter_add B.step c (n - c) b ∙ ap (λ i. iter B.step i b) e) s)
        ],
      )

  -- on the way of a stretch the second run shows what the first shows before or after its step
  on_the_way : (a a2 : S) (b : T) (i j : ℕ) → AddsAtMostOne (A.moment a) (A.moment a2) → let c = iter B.step j (iter B.step i b) in Agrees (A.moment a) (B.moment b) → Agrees (A.moment a2) (B.moment c) → Agrees (A.moment a) (B.moment (iter B.step i b)) ⊎ Agrees (A.moment a2) (B.moment (iter B.step i b))
  on_the_way a a2 b i j adds shown shown2 =
      let m : T = iter B.step i b in
      let c : T = iter B.step j m in
      elim (between B i j b (adds_shown (A.moment a) (A.moment a2) (B.moment b) (B.moment c) shown shown2 adds)) [
        | inl e ↦ inl (agrees_trans (A.moment a) (B.moment b) (B.moment m) shown (agrees_sym (B.moment m) (B.moment b) e))
        | inr e ↦ inr (agrees_trans (A.moment a2) (B.moment c) (B.moment m) shown2 (agrees_sym (B.moment m) (B.moment c) e))
      ]

module _ {S T : Type 0} (A : System S) (B : System T) (R : S → T → Type 0) (weight : S → ℕ) (cost : ℕ) (h : Follows A B R weight cost) where
  lands_shown : (a : S) (b : T) → Lands A B R a b → Agrees (A.moment a) (B.moment b)
  lands_shown a b (inl r) = h.shown a b r
  lands_shown a b (inr (stopped, shown)) = shown

  -- the first direction, with its bound
  pub reaches_within : (k : ℕ) (a : S) (b : T) → Lands A B R a b → is_left (A.moment (iter A.step k a)).ending ≡ false → (n : ℕ) × (n ≤ cost * k) × Agrees (A.moment (iter A.step k a)) (B.moment (iter B.step n b))
  reaches_within zero a b l go = (0, omega arith, lands_shown a b l)
  reaches_within (suc k) a b (inr (stopped, shown)) go = (0, omega arith, stopped_along A B (suc k) 0 a b stopped shown)
  reaches_within (suc k) a b (inl r) go =
      elim (going_or_stopped (A.moment a)) [
        | inr stopped ↦ (0, omega arith, stopped_along A B (suc k) 0 a b stopped (h.shown a b r))
        | inl goes ↦ elim (h.step a b r goes) [
          | inl l ↦ absurd (not_both (is_left (A.moment (iter A.step k (A.step a))).ending) (left_along A B k (A.step a) l) go)
          | inr m ↦
              let x = reaches_within k (A.step a) (iter B.step m.count b) m.lands go in
              let first = m.within in
              let rest = x.1 in
              let all : cost * (k + 1) ≡ cost * k + cost * 1 = mul-add cost k 1 in
              (m.count + x.0, omega arith, subst (λ t. Agrees (A.moment (iter A.step k (A.step a))) (B.moment t)) (iter_add B.step m.count x.0 b) x.2)
        ]
      ]

  -- every n up to m
  abbrev Below : ℕ → Type 0
  Below m = (n : ℕ) → n ≤ m → (a : S) (b : T) → Lands A B R a b → ShownBy A B a b n

  -- one met step, which the smaller cases finish
  one : (m w n : ℕ) → n ≤ suc m → (a : S) (b : T) → Below m → ((a2 : S) (b2 : T) → Lands A B R a2 b2 → weight a2 < w → ShownBy A B a2 b2 n) → weight a ≤ w → R a b → Met A B R weight cost a (A.step a) b → ShownBy A B a b n
  one m w n le a b small near heavy r x =
      ⊎_elim
      (λ lt. within (x.count - n) (omega arith))
      (λ ge. elim x.moves [
        | inl pos ↦ earlier A B a b x.count n ge (small (n - x.count) (omega arith) (A.step a) (iter B.step x.count b) x.lands)
        | inr falls ↦ at_count x.count refl ge falls
      ])
      (cases_lt n x.count)
    where
      within : (j : ℕ) → n + j ≡ x.count → ShownBy A B a b n
      within j e =
          let arrives : iter B.step x.count b ≡ iter B.step j (iter B.step n b) = ap (λ i. iter B.step i b) (sym e) ∙ sym (iter_add B.step n j b) in
          let shown2 = subst (λ t. Agrees (A.moment (A.step a)) (B.moment t)) arrives (lands_shown (A.step a) (iter B.step x.count b) x.lands) in
          elim (on_the_way A B a (A.step a) b n j (h.gradual a) (h.shown a b r) shown2) [ inl s ↦ (0, inr s) | inr s ↦ (1, inr s) ]

      at_count : (c : ℕ) → x.count ≡ c → x.count ≤ n → weight (A.step a) < weight a → ShownBy A B a b n
      at_count zero e ge falls =
          let l : Lands A B R (A.step a) b = subst (λ i. Lands A B R (A.step a) (iter B.step i b)) e x.lands in
          let y = near (A.step a) b l (omega arith) in
          (suc y.0, y.1)
      at_count (suc c) e ge falls = earlier A B a b x.count n ge (small (n - x.count) (omega arith) (A.step a) (iter B.step x.count b) x.lands)

  by_weight : (m : ℕ) → Below m → (w n : ℕ) → n ≤ suc m → (a : S) (b : T) → Lands A B R a b → weight a < w → ShownBy A B a b n
  by_weight m small zero n le a b l lt = absurd (omega arith)
  by_weight m small (suc w) n le a b (inr (stopped, shown)) lt = (0, inr (stopped_along A B 0 n a b stopped shown))
  by_weight m small (suc w) n le a b (inl r) lt =
      elim (going_or_stopped (A.moment a)) [
        | inr stopped ↦ (0, inr (stopped_along A B 0 n a b stopped (h.shown a b r)))
        | inl goes ↦ elim (h.step a b r goes) [
          | inl l ↦ (1, inl l)
          | inr x ↦ one m w n le a b small (λ a2 b2 l2 lt2. by_weight m small w n le a2 b2 l2 lt2) (omega arith) r x
        ]
      ]

  below : (m : ℕ) → Below m
  below zero n le a b l =
      let e : 0 ≡ n = omega arith in
      (0, inr (subst (λ i. Agrees (A.moment a) (B.moment (iter B.step i b))) e (lands_shown a b l)))
  below (suc m) n le a b l = by_weight m (below m) (suc (weight a)) n le a b l (omega arith)

  -- the second direction
  pub shown_by : (n : ℕ) (a : S) (b : T) → Lands A B R a b → ShownBy A B a b n
  shown_by n a b l = below n n (omega arith) a b l

  -- the same, from a start that still has steps of its own before it
  module _ (begin : ℕ) (a : S) (b : T) (s : Starts A B R begin a b) where
    pub started_within : (k : ℕ) → is_left (A.moment (iter A.step k a)).ending ≡ false → (n : ℕ) × (n ≤ begin + cost * k) × Agrees (A.moment (iter A.step k a)) (B.moment (iter B.step n b))
    started_within k go =
        let x = reaches_within k a (iter B.step s.count b) s.lands go in
        let first = s.within in
        let rest = x.1 in
        (s.count + x.0, omega arith, subst (λ t. Agrees (A.moment (iter A.step k a)) (B.moment t)) (iter_add B.step s.count x.0 b) x.2)

    pub started_shown : (n : ℕ) → ShownBy A B a b n
    started_shown n = ⊎_elim (λ lt. before (s.count - n) (omega arith)) (λ ge. after (n - s.count) (omega arith)) (cases_lt n s.count)
      where
        before : (j : ℕ) → n + j ≡ s.count → ShownBy A B a b n
        before j e =
            let arrives : iter B.step s.count b ≡ iter B.step j (iter B.step n b) = ap (λ i. iter B.step i b) (sym e) ∙ sym (iter_add B.step n j b) in
            let shown2 = subst (λ t. Agrees (A.moment a) (B.moment t)) arrives (lands_shown a (iter B.step s.count b) s.lands) in
            elim (on_the_way A B a a b n j (AddsAtMostOne.Silent refl refl) s.shown shown2) [ inl t ↦ (0, inr t) | inr t ↦ (0, inr t) ]

        after : (j : ℕ) → s.count + j ≡ n → ShownBy A B a b n
        after j e =
            let x = shown_by j a (iter B.step s.count b) s.lands in (
              x.0,
              elim x.1 [
                | inl l ↦ inl l
                | inr t ↦ inr (subst (λ u. Agrees (A.moment (iter A.step x.0 a)) (B.moment u)) (iter_add B.step s.count j b ∙ ap (λ i. iter B.step i b) e) t)
              ],
            )

-- which of two facts holds, out of the number for which it does
apart : {P Q : ℕ → Type 0} → (k : ℕ) × (P k ⊎ Q k) → ((k : ℕ) × P k) ⊎ ((k : ℕ) × Q k)
apart x = elim x.1 [ inl p ↦ inl (x.0, p) | inr q ↦ inr (x.0, q) ]

-- the simulation law: the input gives both systems and both starts, and from the starts on one system follows the other
module _ {S T : Type 0} (A : List ℕ → System S) (B : List ℕ → System T) (a : List ℕ → S) (b : List ℕ → T) (R : List ℕ → S → T → Type 0) (weight : List ℕ → S → ℕ) (begin cost : ℕ) where
  abbrev pub AllFollow : Type 0
  AllFollow = (input : List ℕ) → AreBytes input → Follows (A input) (B input) (R input) (weight input) cost

  abbrev pub AllStart : Type 0
  AllStart = (input : List ℕ) → AreBytes input → Starts (A input) (B input) (R input) begin (a input) (b input)

  pub simulates : AllFollow → AllStart → Preserves (behavior_of A a) (behavior_of B b)
  simulates h s = record {
    reaches = λ input bytes k go.
        let x = started_within (A input) (B input) (R input) (weight input) cost (h input bytes) begin (a input) (b input) (s input bytes) k go in
        (x.0, x.2);
    only = λ input bytes n. apart (started_shown (A input) (B input) (R input) (weight input) cost (h input bytes) begin (a input) (b input) (s input bytes) n);
  }

  pub simulates_within : AllFollow → AllStart → ReachesWithin begin cost (behavior_of A a) (behavior_of B b)
  simulates_within h s input bytes k go = started_within (A input) (B input) (R input) (weight input) cost (h input bytes) begin (a input) (b input) (s input bytes) k go
