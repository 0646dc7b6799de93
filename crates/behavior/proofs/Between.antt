-- What a run shows between two points at which it shows almost the same.
use Rattle.std.proofs.Common.{◌≡◌, ℕ, zero, suc, ◌+◌, ◌≤◌, List, [], ◌∷◌, ◌++◌, refl, sym, ◌∙◌, ap, inl, inr, ◌⊎◌, ⊎_elim, arith, append_assoc}
use Rattle.std.proofs.lemmas.List.{append-nil, append_cancel_left}
use Rattle.behavior.specs.Ending.{Going, common, is_going}
use Rattle.behavior.specs.Moment.{Moment, Agrees, HasStopped}
use Rattle.behavior.specs.System.{iter, Grows, AddsAtMostOne, Silent, Prints, Takes, System}
use Rattle.behavior.proofs.Laws.{agrees_equal, agrees_going, going_is, going_or_stopped}

-- steps in two parts
pub iter_add : {S : Type 0} (f : S → S) (m n : ℕ) (s : S) → iter f n (iter f m s) ≡ iter f (m + n) s
iter_add f zero n s = let e : n ≡ 0 + n = omega arith in ap (λ i. iter f i s) e
iter_add f (suc m) n s = let e : suc (m + n) ≡ suc m + n = omega arith in iter_add f m n (f s) ∙ ap (λ i. iter f i s) e

-- no growth is growth
pub grows_refl : (a : Moment) → Grows a a
grows_refl a = record { more = []; printed = sym (append-nil a.printed); taken = omega arith }

-- growth after growth is growth
pub grows_trans : (a b c : Moment) → Grows a b → Grows b c → Grows a c
grows_trans a b c x y = record {
  more = x.more ++ y.more;
  printed = y.printed ∙ ap (λ p. p ++ y.more) x.printed ∙ append_assoc a.printed x.more y.more;
  taken = let p = x.taken in let q = y.taken in omega arith;
}

-- what a step adds at most is growth
pub adds_grows : (a b : Moment) → AddsAtMostOne a b → Grows a b
adds_grows a b (Silent p t) = record { more = []; printed = p ∙ sym (append-nil a.printed); taken = omega arith }
adds_grows a b (Prints byte p t g) = record { more = byte ∷ []; printed = p; taken = omega arith }
adds_grows a b (Takes p t g) = record { more = []; printed = p ∙ sym (append-nil a.printed); taken = omega arith }

-- a run grows over any number of steps
pub grows_along : {T : Type 0} (B : System T) (n : ℕ) (b : T) → Grows (B.moment b) (B.moment (iter B.step n b))
grows_along B zero b = grows_refl (B.moment b)
grows_along B (suc n) b = grows_trans (B.moment b) (B.moment (B.step b)) (B.moment (iter B.step n (B.step b))) (B.grows b) (grows_along B n (B.step b))

-- a run that has stopped shows the same ever after
pub stays_along : {T : Type 0} (B : System T) (n : ℕ) (b : T) → HasStopped (B.moment b) → B.moment (iter B.step n b) ≡ B.moment b
stays_along B zero b h = refl
stays_along B (suc n) b h =
    let same = B.stays b h in
    stays_along B n (B.step b) (ap (λ (m : Moment). is_going m.ending) same ∙ h) ∙ same

-- two lists that are empty together are empty: the first
empty_front : (x y : List ℕ) → x ++ y ≡ [] → x ≡ []
empty_front [] y e = refl
empty_front (a ∷ x) y e = absurd (cc)

-- and the second
empty_back : (x y : List ℕ) → x ++ y ≡ [] → y ≡ []
empty_back [] y e = e
empty_back (a ∷ x) y e = absurd (cc)

-- one item in two lists together: one of the two is empty
one_front : (x y : List ℕ) (c : ℕ) → x ++ y ≡ c ∷ [] → (x ≡ []) ⊎ (y ≡ [])
one_front [] y c e = inl refl
one_front (a ∷ x) y c e = let rest : x ++ y ≡ [] = cc in inr (empty_back x y rest)

-- a list between p and p is p
none_between : (p q r x y : List ℕ) → q ≡ p ++ x → r ≡ q ++ y → r ≡ p → q ≡ p
none_between p q r x y a b c =
    let all : p ++ (x ++ y) ≡ p ++ [] = sym (append_assoc p x y) ∙ ap (λ l. l ++ y) (sym a) ∙ sym b ∙ c ∙ sym (append-nil p) in
    let none = empty_front x y (append_cancel_left p (x ++ y) [] all) in
    a ∙ ap (λ l. p ++ l) none ∙ append-nil p

-- a list between p and p with one item more is one of the two
one_between : (p q r x y : List ℕ) (byte : ℕ) → q ≡ p ++ x → r ≡ q ++ y → r ≡ p ++ byte ∷ [] → (q ≡ p) ⊎ (q ≡ r)
one_between p q r x y byte a b c =
    let all : p ++ (x ++ y) ≡ p ++ byte ∷ [] = sym (append_assoc p x y) ∙ ap (λ l. l ++ y) (sym a) ∙ sym b ∙ c in
    elim (one_front x y byte (append_cancel_left p (x ++ y) (byte ∷ []) all)) [
      | inl none ↦ inl (a ∙ ap (λ l. p ++ l) none ∙ append-nil p)
      | inr none ↦ inr (sym (append-nil q) ∙ ap (λ l. q ++ l) (sym none) ∙ sym b)
    ]

-- a number between t and t + 1 is one of the two
next_or_same : (t u v : ℕ) → t ≤ u → u ≤ v → v ≡ t + 1 → (u ≡ t) ⊎ (u ≡ v)
next_or_same t u v a b c = ⊎_elim (λ e. inl e) (λ e. inr e) (cases u t v a b c)
  where
    cases : (u t v : ℕ) → t ≤ u → u ≤ v → v ≡ t + 1 → (u ≡ t) ⊎ (u ≡ v)
    cases u t v a b c = grind arith

-- while a run goes on, a moment between two that differ by at most one byte is one of the two
going_between : (a m b : Moment) → Grows a m → Grows m b → AddsAtMostOne a b → a.ending ≡ Going → m.ending ≡ Going → Agrees m a ⊎ Agrees m b
going_between a m b x y (Silent p t) ga gm = inl (record {
  printed = none_between a.printed m.printed b.printed x.more y.more x.printed y.printed p;
  taken = let h = x.taken in let k = y.taken in omega arith;
  ending = ap common (gm ∙ sym ga);
})
going_between a m b x y (Prints byte p t g) ga gm =
    let h = x.taken in
    let k = y.taken in
    elim (one_between a.printed m.printed b.printed x.more y.more byte x.printed y.printed p) [
      | inl e ↦ inl (record { printed = e; taken = omega arith; ending = ap common (gm ∙ sym ga) })
      | inr e ↦ inr (record { printed = e; taken = omega arith; ending = ap common (gm ∙ sym g) })
    ]
going_between a m b x y (Takes p t g) ga gm =
    let same = none_between a.printed m.printed b.printed x.more y.more x.printed y.printed p in
    elim (next_or_same a.taken m.taken b.taken x.taken y.taken t) [
      | inl e ↦ inl (record { printed = same; taken = e; ending = ap common (gm ∙ sym ga) })
      | inr e ↦ inr (record { printed = same ∙ sym p; taken = e; ending = ap common (gm ∙ sym g) })
    ]

-- between b and the state some steps later, where the two differ by at most one byte, each moment is one of the two
pub between : {T : Type 0} (B : System T) (i j : ℕ) (b : T) → let c = iter B.step j (iter B.step i b) in AddsAtMostOne (B.moment b) (B.moment c) → Agrees (B.moment (iter B.step i b)) (B.moment b) ⊎ Agrees (B.moment (iter B.step i b)) (B.moment c)
between {T} B i j b adds =
    let m : T = iter B.step i b in
    let c : T = iter B.step j m in
    elim (going_or_stopped (B.moment b)) [
      | inr stopped ↦ inl (agrees_equal (B.moment m) (B.moment b) (stays_along B i b stopped))
      | inl ga ↦ elim (going_or_stopped (B.moment m)) [
        | inr stopped ↦ inr (agrees_equal (B.moment m) (B.moment c) (sym (stays_along B j m stopped)))
        | inl gm ↦ going_between (B.moment b) (B.moment m) (B.moment c) (grows_along B i b) (grows_along B j m) adds (going_is (B.moment b).ending ga) (going_is (B.moment m).ending gm)
      ]
    ]

-- what two moments add at most, two that show the same add too
pub adds_shown : (a a2 b b2 : Moment) → Agrees a b → Agrees a2 b2 → AddsAtMostOne a a2 → AddsAtMostOne b b2
adds_shown a a2 b b2 r r2 (Silent p t) = Silent (sym r2.printed ∙ p ∙ r.printed) (sym r2.taken ∙ t ∙ r.taken)
adds_shown a a2 b b2 r r2 (Prints byte p t g) =
    Prints byte (sym r2.printed ∙ p ∙ ap (λ l. l ++ byte ∷ []) r.printed) (sym r2.taken ∙ t ∙ r.taken) (going_is b2.ending (sym (agrees_going a2 b2 r2) ∙ ap is_going g))
adds_shown a a2 b b2 r r2 (Takes p t g) =
    Takes (sym r2.printed ∙ p ∙ r.printed) (sym r2.taken ∙ t ∙ ap (λ n. n + 1) r.taken) (going_is b2.ending (sym (agrees_going a2 b2 r2) ∙ ap is_going g))
