-- The laws of what moments show and of behavior preservation.
use Rattle.std.proofs.Common.{◌≡◌, ◌≢◌, ℕ, ◌+◌, ◌*◌, ◌≤◌, List, Bool, true, false, refl, sym, ◌∙◌, ap, inl, inr, ◌⊎◌, arith}
use Rattle.std.proofs.Math.Nat.{mul-le-mul_left, mul-add, mul_assoc}
use Rattle.behavior.specs.Ending.{Ending, Going, Ended, Divide, Trap, Depth, Left, Invalid, Breakpoint, PageFault, NoForm, NoFlag, BadCall, Strayed, common, is_left, is_going}
use Rattle.behavior.specs.Moment.{Moment, Agrees, IsLeft, IsGoing, HasStopped, Behavior, AreBytes}
use Rattle.behavior.specs.Preserves.{Preserves, ReachesWithin}

-- a moment shows what it shows
pub agrees_refl : (a : Moment) → Agrees a a
agrees_refl a = record { printed = refl; taken = refl; ending = refl }

-- the order of the two makes no difference
pub agrees_sym : (a b : Moment) → Agrees a b → Agrees b a
agrees_sym a b p = record { printed = sym p.printed; taken = sym p.taken; ending = sym p.ending }

-- what shows the same as something that shows the same, shows the same
pub agrees_trans : (a b c : Moment) → Agrees a b → Agrees b c → Agrees a c
agrees_trans a b c p q = record { printed = p.printed ∙ q.printed; taken = p.taken ∙ q.taken; ending = p.ending ∙ q.ending }

-- equal moments show the same
pub agrees_equal : (a b : Moment) → a ≡ b → Agrees a b
agrees_equal a b e = record { printed = ap (λ (m : Moment). m.printed) e; taken = ap (λ (m : Moment). m.taken) e; ending = ap (λ (m : Moment). common m.ending) e }

-- whether a run is left doesn't change with the shared words
pub common_left : (e : Ending) → is_left (common e) ≡ is_left e
common_left Going = refl
common_left (Ended status) = refl
common_left Divide = refl
common_left Trap = refl
common_left Depth = refl
common_left (Left reason) = refl
common_left Invalid = refl
common_left Breakpoint = refl
common_left PageFault = refl
common_left NoForm = refl
common_left NoFlag = refl
common_left BadCall = refl
common_left Strayed = refl

-- nor whether it goes on
pub common_going : (e : Ending) → is_going (common e) ≡ is_going e
common_going Going = refl
common_going (Ended status) = refl
common_going Divide = refl
common_going Trap = refl
common_going Depth = refl
common_going (Left reason) = refl
common_going Invalid = refl
common_going Breakpoint = refl
common_going PageFault = refl
common_going NoForm = refl
common_going NoFlag = refl
common_going BadCall = refl
common_going Strayed = refl

-- only one word goes on
pub going_is : (e : Ending) → is_going e ≡ true → e ≡ Going
going_is Going h = refl
going_is (Ended status) h = absurd (cc)
going_is Divide h = absurd (cc)
going_is Trap h = absurd (cc)
going_is Depth h = absurd (cc)
going_is (Left reason) h = absurd (cc)
going_is Invalid h = absurd (cc)
going_is Breakpoint h = absurd (cc)
going_is PageFault h = absurd (cc)
going_is NoForm h = absurd (cc)
going_is NoFlag h = absurd (cc)
going_is BadCall h = absurd (cc)
going_is Strayed h = absurd (cc)

-- a run goes on or has stopped
pub going_or_stopped : (m : Moment) → IsGoing m ⊎ HasStopped m
going_or_stopped m = of_bool (is_going m.ending) refl
  where
    of_bool : (b : Bool) → is_going m.ending ≡ b → IsGoing m ⊎ HasStopped m
    of_bool true e = inl e
    of_bool false e = inr e

-- of two moments that show the same both are left or none
pub agrees_left : (a b : Moment) → Agrees a b → is_left a.ending ≡ is_left b.ending
agrees_left a b p = sym (common_left a.ending) ∙ ap is_left p.ending ∙ common_left b.ending

-- and both go on or none
pub agrees_going : (a b : Moment) → Agrees a b → is_going a.ending ≡ is_going b.ending
agrees_going a b p = sym (common_going a.ending) ∙ ap is_going p.ending ∙ common_going b.ending

-- a test has one result
pub not_both : (b : Bool) → b ≡ true → b ≡ false → ⊥
not_both b t f = cc

-- a run that is left has stopped
pub left_stopped : (m : Moment) → IsLeft m → HasStopped m
left_stopped m l = of_ending m.ending l
  where
    of_ending : (e : Ending) → is_left e ≡ true → is_going e ≡ false
    of_ending Going l = absurd (cc)
    of_ending (Ended status) l = refl
    of_ending Divide l = refl
    of_ending Trap l = refl
    of_ending Depth l = refl
    of_ending (Left reason) l = refl
    of_ending Invalid l = refl
    of_ending Breakpoint l = refl
    of_ending PageFault l = refl
    of_ending NoForm l = refl
    of_ending NoFlag l = refl
    of_ending BadCall l = refl
    of_ending Strayed l = refl

-- preservation is reflexive
pub preserves_refl : (A : Behavior) → Preserves A A
preserves_refl A = record {
  reaches = λ input bytes k go. (k, agrees_refl (A input k));
  only = λ input bytes n. inr (n, agrees_refl (A input n));
}

-- behaviors that show the same preserve each other
pub preserves_equal : (A B : Behavior) → ((input : List ℕ) → AreBytes input → (n : ℕ) → Agrees (A input n) (B input n)) → Preserves A B
preserves_equal A B same = record {
  reaches = λ input bytes k go. (k, same input bytes k);
  only = λ input bytes n. inr (n, same input bytes n);
}

-- the first direction of two passes in a row
reaches_trans : (A B C : Behavior) → Preserves A B → Preserves B C → (input : List ℕ) → AreBytes input → (k : ℕ) → is_left (A input k).ending ≡ false → (n : ℕ) × Agrees (A input k) (C input n)
reaches_trans A B C p q input bytes k go =
    let x = p.reaches input bytes k go in
    let y = q.reaches input bytes x.0 (sym (agrees_left (A input k) (B input x.0) x.1) ∙ go) in
    (y.0, agrees_trans (A input k) (B input x.0) (C input y.0) x.1 y.1)

-- the second direction of two passes in a row
only_trans : (A B C : Behavior) → Preserves A B → Preserves B C → (input : List ℕ) → AreBytes input → (n : ℕ) → ((k : ℕ) × IsLeft (A input k)) ⊎ ((k : ℕ) × Agrees (A input k) (C input n))
only_trans A B C p q input bytes n =
    elim (q.only input bytes n) [
      | inl y ↦ elim (p.only input bytes y.0) [
        | inl x ↦ inl x
        | inr x ↦ inl (x.0, agrees_left (A input x.0) (B input y.0) x.1 ∙ y.1)
      ]
      | inr y ↦ elim (p.only input bytes y.0) [
        | inl x ↦ inl x
        | inr x ↦ inr (x.0, agrees_trans (A input x.0) (B input y.0) (C input n) x.1 y.1)
      ]
    ]

-- preservation is transitive
pub preserves_trans : (A B C : Behavior) → Preserves A B → Preserves B C → Preserves A C
preserves_trans A B C p q = record { reaches = reaches_trans A B C p q; only = only_trans A B C p q }

-- n steps that are within one bound, m within the other after them
bounds_join : (begin cost begin2 cost2 k m n : ℕ) → m ≤ begin + cost * k → n ≤ begin2 + cost2 * m → n ≤ begin2 + cost2 * begin + cost2 * cost * k
bounds_join begin cost begin2 cost2 k m n first second =
    let grown : cost2 * m ≤ cost2 * (begin + cost * k) = mul-le-mul_left cost2 first in
    let parts : cost2 * (begin + cost * k) ≡ cost2 * begin + cost2 * (cost * k) = mul-add cost2 begin (cost * k) in
    let inner : cost2 * cost * k ≡ cost2 * (cost * k) = mul_assoc cost2 cost k in
    omega arith

-- the bound of two passes in a row
pub reaches_within_trans : (A B C : Behavior) (begin cost begin2 cost2 : ℕ) → ReachesWithin begin cost A B → ReachesWithin begin2 cost2 B C → ReachesWithin (begin2 + cost2 * begin) (cost2 * cost) A C
reaches_within_trans A B C begin cost begin2 cost2 p q input bytes k go =
    let x = p input bytes k go in
    let y = q input bytes x.0 (sym (agrees_left (A input k) (B input x.0) x.2) ∙ go) in
    (y.0, bounds_join begin cost begin2 cost2 k x.0 y.0 x.1 y.1, agrees_trans (A input k) (B input x.0) (C input y.0) x.2 y.2)

-- only a stray is the same as a stray
pub common_strayed : (e : Ending) → common e ≡ Strayed → e ≡ Strayed
common_strayed Going h = absurd (cc)
common_strayed (Ended status) h = absurd (cc)
common_strayed Divide h = absurd (cc)
common_strayed Trap h = absurd (cc)
common_strayed Depth h = absurd (cc)
common_strayed (Left reason) h = absurd (cc)
common_strayed Invalid h = absurd (cc)
common_strayed Breakpoint h = absurd (cc)
common_strayed PageFault h = absurd (cc)
common_strayed NoForm h = absurd (cc)
common_strayed NoFlag h = absurd (cc)
common_strayed BadCall h = absurd (cc)
common_strayed Strayed h = refl

-- what shows the same as a run that doesn't stray doesn't stray
agrees_straight : (a b : Moment) → Agrees a b → a.ending ≢ Strayed → b.ending ≢ Strayed
agrees_straight a b p straight e = straight (common_strayed a.ending (p.ending ∙ ap common e))

-- a machine that shows what another shows until that one strays preserves what the other preserves, of programs that never stray
pub preserves_straight : (A S M : Behavior) → ((input : List ℕ) → AreBytes input → (k : ℕ) → (A input k).ending ≢ Strayed) → ((input : List ℕ) → AreBytes input → (n : ℕ) → (S input n).ending ≢ Strayed → Agrees (S input n) (M input n)) → Preserves A S → Preserves A M
preserves_straight A S M straight same p = record {
  reaches = λ input bytes k go.
      let x = p.reaches input bytes k go in
      let there = agrees_straight (A input k) (S input x.0) x.1 (straight input bytes k) in
      (x.0, agrees_trans (A input k) (S input x.0) (M input x.0) x.1 (same input bytes x.0 there));
  only = λ input bytes n. elim (p.only input bytes n) [
    | inl x ↦ inl x
    | inr x ↦
        let there = agrees_straight (A input x.0) (S input n) x.1 (straight input bytes x.0) in
        inr (x.0, agrees_trans (A input x.0) (S input n) (M input n) x.1 (same input bytes n there))
  ];
}

-- what keeps the meaning of a run that is never left and never strays doesn't stray
pub straight_kept : (A S : Behavior) (input : List ℕ) → AreBytes input → ((k : ℕ) → is_left (A input k).ending ≡ false) → ((k : ℕ) → (A input k).ending ≢ Strayed) → Preserves A S → (n : ℕ) → (S input n).ending ≢ Strayed
straight_kept A S input bytes meant straight p n =
    elim (p.only input bytes n) [
      | inl x ↦ absurd (not_both (is_left (A input x.0).ending) x.1 (meant x.0))
      | inr x ↦ agrees_straight (A input x.0) (S input n) x.1 (straight x.0)
    ]
