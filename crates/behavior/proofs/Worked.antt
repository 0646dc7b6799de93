-- What the relation refuses, and a simulation small enough to be read whole.
use Rattle.std.proofs.Common.{◌≡◌, ℕ, zero, suc, ◌+◌, Bool, List, [], ◌∷◌, ◌++◌, true, false, refl, inl, inr, arith}
use Rattle.behavior.specs.Ending.{Left, Ending, Going, Ended, Invalid, if_going, is_going}
use Rattle.behavior.specs.Moment.{Moment, IsGoing, Behavior}
use Rattle.behavior.specs.Preserves.{Preserves}
use Rattle.behavior.specs.System.{AddsAtMostOne, System, behavior_of}
use Rattle.behavior.specs.Simulation.{Met, Spots}
use Rattle.behavior.proofs.Laws.{agrees_refl}
use Rattle.behavior.proofs.Between.{adds_grows}
use Rattle.behavior.proofs.Follow.{simulates}
use Rattle.behavior.proofs.Stretch.{comes_one, comes_wider, comes_step, met_by, starts_by, spots_follow}

-- a program that shows one thing for ever
abbrev always : List ℕ → Ending → Behavior
always printed ending input n = record { printed = printed; taken = 0; ending = ending }

-- a program that spins doesn't mean what one means that ends
pub spinning_is_refused : Preserves (always [] (Ended 7)) (always [] Going) → ⊥
spinning_is_refused p =
    let e = (p.reaches [] tt 0 refl).1.ending in
    absurd (cc)

-- nor does one that prints the right bytes and then spins
pub spinning_after_print_is_refused : Preserves (always (65 ∷ []) (Ended 7)) (always (65 ∷ []) Going) → ⊥
spinning_after_print_is_refused p =
    let e = (p.reaches [] tt 0 refl).1.ending in
    absurd (cc)

-- nor one that stops at once by `ud2`
pub trapping_is_refused : Preserves (always [] (Ended 7)) (always [] Invalid) → ⊥
trapping_is_refused p =
    let e = (p.reaches [] tt 0 refl).1.ending in
    absurd (cc)

-- nor one that ends otherwise
pub other_status_is_refused : Preserves (always [] (Ended 7)) (always [] (Ended 60)) → ⊥
other_status_is_refused p =
    let e = (p.reaches [] tt 0 refl).1.ending in
    absurd (cc)

-- where the first goes on for ever, the second may not stop
pub stopping_is_refused : Preserves (always [] Going) (always [] (Ended 0)) → ⊥
stopping_is_refused p =
    let e = (p.reaches [] tt 0 refl).1.ending in
    absurd (cc)

-- nor may it print what the first doesn't
pub print_is_refused : (B : Behavior) (n : ℕ) → (B [] n).printed ≡ 65 ∷ [] → Preserves (always [] Going) B → ⊥
print_is_refused B n e p =
    elim (p.only [] tt n) [
      | inl l ↦ let left = l.1 in absurd (cc)
      | inr s ↦ let printed = s.1.printed in absurd (cc)
    ]

-- what leaves its meaning at once owes nothing: any program is its translation
pub left_at_once_owes_nothing : (reason : ℕ) (B : Behavior) → Preserves (always [] (Left reason)) B
left_at_once_owes_nothing reason B = record {
  reaches = λ input bytes k go. absurd (cc);
  only = λ input bytes n. inl (0, refl);
}

-- a countdown that prints its number at each step
record Count : Type 0 where
  left : ℕ
  out : List ℕ
  ending : Ending

-- the next state of a countdown that goes on
abbrev count_next : ℕ → List ℕ → Count
count_next zero out = record { left = 0; out = out; ending = Ended 3 }
count_next (suc n) out = record { left = n; out = out ++ n ∷ []; ending = Going }

-- a step of it
abbrev count_step : Count → Count
count_step s = if_going s.ending (count_next s.left s.out) s

-- what it shows
abbrev count_moment : Count → Moment
count_moment s = record { printed = s.out; taken = 0; ending = s.ending }

-- a step of one that goes on prints at most one byte
count_adds : (n : ℕ) (out : List ℕ) → AddsAtMostOne (record { printed = out; taken = 0; ending = Going }) (count_moment (count_next n out))
count_adds zero out = AddsAtMostOne.Silent refl refl
count_adds (suc n) out = AddsAtMostOne.Prints n refl refl refl

-- so does any step
count_gradual : (left : ℕ) (out : List ℕ) (ending : Ending) → let s : Count = record { left = left; out = out; ending = ending } in AddsAtMostOne (count_moment s) (count_moment (count_step s))
count_gradual left out Going = count_adds left out
count_gradual left out other = AddsAtMostOne.Silent refl refl

-- one that has stopped shows the same ever after
count_stays : (left : ℕ) (out : List ℕ) (ending : Ending) → is_going ending ≡ false → let s : Count = record { left = left; out = out; ending = ending } in count_moment (count_step s) ≡ count_moment s
count_stays left out Going h = absurd (cc)
count_stays left out other h = refl

-- the countdown as a system
abbrev countdown : System Count
countdown = record {
  step = count_step;
  moment = count_moment;
  grows = λ s. adds_grows (count_moment s) (count_moment (count_step s)) (count_gradual s.left s.out s.ending);
  stays = λ s h. count_stays s.left s.out s.ending h;
}

-- a machine that counts down in two steps each, with a start-up of its own and a scratch number
record Machine : Type 0 where
  boot : ℕ
  half : Bool
  scratch : ℕ
  count : Count

-- the next state of the machine: its start-up, then a rest, then a number
abbrev machine_next : ℕ → Bool → ℕ → Count → Machine
machine_next (suc boot) half scratch count = record { boot = boot; half = half; scratch = scratch; count = count }
machine_next zero false scratch count = record { boot = 0; half = true; scratch = scratch + count.left; count = count }
machine_next zero true scratch count = record { boot = 0; half = false; scratch = scratch; count = count_next count.left count.out }

-- a step of it
abbrev machine_step : Machine → Machine
machine_step m = if_going m.count.ending (machine_next m.boot m.half m.scratch m.count) m

-- it shows what its countdown shows
abbrev machine_moment : Machine → Moment
machine_moment m = count_moment m.count

-- a step prints at most one byte
machine_adds : (boot : ℕ) (half : Bool) (scratch left : ℕ) (out : List ℕ) (ending : Ending) → let m : Machine = record { boot = boot; half = half; scratch = scratch; count = record { left = left; out = out; ending = ending } } in AddsAtMostOne (machine_moment m) (machine_moment (machine_step m))
machine_adds (suc boot) half scratch left out Going = AddsAtMostOne.Silent refl refl
machine_adds zero false scratch left out Going = AddsAtMostOne.Silent refl refl
machine_adds zero true scratch left out Going = count_adds left out
machine_adds boot half scratch left out other = AddsAtMostOne.Silent refl refl

-- a machine that has stopped shows the same ever after
machine_stays : (boot : ℕ) (half : Bool) (scratch left : ℕ) (out : List ℕ) (ending : Ending) → is_going ending ≡ false → let m : Machine = record { boot = boot; half = half; scratch = scratch; count = record { left = left; out = out; ending = ending } } in machine_moment (machine_step m) ≡ machine_moment m
machine_stays boot half scratch left out Going h = absurd (cc)
machine_stays boot half scratch left out other h = refl

-- the machine as a system
abbrev machine : System Machine
machine = record {
  step = machine_step;
  moment = machine_moment;
  grows = λ m. adds_grows (machine_moment m) (machine_moment (machine_step m)) (machine_adds m.boot m.half m.scratch m.count.left m.count.out m.count.ending);
  stays = λ m h. machine_stays m.boot m.half m.scratch m.count.left m.count.out m.count.ending h;
}

-- the state of the machine that stands for one of the countdown
abbrev spot : Count → ℕ → Machine
spot c scratch = record { boot = 0; half = false; scratch = scratch; count = c }

-- two steps meet one
count_met : (left : ℕ) (out : List ℕ) (ending : Ending) (scratch : ℕ) → let a : Count = record { left = left; out = out; ending = ending } in IsGoing (count_moment a) → Met countdown machine (Spots (λ _. ℕ) spot) (λ _. 0) 2 a (count_step a) (spot a scratch)
count_met left out Going scratch goes =
    let a : Count = record { left = left; out = out; ending = Going } in
    let b0 = spot a scratch in
    let b1 = machine_step b0 in
    let b2 = spot (count_step a) (scratch + left) in
    met_by countdown machine (Spots (λ _. ℕ) spot) (λ _. 0) 2 a (count_step a) b0 b2
    (comes_wider machine_step 2 2 1 2 b0 b2 (omega arith) (omega arith) (comes_step machine_step 1 1 b0 b1 b2 refl (comes_one machine_step b1 b2 refl)))
    (inl (scratch + left, refl))
count_met left out other scratch goes = absurd (cc)

-- the machine means the countdown, and needs at most 5 steps at first and 2 for each step
machine_counts : (n : ℕ) → Preserves (behavior_of (λ _. countdown) (λ _. record { left = n; out = []; ending = Going })) (behavior_of (λ _. machine) (λ _. record { boot = 1; half = false; scratch = 9; count = record { left = n; out = []; ending = Going } }))
machine_counts n =
    let a : Count = record { left = n; out = []; ending = Going } in
    let b : Machine = record { boot = 1; half = false; scratch = 9; count = a } in
    simulates (λ _. countdown) (λ _. machine) (λ _. a) (λ _. b) (λ _. Spots (λ _. ℕ) spot) (λ _ _. 0) 5 2
    (λ input bytes. spots_follow countdown machine (λ _. ℕ) spot (λ _. 0) 2
    (λ s. count_gradual s.left s.out s.ending)
    (λ s rest. agrees_refl (count_moment s))
    (λ s rest goes. inr (count_met s.left s.out s.ending rest goes)))
    (λ input bytes. starts_by countdown machine (Spots (λ _. ℕ) spot) (λ _. 0) 2 5 a b (spot a 9) (agrees_refl (count_moment a))
    (comes_wider machine_step 1 1 0 5 b (spot a 9) (omega arith) (omega arith) (comes_one machine_step b (spot a 9) refl))
    (inl (9, refl)))
