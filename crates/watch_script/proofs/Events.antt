-- What a script's events do by so many steps, from that of the events before a place of it.
use Rattle.std.proofs.Common.{◌≡◌, ℕ, zero, suc, ◌+◌, ◌<◌, ◌≤◌, Bool, true, false, ◌&&◌, cond, nat_eq, nat_le, List, [], ◌∷◌, ◌++◌, Option, Some, None, refl, sym, ap, ◌∙◌, arith, append_assoc}
use Rattle.std.proofs.lemmas.Bool.Decides.{nat_tests}
use Rattle.std.proofs.lemmas.List.{append-nil}
use Rattle.behavior.specs.System.{iter}
use Rattle.behavior.proofs.Between.{iter_add}
use Rattle.x86_core.specs.declared.image.Segment.{Segment}
use Rattle.x86_core.specs.Memory.{write_at}
use Rattle.x86_core.specs.Step.{State}
use Rattle.x86_core.specs.Run.{Act, Step, Write as Writes, wrote, acted, run_over}
use Rattle.x86_core.proofs.Acts.{run_over-append}
use Rattle.watch_script.specs.declared.event.Event.{Event}
use Rattle.watch_script.specs.declared.event.Event.TheVariants.{Read, Write}
use Rattle.watch_script.specs.Acts.{done_by, done_at, acts_to}
use Rattle.watch_script.specs.Events.{after_of, size_of, are_in_order}

-- none comes before a number of instructions
abbrev pub Since : ℕ → List Event → Type 0
Since n [] = Unit {0}
Since n (e ∷ es) = (n ≤ after_of e) × Since n es

-- none comes after a number of instructions
abbrev pub Until : ℕ → List Event → Type 0
Until n [] = Unit {0}
Until n (e ∷ es) = (after_of e ≤ n) × Until n es

pub since_less : (m n : ℕ) (es : List Event) → m ≤ n → Since n es → Since m es
since_less m n [] h k = tt
since_less m n (e ∷ es) h k = let f : n ≤ after_of e = k.0 in (omega arith, since_less m n es h k.1)

pub until_more : (m n : ℕ) (es : List Event) (e : Event) → m ≤ n → Until m es → after_of e ≤ n → Until n (es ++ e ∷ [])
until_more m n [] e h k f = (f, tt)
until_more m n (d ∷ es) e h k f = let g : after_of d ≤ m = k.0 in (omega arith, until_more m n es e h k.1 f)

and_both : (a b : Bool) → (a && b) ≡ true → (a ≡ true) × (b ≡ true)
and_both true b h = (refl, h)
and_both false b h = absurd (cc)

le_is : (m n : ℕ) → nat_le m n ≡ true → m ≤ n
le_is m n h = grind (arith, nat_tests)

pub since_order : (n : ℕ) (es : List Event) → are_in_order n es ≡ true → Since n es
since_order n [] h = tt
since_order n (e ∷ es) h =
    let a = and_both (nat_le n (after_of e)) _ h in
    let b = and_both (nat_le 1 (size_of e)) _ a.1 in
    let c = and_both (nat_le (size_of e) 4096) _ b.1 in
    let first : n ≤ after_of e = le_is n (after_of e) a.0 in
    (first, since_less n (after_of e) es first (since_order (after_of e) es c.1))

differs : (x y : ℕ) → (x ≡ y → ⊥) → nat_eq x y ≡ false
differs x y h = grind (arith, nat_tests)

none_since : (n m : ℕ) (es : List Event) → n < m → Since m es → done_at n es ≡ []
none_since n m [] h k = refl
none_since n m (e ∷ es) h k =
    let f : m ≤ after_of e = k.0 in
    rw (differs (after_of e) n (λ g. omega arith)) (none_since n m es h k.1)

none_until : (n m : ℕ) (es : List Event) → m < n → Until m es → done_at n es ≡ []
none_until n m [] h k = refl
none_until n m (e ∷ es) h k =
    let f : after_of e ≤ m = k.0 in
    rw (differs (after_of e) n (λ g. omega arith)) (none_until n m es h k.1)

done_both : (n : ℕ) (es fs : List Event) → done_at n (es ++ fs) ≡ done_at n es ++ done_at n fs
done_both n [] fs = refl
done_both n (e ∷ es) fs = by (done_both n es fs) (nat_eq (after_of e) n)
  where
    by : done_at n (es ++ fs) ≡ done_at n es ++ done_at n fs → (t : Bool) → cond t (done_by e ++ done_at n (es ++ fs)) (done_at n (es ++ fs)) ≡ cond t (done_by e ++ done_at n es) (done_at n es) ++ done_at n fs
    by others true = ap (λ rest. done_by e ++ rest) others ∙ sym (append_assoc (done_by e) (done_at n es) (done_at n fs))
    by others false = others

-- events that don't come earlier do something at the end alone
pub acts_split : (n : ℕ) (es fs : List Event) → Since n fs → acts_to n (es ++ fs) ≡ acts_to n es ++ done_at n fs
acts_split zero es fs h = done_both zero es fs
acts_split (suc n) es fs h =
    let less : n ≤ suc n = omega arith in
    let lt : n < suc n = omega arith in
    let before : acts_to n (es ++ fs) ≡ acts_to n es =
    acts_split n es fs (since_less n (suc n) fs less h) ∙ (ap (λ rest. acts_to n es ++ rest) (none_since n (suc n) fs lt h) ∙ append-nil (acts_to n es)) in
    ap (λ rest. rest ++ (Step ∷ done_at (suc n) (es ++ fs))) before
    ∙ (ap (λ rest. acts_to n es ++ (Step ∷ rest)) (done_both (suc n) es fs) ∙ sym (append_assoc (acts_to n es) (Step ∷ done_at (suc n) es) (done_at (suc n) fs)))

same_number : (n : ℕ) → nat_eq n n ≡ true
same_number n = grind (arith, nat_tests)

-- one event more, at its number
pub acts_more : (es : List Event) (e : Event) → acts_to (after_of e) (es ++ e ∷ []) ≡ acts_to (after_of e) es ++ done_by e
acts_more es e =
    let here : after_of e ≤ after_of e = omega arith in
    let alone : done_at (after_of e) (e ∷ []) ≡ done_by e = rw (same_number (after_of e)) (append-nil (done_by e)) in
    acts_split (after_of e) es (e ∷ []) (here, tt) ∙ ap (λ rest. acts_to (after_of e) es ++ rest) alone

module _ {P : Type 0} (step : State P → State P) (s : State P) where
  -- behind the last event there are steps alone
  pub steps_later : (n : ℕ) (es : List Event) → Until n es → (k : ℕ) → run_over step (acts_to (n + k) es) s ≡ iter step k (run_over step (acts_to n es) s)
  steps_later n es h zero = let e : n + 0 ≡ n = omega arith in ap (λ m. run_over step (acts_to m es) s) e
  steps_later n es h (suc k) =
      let e : n + suc k ≡ suc (n + k) = omega arith in
      let lt : n < suc (n + k) = omega arith in
      let one : k + 1 ≡ suc k = omega arith in
      ap (λ m. run_over step (acts_to m es) s) e
      ∙ (ap (λ rest. run_over step (acts_to (n + k) es ++ (Step ∷ rest)) s) (none_until (suc (n + k)) n es lt h)
      ∙ (run_over-append step (acts_to (n + k) es) (Step ∷ []) s
      ∙ (ap step (steps_later n es h k)
      ∙ (iter_add step k 1 (run_over step (acts_to n es) s) ∙ ap (λ m. iter step m (run_over step (acts_to n es) s)) one))))

  -- later events have done nothing yet
  pub same_before : (n : ℕ) (es fs : List Event) → Since (suc n) fs → run_over step (acts_to n (es ++ fs)) s ≡ run_over step (acts_to n es) s
  same_before n es fs h =
      let less : n ≤ suc n = omega arith in
      let lt : n < suc n = omega arith in
      ap (λ rest. run_over step rest s) (acts_split n es fs (since_less n (suc n) fs less h) ∙ (ap (λ rest. acts_to n es ++ rest) (none_since n (suc n) fs lt h) ∙ append-nil (acts_to n es)))

-- what events do leaves the input as it is
pub done_left : {P : Type 0} (step : State P → State P) (n : ℕ) (es : List Event) (s : State P) → (run_over step (done_at n es) s).left ≡ s.left
done_left step n [] s = refl
done_left {P} step n (e ∷ es) s = by (λ t. done_left step n es t) (nat_eq (after_of e) n)
  where
    wrote_left : (o : Option (List Segment)) (s : State P) → (wrote o s).left ≡ s.left
    wrote_left None s = refl
    wrote_left (Some segments) s = refl

    write_left : (at : ℕ) (bytes : List ℕ) (s : State P) → (acted step (Writes at bytes) s).left ≡ s.left
    write_left at [] s = refl
    write_left at (b ∷ bs) s = wrote_left (write_at s.segments at (b ∷ bs)) s

    first : ((t : State P) → (run_over step (done_at n es) t).left ≡ t.left) → (e : Event) → (run_over step (done_by e ++ done_at n es) s).left ≡ s.left
    first others (Read after at len) = others s
    first others (Write after at bytes) = others (acted step (Writes at bytes) s) ∙ write_left at bytes s

    by : ((t : State P) → (run_over step (done_at n es) t).left ≡ t.left) → (t : Bool) → (run_over step (cond t (done_by e ++ done_at n es) (done_at n es)) s).left ≡ s.left
    by others true = first others e
    by others false = others s

pub same_left : {P : Type 0} (step : State P → State P) (s : State P) (n : ℕ) (es fs : List Event) → Since n fs → (run_over step (acts_to n (es ++ fs)) s).left ≡ (run_over step (acts_to n es) s).left
same_left step s n es fs h =
    ap (λ rest. (run_over step rest s).left) (acts_split n es fs h)
    ∙ (ap (λ t. t.left) (run_over-append step (acts_to n es) (done_at n fs) s) ∙ done_left step n fs (run_over step (acts_to n es) s))
