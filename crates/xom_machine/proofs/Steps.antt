-- Steps in a row: none, one more, and none that counts once the machine has stopped.
use Rattle.std.proofs.Common.{◌≡◌, ℕ, ◌+◌, ◌-◌, ◌<◌, ◌≤◌, zero, suc, true, false, List, [], length, Some, Result, Ok, Err, OnOk, OnErr, IfErr, refl, sym, ap, subst, ◌∙◌, inl, inr, arith}
use Rattle.behavior.specs.Ending.{is_going}
use Rattle.behavior.specs.System.{iter}
use Rattle.behavior.proofs.Between.{iter_add}
use Rattle.rd_io.specs.Outside.{Gets, Counts}
use Rattle.rd_io.proofs.Grown.{gets_nothing, counts_nothing, gets_both, counts_both}
use Rattle.rd_io.specs.declared.RunFault.{RunFault}
use Rattle.rd_io.specs.declared.RunFault.TheVariants as fault
use Rattle.x86_core.specs.Step.{State, Fetched, act}
use Rattle.x86_core.specs.Machine.{machine_fetch, machine_step}
use Rattle.x86_core.proofs.Steps.{step_stays}
use Rattle.xom_machine.specs.declared.machine.Machine.{Machine}
use Rattle.xom_machine.specs.Standing.{ending_of, state_of, StreamsTold, Stands}
use Rattle.xom_machine.specs.Calls.{Took, Did, Ran, Kept, CutOff, IsCut, GotPart, Becomes}

-- a machine that goes on does what stands at its next place
pub goes : (m : Machine) (x : Fetched ℕ) → is_going (ending_of m.outcome) ≡ true → machine_fetch m.memory m.next ≡ x →
    (left printed : List ℕ) (taken : ℕ) → act Some x (state_of m left printed taken) ≡ machine_step (state_of m left printed taken)
goes m x g f left printed taken = rw (g, f) refl

-- a machine that has stopped does nothing
pub rests : (m : Machine) → is_going (ending_of m.outcome) ≡ false → Becomes machine_step m m
rests m g left printed taken = rw g refl

pub took_none : (m : Machine) (a : StreamsTold) → Took 0 m m a a
unfolding Took
took_none m a xs left = record { machine = refl; left = left; written = gets_nothing a.written; total = counts_nothing a.total }

pub took_more : (n : ℕ) (m m2 m3 : Machine) (a b c : StreamsTold) → Took n m m2 a b → Did machine_step m2 m3 b c → Took (n + 1) m m3 a c
unfolding Took Did
took_more n m m2 m3 a b c t d xs left =
    let s : State ℕ = iter machine_step n (state_of m xs [] 0) in
    let at : Stands s m2 a b = t xs left in
    let P : State ℕ → Type 0 = λ s. Stands (machine_step s) m3 a c in
    let Q : State ℕ → Type 0 = λ s. Stands s m3 a c in
    subst Q (iter_add machine_step n 1 (state_of m xs [] 0)) (subst P at.machine (d s.left s.printed s.taken a at.left at.written at.total))

pub took_one : (m m2 : Machine) (a b : StreamsTold) → Did machine_step m m2 a b → Took 1 m m2 a b
took_one m m2 a b d = took_more 0 m m m2 a a b (took_none m a) d

-- steps of a state that rests lead nowhere
pub stays : (s : State ℕ) (n : ℕ) → machine_step s ≡ s → iter machine_step n s ≡ s
stays s zero e = refl
stays s (suc n) e = ap (iter machine_step n) e ∙ stays s n e

pub took_rest : (i n : ℕ) (m m2 : Machine) (a b : StreamsTold) → i ≤ n → is_going (ending_of m2.outcome) ≡ false → Took i m m2 a b → Took n m m2 a b
unfolding Took
took_rest i n m m2 a b h g t xs left =
    let s : State ℕ = iter machine_step i (state_of m xs [] 0) in
    let at : Stands s m2 a b = t xs left in
    let rest : machine_step s ≡ s = step_stays (machine_fetch) Some s (ap (λ (s : State ℕ). is_going s.ending) (sym at.machine) ∙ g) in
    let count : i + (n - i) ≡ n = omega arith in
    let same : s ≡ iter machine_step n (state_of m xs [] 0) = sym (stays s (n - i) rest) ∙ iter_add machine_step i (n - i) (state_of m xs [] 0) ∙ ap (λ k. iter machine_step k (state_of m xs [] 0)) count in
    let P : State ℕ → Type 0 = λ s. Stands s m2 a b in
    subst P same at

-- the part of a piece that was put after whole pieces
part_after : (a b c : StreamsTold) (bytes piece : List ℕ) → Gets a.written b.written bytes → Counts a.total b.total (length bytes) → GotPart b c [] piece → GotPart a c bytes piece
part_after a b c bytes piece g k p = record {
  some = p.some;
  written = (p.written.0, (p.written.1.0, gets_both a.written b.written c.written bytes p.written.0 g p.written.1.1));
  total = (
    p.total.0,
    (
      p.total.1.0,
      let e : 0 + p.total.0 ≡ p.total.0 = omega arith in
          let P : ℕ → Type 0 = λ n. Counts b.total c.total n in
          counts_both a.total b.total c.total (length bytes) p.total.0 k (subst P e p.total.1.1),
    ),
  );
}

pub cut_after : (k n : ℕ) (m m2 m3 : Machine) (a b c : StreamsTold) (e : RunFault) → k < n → Took k m m2 a b → m3 ≡ m2 → Kept machine_step m2 b c e → CutOff n m m3 a c e
unfolding CutOff Took
cut_after k n m m2 m3 a b c e h t same kept xs left =
    let s : State ℕ = iter machine_step k (state_of m xs [] 0) in
    let P : Machine → Type 0 = λ m. IsCut a c s m e in
    (k, (h, subst P (sym same) (by e (t xs left) kept)))
  where
    by : (e : RunFault) → let s = iter machine_step k (state_of m xs [] 0) in Stands s m2 a b → Kept machine_step m2 b c e → IsCut a c s m2 e
    by fault.Input at kept = (kept.0, let P : StreamsTold → Type 0 = λ t. Stands (iter machine_step k (state_of m xs [] 0)) m2 a t in subst P (sym kept.1) at)
    by fault.Output at kept = (at.machine, kept.0 ∙ at.left, part_after a b c _ _ at.written at.total kept.1)
    by fault.NoMemory at (inl kept) = inl (let P : StreamsTold → Type 0 = λ t. Stands (iter machine_step k (state_of m xs [] 0)) m2 a t in subst P (sym kept) at)
    by fault.NoMemory at (inr kept) = inr (at.machine, kept.0 ∙ at.left, part_after a b c _ _ at.written at.total kept.1)

-- one step by what was done once
pub step_took : {T : Type 0} (m m2 : Machine) (a b : StreamsTold) (r : Result T RunFault) → Ran machine_step m m2 a b r → OnOk r (Took 1 m m2 a b)
unfolding Ran
step_took m m2 a b (Ok x) h = took_one m m2 a b h
step_took m m2 a b (Err e) h = tt

pub step_stands : {T : Type 0} (m m2 : Machine) (a b : StreamsTold) (r : Result T RunFault) → Ran machine_step m m2 a b r → OnErr r (m2 ≡ m)
unfolding Ran
step_stands m m2 a b (Ok x) h = tt
step_stands m m2 a b (Err e) h = h.0

pub step_kept : {T : Type 0} (m m2 : Machine) (a b : StreamsTold) (r : Result T RunFault) → Ran machine_step m m2 a b r → IfErr r (Kept machine_step m a b)
unfolding Ran
step_kept m m2 a b (Ok x) h = tt
step_kept m m2 a b (Err e) h = h.1

-- in a run, one more step or the step at which it was cut off
pub run_more : {T : Type 0} (n : ℕ) (m m2 m3 : Machine) (a b c : StreamsTold) (x : T) → Took n m m2 a b → Ran machine_step m2 m3 b c (Ok x) → Took (n + 1) m m3 a c
unfolding Ran
run_more n m m2 m3 a b c x t h = took_more n m m2 m3 a b c t h

pub run_cut : (T : Type 0) (k n : ℕ) (m m2 m3 : Machine) (a b c : StreamsTold) (e : RunFault) → k < n → Took k m m2 a b → Ran {T = T} machine_step m2 m3 b c (Err e) → CutOff n m m3 a c e
unfolding Ran
run_cut T k n m m2 m3 a b c e h t r = cut_after k n m m2 m3 a b c e h t r.0 r.1
