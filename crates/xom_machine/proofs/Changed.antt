-- One instruction by its parts: fetched, its change of registers and flags, its access, and where it leads.
use Rattle.std.proofs.Common.{◌≡◌, ℕ, ◌+◌, ◌-◌, ◌≤◌, true, false, List, [], Option, Some, None, Result, Ok, Err, refl, sym, ap, subst, ◌∙◌, arith}
use Rattle.behavior.specs.Ending.{is_going}
use Rattle.behavior.specs.System.{iter}
use Rattle.behavior.proofs.Between.{iter_add}
use Rattle.rd_io.specs.declared.RunFault.{RunFault}
use Rattle.x86_core.specs.declared.instr.Instr.{Instr}
use Rattle.x86_core.specs.declared.image.Segment.{Segment}
use Rattle.x86_core.specs.declared.effect.Access.TheVariants.{Nothing}
use Rattle.x86_core.specs.declared.effect.Next.{Next}
use Rattle.x86_core.specs.declared.effect.Next.TheVariants as next
use Rattle.x86_core.specs.Arithmetic.{moved}
use Rattle.x86_core.specs.Effect.{effect_of}
use Rattle.x86_core.specs.Applying.{where_it_falls}
use Rattle.x86_core.specs.Step.{State, Fetched, sorted, act, request_of, served}
use Rattle.x86_core.specs.Machine.{machine_fetch, machine_step}
use Rattle.xom_machine.specs.declared.context.Context.{Context}
use Rattle.xom_machine.specs.declared.machine.Machine.{Machine}
use Rattle.xom_machine.specs.Whole.{over}
use Rattle.xom_machine.specs.Standing.{ending_of, state_of, StreamsTold, Stands}
use Rattle.xom_machine.specs.Changes.{led}
use Rattle.xom_machine.specs.Calls.{Ran, Took, Becomes}
use Rattle.xom_machine.specs.Silent.{Moved, Silently, CallsKernel}
use Rattle.xom_machine.proofs.Acts.{kernel_acts, led_acts, same_before}
use Rattle.x86_core.proofs.Steps.{step_stays}
use Rattle.xom_machine.proofs.Served.{ran_as}
use Rattle.xom_machine.proofs.Steps.{goes, stays, took_none}

-- the same for another that does the same from each state in which the machine stands
moved_as : {E : Type 0} (f h : State ℕ → State ℕ) (m m2 : Machine) (r : Result (Option ℕ) E) →
    ((left printed : List ℕ) (taken : ℕ) → f (state_of m left printed taken) ≡ h (state_of m left printed taken)) → Moved f m m2 r → Moved h m m2 r
unfolding Moved CallsKernel
moved_as f h m m2 (Ok None) same d = λ left printed taken. d left printed taken ∙ same left printed taken
moved_as f h m m2 (Ok (Some after)) same d = (d.0, λ left printed taken. d.1 left printed taken ∙ same left printed taken)
moved_as f h m m2 (Err e) same d = d

-- what stands at the next place is done, over a memory that is the same
pub advanced : {E : Type 0} (c : Context) (s s2 : List Segment) (x : Fetched ℕ) (m2 : Machine) (r : Result (Option ℕ) E) → is_going (ending_of c.outcome) ≡ true → s2 ≡ s →
    machine_fetch s c.next ≡ x → Moved (act Some x) (over c s2) m2 r → Moved machine_step (over c s) m2 r
advanced {E} c s s2 x m2 r going e f h =
    let P : List Segment → Type 0 = λ t. Moved {E = E} machine_step (over c t) m2 r in
    let same : machine_fetch s2 c.next ≡ x = ap (λ (t : List Segment). machine_fetch t c.next) e ∙ f in
    subst P e (moved_as (act Some x) machine_step (over c s2) m2 r (goes (over c s2) x going same) h)

-- it was done, whatever the outside is
pub moved_alone : (E : Type 0) (f : State ℕ → State ℕ) (m m2 : Machine) → Becomes f m m2 → Moved {E = E} f m m2 (Ok None)
unfolding Moved
moved_alone E f m m2 h = h

pub moved_wanted : {E : Type 0} (f : State ℕ → State ℕ) (m m2 : Machine) (e : E) → m2 ≡ m → Moved f m m2 (Err e)
unfolding Moved
moved_wanted f m m2 e h = h

module _ (i : Instr) (after : ℕ) (m m1 m2 : Machine) (alone : (effect_of i m.regs m.flags).access ≡ Nothing)
    (is : m1 ≡ record m { regs = where_it_falls (effect_of i m.regs m.flags).next (effect_of i m.regs m.flags).regs m.regs; flags = where_it_falls (effect_of i m.regs m.flags).next (effect_of i m.regs m.flags).flags m.flags }) where
  pub kernel_moved : (E : Type 0) → next.Kernel ≡ (effect_of i m.regs m.flags).next → Moved {E = E} (act Some (sorted i after (moved after) after)) m m1 (Ok (Some after))
  unfolding Moved CallsKernel
  kernel_moved E k =
      let other : (effect_of i m.regs m.flags).next ≡ next.Fall → ⊥ = λ f. (let g : next.Kernel ≡ next.Fall = k ∙ f in cc) in
      (same_before i after m m1 alone is other, kernel_acts i after m m1 alone is (sym k))

  pub led_moved : (E : Type 0) (n : Next) → n ≡ (effect_of i m.regs m.flags).next → (n ≡ next.Kernel → ⊥) → Becomes (led n after) m1 m2 →
      Moved {E = E} (act Some (sorted i after (moved after) after)) m m2 (Ok None)
  unfolding Moved
  led_moved E n e other h = λ left printed taken. h left printed taken
      ∙ ap (λ (k : Next). led k after (state_of m1 left printed taken)) e
      ∙ led_acts i after m m1 alone is (λ k. other (e ∙ k)) left printed taken

  pub call_wanted : {E : Type 0} (n : Next) (x : E) → n ≡ (effect_of i m.regs m.flags).next → (n ≡ next.Fall → ⊥) → m2 ≡ m1 →
      Moved (act Some (sorted i after (moved after) after)) m m2 (Err x)
  unfolding Moved
  call_wanted n x e other h = h ∙ same_before i after m m1 alone is (λ f. other (e ∙ f))

-- steps in a row
pub silent_none : (m : Machine) → Silently 0 m m
unfolding Silently
silent_none m left printed taken = refl

pub silent_more : (E : Type 0) (k : ℕ) (m m2 m3 : Machine) → Silently k m m2 → Moved {E = E} machine_step m2 m3 (Ok None) → Silently (k + 1) m m3
unfolding Silently Moved
silent_more E k m m2 m3 h d left printed taken =
    d left printed taken ∙ ap machine_step (h left printed taken) ∙ iter_add machine_step k 1 (state_of m left printed taken)

-- a machine that has stopped takes all that are left
pub silent_rest : (i n : ℕ) (m m2 : Machine) → i ≤ n → is_going (ending_of m2.outcome) ≡ false → Silently i m m2 → Silently n m m2
unfolding Silently
silent_rest i n m m2 h g s left printed taken =
    let rest : machine_step (iter machine_step i (state_of m left printed taken)) ≡ iter machine_step i (state_of m left printed taken) =
    step_stays machine_fetch Some (iter machine_step i (state_of m left printed taken)) (ap (λ (s : State ℕ). is_going s.ending) (sym (s left printed taken)) ∙ g) in
    let count : i + (n - i) ≡ n = omega arith in
    s left printed taken ∙ sym (stays (iter machine_step i (state_of m left printed taken)) (n - i) rest)
    ∙ iter_add machine_step i (n - i) (state_of m left printed taken) ∙ ap (λ k. iter machine_step k (state_of m left printed taken)) count

-- where nothing was done before a system call or a want of memory
pub kernel_stop : (E : Type 0) (m2 m3 : Machine) (after : ℕ) → Moved {E = E} machine_step m2 m3 (Ok (Some after)) → (m3 ≡ m2) × CallsKernel machine_step after m3
unfolding Moved
kernel_stop E m2 m3 after d = let P : Machine → Type 0 = λ x. CallsKernel machine_step after x in (d.0, subst P (sym d.0) d.1)

pub want_stop : {E : Type 0} (m2 m3 : Machine) (e : E) → Moved machine_step m2 m3 (Err e) → m3 ≡ m2
unfolding Moved
want_stop m2 m3 e d = d

pub silent_same : (k : ℕ) (m m2 m3 : Machine) → m3 ≡ m2 → Silently k m m2 → Silently k m m3
silent_same k m m2 m3 e h = let P : Machine → Type 0 = λ x. Silently k m x in subst P (sym e) h

-- the outside in a row of steps
pub silent_took : (i k n : ℕ) (m m2 m3 : Machine) (a b : StreamsTold) → i + k ≡ n → Took i m m2 a b → Silently k m2 m3 → Took n m m3 a b
unfolding Took Silently
silent_took i k n m m2 m3 a b e t h xs is =
    let s : State ℕ = iter machine_step i (state_of m xs [] 0) in
    let at : Stands s m2 a b = t xs is in
    let place : state_of m3 s.left s.printed s.taken ≡ iter machine_step k s = h s.left s.printed s.taken ∙ ap (iter machine_step k) at.machine in
    let P : State ℕ → Type 0 = λ z. Stands z m3 a b in
    subst P (iter_add machine_step i k (state_of m xs [] 0) ∙ ap (λ j. iter machine_step j (state_of m xs [] 0)) e)
    (subst P place (record { machine = refl; left = at.left; written = at.written; total = at.total }))

pub took_as : (n k : ℕ) (m m2 : Machine) (a b : StreamsTold) → n ≡ k → Took n m m2 a b → Took k m m2 a b
took_as n k m m2 a b e t = subst (λ j. Took j m m2 a b) e t

pub took_start : (n : ℕ) (m : Machine) (a : StreamsTold) → n ≡ 0 → Took n m m a a
took_start n m a e = subst (λ k. Took k m m a a) (sym e) (took_none m a)

-- a system call, and what comes before it in one step
pub kernel_ran : {T : Type 0} (m m2 : Machine) (after : ℕ) (a b : StreamsTold) (r : Result T RunFault) → CallsKernel machine_step after m → Ran (served (request_of m.regs) after after) m m2 a b r → Ran machine_step m m2 a b r
unfolding CallsKernel
kernel_ran m m2 after a b r k h = ran_as (served (request_of m.regs) after after) machine_step m m2 a b r k h

pub kernel_first : {T : Type 0} (m m2 m3 : Machine) (after : ℕ) (a b : StreamsTold) (r : Result T RunFault) → m2 ≡ m → CallsKernel machine_step after m2 →
    Ran (served (request_of m2.regs) after after) m2 m3 a b r → Ran machine_step m m3 a b r
kernel_first {T} m m2 m3 after a b r e k h =
    let P : Machine → Type 0 = λ x. Ran {T = T} machine_step x m3 a b r in
    subst P e (kernel_ran m2 m3 after a b r k h)

pub silent_alone : (m m2 : Machine) (k : ℕ) → k ≡ 1 → Silently k m m2 → Becomes machine_step m m2
unfolding Silently
silent_alone m m2 k e h left printed taken = h left printed taken ∙ ap (λ n. iter machine_step n (state_of m left printed taken)) e
