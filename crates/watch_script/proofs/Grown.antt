-- What a run does next doesn't hang on what it printed and took before.
use Rattle.std.proofs.Common.{◌≡◌, ℕ, zero, suc, ◌+◌, Bool, true, false, List, [], ◌∷◌, ◌++◌, length, Option, Some, None, refl, sym, ap, subst, ◌∙◌, arith, append_assoc, length-append}
use Rattle.std.proofs.lemmas.List.{append-nil}
use Rattle.behavior.specs.Ending.{Ending, Going, if_going}
use Rattle.behavior.specs.System.{iter}
use Rattle.behavior.proofs.Between.{iter_add}
use Rattle.rd_num.specs.Number.{le_bytes}
use Rattle.rd_io.proofs.Grown.{gets_both, counts_both}
use Rattle.rd_io.specs.Outside.{Counts}
use Rattle.x86_core.specs.declared.reg.Reg.TheVariants.{R11, Rsi, Rsp}
use Rattle.x86_core.specs.declared.image.Segment.{Segment}
use Rattle.x86_core.specs.declared.effect.Access.{Access}
use Rattle.x86_core.specs.declared.effect.Access.TheVariants as access
use Rattle.x86_core.specs.declared.effect.Next.{Next}
use Rattle.x86_core.specs.declared.effect.Next.TheVariants as next
use Rattle.x86_core.specs.declared.effect.Change.{Change}
use Rattle.x86_core.specs.Registers.{word}
use Rattle.x86_core.specs.Arithmetic.{holds}
use Rattle.x86_core.specs.Effect.{effect_of}
use Rattle.x86_core.specs.Memory.{read_at, write_at}
use Rattle.x86_core.specs.Machine.{machine_fetch, machine_step}
use Rattle.x86_core.specs.Step as step
use Rattle.x86_core.specs.Step.{State, Fetched, Request, act, by_access, by_change, after_read, after_write, tested, returned, called, called_word, below, served, after_print, after_take, next_byte, request_of, size_bytes}
use Rattle.xom_machine.specs.declared.machine.Machine.{Machine}
use Rattle.xom_machine.specs.Standing.{state_of, StreamsTold, Stands}
use Rattle.xom_machine.specs.Calls.{Took}
use Rattle.x86_core.specs.Run.{Act, Step, Write, wrote, acted, run_over}
use Rattle.x86_core.proofs.Acts.{run_over-append}
use Rattle.xom_machine.proofs.Steps.{took_none}
use Rattle.watch_script.specs.Watching.{Acted}

-- a state with more printed and taken before
abbrev pub grown : List ℕ → ℕ → State ℕ → State ℕ
grown p t s = record s { printed = p ++ s.printed; taken = t + s.taken }

module _ (p : List ℕ) (t : ℕ) where
  accessed : (a : Access) (c : Change) (after : ℕ) (s : State ℕ) → by_access a c after (grown p t s) ≡ grown p t (by_access a c after s)
  accessed access.Nothing c after s = refl
  accessed (access.Read at size into) c after s = by (read_at s.segments at (size_bytes size))
    where
      by : (o : Option (List ℕ)) → after_read o c into after (grown p t s) ≡ grown p t (after_read o c into after s)
      by None = refl
      by (Some bytes) = refl
  accessed (access.Write at size n) c after s = by (write_at s.segments at (le_bytes (size_bytes size) n))
    where
      by : (o : Option (List Segment)) → after_write o c after (grown p t s) ≡ grown p t (after_write o c after s)
      by None = refl
      by (Some segments) = refl

  changed : (n : Next) (c : Change) (after : ℕ) (s : State ℕ) → by_change n c after (grown p t s) ≡ grown p t (by_change n c after s)
  changed next.Divide c after s = refl
  changed next.NoFlag c after s = refl
  changed other c after s = accessed c.access c after s

  served_so : (r : Request) (after back : ℕ) (s : State ℕ) → served r after back (grown p t s) ≡ grown p t (served r after back s)
  served_so step.Exits after back s = refl
  served_so step.Idles after back s = refl
  served_so (step.Prints count) after back s = by (read_at s.segments (word s.regs Rsi) count)
    where
      by : (o : Option (List ℕ)) → after_print o count after back (grown p t s) ≡ grown p t (after_print o count after back s)
      by None = refl
      by (Some bytes) = ap (λ out. record (grown p t (after_print (Some bytes) count after back s)) { printed = out }) (append_assoc p s.printed bytes)
  served_so step.Takes after back s = by (write_at s.segments (word s.regs Rsi) (next_byte s.left ∷ [])) s.left
    where
      by : (o : Option (List Segment)) (bytes : List ℕ) → after_take o bytes after back (grown p t s) ≡ grown p t (after_take o bytes after back s)
      by None bytes = refl
      by (Some segments) [] = refl
      by (Some segments) (b ∷ bs) =
          let sum : t + s.taken + 1 ≡ t + (s.taken + 1) = omega arith in
          ap (λ n. record (grown p t (after_take (Some segments) (b ∷ bs) after back s)) { taken = n }) sum
  served_so step.Unknowns after back s = refl

  acts : (x : Fetched ℕ) (s : State ℕ) → act Some x (grown p t s) ≡ grown p t (act Some x s)
  acts (step.Stops e) s = refl
  acts (step.Plain i after) s = changed (effect_of i s.regs s.flags).next (effect_of i s.regs s.flags) after s
  acts (step.Goes to) s = refl
  acts (step.Tests c to after) s = by (holds c s.flags)
    where
      by : (o : Option Bool) → tested o to after (grown p t s) ≡ grown p t (tested o to after s)
      by None = refl
      by (Some true) = refl
      by (Some false) = refl
  acts (step.Calls to back) s = by (write_at s.segments (below s.regs) (le_bytes 8 back))
    where
      by : (o : Option (List Segment)) → called to o (grown p t s) ≡ grown p t (called to o s)
      by None = refl
      by (Some segments) = refl
  acts step.Returns s = by (read_at s.segments (word s.regs Rsp) 8)
    where
      by : (o : Option (List ℕ)) → returned Some o (grown p t s) ≡ grown p t (returned Some o s)
      by None = refl
      by (Some bytes) = refl
  acts step.Follows s = refl
  acts (step.CallsWord back) s = by (write_at s.segments (below s.regs) (le_bytes 8 back))
    where
      by : (o : Option (List Segment)) → called_word (Some (word s.regs R11)) o (grown p t s) ≡ grown p t (called_word (Some (word s.regs R11)) o s)
      by None = refl
      by (Some segments) = refl
  acts (step.Systems after back) s = served_so (request_of s.regs) after back s

  going : (e : Ending) (x y : State ℕ) → if_going e (grown p t x) (grown p t y) ≡ grown p t (if_going e x y)
  going Going x y = refl
  going other x y = refl

  pub step_grown : (s : State ℕ) → machine_step (grown p t s) ≡ grown p t (machine_step s)
  step_grown s =
      let x : Fetched ℕ = machine_fetch s.segments s.place in
      ap (λ u. if_going s.ending u (grown p t s)) (acts x s) ∙ going s.ending (act Some x s) s

  pub steps_grown : (n : ℕ) (s : State ℕ) → iter machine_step n (grown p t s) ≡ grown p t (iter machine_step n s)
  steps_grown zero s = refl
  steps_grown (suc n) s = ap (iter machine_step n) (step_grown s) ∙ steps_grown n (machine_step s)

-- steps of a machine are those of the state in which it stands, but for what was printed and taken before
pub steps_on : (s : State ℕ) (m : Machine) (n : ℕ) → state_of m s.left s.printed s.taken ≡ s → iter machine_step n s ≡ grown s.printed s.taken (iter machine_step n (state_of m s.left [] 0))
steps_on s m n is =
    let fresh : State ℕ = state_of m s.left [] 0 in
    let sum : s.taken + 0 ≡ s.taken = omega arith in
    let start : grown s.printed s.taken fresh ≡ s = ap (λ p. state_of m s.left p (s.taken + 0)) (append-nil s.printed) ∙ (ap (λ n. state_of m s.left s.printed n) sum ∙ is) in
    ap (iter machine_step n) (sym start) ∙ steps_grown s.printed s.taken n fresh

-- the same of any acts
acts_grown : (p : List ℕ) (t : ℕ) (acts : List Act) (s : State ℕ) → run_over machine_step acts (grown p t s) ≡ grown p t (run_over machine_step acts s)
acts_grown p t [] s = refl
acts_grown p t (a ∷ acts) s = ap (run_over machine_step acts) (one a s) ∙ acts_grown p t acts (acted machine_step a s)
  where
    wrote_grown : (o : Option (List Segment)) (s : State ℕ) → wrote o (grown p t s) ≡ grown p t (wrote o s)
    wrote_grown None s = refl
    wrote_grown (Some segments) s = refl

    one : (a : Act) (s : State ℕ) → acted machine_step a (grown p t s) ≡ grown p t (acted machine_step a s)
    one Step s = step_grown p t s
    one (Write at []) s = refl
    one (Write at (b ∷ bs)) s = wrote_grown (write_at s.segments at (b ∷ bs)) s

-- acts, and then steps, which are other acts
pub acted_on : (acts more : List Act) (n : ℕ) → ((s : State ℕ) → run_over machine_step more s ≡ iter machine_step n (run_over machine_step acts s)) →
    (m m2 m3 : Machine) (a b c : StreamsTold) → Acted acts m m2 a b → Took n m2 m3 b c → Acted more m m3 a c
unfolding Took Acted
acted_on acts more n is m m2 m3 a b c first then xs left =
    let start : State ℕ = state_of m xs [] 0 in
    let s : State ℕ = run_over machine_step acts start in
    let at : Stands s m2 a b = first xs left in
    let r : State ℕ = iter machine_step n (state_of m2 s.left [] 0) in
    let u : Stands r m3 b c = then s.left at.left in
    let whole : run_over machine_step more start ≡ grown s.printed s.taken r = is start ∙ steps_on s m2 n at.machine in
    subst (λ x. Stands x m3 a c) (sym whole) (record {
      machine = ap (grown s.printed s.taken) u.machine;
      left = u.left;
      written = gets_both a.written b.written c.written s.printed r.printed at.written u.written;
      total = subst (λ x. Counts a.total c.total x) (sym (length-append s.printed r.printed)) (counts_both a.total b.total c.total (length s.printed) (length r.printed) at.total u.total);
    })

-- acts, and then some in which the outside has no part
pub acted_alone : (acts more whole : List Act) → whole ≡ acts ++ more → (m m2 m3 : Machine) (a b : StreamsTold) → Acted acts m m2 a b →
    ((left printed : List ℕ) (taken : ℕ) → state_of m3 left printed taken ≡ run_over machine_step more (state_of m2 left printed taken)) → Acted whole m m3 a b
unfolding Acted
acted_alone acts more whole is m m2 m3 a b first then xs left =
    let start : State ℕ = state_of m xs [] 0 in
    let s : State ℕ = run_over machine_step acts start in
    let at : Stands s m2 a b = first xs left in
    let same : state_of m3 s.left s.printed s.taken ≡ run_over machine_step whole start =
    then s.left s.printed s.taken ∙ (ap (run_over machine_step more) at.machine ∙ (sym (run_over-append machine_step acts more start) ∙ ap (λ rest. run_over machine_step rest start) (sym is))) in
    subst (λ x. Stands x m3 a b) same (record { machine = refl; left = at.left; written = at.written; total = at.total })

-- nothing was done
pub acted_none : (m : Machine) (a : StreamsTold) (none : List Act) → none ≡ [] → Acted none m m a a
unfolding Acted Took
acted_none m a none is xs left = subst (λ acts. Stands (run_over machine_step acts (state_of m xs [] 0)) m a a) (sym is) (took_none m a xs left)
