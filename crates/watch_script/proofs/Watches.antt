-- Replies, and how far a run came that was cut off.
use Rattle.std.proofs.Common.{◌≡◌, ℕ, suc, ◌+◌, ◌-◌, ◌<◌, ◌≤◌, ◌^◌, min, Bool, true, false, ◌&&◌, cond, nat_le, List, [], ◌∷◌, ◌++◌, length, get_or, append_assoc, take, drop, Option, Some, None, Err, refl, sym, ap, subst, ◌∙◌, inl, inr, arith}
use Rattle.std.proofs.lemmas.Bool.Decides.{nat_tests}
use Rattle.std.proofs.lemmas.List.{drop_more, take_more, take-append-drop}
use Rattle.behavior.specs.System.{iter}
use Rattle.rd_io.specs.Outside.{Counts}
use Rattle.rd_io.specs.Told.{SourceTold, SinkTold}
use Rattle.rd_io.specs.declared.RunFault.{RunFault}
use Rattle.rd_io.specs.declared.RunFault.TheVariants as fault
use Rattle.x86_core.specs.declared.image.Image.{Image}
use Rattle.x86_core.specs.declared.image.Segment.{Segment}
use Rattle.x86_core.specs.Memory.{reads, covers, read_at}
use Rattle.x86_core.specs.Observation.{readable}
use Rattle.x86_core.specs.Step.{State}
use Rattle.x86_core.specs.Run.{Act, run_over}
use Rattle.x86_core.specs.Machine.{machine_start, machine_step, machine_run}
use Rattle.xom_machine.specs.declared.machine.Machine.{Machine}
use Rattle.xom_machine.specs.Standing.{ending_of, state_of, StreamsTold, streams, Stands}
use Rattle.xom_machine.specs.Calls.{Took, Charged, CutOff, IsCut, AsksIn}
use Rattle.watch_script.specs.declared.event.Event.{Event}
use Rattle.watch_script.specs.declared.reply.Reply.{Reply}
use Rattle.watch_script.specs.declared.report.Report.{Report}
use Rattle.watch_script.specs.Acts.{done_by, acts_to}
use Rattle.watch_script.specs.Events.{after_of, size_of, are_in_order, last_after}
use Rattle.watch_script.specs.Report.{reply_in, replies_of, capped, last_of, IsReport}
use Rattle.watch_script.specs.Suiting.{is_suited, are_suited}
use Rattle.watch_script.proofs.Suits.{suited_more}
use Rattle.watch_script.specs.Watching.{watched_to, Acted, TakesByte, Within, Halted}
use Rattle.watch_script.proofs.Events.{Since, Until, since_less, since_order, until_more, acts_more, steps_later, done_left, same_before, same_left}
use Rattle.watch_script.proofs.Grown.{grown, steps_on, acted_on, acted_alone}

-- a read is answered by the segments that may be read
pub read_readable : (ss : List Segment) (at n : ℕ) → read_at (readable ss) at n ≡ read_at ss at n
read_readable [] at n = refl
read_readable (s ∷ ss) at n = by (read_readable ss at n) (reads s.rights) refl
  where
    skipped : (c : Bool) → c ≡ false → read_at ss at n ≡ cond (c && covers s at n) (Some (take n (drop (at - s.start) s.bytes))) (read_at ss at n)
    skipped true f = absurd (cc)
    skipped false f = refl

    by : read_at (readable ss) at n ≡ read_at ss at n → (c : Bool) → reads s.rights ≡ c → read_at (cond c (s ∷ readable ss) (readable ss)) at n ≡ read_at (s ∷ ss) at n
    by others true e = ap (λ rest. cond (reads s.rights && covers s at n) (Some (take n (drop (at - s.start) s.bytes))) rest) others
    by others false e = others ∙ skipped (reads s.rights) e

-- the next instruction of the machine takes a byte, so that of its state does
asks : (s : State ℕ) (m : Machine) → state_of m s.left s.printed s.taken ≡ s → AsksIn machine_step m → TakesByte s
asks s m is a = subst (λ t. TakesByte t) is a

-- where memory was wanting the input has lost what was taken before
lost : (s : State ℕ) (m : Machine) (a b : StreamsTold) → IsCut a b s m fault.NoMemory → b.left ≡ Some s.left
lost s m a b (inl h) = h.left
lost s m a b (inr h) = h.1

-- a run that was cut off, whose output doesn't fail
pub cut : (n : ℕ) (old new : Machine) (a b : StreamsTold) (e : RunFault) → (e ≡ fault.Output → ⊥) → CutOff n old new a b e → (xs : List ℕ) → a.left ≡ Some xs → Halted (λ k. iter machine_step k (state_of old xs [] 0)) n b.left e
unfolding CutOff
cut n old new a b fault.Input never h xs left =
    let c = h xs left in
    record { taken = c.0; early = c.1.0; asks = asks (iter machine_step c.0 (state_of old xs [] 0)) new c.1.1.1.machine c.1.1.0; took = c.1.1.1.left }
cut n old new a b fault.Output never h xs left = never refl
cut n old new a b fault.NoMemory never h xs left =
    let c = h xs left in
    let early : c.0 < n = c.1.0 in
    record { taken = c.0; within = omega arith; took = lost (iter machine_step c.0 (state_of old xs [] 0)) new a b c.1.1 }

-- the output of a sink that counts doesn't fail
pub no_output : (T : Type 0) (source source2 : SourceTold) (sink sink2 : SinkTold) (e : RunFault) → sink2.faults ≡ 0 → Charged {T = T} source source2 sink sink2 (Err e) → e ≡ fault.Output → ⊥
no_output T source source2 sink sink2 fault.Input none h is = cc
no_output T source source2 sink sink2 fault.Output none h is = let rose : min (sink.faults + 1) (2 ^ 64 - 1) ≤ sink2.faults = h.1 in absurd (omega arith)
no_output T source source2 sink sink2 fault.NoMemory none h is = cc

module _ (events before now : List Event) (parts : events ≡ before ++ now) (m m2 : Machine) (a b : StreamsTold) where
  -- the states of the run with all events
  abbrev states : List ℕ → ℕ → State ℕ
  states xs k = run_over machine_step (acts_to k events) (state_of m xs [] 0)

  left_at : (k : ℕ) (xs : List ℕ) → Since k now → (run_over machine_step (acts_to k before) (state_of m xs [] 0)).left ≡ (states xs k).left
  left_at k xs h = sym (ap (λ es. (run_over machine_step (acts_to k es) (state_of m xs [] 0)).left) parts ∙ same_left machine_step (state_of m xs [] 0) k before now h)

  -- memory was wanting at an event
  pub behind : (k total : ℕ) → Since k now → k ≤ total → Acted (acts_to k before) m m2 a b → (xs : List ℕ) → a.left ≡ Some xs → Within (states xs) total b.left
  unfolding Acted
  behind k total h early t xs left = record { taken = k; within = early; took = (t xs left).left ∙ ap Some (left_at k xs h) }

  -- what a run did before is before what it did when it was cut off
  pub halted_on : (done n total : ℕ) (left2 : Option (List ℕ)) (e : RunFault) → Until done before → Since (done + n) now → done + n ≤ total → Acted (acts_to done before) m m2 a b →
      ((ys : List ℕ) → b.left ≡ Some ys → Halted (λ j. iter machine_step j (state_of m2 ys [] 0)) n left2 e) → (xs : List ℕ) → a.left ≡ Some xs → Halted (states xs) total left2 e
  unfolding Acted
  halted_on done n total left2 e past future few t h xs left = by e (h s.left (t xs left).left)
    where
      start : State ℕ
      start = state_of m xs [] 0

      s : State ℕ
      s = run_over machine_step (acts_to done before) start

      along : (j : ℕ) → run_over machine_step (acts_to (done + j) before) start ≡ grown s.printed s.taken (iter machine_step j (state_of m2 s.left [] 0))
      along j = steps_later machine_step start done before past j ∙ steps_on s m2 j (t xs left).machine

      by : (e : RunFault) → Halted (λ j. iter machine_step j (state_of m2 s.left [] 0)) n left2 e → Halted (states xs) total left2 e
      by fault.Input g =
          let early : g.taken < n = g.early in
          let next : suc (done + g.taken) ≤ done + n = omega arith in
          let whole : states xs (done + g.taken) ≡ grown s.printed s.taken (iter machine_step g.taken (state_of m2 s.left [] 0)) =
          ap (λ es. run_over machine_step (acts_to (done + g.taken) es) start) parts
          ∙ (same_before machine_step start (done + g.taken) before now (since_less (suc (done + g.taken)) (done + n) now next future) ∙ along g.taken) in
          record {
            taken = done + g.taken;
            early = omega arith;
            asks = subst TakesByte (sym whole) g.asks;
            took = g.took ∙ ap (λ (s : State ℕ). Some s.left) (sym whole);
          }
      by fault.Output g = g
      by fault.NoMemory g =
          let within : g.taken ≤ n = g.within in
          let sooner : done + g.taken ≤ done + n = omega arith in
          record {
            taken = done + g.taken;
            within = omega arith;
            took = g.took ∙ (ap (λ (s : State ℕ). Some s.left) (sym (along g.taken)) ∙ ap Some (left_at (done + g.taken) xs (since_less (done + g.taken) (done + n) now sooner future)));
          }

-- memory was wanting before the first step
pub none_taken : (image : Image) (events : List Event) (n : ℕ) (left : Option (List ℕ)) (xs : List ℕ) → left ≡ Some xs → Within (watched_to image events xs) n left
none_taken image events n left xs e = record { taken = 0; within = omega arith; took = e ∙ ap Some (sym (done_left machine_step 0 events (machine_start image xs))) }

-- the next event comes no earlier than the one before, and no later than the last, and reads 1 to 4,096 bytes
pub record Place (done : ℕ) (now rest : List Event) (e : Event) : Type 0 where
  pub late : done ≤ (after_of e)
  pub early : (after_of e) ≤ last_after done now
  pub order : are_in_order (after_of e) rest ≡ true
  pub last : last_after (after_of e) rest ≡ last_after done now
  pub some : 1 ≤ (size_of e)
  pub few : (size_of e) ≤ 4096

and_both : (a b : Bool) → (a && b) ≡ true → (a ≡ true) × (b ≡ true)
and_both true b h = (refl, h)
and_both false b h = absurd (cc)

le_is : (m n : ℕ) → nat_le m n ≡ true → m ≤ n
le_is m n h = grind (arith, nat_tests)

never_falls : (least : ℕ) (events : List Event) → are_in_order least events ≡ true → least ≤ last_after least events
never_falls least [] h = omega arith
never_falls least (e ∷ es) h =
    let a = and_both (nat_le least (after_of e)) _ h in
    let first : least ≤ (after_of e) = le_is least (after_of e) a.0 in
    let b = and_both (nat_le 1 (size_of e)) _ a.1 in
    let c = and_both (nat_le (size_of e) 4096) _ b.1 in
    let others : (after_of e) ≤ last_after (after_of e) es = never_falls (after_of e) es c.1 in
    omega arith

at_front : (done : ℕ) (e : Event) (es : List Event) → are_in_order done (e ∷ es) ≡ true → Place done (e ∷ es) es e
at_front done e es h =
    let a = and_both (nat_le done (after_of e)) _ h in
    let b = and_both (nat_le 1 (size_of e)) _ a.1 in
    let c = and_both (nat_le (size_of e) 4096) _ b.1 in
    record { late = le_is done (after_of e) a.0; early = never_falls (after_of e) es c.1; order = c.1; last = refl; some = le_is 1 (size_of e) b.0; few = le_is (size_of e) 4096 c.0 }

take_item : (events : List Event) (i : ℕ) (e : Event) → i < length events → e ≡ get_or events i e → take (i + 1) events ≡ take i events ++ e ∷ []
take_item events i e h is = take_more events i e h ∙ ap (λ x. take i events ++ x ∷ []) (sym is)

drop_item : (events : List Event) (i : ℕ) (e : Event) → i < length events → e ≡ get_or events i e → drop i events ≡ e ∷ drop (i + 1) events
drop_item events i e h is = drop_more events i e h ∙ ap (λ x. x ∷ drop (i + 1) events) (sym is)

pub place_of : (done : ℕ) (events : List Event) (i : ℕ) (e : Event) → i < length events → e ≡ get_or events i e → are_in_order done (drop i events) ≡ true → Place done (drop i events) (drop (i + 1) events) e
place_of done events i e h is order =
    let next : drop i events ≡ e ∷ drop (i + 1) events = drop_item events i e h is in
    subst (λ now. Place done now (drop (i + 1) events) e) (sym next) (at_front done e (drop (i + 1) events) (subst (λ now. are_in_order done now ≡ true) next order))

-- steps from one event to where the next takes place
pub arrived : (done : ℕ) (before : List Event) (e : Event) (m m1 m2 : Machine) (a b c : StreamsTold) → done ≤ after_of e → Until done before →
    Acted (acts_to done before) m m1 a b → Took (after_of e - done) m1 m2 b c → Acted (acts_to (after_of e) before) m m2 a c
arrived done before e m m1 m2 a b c late past first then =
    let sum : after_of e ≡ done + (after_of e - done) = omega arith in
    acted_on (acts_to done before) (acts_to (after_of e) before) (after_of e - done)
    (λ s. ap (λ n. run_over machine_step (acts_to n before) s) sum ∙ steps_later machine_step s done before past (after_of e - done)) m m1 m2 a b c first then

-- and the event itself
pub gone : (events : List Event) (i : ℕ) (e : Event) (m m2 m3 : Machine) (a b : StreamsTold) → i < length events → e ≡ get_or events i e → Acted (acts_to (after_of e) (take i events)) m m2 a b →
    ((left printed : List ℕ) (taken : ℕ) → state_of m3 left printed taken ≡ run_over machine_step (done_by e) (state_of m2 left printed taken)) →
    Acted (acts_to (after_of e) (take (i + 1) events)) m m3 a b
gone events i e m m2 m3 a b h is first then =
    acted_alone (acts_to (after_of e) (take i events)) (done_by e) (acts_to (after_of e) (take (i + 1) events))
    (ap (acts_to (after_of e)) (take_item events i e h is) ∙ acts_more (take i events) e) m m2 m3 a b first then

pub past_more : (events : List Event) (i : ℕ) (e : Event) (done : ℕ) → i < length events → e ≡ get_or events i e → done ≤ after_of e → Until done (take i events) → Until (after_of e) (take (i + 1) events)
past_more events i e done h is late past =
    let here : after_of e ≤ after_of e = omega arith in
    subst (Until (after_of e)) (sym (take_item events i e h is)) (until_more done (after_of e) (take i events) e late past here)

pub all_suited : (events : List Event) (i : ℕ) (e : Event) (replies replies2 : List Reply) (r : Reply) → i < length events → e ≡ get_or events i e → are_suited (take i events) replies ≡ true → is_suited e r ≡ true → replies2 ≡ replies ++ r ∷ [] →
    are_suited (take (i + 1) events) replies2 ≡ true
all_suited events i e replies replies2 r h is so_far suits put =
    ap (λ es. are_suited es replies2) (take_item events i e h is) ∙ (ap (are_suited (take i events ++ e ∷ [])) put ∙ suited_more (take i events) replies e r so_far suits)

-- the events from a place on don't come before the next
pub since_place : (done : ℕ) (events : List Event) (i : ℕ) (e : Event) → i < length events → e ≡ get_or events i e → are_in_order done (drop i events) ≡ true → Since (after_of e) (drop i events)
since_place done events i e h is order =
    let p = place_of done events i e h is order in
    let here : after_of e ≤ after_of e = omega arith in
    subst (Since (after_of e)) (sym (drop_item events i e h is)) (here, since_order (after_of e) (drop (i + 1) events) p.order)

pub parted : (events : List Event) (i : ℕ) → events ≡ take i events ++ drop i events
parted events i = sym (take-append-drop i events)

-- one reply more
pub reply_more : (run : List Act → State ℕ) (events : List Event) (replies replies2 : List Reply) (i : ℕ) (e : Event) (r : Reply) → i < length events → e ≡ get_or events i e →
    r ≡ reply_in e (run (acts_to (after_of e) (take i events))) → replies2 ≡ replies ++ r ∷ [] →
    replies ++ replies_of run (take i events) (drop i events) ≡ replies_of run [] events → replies2 ++ replies_of run (take (i + 1) events) (drop (i + 1) events) ≡ replies_of run [] events
reply_more run events replies replies2 i e r h is answer put so_far =
    let rest : List Reply = replies_of run (take (i + 1) events) (drop (i + 1) events) in
    let moved : replies2 ++ rest ≡ replies ++ (r ∷ rest) = ap (λ rs. rs ++ rest) put ∙ append_assoc replies (r ∷ []) rest in
    let first : r ∷ rest ≡ reply_in e (run (acts_to (after_of e) (take i events))) ∷ replies_of run (take i events ++ e ∷ []) (drop (i + 1) events) =
    ap (λ r. r ∷ rest) answer ∙ ap (λ es. reply_in e (run (acts_to (after_of e) (take i events))) ∷ replies_of run es (drop (i + 1) events)) (take_item events i e h is) in
    moved ∙ (ap (λ rs. replies ++ rs) (first ∙ sym (ap (replies_of run (take i events)) (drop_item events i e h is))) ∙ so_far)

-- what a machine answers is what its state answers
pub answered : (acts : List Act) (m m2 : Machine) (a b : StreamsTold) (e : Event) (r : Reply) (xs : List ℕ) → Acted acts m m2 a b → a.left ≡ Some xs →
    ((left printed : List ℕ) (taken : ℕ) → r ≡ reply_in e (state_of m2 left printed taken)) → r ≡ reply_in e (run_over machine_step acts (state_of m xs [] 0))
unfolding Acted
answered acts m m2 a b e r xs t left h =
    let s : State ℕ = run_over machine_step acts (state_of m xs [] 0) in
    h s.left s.printed s.taken ∙ ap (reply_in e) (t xs left).machine

module _ (image : Image) (es events : List Event) (same : es ≡ events) (old new : Machine) (starts : (xs : List ℕ) → state_of old xs [] 0 ≡ machine_start image xs) (left left2 : Option (List ℕ)) where
  -- a report on the run from the image's start
  pub reported : (report : Report) (none count : ℕ) → none ≡ 0 → Acted (acts_to (last_after 0 es) es) old new (streams left None (Some none)) (streams left2 None (Some count)) →
      report.events ≡ es → ((xs : List ℕ) → left ≡ Some xs → report.replies ≡ replies_of (λ acts. run_over machine_step acts (state_of old xs [] 0)) [] es) → report.outcome ≡ new.outcome → report.printed ≡ count →
      (xs : List ℕ) → left ≡ Some xs → IsReport (machine_run image xs) events report × (left2 ≡ Some (last_of (machine_run image xs) events).left)
  unfolding Acted
  reported report none count empty t read answers outcome printed xs e =
      let at : Stands (last_of (machine_run image xs) es) new (streams left None (Some none)) (streams left2 None (Some count)) =
      subst (λ s. Stands (run_over machine_step (acts_to (last_after 0 es) es) s) new (streams left None (Some none)) (streams left2 None (Some count))) (starts xs) (t xs e) in (
        record {
          reads = read ∙ same;
          answers = answers xs e ∙ (ap (λ s. replies_of (λ acts. run_over machine_step acts s) [] es) (starts xs) ∙ ap (replies_of (machine_run image xs) []) same);
          outcome = ap ending_of outcome ∙ (ap (λ (s : State ℕ). s.ending) at.machine ∙ ap (λ es. (last_of (machine_run image xs) es).ending) same);
          printed = printed ∙ (counted none count (length (last_of (machine_run image xs) es).printed) empty at.total ∙ ap (λ es. capped (length (last_of (machine_run image xs) es).printed)) same);
        },
        at.left ∙ ap (λ es. Some (last_of (machine_run image xs) es).left) same,
      )
    where
      some_is : (x y : ℕ) → Some x ≡ Some y → x ≡ y
      some_is x y e = cc

      counted : (none count n : ℕ) → none ≡ 0 → Counts (Some none) (Some count) n → count ≡ capped n
      counted none count n empty h = let is : count ≡ none + min n (2 ^ 64 - 1 - none) = some_is count _ h in omega arith

  -- the same where it was cut off
  pub halted_from : (e : RunFault) → ((xs : List ℕ) → left ≡ Some xs → Halted (λ k. run_over machine_step (acts_to k es) (state_of old xs [] 0)) (last_after 0 es) left2 e) → (xs : List ℕ) → left ≡ Some xs → Halted (watched_to image events xs) (last_after 0 events) left2 e
  halted_from e h xs is = subst (λ es. Halted (watched_to image es xs) (last_after 0 es) left2 e) same (subst (λ s. Halted (λ k. run_over machine_step (acts_to k es) s) (last_after 0 es) left2 e) (starts xs) (h xs is))
