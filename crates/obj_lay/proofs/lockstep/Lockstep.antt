-- One step of both machines, one act on both, and any list of acts: the states mirror each other until the first stray.
use Rattle.std.proofs.Common.{◌≡◌, ◌≢◌, ℕ, suc, ◌<◌, ◌+◌, ◌*◌, Bool, true, false, List, [], ◌∷◌, length, Option, Some, refl, sym, ◌∙◌, ap, subst, if◌then◌else◌, arith}
use Rattle.std.specs.Prelude.{slice_index, nat_eq}
use Rattle.std.proofs.lemmas.Bool.{eqb-true}
use Rattle.behavior.specs.Ending.{Ending, Going, Strayed, if_going}
use Rattle.x86_core.specs.declared.image.Segment.{Segment}
use Rattle.x86_core.specs.Memory.{writes, is_allowed, write_at, code_at, data_of, code_of}
use Rattle.x86_core.specs.Observation.{observe, readable as readable_of}
use Rattle.x86_core.specs.Run.{Act, Step, Write, wrote, acted, run_over}
use Rattle.x86_core.specs.Step.{State, act}
use Rattle.x86_core.specs.Machine.{by_bytes, machine_fetch, machine_step}
use Rattle.obj_core.specs.declared.object.Object.{Object}
use Rattle.obj_core.specs.declared.object.Place.{Place}
use Rattle.obj_core.specs.Slots.{slot_base, positions}
use Rattle.obj_core.specs.SymbolicMachine.{landing_from, symbolic_fetch, symbolic_land, symbolic_step}
use Rattle.obj_lay.specs.Held.{HoldsPlaces}
use Rattle.obj_lay.specs.Mirrors.{at_address, Mirrors}
use Rattle.obj_lay.proofs.lockstep.Segments.{code_same, readable_same, allowed_same}
use Rattle.obj_lay.proofs.lockstep.Natural.{addressed, IsPlaceAt, act_mirrors, write_act_mirrors}
use Rattle.obj_core.proofs.Landing.{positions_long}
use Rattle.obj_core.proofs.Strays.{strayed_over}
use Rattle.obj_lay.proofs.lockstep.Fetching.{fetches_same}

module _ (place : Place → ℕ) (is_place : Place → Bool) where
  -- slot k stands at a position, and both places of it that a word may name are places
  record IsKnown (k position : ℕ) : Type 0 where
    start : place (Place.Slot k 0) ≡ slot_base + 16 * position
    start_is : is_place (Place.Slot k 0) ≡ true
    back : place (Place.Slot k 5) ≡ slot_base + 16 * position + 5
    back_is : is_place (Place.Slot k 5) ≡ true

  -- the place of a word by a test, or one that is found later
  tested : (w n : ℕ) (p : Place) (rest : Option Place) → place p ≡ n → is_place p ≡ true → IsPlaceAt place is_place w rest → (t : Bool) → nat_eq w n ≡ t → IsPlaceAt place is_place w (if t then Some p else rest)
  tested w n p rest e k h true same = (e ∙ sym (eqb-true w n same), k)
  tested w n p rest e k h false same = h

  -- a word leads to a place that stands at it
  landing_stands : (ps : List ℕ) (k w : ℕ) → ((i : ℕ) → i < length ps → IsKnown (k + i) (slice_index ps i)) → IsPlaceAt place is_place w (landing_from ps k w)
  landing_stands [] k w known = tt
  landing_stands (p ∷ ps) k w known =
      let none : k + 0 ≡ k = omega arith in
      let first : IsKnown k p = subst (λ j. IsKnown j p) none (known 0 (omega arith)) in
      let others = landing_stands ps (k + 1) w (λ i lt. let one : k + suc i ≡ k + 1 + i = omega arith in subst (λ j. IsKnown j (slice_index ps i)) one (known (suc i) (omega (arith, lt)))) in
      tested w _ (Place.Slot k 0) _ first.start first.start_is
      (tested w _ (Place.Slot k 5) _ first.back first.back_is others (nat_eq w (slot_base + 16 * p + 5)) refl)
      (nat_eq w (slot_base + 16 * p)) refl

module _ (exec : List Segment) (place : Place → ℕ) (is_place : Place → Bool) (o : Object) (held : HoldsPlaces exec place is_place o) where
  abbrev R : State Place → State ℕ → Type 0
  R = Mirrors exec place is_place

  -- each slot is known
  slot_known : (i : ℕ) → i < length (positions o) → IsKnown place is_place (0 + i) (slice_index (positions o) i)
  slot_known i lt =
      let h = held.landing i (omega (arith, lt, positions_long o)) in
      let start = (held.slots i 0 h.start).address in
      let none : i ≡ 0 + i = omega arith in
      subst (λ j. IsKnown place is_place j (slice_index (positions o) i)) none
      (record { start = omega (arith, start); start_is = h.start; back = (held.slots i 5 h.back).address; back_is = h.back })

  -- a word is the address of its landing place
  lands : (w : ℕ) → IsPlaceAt place is_place w (symbolic_land o w)
  lands w = landing_stands place is_place (positions o) 0 w slot_known

  -- a step of a run that goes on, and of one that has stopped
  by_ending : (e : Ending) (a : State Place) (segments : List Segment) → data_of segments ≡ a.segments → code_of segments ≡ exec → is_place a.place ≡ true →
      let a2 = if_going e (act (symbolic_land o) (symbolic_fetch o a.place) a) a in
      let b = at_address place segments a in
      a2.ending ≢ Strayed → R a2 (if_going e (act Some (machine_fetch segments (place a.place)) b) b)
  by_ending Going a segments readable runs here straight =
      let x = fetches_same exec place is_place o held a.place here in
      let same : machine_fetch segments (place a.place) ≡ addressed place (symbolic_fetch o a.place) = ap (by_bytes (place a.place)) (code_same segments (place a.place) ∙ ap (λ ss. code_at ss (place a.place)) runs) ∙ x.same in
      subst (λ y. R (act (symbolic_land o) (symbolic_fetch o a.place) a) (act Some y (at_address place segments a))) (sym same)
      (act_mirrors exec held.hidden place is_place a segments readable runs here (symbolic_land o) lands (symbolic_fetch o a.place) x.within straight)
  by_ending e a segments readable runs here straight = record { segments = segments; same = refl; readable = readable; runs = runs; here = here }

  -- one step
  pub step_mirrors : (a : State Place) (b : State ℕ) → Mirrors exec place is_place a b → (symbolic_step o a).ending ≢ Strayed → Mirrors exec place is_place (symbolic_step o a) (machine_step b)
  step_mirrors a b r straight =
      subst (λ t. R (symbolic_step o a) (machine_step t)) (sym r.same) (by_ending a.ending a r.segments r.readable r.runs r.here straight)

  -- one act
  pub acted_mirrors : (x : Act) (a : State Place) (b : State ℕ) → Mirrors exec place is_place a b → (acted (symbolic_step o) x a).ending ≢ Strayed → Mirrors exec place is_place (acted (symbolic_step o) x a) (acted machine_step x b)
  acted_mirrors Step a b r straight = step_mirrors a b r straight
  acted_mirrors (Write at []) a b r straight = r
  acted_mirrors (Write at (n ∷ ns)) a b r straight =
      subst (λ t. R (wrote (write_at a.segments at (n ∷ ns)) a) (wrote (write_at t.segments at (n ∷ ns)) t)) (sym r.same)
      (write_act_mirrors exec held.hidden place is_place a r.segments r.readable r.runs r.here at (n ∷ ns))

  -- any list of acts
  pub run_mirrors : (acts : List Act) (a : State Place) (b : State ℕ) → Mirrors exec place is_place a b → (run_over (symbolic_step o) acts a).ending ≢ Strayed → Mirrors exec place is_place (run_over (symbolic_step o) acts a) (run_over machine_step acts b)
  run_mirrors [] a b r straight = r
  run_mirrors (x ∷ acts) a b r straight =
      let a2 = acted (symbolic_step o) x a in
      run_mirrors acts a2 (acted machine_step x b) (acted_mirrors x a b r (λ e. straight (strayed_over o acts a2 e))) straight

  -- a state that mirrors another shows the same
  pub mirrors_shows : (a : State Place) (b : State ℕ) → Mirrors exec place is_place a b → observe b ≡ observe a
  mirrors_shows a b r =
      let e : readable_of r.segments ≡ readable_of a.segments = sym (readable_same r.segments) ∙ ap readable_of r.readable in
      ap observe r.same ∙ ap (λ ss. record (observe a) { segments = ss }) e

  pub run_shows : (acts : List Act) (a : State Place) (b : State ℕ) → Mirrors exec place is_place a b → (run_over (symbolic_step o) acts a).ending ≢ Strayed → observe (run_over machine_step acts b) ≡ observe (run_over (symbolic_step o) acts a)
  run_shows acts a b r straight = mirrors_shows _ _ (run_mirrors acts a b r straight)

  -- and allows the same writes
  pub run_allows : (acts : List Act) (a : State Place) (b : State ℕ) → Mirrors exec place is_place a b → (run_over (symbolic_step o) acts a).ending ≢ Strayed →
      (at n : ℕ) → is_allowed writes (run_over machine_step acts b).segments at n ≡ is_allowed writes (run_over (symbolic_step o) acts a).segments at n
  run_allows acts a b r straight at n =
      let m = run_mirrors acts a b r straight in
      ap (λ (s : State ℕ). is_allowed writes s.segments at n) m.same ∙ (sym (allowed_same m.segments at n) ∙ ap (λ ss. is_allowed writes ss at n) m.readable)
