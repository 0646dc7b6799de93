-- Rows that are passed, and rows that stop, on the machine of an object.
use Rattle.std.proofs.Common.{◌≡◌, ℕ, zero, suc, ◌+◌, false, List, [], ◌∷◌, length, refl, sym, ◌∙◌, ap, subst, arith}
use Rattle.behavior.specs.Ending.{Ending, is_going}
use Rattle.behavior.specs.Moment.{HasStopped}
use Rattle.behavior.specs.System.{iter}
use Rattle.behavior.specs.Simulation.{Comes}
use Rattle.x86_core.specs.Step.{State, moment_of, act}
use Rattle.x86_core.proofs.Steps.{step_stays}
use Rattle.x86_rows.specs.Straight.{Core, Passage, Through, Stopped, Away, ran, and_on, exec}
use Rattle.obj_core.specs.declared.object.Object.{Object}
use Rattle.obj_core.specs.declared.object.Place.{Place}
use Rattle.obj_core.specs.Disassembly.{size_of}
use Rattle.obj_core.specs.SymbolicMachine.{target, symbolic_fetch, symbolic_land, symbolic_step}
use Rattle.obj_rows.specs.Marked.{Marked, instrs_of, row_size, Stands, IsFunction}
use Rattle.obj_rows.specs.Standing.{Outside, standing, shown}
use Rattle.obj_rows.proofs.Rows.{stands_one, stands_next}
use Rattle.obj_rows.proofs.Passing.{Fits, Stops, ran_fits, ran_stops}
use Rattle.obj_rows.proofs.Fetching.{fetched_one, step_here}

-- one passage of two names
same_core : (c d : Core) → Through c ≡ Through d → c ≡ d
same_core c d e = cc

same_ending : (e f : Ending) → Stopped e ≡ Stopped f → e ≡ f
same_ending e f h = cc

module _ (o : Object) where
  -- a run that has stopped stays as it is
  pub stopped_stays : (count : ℕ) (s : State Place) → HasStopped (moment_of s) → iter (symbolic_step o) count s ≡ s
  stopped_stays zero s h = refl
  stopped_stays (suc count) s h = ap (iter (symbolic_step o) count) (step_stays (λ _. symbolic_fetch o) (symbolic_land o) s h) ∙ stopped_stays count s h

  module _ (n : ℕ) (row : List Marked) (is : IsFunction o n row) (out : Outside) where
    -- one instruction fits what it does to a core
    fits_here : (off : ℕ) (x : Marked) (c : Core) (r : Passage) → Stands row off (x ∷ []) → ran x.instr c ≡ r →
        let s = standing out (Place.Code n off) c in
        Fits (symbolic_land o) (Place.Code n (off + size_of x.instr)) (target n (off + size_of x.instr) x.slot) 0 s r (symbolic_step o s)
    fits_here off x c r stands e =
        let s = standing out (Place.Code n off) c in
        let end = off + size_of x.instr in
        subst (Fits (symbolic_land o) (Place.Code n end) (target n end x.slot) 0 s r) (sym (step_here o n row is off x stands out c))
        (subst (λ p. Fits (symbolic_land o) (Place.Code n end) (target n end x.slot) 0 s p (act (symbolic_land o) (fetched_one o n row is off x stands) s)) e (ran_fits (symbolic_land o) (Place.Code n end) (target n end x.slot) 0 s x.instr))

    -- one that is passed, and one that stops
    pub step_through : (off : ℕ) (x : Marked) (c d : Core) → Stands row off (x ∷ []) → ran x.instr c ≡ Through d →
        symbolic_step o (standing out (Place.Code n off) c) ≡ standing out (Place.Code n (off + size_of x.instr)) d
    step_through off x c d stands e = fits_here off x c (Through d) stands e

    pub step_stops : (off : ℕ) (x : Marked) (c : Core) (ending : Ending) → Stands row off (x ∷ []) → ran x.instr c ≡ Stopped ending →
        symbolic_step o (standing out (Place.Code n off) c) ≡ record (standing out (Place.Code n off) c) { ending = ending }
    step_stops off x c ending stands e = fits_here off x c (Stopped ending) stands e

    -- a row that is passed
    pub row_through : (part : List Marked) (off : ℕ) (c d : Core) → Stands row off part → exec (instrs_of part) c ≡ Through d →
        iter (symbolic_step o) (length part) (standing out (Place.Code n off) c) ≡ standing out (Place.Code n (off + row_size part)) d
    row_through [] off c d stands e =
        let end : off ≡ off + 0 = omega arith in
        ap (λ k. standing out (Place.Code n k) c) end ∙ ap (standing out (Place.Code n (off + 0))) (same_core c d e)
    row_through (x ∷ part) off c d stands e = first (ran x.instr c) refl e (λ c2. row_through part (off + size_of x.instr) c2 d (stands_next row off x part stands))
      where
        first : (r : Passage) → ran x.instr c ≡ r → and_on r (exec (instrs_of part)) ≡ Through d →
            ((c2 : Core) → exec (instrs_of part) c2 ≡ Through d → iter (symbolic_step o) (length part) (standing out (Place.Code n (off + size_of x.instr)) c2) ≡ standing out (Place.Code n (off + size_of x.instr + row_size part)) d) →
            iter (symbolic_step o) (length part) (symbolic_step o (standing out (Place.Code n off) c)) ≡ standing out (Place.Code n (off + (size_of x.instr + row_size part))) d
        first (Through c2) one e others =
            let end : off + size_of x.instr + row_size part ≡ off + (size_of x.instr + row_size part) = omega arith in
            ap (iter (symbolic_step o) (length part)) (step_through off x c c2 (stands_one row off x part stands) one) ∙ others c2 e ∙ ap (λ k. standing out (Place.Code n k) d) end
        first (Stopped ending) one e others = absurd (cc)
        first Away one e others = absurd (cc)

    -- a row that stops
    pub row_stops : (part : List Marked) (off : ℕ) (c : Core) (ending : Ending) → Stands row off part → exec (instrs_of part) c ≡ Stopped ending →
        moment_of (iter (symbolic_step o) (length part) (standing out (Place.Code n off) c)) ≡ shown out ending
    row_stops [] off c ending stands e = absurd (cc)
    row_stops (x ∷ part) off c ending stands e = first (ran x.instr c) refl e (λ c2. row_stops part (off + size_of x.instr) c2 ending (stands_next row off x part stands))
      where
        first : (r : Passage) → ran x.instr c ≡ r → and_on r (exec (instrs_of part)) ≡ Stopped ending →
            ((c2 : Core) → exec (instrs_of part) c2 ≡ Stopped ending → moment_of (iter (symbolic_step o) (length part) (standing out (Place.Code n (off + size_of x.instr)) c2)) ≡ shown out ending) →
            moment_of (iter (symbolic_step o) (length part) (symbolic_step o (standing out (Place.Code n off) c))) ≡ shown out ending
        first (Through c2) one e others =
            ap (λ s. moment_of (iter (symbolic_step o) (length part) s)) (step_through off x c c2 (stands_one row off x part stands) one) ∙ others c2 e
        first (Stopped found) one e others =
            let s : State Place = record (standing out (Place.Code n off) c) { ending = found } in
            let stopped : is_going found ≡ false = subst Stops one (ran_stops x.instr c) in
            ap (λ s. moment_of (iter (symbolic_step o) (length part) s)) (step_stops off x c found (stands_one row off x part stands) one) ∙
            ap moment_of (stopped_stays (length part) s stopped) ∙ ap (shown out) (same_ending found ending e)
        first Away one e others = absurd (cc)

    -- as a stretch of a simulation
    pub row_comes : (part : List Marked) (off : ℕ) (c d : Core) → Stands row off part → exec (instrs_of part) c ≡ Through d →
        Comes (symbolic_step o) (length part) (length part) (standing out (Place.Code n off) c) (standing out (Place.Code n (off + row_size part)) d)
    row_comes part off c d stands e = record { count = length part; low = omega arith; high = omega arith; arrives = row_through part off c d stands e }
