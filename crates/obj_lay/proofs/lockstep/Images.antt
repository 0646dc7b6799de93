-- A run of an image shows what the object's run shows, so two images of one object show the same.
use Rattle.std.proofs.Common.{◌≡◌, ◌≢◌, ℕ, Bool, List, refl, sym, ◌∙◌, ap, arith}
use Rattle.std.specs.Prelude.{replicate}
use Rattle.behavior.specs.Ending.{Strayed, common}
use Rattle.behavior.specs.Moment.{Agrees, Behavior, AreBytes}
use Rattle.behavior.specs.Preserves.{Preserves}
use Rattle.behavior.proofs.Laws.{preserves_straight}
use Rattle.x86_core.proofs.Acts.{steps_are_acts}
use Rattle.x86_core.specs.declared.image.Image.{Image}
use Rattle.x86_core.specs.Memory.{writes, is_allowed, code_of}
use Rattle.x86_core.specs.Data.{stack_end}
use Rattle.x86_core.specs.Observation.{Observation, observe}
use Rattle.x86_core.specs.Run.{Act, Step, started}
use Rattle.x86_core.specs.Step.{State}
use Rattle.x86_core.specs.Machine.{machine_step, machine_segments, machine_start, machine_run, machine_behavior}
use Rattle.obj_core.specs.declared.object.Object.{Object}
use Rattle.obj_core.specs.declared.object.Place.{Place}
use Rattle.obj_core.specs.SymbolicMachine.{symbolic_step, symbolic_start, symbolic_run, symbolic_behavior}
use Rattle.obj_lay.specs.Held.{HoldsObject}
use Rattle.obj_lay.specs.Mirrors.{Mirrors}
use Rattle.obj_lay.proofs.lockstep.Lockstep.{run_shows, run_allows}

module _ (image : Image) (place : Place → ℕ) (is_place : Place → Bool) (o : Object) (h : HoldsObject image place is_place o) where
  -- both begin at slot 0
  start_mirrors : (input : List ℕ) → Mirrors (code_of (machine_segments image)) place is_place (symbolic_start o input) (machine_start image input)
  start_mirrors input =
      let first = h.places.landing 0 h.some_slot in
      let address = (h.places.slots 0 0 first.start).address in
      let entry : image.entry ≡ place (Place.Slot 0 0) = omega (arith, h.entry, address) in
      record {
        segments = machine_segments image;
        same = ap (λ n. started n (machine_segments image) input stack_end 0) entry;
        readable = h.readable;
        runs = refl;
        here = first.start;
      }

  pub image_shows : (input : List ℕ) (acts : List Act) → (symbolic_run o input acts).ending ≢ Strayed → observe (machine_run image input acts) ≡ observe (symbolic_run o input acts)
  image_shows input acts straight = run_shows (code_of (machine_segments image)) place is_place o h.places acts (symbolic_start o input) (machine_start image input) (start_mirrors input) straight

  pub image_allows : (input : List ℕ) (acts : List Act) → (symbolic_run o input acts).ending ≢ Strayed → (at n : ℕ) → is_allowed writes (machine_run image input acts).segments at n ≡ is_allowed writes (symbolic_run o input acts).segments at n
  image_allows input acts straight = run_allows (code_of (machine_segments image)) place is_place o h.places acts (symbolic_start o input) (machine_start image input) (start_mirrors input) straight

  -- after each step the same moment
  pub image_agrees : (input : List ℕ) (n : ℕ) → (symbolic_behavior o input n).ending ≢ Strayed → Agrees (symbolic_behavior o input n) (machine_behavior image input n)
  image_agrees input n straight =
      let s = steps_are_acts (symbolic_step o) n (symbolic_start o input) in
      let m = steps_are_acts machine_step n (machine_start image input) in
      let same = sym (ap observe s) ∙ sym (image_shows input (replicate n Step) (λ e. straight (ap (λ (t : State Place). t.ending) (sym s) ∙ e))) ∙ ap observe m in
      record {
        printed = ap (λ (x : Observation). x.printed) same;
        taken = ap (λ (x : Observation). x.taken) same;
        ending = ap (λ (x : Observation). common x.ending) same;
      }

  -- what the object preserves, the image does
  pub image_preserves : (A : Behavior) → ((input : List ℕ) → AreBytes input → (k : ℕ) → (A input k).ending ≢ Strayed) → Preserves A (symbolic_behavior o) → Preserves A (machine_behavior image)
  image_preserves A straight p = preserves_straight A (symbolic_behavior o) (machine_behavior image) straight (λ input bytes n. image_agrees input n) p
