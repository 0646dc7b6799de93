-- Each layout of a well-formed object is an image of it.
use Rattle.std.proofs.Common.{◌≡◌, ◌≢◌, ℕ, List, [], ◌∷◌, length, if◌then◌else◌, refl, sym, ◌∙◌, ap, subst, arith}
use Rattle.std.proofs.Math.Logic.{∥∥₁_elim}
use Rattle.std.proofs.Props.{props}
use Rattle.behavior.specs.Ending.{Strayed}
use Rattle.behavior.specs.Moment.{Agrees, AreBytes, Behavior}
use Rattle.behavior.specs.Preserves.{Preserves}
use Rattle.x86_core.specs.declared.image.Image.{Image}
use Rattle.x86_core.specs.Memory.{writes, is_allowed, code_of, data_of}
use Rattle.x86_core.specs.Data.{data_segments}
use Rattle.x86_core.specs.Machine.{machine_segments, machine_run, machine_behavior}
use Rattle.x86_core.specs.Observation.{observe, reply_to}
use Rattle.x86_core.specs.Run.{Act}
use Rattle.obj_core.specs.declared.object.Object.{Object}
use Rattle.obj_core.specs.declared.object.Place.{Place}
use Rattle.obj_core.specs.Slots.{slot_start}
use Rattle.obj_core.specs.WellFormed.{IsWellFormed}
use Rattle.obj_core.specs.SymbolicMachine.{symbolic_run, symbolic_behavior}
use Rattle.obj_lay.specs.Held.{HoldsPlaces, HoldsObject}
use Rattle.obj_lay.specs.Places.{is_step_place, HoldsInstrs}
use Rattle.obj_lay.specs.Hidden.{ShowsObject, HasDataOf, Wish, Reads, Writes, Written, Refused, answer_of, answer_in, answers, RepliesAsObject, ShowTheSame}
use Rattle.obj_lay.proofs.lockstep.Closed.{instrs_held}
use Rattle.obj_lay.proofs.lockstep.Images.{image_shows, image_allows, image_agrees, image_preserves}
use Rattle.obj_core.specs.Placement.{code_base}
use Rattle.obj_core.specs.Layout.{layout, code_bytes, trampoline_bytes}
use Rattle.obj_lay.proofs.hidden.Executable.{executable, all_code, all_data, all_hidden}
use Rattle.obj_lay.proofs.hidden.Functions.{exec, at_place, code_laid, neighbours}
use Rattle.obj_lay.proofs.hidden.SlotsStand.{slot_laid}

-- what may be executed of a layout, what may be read of it, and where it is entered
code_is : (o : Object) (seed : ℕ) → code_of (machine_segments (layout o seed)) ≡ executable (trampoline_bytes o seed) (code_base seed) (code_bytes o seed)
unfolding layout
code_is o seed = all_code (trampoline_bytes o seed) o.ro o.rw (code_base seed) (code_bytes o seed)

pub data_is : (o : Object) (seed : ℕ) → data_of (machine_segments (layout o seed)) ≡ data_segments o.ro o.rw
unfolding layout
data_is o seed = all_data (trampoline_bytes o seed) o.ro o.rw (code_base seed) (code_bytes o seed)

pub entry_is : (o : Object) (seed : ℕ) → (layout o seed).entry ≡ slot_start o 0
unfolding layout
entry_is o seed = refl

module _ (o : Object) (w : IsWellFormed o) (seed : ℕ) where
  -- the layout holds each instruction and each slot
  laid : HoldsInstrs (exec o w seed) (at_place o w seed) o w.disassemblies
  laid = record {
    hidden = all_hidden (trampoline_bytes o seed) (code_base seed) (code_bytes o seed);
    code = code_laid o w seed;
    neighbours = neighbours o w seed;
    slots = slot_laid o w seed;
    addresses = λ k at. refl;
  }

  pub is_image : HoldsObject (layout o seed) (at_place o w seed) (is_step_place o w.disassemblies) o
  is_image = record {
    places = subst (λ ss. HoldsPlaces ss (at_place o w seed) (is_step_place o w.disassemblies) o) (sym (code_is o seed)) (instrs_held o w (exec o w seed) (at_place o w seed) laid);
    readable = data_is o seed;
    entry = entry_is o seed;
    some_slot = let some = w.few.some_slot in omega (arith, some);
  }

-- a run of a layout shows what the object shows
pub hidden_layout : (o : Object) → IsWellFormed o → (seed : ℕ) (input : List ℕ) (acts : List Act) → (symbolic_run o input acts).ending ≢ Strayed → observe (machine_run (layout o seed) input acts) ≡ observe (symbolic_run o input acts)
hidden_layout o w seed input acts straight = image_shows (layout o seed) (at_place o w seed) (is_step_place o w.disassemblies) o (is_image o w seed) input acts straight

-- the image allows the writes that the object allows
abbrev Allows : Image → Object → Type 0
Allows image o = (input : List ℕ) (acts : List Act) → (symbolic_run o input acts).ending ≢ Strayed → (at n : ℕ) → is_allowed writes (machine_run image input acts).segments at n ≡ is_allowed writes (symbolic_run o input acts).segments at n

allowed_layout : (o : Object) → IsWellFormed o → (seed : ℕ) → Allows (layout o seed) o
allowed_layout o w seed input acts straight = image_allows (layout o seed) (at_place o w seed) (is_step_place o w.disassemblies) o (is_image o w seed) input acts straight

-- what shows the same and allows the same writes answers the same
module _ (image : Image) (o : Object) (shows : ShowsObject image o) (allows : Allows image o) where
  answer_alike : (input : List ℕ) (acts : List Act) → (symbolic_run o input acts).ending ≢ Strayed → (wish : Wish) → answer_in wish (machine_run image input acts) ≡ answer_in wish (symbolic_run o input acts)
  answer_alike input acts straight (Reads at len) = ap (λ seen. answer_of (reply_to seen at len)) (shows input acts straight)
  answer_alike input acts straight (Writes at bytes) = ap (λ t. if t then Written else Refused) (allows input acts straight at (length bytes))

  replies_alike : RepliesAsObject image o
  replies_alike input [] straight = refl
  replies_alike input (l ∷ ls) straight =
      ap (λ a. a ∷ answers (machine_run image input) ls) (answer_alike input l.before straight.0 l.wish) ∙
      ap (λ rest. answer_in l.wish (symbolic_run o input l.before) ∷ rest) (replies_alike input ls straight.1)

pub hidden_replies : (o : Object) → IsWellFormed o → (seed : ℕ) → RepliesAsObject (layout o seed) o
hidden_replies o w seed = replies_alike (layout o seed) o (hidden_layout o w seed) (allowed_layout o w seed)

-- after each step the same moment
pub layout_agrees : (o : Object) → IsWellFormed o → (seed : ℕ) (input : List ℕ) (n : ℕ) → (symbolic_behavior o input n).ending ≢ Strayed → Agrees (symbolic_behavior o input n) (machine_behavior (layout o seed) input n)
layout_agrees o w seed input n straight = image_agrees (layout o seed) (at_place o w seed) (is_step_place o w.disassemblies) o (is_image o w seed) input n straight

-- what the object preserves, a layout does
pub layout_preserves : (o : Object) → IsWellFormed o → (seed : ℕ) (A : Behavior) → ((input : List ℕ) → AreBytes input → (k : ℕ) → (A input k).ending ≢ Strayed) → Preserves A (symbolic_behavior o) → Preserves A (machine_behavior (layout o seed))
layout_preserves o w seed A straight p = image_preserves (layout o seed) (at_place o w seed) (is_step_place o w.disassemblies) o (is_image o w seed) A straight p

module _ (o : Object) (known : ∥ IsWellFormed o ∥₁) where
  -- observations are equal in one way at most, so a checked object need not say how it is disassembled
  pub layout_shows : (seed : ℕ) → ShowsObject (layout o seed) o
  layout_shows seed input acts straight = ∥∥₁_elim known (hlevel props) (λ w. hidden_layout o w seed input acts straight)

  -- it allows the same writes
  layout_allows : (seed : ℕ) → Allows (layout o seed) o
  layout_allows seed input acts straight at n = ∥∥₁_elim known (hlevel props) (λ w. allowed_layout o w seed input acts straight at n)

  -- and so it answers the same
  pub layout_replies : (seed : ℕ) → RepliesAsObject (layout o seed) o
  layout_replies seed = replies_alike (layout o seed) o (layout_shows seed) (layout_allows seed)

  -- and so do two of them
  pub layouts_alike : (seed other : ℕ) → ShowTheSame (layout o seed) (layout o other) o
  layouts_alike seed other input acts straight = layout_shows seed input acts straight ∙ sym (layout_shows other input acts straight)

-- what may be read, and where it is entered
pub layout_data : (o : Object) (seed : ℕ) → HasDataOf (layout o seed) o
layout_data o seed = record { data_is = data_is o seed; entry = entry_is o seed }
