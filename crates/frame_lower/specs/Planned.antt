-- The addresses and frames of a program, as programs of registers see them.
use Rattle.std.specs.Prelude.{◌≡◌, ℕ, List, [], ◌∷◌, length, map, All, slice_get, Some}
use Rattle.low_core.specs.declared.sel.Home.{Home}
use Rattle.low_core.specs.declared.sel.SelFun.{SelFun}
use Rattle.low_core.specs.declared.sel.Sel.{Sel}
use Rattle.low_core.specs.Plan.{FramePlan, Plan}
use Rattle.frame_lower.specs.Frames.{frame_plan}
use Rattle.frame_lower.specs.Functions.{Choices, slot_number}
use Rattle.frame_lower.specs.Given.{IsInFrame}

abbrev pub frames_of : List SelFun → List (List Home) → List FramePlan
frames_of [] homes = []
frames_of (f ∷ fs) [] = []
frames_of (f ∷ fs) (hs ∷ hss) = frame_plan f hs ∷ frames_of fs hss

abbrev pub plan_of : Choices → Sel → Plan
plan_of c sel = record { globals = c.placing.globals; functions = map slot_number c.slots.pointers; frames = frames_of sel.functions c.homes }

-- homes that are words of the frame, one for each register
pub record HasOwn (f : SelFun) (homes : List Home) : Type 0 where
  pub long : length homes ≡ f.registers
  pub in_frame : All IsInFrame homes
  pub apart : (x y : ℕ) (h : Home) → slice_get homes x ≡ Some h → slice_get homes y ≡ Some h → x ≡ y

-- for each of the functions
abbrev pub HaveOwn : List SelFun → List (List Home) → Type 0
HaveOwn [] [] = Unit {0}
HaveOwn (f ∷ fs) (hs ∷ hss) = HasOwn f hs × HaveOwn fs hss
HaveOwn [] (hs ∷ hss) = ⊥
HaveOwn (f ∷ fs) [] = ⊥
