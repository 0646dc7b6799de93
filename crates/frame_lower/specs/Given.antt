-- What the code of a program asks of the homes of its registers.
use Rattle.std.specs.Prelude.{ℕ, ◌^◌, ◌<◌, ◌≤◌, List, [], ◌∷◌, length, All}
use Rattle.ir_core.specs.declared.limit.TheConstants.{MAX_PARAMETERS, MAX_FRAME, MAX_CODE}
use Rattle.low_core.specs.declared.sel.Home.{Home}
use Rattle.low_core.specs.declared.sel.Home.TheVariants as home
use Rattle.low_core.specs.declared.sel.SelBlock.{SelBlock}
use Rattle.low_core.specs.declared.sel.SelFun.{SelFun}
use Rattle.low_core.specs.declared.sel.SelOp.{SelOp}
use Rattle.low_core.specs.declared.sel.SelOp.TheVariants.{FrameAt}
use Rattle.low_core.specs.declared.sel.Sel.{Sel}
use Rattle.low_core.specs.SelShaped.{IsSel}
use Rattle.low_core.specs.SelWeights.{arguments_of, sel_function_weight, sel_room}
use Rattle.std.specs.List.{sum_by}
use Rattle.slot_plan.specs.Slots.{IsPlan}
use Rattle.frame_lower.specs.Frames.{words_to}
use Rattle.frame_lower.specs.Functions.{Choices}
use Rattle.frame_lower.specs.Blocks.{calls_of_blocks}

-- a function has fewer words of homes than registers
abbrev pub HasPlaces : SelFun → List Home → Type 0
HasPlaces f homes = All (λ (h : Home). words_to h ≤ f.registers) homes

-- homes for each of the functions
abbrev pub HavePlaces : List SelFun → List (List Home) → Type 0
HavePlaces [] [] = Unit {0}
HavePlaces (f ∷ fs) (hs ∷ hss) = HasPlaces f hs × HavePlaces fs hss
HavePlaces [] (hs ∷ hss) = ⊥
HavePlaces (f ∷ fs) [] = ⊥

-- an operation names no place past the function's own memory
abbrev pub NamesPlace : SelFun → SelOp → Type 0
NamesPlace f (FrameAt r at) = at ≤ f.frame
NamesPlace f other = Unit {0}

-- a function within the limits: its frame, its parameters, the arguments of its calls, and its code
pub record IsSmall (f : SelFun) : Type 0 where
  pub room : sel_room f ≤ MAX_FRAME
  pub params : length f.params ≤ MAX_PARAMETERS
  pub few : All (λ (b : SelBlock). All (λ op. arguments_of op ≤ MAX_PARAMETERS) b.ops) f.blocks
  pub places : All (λ (b : SelBlock). All (NamesPlace f) b.ops) f.blocks
  pub light : sel_function_weight f ≤ MAX_CODE

-- the calls of functions
abbrev pub calls_of_functions : List SelFun → ℕ
calls_of_functions fs = sum_by (λ (f : SelFun). calls_of_blocks f.blocks) fs

-- a register that lives in the frame
abbrev pub IsInFrame : Home → Type 0
IsInFrame (home.Color c) = ⊥
IsInFrame (home.Frame k) = Unit {0}

-- each register of a program's functions does
abbrev pub AreInFrame : List (List Home) → Type 0
AreInFrame homes = All (λ (hs : List Home). All IsInFrame hs) homes

-- what a program's code is made of fits the program: places for all registers, slots as they are planned, and addresses
pub record AreChosen (c : Choices) (sel : Sel) (slot_draw : ℕ) : Type 0 where
  pub shaped : IsSel sel
  pub places : HavePlaces sel.functions c.homes
  pub in_frame : AreInFrame c.homes
  pub plan : IsPlan sel slot_draw c.slots
  pub addresses : All (λ at. at < 2 ^ 64) c.placing.globals
