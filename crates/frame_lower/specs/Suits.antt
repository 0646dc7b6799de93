-- What an object has to be for a program of registers, so that it does what the program does.
use Rattle.std.specs.Prelude.{◌≡◌, ℕ, ◌+◌, ◌*◌, ◌^◌, ◌<◌, ◌≤◌, true, List, ◌∷◌, length, take, pos, slice_get, Some}
use Rattle.ir_core.specs.declared.TheConstants.{MAX_CALLS}
use Rattle.x86_core.specs.declared.instr.Instr.TheVariants.{Jmp}
use Rattle.x86_core.specs.declared.reg.Reg.{Reg}
use Rattle.x86_core.specs.Data.{stack_start, stack_end}
use Rattle.x86_rows.specs.Saving.{IsStack, IsOneOf}
use Rattle.low_core.specs.declared.sel.Which.TheVariants as outer
use Rattle.low_core.specs.declared.sel.SelBlock.{SelBlock}
use Rattle.low_core.specs.declared.sel.SelFun.{SelFun}
use Rattle.low_core.specs.declared.sel.SelOp.{SelOp}
use Rattle.low_core.specs.declared.sel.SelOp.TheVariants.{Call, CallAt, Outside}
use Rattle.low_core.specs.declared.sel.Sel.{Sel}
use Rattle.low_core.specs.Plan.{Plan, Content, PlanFits, IsTaken, global_spans, first_bytes}
use Rattle.low_core.specs.SelShaped.{IsSel}
use Rattle.low_core.specs.SelWeights.{words_passed}
use Rattle.slot_plan.specs.Slots.{routine_place}
use Rattle.obj_core.specs.declared.object.Object.{Object}
use Rattle.obj_core.specs.declared.object.Slot.{Slot}
use Rattle.obj_core.specs.declared.object.CodeAt.{CodeAt}
use Rattle.obj_core.specs.declared.object.Place.{Place}
use Rattle.obj_core.specs.Slots.{slot_start}
use Rattle.obj_core.specs.SymbolicMachine.{at_code}
use Rattle.obj_rows.specs.Marked.{Marked, linked, row_size, Stands, IsFunction}
use Rattle.obj_rows.specs.Standing.{first_core}
use Rattle.obj_rows.specs.Routines.{AreRoutines}
use Rattle.frame_rows.specs.declared.spot.Spot.TheVariants.{Frame}
use Rattle.frame_rows.specs.Bodies.{addresses_of}
use Rattle.frame_rows.specs.Ties.{is_home, IsHome, Differ, Contains}
use Rattle.frame_lower.specs.Frames.{kept_bytes}
use Rattle.frame_lower.specs.Rows.{Making}
use Rattle.frame_lower.specs.Alive.{Allotted}
use Rattle.frame_lower.specs.Chain.{upward, function_in, slot_behind, code_in}

-- a slot of an object, which goes back to a place
pub record GoesBackTo (o : Object) (k : ℕ) (slot : CodeAt → Slot) (place : Place) : Type 0 where
  pub back : CodeAt
  pub is_slot : slice_get o.slots k ≡ Some (slot back)
  pub is_place : at_code back ≡ place

-- the slot by which an operation goes, and the place to which that goes back; the routines stand behind so many functions
abbrev pub HasSlot : Object → ℕ → ℕ → Place → SelOp → Type 0
HasSlot o count k place (Call g r args) = GoesBackTo o k (λ back. Slot.Call g back) place
HasSlot o count k place (CallAt s r args) = GoesBackTo o k Slot.Indirect place
HasSlot o count k place (Outside outer.Trap r args) = Unit {0}
HasSlot o count k place (Outside which r args) = GoesBackTo o k (λ back. Slot.Call (count + routine_place which) back) place
HasSlot o count k place other = Unit {0}

-- the slot of a pointer, whose start is the pointer's address
pub record IsPointer (o : Object) (g at : ℕ) : Type 0 where
  pub slot : ℕ
  pub is_slot : slice_get o.slots slot ≡ Some (Slot.Jump g)
  pub address : at ≡ slot_start o slot

-- how the functions are made, and what lives before each operation of each block of each function
pub record Suits (o : Object) (sel : Sel) (plan : Plan) (contents : List Content) (by : ℕ → Making) (live : ℕ → ℕ → ℕ → ℕ → Type 0) : Type 0 where
  -- the program, and a plan with addresses and frames for it
  pub is_sel : IsSel sel
  pub fits : PlanFits sel contents plan
  -- each function's code is made of its rows, and is no longer than branches reach
  pub codes : (g : ℕ) (fn : SelFun) → slice_get sel.functions g ≡ Some fn → IsFunction o g (code_in sel by g)
  pub short : (g : ℕ) (fn : SelFun) → slice_get sel.functions g ≡ Some fn → row_size (code_in sel by g) < 2 ^ 31
  -- they name the addresses of the plan
  pub addresses : (g : ℕ) → (by g).plan ≡ addresses_of plan.globals plan.functions
  -- frames have the words of arguments that are passed, those of homes, and the function's own memory, with five registers and the way back above
  pub frames : (g : ℕ) (fn : SelFun) → slice_get sel.functions g ≡ Some fn → slice_get plan.frames g ≡ Some (record { bytes = (by g).room + kept_bytes; allocas = 8 * (by g).words })
  pub rooms : (g : ℕ) (fn : SelFun) → slice_get sel.functions g ≡ Some fn → (by g).room ≡ 8 * (by g).words + fn.frame
  pub passed : (g : ℕ) (fn : SelFun) → slice_get sel.functions g ≡ Some fn → words_passed fn ≤ (by g).words
  -- the five registers that homes may be are pushed
  pub five : (g : ℕ) → length (by g).order ≡ 5
  pub pushed : (g : ℕ) (r : Reg) → is_home r ≡ true → IsOneOf r (upward (by g).order)
  -- homes are among them or words of the frame, behind those that are passed, and keep what lives
  pub homes : (g x : ℕ) → IsHome (by g).words ((by g).homes x)
  pub behind : (g k n x j : ℕ) → live g k n x → j < words_passed (function_in sel g) → Differ ((by g).homes x) (Frame j)
  pub allotted : (g : ℕ) (fn : SelFun) → slice_get sel.functions g ≡ Some fn → Allotted fn (by g).homes (live g)
  -- where a jump to the slot of an operation stands, there is this slot, and it goes back behind the jump
  pub calls : (g k n off : ℕ) (fn : SelFun) (b : SelBlock) (op : SelOp) (rest : List Marked) → slice_get sel.functions g ≡ Some fn → slice_get fn.blocks k ≡ Some b → slice_get b.ops n ≡ Some op →
      Stands (code_in sel by g) off (linked (Jmp (pos 0)) (slot_behind sel g k (take n b.ops)) ∷ rest) → HasSlot o (length sel.functions) (slot_behind sel g k (take n b.ops)) (Place.Code g (off + 5)) op
  -- the address of a function to which a pointer may arise is that of its slot
  pub pointers : (g at : ℕ) → IsTaken sel plan g at → IsPointer o g at
  -- slots are few enough to have words
  pub few : length o.slots ≤ 1048576
  -- the routines stand behind the functions
  pub routines : AreRoutines o (length sel.functions) sel.main MAX_CALLS
  -- memory at first: the stack may be used, and the globals are there
  pub stack : IsStack stack_start stack_end (first_core o).segments
  pub globals : Contains stack_end 0 (record { spans = global_spans plan.globals contents; bytes = first_bytes plan.globals contents }) (first_core o).segments
