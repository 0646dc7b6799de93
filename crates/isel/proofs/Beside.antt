-- What ties a state of a run of a module to a state of the run of the program of registers that is selected for it.
use Rattle.std.proofs.Common.{◌≡◌, ℕ, zero, suc, ◌+◌, ◌*◌, ◌≤◌, List, [], ◌∷◌, Bool, true, map, length, take, Option, Some, ◌⊎◌}
use Rattle.std.specs.Prelude.{slice_get}
use Rattle.behavior.specs.Ending.{is_left}
use Rattle.behavior.specs.Moment.{Agrees, HasStopped}
use Rattle.behavior.specs.System.{iter}
use Rattle.ir_core.specs.declared.memory.Value.{Value}
use Rattle.ir_core.specs.declared.module.Block.{Block}
use Rattle.ir_core.specs.declared.module.Function.{Function}
use Rattle.ir_core.specs.declared.module.Module.{Module}
use Rattle.ir_core.specs.declared.ty.NamedTy.{NamedTy}
use Rattle.ir_core.specs.Counts.{greatest}
use Rattle.ir_core.specs.Memory.{Memory}
use Rattle.ir_core.specs.State.{Local, Frame, State, source_moment}
use Rattle.ir_core.specs.Valid.{named_locals}
use Rattle.ir_sound.specs.WellTyped.{IsWellTyped}
use Rattle.ir_context.specs.Registers.{register, StandFor}
use Rattle.x86_core.specs.Data.{stack_end}
use Rattle.low_core.specs.Flat.{Bytes}
use Rattle.low_core.specs.Plan.{FramePlan, Plan, Content}
use Rattle.low_core.specs.Contents.{Addresses, word_of}
use Rattle.low_core.specs.Bridge.{Setting, CallMemory, IsKnown, Bridges}
use Rattle.low_core.specs.Weights.{allocas_room}
use Rattle.low_core.specs.SelState.{SelFrame, SelState, sel_moment, top_of}
use Rattle.low_core.specs.SelStep.{sel_step}
use Rattle.flat_memory.specs.Accesses.{AreFree}
use Rattle.isel_rows.specs.Variables.{variables_of, registers_count}
use Rattle.isel_rows.specs.Calls.{register_into}
use Rattle.isel_rows.specs.Functions.{allocas_in, insts_ops}
use Rattle.isel_rows.specs.Selected.{module_selected}

-- the bytes of the allocas of the blocks in front of one
abbrev pub allocas_before : List NamedTy → List Block → ℕ → ℕ
allocas_before types [] number = 0
allocas_before types (b ∷ bs) zero = 0
allocas_before types (b ∷ bs) (suc number) = allocas_in types b.insts + allocas_before types bs number

-- registers hold the words of the values of variables, where these have values, all of them values that can arise
pub record Holds (objects : ℕ) (taken : List Bool) (at : Addresses) (names : List (List ℕ)) (locals : List Local) (registers : List (Option ℕ)) : Type 0 where
  pub values : List (Option Value)
  pub count : length values ≡ length names
  pub stand : StandFor names values locals
  pub words : (k : ℕ) (v : Value) → register values k ≡ Some v → slice_get registers k ≡ Some (Some (word_of at v))
  pub known : (k : ℕ) (v : Value) → register values k ≡ Some v → IsKnown objects taken v

-- a call of a module, and the call of registers in its place
pub record IsCallBeside (m : Module) (g : Setting) (objects : Memory) (at : Addresses) (f : Frame) (h : SelFrame) : Type 0 where
  pub fn : Function
  pub block : Block
  pub in_module : slice_get m.functions f.function ≡ Some fn
  pub in_function : slice_get fn.blocks f.block ≡ Some block
  pub function : h.function ≡ f.function
  pub same_block : h.block ≡ f.block
  -- it stands in front of the operations of the same instruction
  pub next : h.next ≡ length (insts_ops m (variables_of fn) (allocas_before m.types fn.blocks f.block) (take f.next block.insts))
  pub registers : length h.registers ≡ registers_count (variables_of fn) fn
  pub holds : Holds (length objects) g.taken at (named_locals (variables_of fn)) f.locals h.registers
  -- of its own memory so much is left, behind the allocas that were done
  pub size : h.own.size ≡ allocas_room m.types fn
  pub writable : h.own.writable ≡ true
  pub left : ℕ
  pub whole : allocas_before m.types fn.blocks f.block + allocas_in m.types (take f.next block.insts) + left ≡ h.own.size
  pub free : AreFree g objects at (h.own.start + (allocas_before m.types fn.blocks f.block + allocas_in m.types (take f.next block.insts))) left

-- the greatest frame of a plan
abbrev pub greatest_frame : Plan → ℕ
greatest_frame plan = greatest (map (λ (p : FramePlan). p.bytes) plan.frames)

-- a call stands on the stack on top of its callers, with its own memory inside of its frame
pub record IsOnTop (plan : Plan) (h : SelFrame) (callers : List SelFrame) : Type 0 where
  pub frame : FramePlan
  pub planned : slice_get plan.frames h.function ≡ Some frame
  pub base : h.base + frame.bytes ≡ top_of callers
  pub start : h.own.start ≡ h.base + frame.allocas
  pub inside : frame.allocas + h.own.size ≤ frame.bytes
  pub room : stack_end ≤ h.base + (1 + length callers) * greatest_frame plan

-- the register that waits for a result is that of the local that waits for it
abbrev pub WaitsIn : Module → List Frame → Option (List ℕ) → Option ℕ → Type 0
WaitsIn m [] into r = Unit {0}
WaitsIn m (f ∷ fs) into r = (fn : Function) → slice_get m.functions f.function ≡ Some fn → r ≡ register_into (variables_of fn) into

-- calls beside calls
abbrev pub AreBeside : Module → Setting → Memory → Addresses → List Frame → List SelFrame → Type 0
AreBeside m g objects at [] [] = Unit {0}
AreBeside m g objects at [] (h ∷ hs) = ⊥
AreBeside m g objects at (f ∷ fs) [] = ⊥
AreBeside m g objects at (f ∷ fs) (h ∷ hs) = IsCallBeside m g objects at f h × IsOnTop g.plan h hs × WaitsIn m fs f.into h.into × AreBeside m g objects at fs hs

-- the calls as both memories see them
abbrev pub memories : List Frame → List SelFrame → List CallMemory
memories [] hs = []
memories (f ∷ fs) [] = []
memories (f ∷ fs) (h ∷ hs) = record { own = h.own; objects = f.objects } ∷ memories fs hs

-- what stays the same in a run of the program that is selected
abbrev pub setting_of : Module → Plan → List Content → Setting
setting_of m plan contents = record { plan = plan; contents = contents; taken = (module_selected m).taken }

-- calls and objects of a module, and calls and bytes beside them
pub record IsBeside (m : Module) (g : Setting) (frames : List Frame) (objects : Memory) (sel_frames : List SelFrame) (bytes : Bytes) : Type 0 where
  pub at : Addresses
  pub calls : AreBeside m g objects at frames sel_frames
  pub tied : Bridges g (memories frames sel_frames) objects at bytes

-- a state of registers that shows what a state of a module shows
abbrev pub state_of : State → List SelFrame → Bytes → SelState
state_of s frames bytes = record { frames = frames; bytes = bytes; printed = s.printed; taken = s.taken; ending = s.ending }

-- what is free in a state of registers, with the facts on it
pub record Rest (m : Module) (g : Setting) (s : State) : Type 0 where
  pub frames : List SelFrame
  pub bytes : Bytes
  pub typed : IsWellTyped m s
  pub beside : IsBeside m g s.frames s.objects frames bytes

-- where some steps of the program of registers lead: beside, or to the same stop
pub record IsThere (m : Module) (g : Setting) (s : State) (t : SelState) : Type 0 where
  pub frames : List SelFrame
  pub bytes : Bytes
  pub is : t ≡ state_of s frames bytes
  pub beside : IsBeside m g s.frames s.objects frames bytes

abbrev pub Lands : Module → Setting → State → SelState → Type 0
Lands m g s t = IsThere m g s t ⊎ (HasStopped (source_moment s) × Agrees (source_moment s) (sel_moment t))

-- the step leaves the meaning, or so many steps meet it
abbrev pub Meets : Module → Setting → List ℕ → ℕ → SelState → State → Type 0
Meets m g input count t s = (is_left s.ending ≡ true) ⊎ Lands m g s (iter (sel_step (module_selected m) g.plan g.contents input) count t)
