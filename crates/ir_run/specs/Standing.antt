-- When a run over numbers stands for one of the meaning over names.
use Rattle.std.specs.Prelude.{ℕ, ◌≡◌, ◌-◌, ◌^◌, ◌≤◌, List, [], ◌∷◌, length, slice_get, Option, Some, None, Ok, Err, ◌⊎◌}
use Rattle.rd_num.specs.declared.width.Width.{Width}
use Rattle.rd_num.specs.declared.width.Width.TheVariants.{W32}
use Rattle.ir_core.specs.declared.operand.Operand.{Operand}
use Rattle.ir_core.specs.declared.instruction.Arg.{Arg}
use Rattle.ir_core.specs.declared.instruction.Inst.{Inst}
use Rattle.ir_core.specs.declared.instruction.Op.TheVariants.{Call}
use Rattle.ir_core.specs.declared.module.Block.{Block}
use Rattle.ir_core.specs.declared.module.Function.{Function}
use Rattle.ir_core.specs.declared.module.Module.{Module}
use Rattle.ir_core.specs.declared.memory.Value.{Value}
use Rattle.ir_core.specs.declared.memory.Value.TheVariants.{Num}
use Rattle.ir_core.specs.declared.ty.Ty.{Ty}
use Rattle.ir_core.specs.Memory.{Memory}
use Rattle.ir_core.specs.State as model
use Rattle.ir_core.specs.Stops.{Answer, Malformed}
use Rattle.ir_core.specs.Operands.{values_of}
use Rattle.ir_core.specs.declared.outer.Outer.TheVariants.{Memset}
use Rattle.ir_core.specs.Calls.{Outside, target_of}
use Rattle.ir_context.specs.Registers.{StandFor, number_of}
use Rattle.ir_program.specs.Programs.{register_names}
use Rattle.ir_run.specs.declared.state.Frame.{Frame}
use Rattle.ir_run.specs.declared.state.State.{State}
use Rattle.ir_run.specs.declared.state.Asked.{Asked}
use Rattle.ir_run.specs.declared.state.Asked.TheVariants.{Nothing, Print, Take}
use Rattle.ir_run.specs.Turns.{Turned, gives}

-- the names of the registers of a function, where it is there
abbrev pub names_of : Option Function → List (List ℕ)
names_of (Some f) = register_names f
names_of None = []

abbrev pub names_at : Module → ℕ → List (List ℕ)
names_at m number = names_of (slice_get m.functions number)

-- a call stands for a call: its registers for the locals
pub record FrameStands (m : Module) (f : Frame) (g : model.Frame) : Type 0 where
  pub function : f.function ≡ g.function
  pub block : f.block ≡ g.block
  pub next : f.next ≡ g.next
  pub registers : StandFor (names_at m g.function) f.registers g.locals
  pub long : length f.registers ≡ length (names_at m g.function)
  pub objects : f.objects ≡ g.objects

-- a register stands for a local
abbrev pub IntoStands : List (List ℕ) → Option ℕ → Option (List ℕ) → Type 0
IntoStands names None None = Unit {0}
IntoStands names (Some k) (Some name) = number_of names name ≡ Some k
IntoStands names None (Some name) = ⊥
IntoStands names (Some k) None = ⊥

-- callers stand for callers, and each waits for the result of the call in front of it
abbrev pub Waiting : Module → Option ℕ → Option (List ℕ) → List Frame → List model.Frame → Type 0
Waiting m into name [] [] = Unit {0}
Waiting m into name [] (g ∷ gs) = ⊥
Waiting m into name (f ∷ fs) [] = ⊥
Waiting m into name (f ∷ fs) (g ∷ gs) = IntoStands (names_at m g.function) into name × FrameStands m f g × Waiting m f.into g.into fs gs

-- a call and its callers
abbrev pub CallsStand : Module → Frame → List Frame → List model.Frame → Type 0
CallsStand m f fs [] = ⊥
CallsStand m f fs (g ∷ gs) = FrameStands m f g × Waiting m f.into g.into fs gs

-- all calls, over the same objects
pub record StandsFor (m : Module) (s : State) (frames : List model.Frame) (objects : Memory) : Type 0 where
  pub calls : CallsStand m s.frame s.callers frames
  pub memory : s.memory ≡ objects

-- the innermost call stands at a fill with a number that is no byte; no valid module comes there
pub record FillsWide (m : Module) (frames : List model.Frame) : Type 0 where
  pub frame : model.Frame
  pub callers : List model.Frame
  pub function : Function
  pub block : Block
  pub inst : Inst
  pub are : frames ≡ frame ∷ callers
  pub in_function : slice_get m.functions frame.function ≡ Some function
  pub in_block : slice_get function.blocks frame.block ≡ Some block
  pub at : slice_get block.insts frame.next ≡ Some inst
  pub ret : Ty
  pub callee : Operand
  pub arguments : List Arg
  pub calls : inst.op ≡ Call ret callee arguments
  pub target : target_of m frame.locals callee ≡ Ok (Outside Memset)
  pub to : Value
  pub width : Width
  pub byte : ℕ
  pub width2 : Width
  pub count : ℕ
  pub volatile : Value
  pub values : values_of m frame.locals arguments ≡ Ok (to ∷ Num width byte ∷ Num width2 count ∷ volatile ∷ [])
  pub wide : 256 ≤ byte

-- a turn came to a state that stands for the new one, with this exchange
pub record Came (m : Module) (s : State) (answer : Answer model.Turn) (exchange : model.Exchange) : Type 0 where
  pub turn : model.Turn
  pub is : answer ≡ Ok turn
  pub exchanged : turn.exchange ≡ exchange
  pub stands : StandsFor m s turn.frames turn.objects

-- a turn that asks for a byte came there with the next byte of the input, or with its end
pub record CameWith (m : Module) (s : State) (into : Option ℕ) (next : Option ℕ) (answer : Answer model.Turn) : Type 0 where
  pub byte : (b : ℕ) → next ≡ Some b → Came m (gives s into (Num W32 b)) answer model.Take
  pub end : next ≡ None → Came m (gives s into (Num W32 (2 ^ 32 - 1))) answer model.Nothing

-- the same by what a turn asks for
abbrev pub CameAsked : Module → State → Asked → Option ℕ → Answer model.Turn → Type 0
CameAsked m s Nothing next answer = Came m s answer model.Nothing
CameAsked m s (Print byte) next answer = Came m s answer (model.Print byte)
CameAsked m s (Take into) next answer = CameWith m s into next answer

-- what the innermost call does next stands for what the meaning says, from these calls and with this next byte
abbrev pub Meets : Module → List model.Frame → Option ℕ → Answer Turned → Answer model.Turn → Type 0
Meets m frames next (Err stop) answer = (answer ≡ Err stop) ⊎ ((stop ≡ Malformed) × FillsWide m frames)
Meets m frames next (Ok t) answer = CameAsked m t.state t.asked next answer
