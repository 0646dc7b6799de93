-- What holds of every state of a run of a module that fits the rules of types.
use Rattle.std.specs.Prelude.{◌≡◌, ◌≢◌, ℕ, ◌+◌, ◌<◌, ◌≤◌, ◌^◌, List, [], ◌∷◌, length, slice_get, if◌then◌else◌, Option, Some, None, Ok, Err, true}
use Rattle.rd_num.specs.declared.width.Width.TheVariants.{W32}
use Rattle.behavior.specs.Ending.{Ending}
use Rattle.behavior.specs.Ending as ending
use Rattle.ir_core.specs.declared.ty.Ty.{Ty}
use Rattle.ir_core.specs.declared.operand.Operand.{Operand}
use Rattle.ir_core.specs.declared.instruction.Arg.{Arg}
use Rattle.ir_core.specs.declared.instruction.Op.TheVariants.{Call}
use Rattle.ir_core.specs.declared.module.Block.{Block}
use Rattle.ir_core.specs.declared.module.Function.{Function}
use Rattle.ir_core.specs.declared.module.GlobalVar.{GlobalVar}
use Rattle.ir_core.specs.declared.module.Module.{Module}
use Rattle.ir_core.specs.declared.memory.Value.{Value}
use Rattle.ir_core.specs.declared.memory.Value.TheVariants.{Num, Null, At, Fun}
use Rattle.ir_core.specs.declared.memory.Cell.{Cell}
use Rattle.ir_core.specs.declared.memory.Cell.TheVariants.{Unset, Byte, Piece}
use Rattle.ir_core.specs.declared.memory.Object0.{Object0}
use Rattle.ir_core.specs.Stops.{Stop, Ended, Divide, Trap, Depth, Left, Malformed, Answer, malformed_number}
use Rattle.ir_core.specs.declared.kind.Kind.{Kind}
use Rattle.ir_core.specs.declared.kind.Kind.TheVariants.{Number, Pointer}
use Rattle.ir_core.specs.Kinds.{kind_of}
use Rattle.ir_core.specs.Shapes.{shape_of}
use Rattle.ir_core.specs.Arithmetic.{IsOfWidth}
use Rattle.ir_core.specs.Memory.{Memory}
use Rattle.ir_core.specs.State.{Local, Frame, State, Turn}
use Rattle.ir_core.specs.Step.{choices_of}
use Rattle.ir_core.specs.Typing.{Env}
use Rattle.ir_core.specs.Valid.{env_of}

-- all items have a property
abbrev pub Each : {X : Type 0} → (X → Type 0) → List X → Type 0
Each P [] = Unit {0}
Each P (x ∷ xs) = P x × Each P xs

-- a stop to which a valid module can come
abbrev pub IsProper : Stop → Type 0
IsProper (Ended status) = Unit {0}
IsProper Divide = Unit {0}
IsProper Trap = Unit {0}
IsProper Depth = Unit {0}
IsProper (Left reason) = Unit {0}
IsProper Malformed = ⊥

-- an answer that has a property, or else a proper stop
abbrev pub Properly : {A : Type 0} → (A → Type 0) → Answer A → Type 0
Properly P (Ok a) = P a
Properly P (Err stop) = IsProper stop

-- so many objects there are, the first of them those of so many globals, and so many functions
pub record Present : Type 0 where
  pub globals : ℕ
  pub objects : ℕ
  pub functions : ℕ

-- a value of a kind
abbrev pub IsOfKind : Present → Kind → Value → Type 0
IsOfKind x (Number w) (Num u n) = (u ≡ w) × IsOfWidth w n
IsOfKind x Pointer Null = Unit {0}
IsOfKind x Pointer (At o d) = (o < x.objects) × (d < 2 ^ 64)
IsOfKind x Pointer (Fun f) = f < x.functions
IsOfKind x kind v = ⊥

-- a cell is unset, a byte, or a piece of a pointer
abbrev pub IsCell : Present → Cell → Type 0
IsCell x Unset = Unit {0}
IsCell x (Byte n) = n < 256
IsCell x (Piece v k) = IsOfKind x Pointer v × (k < 8)

-- how many cells an object has: those of its size while it is live, and none once it is dead
abbrev pub cell_count : Object0 → ℕ
cell_count o = if o.live then o.size else 0

-- an object holds cells, as many as it should
pub record IsObject (x : Present) (o : Object0) : Type 0 where
  pub count : length o.cells ≡ cell_count o
  pub cells : Each (IsCell x) o.cells

-- a local has a value of its kind
abbrev pub IsLocal : Present → Env → Local → Type 0
IsLocal x env l = (kind : Kind) × (env l.name ≡ Some kind) × IsOfKind x kind l.value

-- an object that an alloca made: it is there, and no global's
abbrev pub IsOwn : Present → ℕ → Type 0
IsOwn x o = (x.globals ≤ o) × (o < x.objects)

-- a call stands in a function and a block of it, past the phis and at most at the terminator
pub record IsInBlock (m : Module) (x : Present) (f : Frame) : Type 0 where
  pub fn : Function
  pub block : Block
  pub in_module : slice_get m.functions f.function ≡ Some fn
  pub in_function : slice_get fn.blocks f.block ≡ Some block
  pub past_phis : length (choices_of block.insts) ≤ f.next
  pub within : f.next ≤ length block.insts
  pub locals : Each (IsLocal x (env_of fn)) f.locals
  pub objects : Each (IsOwn x) f.objects

-- the local that waits for a result is of the result's kind
abbrev pub Awaits : Env → Option (List ℕ) → Kind → Type 0
Awaits env (Some name) kind = env name ≡ Some kind
Awaits env None kind = Unit {0}

-- a place of a block is just behind a call that gives a result of a kind to a local
pub record IsPastCall (b : Block) (next : ℕ) (into : Option (List ℕ)) (kind : Kind) : Type 0 where
  pub place : ℕ
  pub ret : Ty
  pub callee : Operand
  pub arguments : List Arg
  pub at_place : slice_get b.insts place ≡ Some (record { result = into; op = Call ret callee arguments })
  pub behind : next ≡ place + 1
  pub gives : kind_of ret ≡ kind

-- a call waits for a result of a kind in a local
pub record IsWaiting (m : Module) (x : Present) (kind : Kind) (into : Option (List ℕ)) (g : Frame) : Type 0 where
  pub stands : IsInBlock m x g
  pub past : IsPastCall stands.block g.next into kind
  pub awaits : Awaits (env_of stands.fn) into kind

-- so do calls, each for the result of the one inside it; the first call of the run gives an i32
abbrev pub AreWaiting : Module → Present → Kind → Option (List ℕ) → List Frame → Type 0
AreWaiting m x kind into [] = kind ≡ Number W32
AreWaiting m x kind into (g ∷ gs) = (w : IsWaiting m x kind into g) × AreWaiting m x (kind_of w.stands.fn.ret) g.into gs

-- the calls of a run that goes on: there is one
abbrev pub AreCalls : Module → Present → List Frame → Type 0
AreCalls m x [] = ⊥
AreCalls m x (f ∷ callers) = (s : IsInBlock m x f) × AreWaiting m x (kind_of s.fn.ret) f.into callers

-- what there is
abbrev pub present : Module → Memory → Present
present m objects = record { globals = length m.globals; objects = length objects; functions = length m.functions }

-- the object of a global: live, as large as the global's type, and constant where the global is
abbrev pub IsGlobal : Module → GlobalVar → Object0 → Type 0
IsGlobal m g o = (o.live ≡ true) × (o.size ≡ (shape_of m.types g.ty).size) × (o.constant ≡ g.constant)

-- the globals are the first objects, in their order
abbrev pub AreGlobals : Module → List GlobalVar → Memory → Type 0
AreGlobals m [] objects = Unit {0}
AreGlobals m (g ∷ gs) [] = ⊥
AreGlobals m (g ∷ gs) (o ∷ os) = IsGlobal m g o × AreGlobals m gs os

-- calls over memory, in which the globals stand
pub record AreOver (m : Module) (frames : List Frame) (objects : Memory) : Type 0 where
  pub calls : AreCalls m (present m objects) frames
  pub cells : Each (IsObject (present m objects)) objects
  pub globals : AreGlobals m m.globals objects

-- a step that goes on keeps the calls and memory so
abbrev pub IsTypedTurn : Module → Turn → Type 0
IsTypedTurn m t = AreOver m t.frames t.objects

-- an ending to which a valid module can come
abbrev pub IsProperEnding : Ending → Type 0
IsProperEnding e = e ≢ ending.Left malformed_number

-- the state of a run: it has stopped properly, or goes on from calls over memory
abbrev pub IsWellTyped : Module → State → Type 0
IsWellTyped m s = AreOver m s.frames s.objects × IsProperEnding s.ending
