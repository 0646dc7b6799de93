-- What each pass may ask of the program that it takes: names are defined, types agree, counts are within their limits.
use Rattle.std.specs.Prelude.{◌≡◌, ℕ, ◌+◌, ◌<◌, ◌≤◌, List, [], length, All, Bool, true, false, ◌&&◌}
use Rattle.std.specs.List.{list_all, sum_by, enumerate_from}
use Rattle.ir_core.specs.declared.limit.TheConstants.{MAX_NESTING, MAX_SIZE, MAX_FUNCTIONS, MAX_PARAMETERS, MAX_FRAME, MAX_CODE}
use Rattle.ir_core.specs.declared.operand.Operand.TheVariants.{Local as LocalName}
use Rattle.ir_core.specs.declared.instruction.Inst.{Inst}
use Rattle.ir_core.specs.declared.instruction.Op.{Op}
use Rattle.ir_core.specs.declared.instruction.Op.TheVariants.{Call, Phi, Freeze}
use Rattle.ir_core.specs.declared.instruction.Term.{Term}
use Rattle.ir_core.specs.declared.instruction.Term.TheVariants.{Ret, RetValue, Switch}
use Rattle.ir_core.specs.declared.module.Block.{Block}
use Rattle.ir_core.specs.declared.module.Extern.{Extern}
use Rattle.ir_core.specs.declared.module.Function.{Function}
use Rattle.ir_core.specs.declared.module.GlobalVar.{GlobalVar}
use Rattle.ir_core.specs.declared.module.Module.{Module}
use Rattle.ir_core.specs.Built.{named_built, init_built}
use Rattle.ir_core.specs.Counts.{depth_of, size_count, parameter_counts}
use Rattle.ir_core.specs.Definitions.{type_names, label_names, param_names, repeated}
use Rattle.ir_core.specs.Mentions.{written_types}
use Rattle.ir_core.specs.Refusals.{symbols, unknown, external, main_of, has_main}
use Rattle.ir_core.specs.Typing.{kind_given, into_fits}
use Rattle.ir_core.specs.Valid.{env_of, op_rules, names_value, alloca_fits, end_fits, function_fits, declaration_fits, init_fits}
use Rattle.low_core.specs.declared.moves.MoveOp.{MoveOp}
use Rattle.low_core.specs.declared.moves.MoveOp.TheVariants.{Keep, Copy}
use Rattle.low_core.specs.declared.moves.Move.{Move}
use Rattle.low_core.specs.declared.moves.Chunk.{Chunk}
use Rattle.low_core.specs.declared.moves.Body.{Body}
use Rattle.low_core.specs.declared.moves.Low.{Low}
use Rattle.low_core.specs.declared.moves.Lean.{Lean}
use Rattle.low_core.specs.Plain.{plain}
use Rattle.low_core.specs.Weights.{weight, room, low_own, lean_own}

-- an instruction that is kept is neither a phi nor a `freeze`
abbrev pub is_kept : Op → Bool
is_kept (Phi ty entries) = false
is_kept (Freeze ty a) = false
is_kept op = true

abbrev pub keeps_moves : MoveOp → Bool
keeps_moves (Keep op) = is_kept op
keeps_moves (Copy ty a) = true

-- a body has a chunk, and its moves are moves
abbrev pub IsBody : Body → Type 0
IsBody b = (0 < length b.chunks) × (list_all (λ (c : Chunk). list_all (λ (x : Move). keeps_moves x.op) c.moves) b.chunks ≡ true)

-- a move of a function in a chunk of that number: its types, and one kind for all that a variable is assigned
abbrev pub move_fits : Module → Function → ℕ → Inst → Bool
move_fits m f chunk i =
    (op_rules m (env_of f) i.op && names_value i.result (kind_given i.op)) && (into_fits (env_of f) i.result (kind_given i.op) && alloca_fits chunk i.op)

-- a chunk with its number
abbrev pub chunk_fits : Module → Function → ℕ × Block → Bool
chunk_fits m f (number, b) = list_all (move_fits m f number) b.insts && end_fits m f b.end

-- a function: its type, its parts, and no label and no parameter's name twice
pub record IsFunctionShaped (own : ℕ) (m : Module) (f : Function) : Type 0 where
  pub typed : function_fits f ≡ true
  pub fits : list_all (chunk_fits m f) (enumerate_from 0 f.blocks) ≡ true
  pub labels : repeated [] (label_names f) ≡ []
  pub params : repeated [] (param_names f) ≡ []
  pub room : room own m.types f ≤ MAX_FRAME

-- the module for which bodies stand
pub record IsModuleShaped (own : ℕ) (m : Module) : Type 0 where
  pub types_apart : repeated [] (type_names m) ≡ []
  pub symbols_apart : repeated [] (symbols m) ≡ []
  pub known : unknown m ≡ []
  pub nested : All (λ ty. depth_of m.types ty ≤ MAX_NESTING) (written_types m)
  pub sized : All (λ ty. size_count m.types ty ≤ MAX_SIZE) (written_types m)
  pub few : length m.functions ≤ MAX_FUNCTIONS
  pub passed : All (λ n. n ≤ MAX_PARAMETERS) (parameter_counts m)
  pub outside : external m ≡ []
  pub main : has_main (main_of m) ≡ true
  pub globals : All (λ (g : GlobalVar). init_fits m g.init g.ty ≡ true) m.globals
  pub types_built : list_all named_built m.types ≡ true
  pub inits_built : list_all (λ (g : GlobalVar). init_built g.init) m.globals ≡ true
  pub declared : All (λ (e : Extern). declaration_fits e ≡ true) m.externs
  pub functions : All (IsFunctionShaped own m) m.functions
  pub weighs : weight m + 512 ≤ MAX_CODE

-- bodies for the functions of a base, each with so much of its own
pub record AreShaped (own : ℕ) (m : Module) (bodies : List Body) : Type 0 where
  pub one_each : length bodies ≡ length m.functions
  pub made_of_moves : All IsBody bodies
  pub shaped : IsModuleShaped own (plain m bodies)

-- an end that isn't a switch
abbrev pub is_lean_end : Term → Bool
is_lean_end (Switch ty a default cases) = false
is_lean_end other = true

-- a program without phis
abbrev pub IsLow : Low → Type 0
IsLow low = AreShaped low_own low.base.now low.bodies

-- one without switches too
pub record IsLean (lean : Lean) : Type 0 where
  pub shaped : AreShaped lean_own lean.base.now lean.bodies
  pub no_switch : All (λ (b : Body). list_all (λ (c : Chunk). is_lean_end c.end) b.chunks ≡ true) lean.bodies

-- the returns of a module, and its calls through a local: no pass makes more of them
abbrev pub returns_at : Term → ℕ
returns_at Ret = 1
returns_at (RetValue ty a) = 1
returns_at other = 0

abbrev pub local_calls_at : Op → ℕ
local_calls_at (Call ret (LocalName name) args) = 1
local_calls_at other = 0

abbrev pub returns_of : Module → ℕ
returns_of m = sum_by (λ (f : Function). sum_by (λ (b : Block). returns_at b.end) f.blocks) m.functions

abbrev pub local_calls_of : Module → ℕ
local_calls_of m = sum_by (λ (f : Function). sum_by (λ (b : Block). sum_by (λ (i : Inst). local_calls_at i.op) b.insts) f.blocks) m.functions
