-- Short words for the modules whose meaning is computed: types, operands, instructions, functions, and what a run shows.
use Rattle.std.proofs.Common.{ℕ, false, List, [], ◌∷◌, Some, None}
use Rattle.std.specs.Prelude.{codes, pos, negsuc}
use Rattle.rd_num.specs.declared.width.Width.TheVariants.{W1, W8, W16, W32, W64}
use Rattle.behavior.specs.Ending.{Ending}
use Rattle.behavior.specs.Moment.{Moment}
use Rattle.ir_core.specs.declared.ty.Ty.{Ty}
use Rattle.ir_core.specs.declared.operand.Operand.{Operand}
use Rattle.ir_core.specs.declared.init.Init.{Init}
use Rattle.ir_core.specs.declared.instruction.Op.{Op}
use Rattle.ir_core.specs.declared.instruction.Entry.{Entry}
use Rattle.ir_core.specs.declared.instruction.Arg.{Arg}
use Rattle.ir_core.specs.declared.instruction.Inst.{Inst}
use Rattle.ir_core.specs.declared.instruction.Term.{Term}
use Rattle.ir_core.specs.declared.module.Block.{Block}
use Rattle.ir_core.specs.declared.module.Param.{Param}
use Rattle.ir_core.specs.declared.module.Extern.{Extern}
use Rattle.ir_core.specs.declared.module.GlobalVar.{GlobalVar}
use Rattle.ir_core.specs.declared.module.Function.{Function}
use Rattle.ir_core.specs.declared.module.Module.{Module}
use Rattle.ir_core.specs.declared.memory.Reason.{Reason}
use Rattle.ir_core.specs.Stops.{ending_of}
use Rattle.ir_core.specs.Stops as stop

-- one bit
abbrev pub i1 : Ty
i1 = Ty.Int W1

-- eight bits
abbrev pub i8 : Ty
i8 = Ty.Int W8

-- thirty-two bits
abbrev pub i32 : Ty
i32 = Ty.Int W32

-- sixty-four bits
abbrev pub i64 : Ty
i64 = Ty.Int W64

-- a local by its name
abbrev pub local : List ℕ → Operand
local name = Operand.Local name

-- a literal
abbrev pub int : ℕ → Operand
int n = Operand.Int (pos n)

-- an instruction with a result
abbrev pub gives : List ℕ → Op → Inst
gives name op = record { result = Some name; op = op }

-- a block
abbrev pub block : List ℕ → List Inst → Term → Block
block label insts end = record { label = label; insts = insts; end = end }

-- a function that gives an i32
abbrev pub function : List ℕ → List Param → List Block → Function
function name params blocks = record { name = name; ret = i32; params = params; blocks = blocks }

-- a module without named types and globals
abbrev pub module_of : List Extern → List Function → Module
module_of externs functions = record { types = []; globals = []; externs = externs; functions = functions }

-- an entry of a phi
abbrev pub entry : Operand → List ℕ → Entry
entry value from = record { value = value; from = from }

-- an argument
abbrev pub arg : Ty → Operand → Arg
arg ty value = record { ty = ty; value = value }

-- a run that is left for a reason
abbrev pub left : Reason → Ending
left reason = ending_of (stop.Left reason)

-- what a run shows
abbrev pub shown : List ℕ → ℕ → Ending → Moment
shown printed taken ending = record { printed = printed; taken = taken; ending = ending }

-- sixteen bits
abbrev pub i16 : Ty
i16 = Ty.Int W16

-- a literal below zero: minus one less than the number
abbrev pub minus : ℕ → Operand
minus n = Operand.Int (negsuc n)

-- a global or a function by its name
abbrev pub named : List ℕ → Operand
named name = Operand.Global name

-- an instruction without a result
abbrev pub does : Op → Inst
does op = record { result = None; op = op }

-- a call that gives a value
abbrev pub calls : List ℕ → Ty → List ℕ → List Arg → Inst
calls name ret callee arguments = gives name (Op.Call ret (named callee) arguments)

-- a call that gives none
abbrev pub runs : List ℕ → List Arg → Inst
runs callee arguments = does (Op.Call Ty.Void (named callee) arguments)

-- a global variable that is not constant
abbrev pub variable : List ℕ → Ty → Init → GlobalVar
variable name ty init = record { name = name; constant = false; ty = ty; init = init }

-- a declaration
abbrev pub declared_as : List ℕ → Ty → List Ty → Extern
declared_as name ret params = record { name = name; ret = ret; params = params }

-- `main` of one block, which gives an i32
abbrev pub straight : List Inst → Operand → Function
straight insts result = function (codes "main") [] (block (codes "0") insts (Term.RetValue i32 result) ∷ [])

-- a module of that `main`, with globals and declarations
abbrev pub program : List GlobalVar → List Extern → List Inst → Operand → Module
program globals externs insts result = record { types = []; globals = globals; externs = externs; functions = straight insts result ∷ [] }
