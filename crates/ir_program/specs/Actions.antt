-- What instructions do, with numbers in place of names.
use Rattle.std.specs.Prelude.{ℕ, ◌*◌, List, map, Option, Some, None}
use Rattle.ir_core.specs.declared.operand.Operand.{Operand}
use Rattle.ir_core.specs.declared.operand.Operand.TheVariants.{Local as LocalName, Global}
use Rattle.ir_core.specs.declared.instruction.Op.{Op}
use Rattle.ir_core.specs.declared.instruction.Op.TheVariants.{Bin, Compare, Cast, Select, Freeze, Alloca, Load, Store, Gep, Phi, Call}
use Rattle.ir_core.specs.declared.instruction.Arg.{Arg}
use Rattle.ir_core.specs.declared.instruction.Inst.{Inst}
use Rattle.ir_core.specs.declared.module.Module.{Module}
use Rattle.ir_core.specs.declared.memory.Value.TheVariants.{Fun}
use Rattle.rd_num.specs.declared.width.Width.TheVariants.{W1}
use Rattle.ir_core.specs.declared.kind.Kind.TheVariants.{Number, Pointer}
use Rattle.ir_core.specs.Kinds.{kind_of}
use Rattle.ir_core.specs.Counts.{told}
use Rattle.ir_core.specs.Operands.{function_number}
use Rattle.ir_core.specs.Calls.{outer_of}
use Rattle.ir_context.specs.Registers.{number_of}
use Rattle.ir_context.specs.declared.origin.Origin.{Origin}
use Rattle.ir_context.specs.declared.origin.Origin.TheVariants.{Known, Malformed}
use Rattle.ir_context.specs.declared.path.Path.{Path}
use Rattle.ir_program.specs.declared.action.Action.{Action}
use Rattle.ir_program.specs.declared.action.Action.TheVariants as does
use Rattle.ir_program.specs.declared.action.Argument.{Argument}
use Rattle.ir_program.specs.declared.action.Callee.{Callee}
use Rattle.ir_program.specs.declared.action.Callee.TheVariants.{Outside, Inside}
use Rattle.ir_program.specs.declared.action.Task.{Task}
use Rattle.ir_context.specs.Extents.{extent_of}
use Rattle.ir_context.specs.Paths.{path_of}
use Rattle.ir_context.specs.Origins.{register_of, origin_of, arg_origin}

-- the register of a result, where there is one
abbrev pub into_of : List (List ℕ) → Option (List ℕ) → Option ℕ
into_of names (Some name) = number_of names name
into_of names None = None

-- an argument of a call
abbrev pub argument_of : Module → List (List ℕ) → Arg → Argument
argument_of m names a = record { kind = kind_of a.ty; origin = arg_origin m names a }

-- a function of the module by its number, or one outside of it
abbrev pub callee_named : List ℕ → Option ℕ → Callee
callee_named name (Some f) = Inside (Known (Fun f))
callee_named name None = Outside (outer_of name)

-- what is called
abbrev pub callee_of : Module → List (List ℕ) → Operand → Callee
callee_of m names (LocalName name) = Inside (register_of (number_of names name))
callee_of m names (Global name) = callee_named name (function_number m name)
callee_of m names other = Inside Malformed

-- a pointer that moves, where its indices lead to a part
abbrev pub move_by : Origin → Option Path → Action
move_by base (Some p) = does.Move base p
move_by base None = does.Malformed

-- an instruction
abbrev pub action_of : Module → List (List ℕ) → Op → Action
action_of m names (Bin op ty a b) = does.Binary op (kind_of ty) (origin_of m names (kind_of ty) a) (origin_of m names (kind_of ty) b)
action_of m names (Compare pred ty a b) = does.Compare pred (kind_of ty) (origin_of m names (kind_of ty) a) (origin_of m names (kind_of ty) b)
action_of m names (Cast op from a to) = does.Cast op (kind_of from) (kind_of to) (origin_of m names (kind_of from) a)
action_of m names (Select condition ty a ty2 b) =
    does.Select (origin_of m names (Number W1) condition) (origin_of m names (kind_of ty) a) (origin_of m names (kind_of ty2) b)
action_of m names (Freeze ty a) = does.Freeze (origin_of m names (kind_of ty) a)
action_of m names (Alloca ty count) = does.Alloca (told (count * (extent_of m.types ty).size))
action_of m names (Load ty p) = does.Load (kind_of ty) (origin_of m names Pointer p)
action_of m names (Store ty a p) = does.Store (origin_of m names (kind_of ty) a) (origin_of m names Pointer p)
action_of m names (Gep ty p indices) = move_by (origin_of m names Pointer p) (path_of m.types ty (map (arg_origin m names) indices))
action_of m names (Phi ty entries) = does.Malformed
action_of m names (Call ret callee arguments) = does.Call (kind_of ret) (callee_of m names callee) (map (argument_of m names) arguments)

-- an instruction with the register of its result
abbrev pub task_of : Module → List (List ℕ) → Inst → Task
task_of m names i = record { into = into_of names i.result; action = action_of m names i.op }
