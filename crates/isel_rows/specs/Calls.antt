-- Calls on numbered registers.
use Rattle.std.specs.Prelude.{ℕ, List, [], ◌∷◌, ◌++◌, take, Option, Some, None}
use Rattle.ir_core.specs.declared.instruction.Arg.{Arg}
use Rattle.ir_core.specs.declared.module.Module.{Module}
use Rattle.ir_core.specs.declared.operand.Operand.{Operand}
use Rattle.ir_core.specs.declared.operand.Operand.TheVariants.{Local as LocalName, Global}
use Rattle.ir_core.specs.declared.outer.Outer.{Outer}
use Rattle.ir_core.specs.declared.outer.Outer.TheVariants as outside
use Rattle.ir_core.specs.Calls.{outer_of}
use Rattle.ir_core.specs.Operands.{function_number}
use Rattle.ir_core.specs.Valid.{LocalKind, named_locals}
use Rattle.ir_context.specs.declared.origin.Origin.TheVariants.{Malformed}
use Rattle.ir_context.specs.Registers.{number_of}
use Rattle.ir_context.specs.Origins.{register_of}
use Rattle.low_core.specs.declared.sel.Which.{Which}
use Rattle.low_core.specs.declared.sel.Which.TheVariants.{Putchar, Getchar, Exit, Memcpy, Memset, Trap}
use Rattle.low_core.specs.declared.sel.SelOp.{SelOp}
use Rattle.low_core.specs.declared.sel.SelOp.TheVariants.{Set, Call, CallAt, Outside}
use Rattle.low_core.specs.SelShaped.{arity}
use Rattle.isel_rows.specs.Variables.{idle_register, register_read}
use Rattle.isel_rows.specs.Brought.{AllBrought, args_brought}

-- the register of a call's result, where it has a name
abbrev pub register_into : List LocalKind → Option (List ℕ) → Option ℕ
register_into vs (Some name) = number_of (named_locals vs) name
register_into vs None = None

-- arguments, and then a call with their registers
abbrev pub behind_args : AllBrought → (List ℕ → SelOp) → List SelOp
behind_args b call = b.ops ++ call b.registers ∷ []

-- a function outside, with as many arguments as it reads: that a copy or a fill is volatile is none of them
abbrev pub outside_ops : Module → List LocalKind → Option ℕ → Which → List Arg → List SelOp
outside_ops m vs into which args = behind_args (args_brought m vs 0 (take (arity which) args)) (λ rs. Outside which into rs)

-- nothing is done, in one operation
abbrev pub idle_ops : List LocalKind → List SelOp
idle_ops vs = Set (idle_register vs) 0 ∷ []

-- a call of a function outside; only two of them give a result
abbrev pub outer_ops : Module → List LocalKind → Option ℕ → Outer → List Arg → List SelOp
outer_ops m vs into outside.Putchar args = outside_ops m vs into Putchar args
outer_ops m vs into outside.Getchar args = outside_ops m vs into Getchar args
outer_ops m vs into outside.Exit args = outside_ops m vs None Exit args
outer_ops m vs into outside.Memcpy args = outside_ops m vs None Memcpy args
outer_ops m vs into outside.Memset args = outside_ops m vs None Memset args
outer_ops m vs into outside.TrapNow args = outside_ops m vs None Trap args
outer_ops m vs into outside.Lifetime args = idle_ops vs
outer_ops m vs into outside.NoOuter args = idle_ops vs

-- a function of the module by its number, or one outside by its name
abbrev pub named_ops : Module → List LocalKind → Option ℕ → List Arg → List ℕ → Option ℕ → List SelOp
named_ops m vs into args name (Some f) = behind_args (args_brought m vs 0 args) (λ rs. Call f into rs)
named_ops m vs into args name None = outer_ops m vs into (outer_of name) args

-- a call
abbrev pub call_ops : Module → List LocalKind → Option ℕ → Operand → List Arg → List SelOp
call_ops m vs into (Global name) args = named_ops m vs into args name (function_number m name)
call_ops m vs into (LocalName name) args = behind_args (args_brought m vs 0 args) (λ rs. CallAt (register_read vs (register_of (number_of (named_locals vs) name))) into rs)
call_ops m vs into other args = behind_args (args_brought m vs 0 args) (λ rs. CallAt (register_read vs Malformed) into rs)
