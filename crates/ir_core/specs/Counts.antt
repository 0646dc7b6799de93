-- What the limits count: sums over the text of a module, as far as 2^64 - 1.
use Rattle.std.specs.Prelude.{ℕ, zero, suc, ◌+◌, ◌*◌, ◌-◌, ◌^◌, List, [], ◌∷◌, ◌++◌, length, map, min, max, Option, Some, None}
use Rattle.std.specs.List.{flat_map, sum_by}
use Rattle.ir_core.specs.declared.limit.TheConstants.{MAX_NESTING, REGISTER_PARAMETERS}
use Rattle.ir_core.specs.declared.ty.Ty.{Ty, fold-Ty}
use Rattle.ir_core.specs.declared.ty.Ty.TheOpen.{Ty-F}
use Rattle.ir_core.specs.declared.ty.NamedTy.{NamedTy}
use Rattle.ir_core.specs.declared.operand.Operand.{Operand}
use Rattle.ir_core.specs.declared.operand.Operand.TheVariants.{Const}
use Rattle.ir_core.specs.declared.instruction.Arg.{Arg}
use Rattle.ir_core.specs.declared.instruction.Entry.{Entry}
use Rattle.ir_core.specs.declared.instruction.Case.{Case}
use Rattle.ir_core.specs.declared.instruction.Inst.{Inst}
use Rattle.ir_core.specs.declared.instruction.Op.{Op}
use Rattle.ir_core.specs.declared.instruction.Op.TheVariants.{Bin, Compare, Cast, Select, Freeze, Alloca, Load, Store, Gep, Phi, Call}
use Rattle.ir_core.specs.declared.instruction.Term.{Term}
use Rattle.ir_core.specs.declared.instruction.Term.TheVariants.{Ret, RetValue, Br, BrIf, Switch, Unreachable}
use Rattle.ir_core.specs.declared.module.Block.{Block}
use Rattle.ir_core.specs.declared.module.Extern.{Extern}
use Rattle.ir_core.specs.declared.module.Function.{Function}
use Rattle.ir_core.specs.declared.module.GlobalVar.{GlobalVar}
use Rattle.ir_core.specs.declared.module.Module.{Module}
use Rattle.ir_core.specs.Names.{same_name, first_where}
use Rattle.ir_core.specs.Shapes.{rounded, shape_of}

-- a count is told as far as 2^64 - 1
abbrev pub told : ℕ → ℕ
told n = min n (2 ^ 64 - 1)

-- one level deeper; what is deeper than the limit counts one more than it
abbrev pub deeper : ℕ → ℕ
deeper n = min (n + 1) (MAX_NESTING + 1)

-- the deepest of fields
abbrev pub deepest : List ℕ → ℕ
deepest [] = 0
deepest (n ∷ ns) = max n (deepest ns)

-- the depth of a type, one level
abbrev pub depth_at : (List ℕ → ℕ) → Ty-F ℕ → ℕ
depth_at named Ty-F.Void = 0
depth_at named (Ty-F.Int w) = 0
depth_at named Ty-F.Ptr = 0
depth_at named (Ty-F.Array n of) = deeper of
depth_at named (Ty-F.Struct fields) = deeper (deepest fields)
depth_at named (Ty-F.Packed fields) = deeper (deepest fields)
depth_at named (Ty-F.Named name) = named name

-- of a named type, if there is one
abbrev pub depth_or_none : (Ty → ℕ) → Option NamedTy → ℕ
depth_or_none depth (Some t) = depth t.fields
depth_or_none depth None = 0

-- with names replaced as often as n times, one inside another: what still has a name then is too deep
abbrev pub named_depth : List NamedTy → ℕ → List ℕ → ℕ
named_depth types zero name = depth_or_none (λ ty. MAX_NESTING + 1) (first_where (λ (t : NamedTy). same_name t.name name) types)
named_depth types (suc n) name = depth_or_none (fold-Ty ℕ (depth_at (named_depth types n))) (first_where (λ (t : NamedTy). same_name t.name name) types)

-- how deep arrays and structs stand one inside another; a cycle and anything too deep count one more than the limit
unfoldable pub depth_of : List NamedTy → Ty → ℕ
depth_of types = fold-Ty ℕ (depth_at (named_depth types MAX_NESTING))

-- bytes of a type
abbrev pub size_count : List NamedTy → Ty → ℕ
size_count types ty = told (shape_of types ty).size

-- bytes with the gap behind them up to the next multiple of 16
abbrev pub spaced : ℕ → ℕ
spaced n = rounded n 16

-- instructions and terminators of blocks
abbrev pub steps_in : List Block → ℕ
steps_in blocks = sum_by (λ (b : Block). length b.insts + 1) blocks

-- of a module
abbrev pub total_count : Module → ℕ
total_count m = sum_by (λ (f : Function). steps_in f.blocks) m.functions

-- the arguments of a call
abbrev pub argument_counts : Op → List ℕ
argument_counts (Call ret callee args) = length args ∷ []
argument_counts other = []

-- the arguments of each call of a function
abbrev pub call_counts : Function → List ℕ
call_counts f = flat_map (λ (b : Block). flat_map (λ (i : Inst). argument_counts i.op) b.insts) f.blocks

-- parameters of each declaration, and of each function with its calls
abbrev pub parameter_counts : Module → List ℕ
parameter_counts m = map (λ (e : Extern). length e.params) m.externs ++ flat_map (λ (f : Function). length f.params ∷ call_counts f) m.functions

-- a named result counts once, and a phi once more
abbrev pub result_count : Option (List ℕ) → ℕ
result_count (Some name) = 1
result_count None = 0

-- phis
abbrev pub phi_count : Op → ℕ
phi_count (Phi ty entries) = 1
phi_count other = 0

-- the bytes of an alloca
abbrev pub alloca_bytes : List NamedTy → Op → ℕ
alloca_bytes types (Alloca ty count) = spaced (count * (shape_of types ty).size)
alloca_bytes types other = 0

-- what an instruction takes of its function's frame
abbrev pub inst_frame : List NamedTy → Inst → ℕ
inst_frame types i = 16 * (result_count i.result + phi_count i.op) + alloca_bytes types i.op

-- the greatest of counts
abbrev pub greatest : List ℕ → ℕ
greatest [] = 0
greatest (n ∷ ns) = max n (greatest ns)

-- the most arguments that a call of a function passes on the stack
abbrev pub stack_arguments : Function → ℕ
stack_arguments f = greatest (call_counts f) - REGISTER_PARAMETERS

-- the frame of a function
abbrev pub frame_count : List NamedTy → Function → ℕ
frame_count types f =
    told (256 + 16 * length f.params + 16 * stack_arguments f + sum_by (λ (b : Block). sum_by (inst_frame types) b.insts) f.blocks)

-- bytes of globals
abbrev pub bytes_count : Module → ℕ
bytes_count m = told (sum_by (λ (g : GlobalVar). spaced (shape_of m.types g.ty).size) m.globals)

-- the indices of a constant place
abbrev pub index_count : Operand → ℕ
index_count (Const place) = length place.indices
index_count other = 0

-- an operand, and each index of a constant place
abbrev pub operand_code : Operand → ℕ
operand_code a = 64 + 64 * index_count a

-- an argument or an index counts as such and as an operand
abbrev pub args_code : List Arg → ℕ
args_code args = sum_by (λ (a : Arg). 64 + operand_code a.value) args

-- so does an entry of a phi
abbrev pub entries_code : List Entry → ℕ
entries_code entries = sum_by (λ (e : Entry). 96 + operand_code e.value) entries

-- and a case of a switch
abbrev pub cases_code : List Case → ℕ
cases_code cases = sum_by (λ (c : Case). 96 + operand_code c.value) cases

-- an instruction
abbrev pub op_code : Op → ℕ
op_code (Bin op ty a b) = 128 + operand_code a + operand_code b
op_code (Compare pred ty a b) = 128 + operand_code a + operand_code b
op_code (Cast op from a to) = 128 + operand_code a
op_code (Select condition ty a ty2 b) = 128 + operand_code condition + operand_code a + operand_code b
op_code (Freeze ty a) = 128 + operand_code a
op_code (Alloca ty count) = 128
op_code (Load ty p) = 128 + operand_code p
op_code (Store ty a p) = 128 + operand_code a + operand_code p
op_code (Gep ty p indices) = 128 + operand_code p + args_code indices
op_code (Phi ty entries) = 128 + entries_code entries
op_code (Call ret callee args) = 128 + operand_code callee + args_code args

-- a terminator
abbrev pub end_code : Term → ℕ
end_code Ret = 128
end_code (RetValue ty a) = 128 + operand_code a
end_code (Br to) = 128
end_code (BrIf condition taken other) = 128 + operand_code condition
end_code (Switch ty a default cases) = 128 + operand_code a + cases_code cases
end_code Unreachable = 128

-- a block
abbrev pub block_code : Block → ℕ
block_code b = sum_by (λ (i : Inst). op_code i.op) b.insts + end_code b.end

-- a function
abbrev pub function_code : Function → ℕ
function_code f = 1024 + sum_by block_code f.blocks

-- the code of a module
abbrev pub code_count : Module → ℕ
code_count m = told (sum_by function_code m.functions)
