-- What code and frames programs without phis may ask for: a sum with one constant for each kind of part. A constant is
-- at least the bytes of the code that a part comes to at last, and a pass that puts parts in the place of others never
-- makes the sum greater, so that what a module counted bounds its object.
use Rattle.std.specs.Prelude.{ℕ, ◌+◌, ◌*◌, ◌-◌, List, [], length}
use Rattle.std.specs.List.{flat_map, sum_by}
use Rattle.ir_core.specs.declared.ty.NamedTy.{NamedTy}
use Rattle.ir_core.specs.declared.operand.Operand.{Operand}
use Rattle.ir_core.specs.declared.operand.Operand.TheVariants.{Local as LocalName, Const}
use Rattle.ir_core.specs.declared.instruction.Arg.{Arg}
use Rattle.ir_core.specs.declared.instruction.Case.{Case}
use Rattle.ir_core.specs.declared.instruction.Inst.{Inst}
use Rattle.ir_core.specs.declared.instruction.Op.{Op}
use Rattle.ir_core.specs.declared.instruction.Op.TheVariants.{Bin, Compare, Cast, Select, Freeze, Alloca, Load, Store, Gep, Phi, Call}
use Rattle.ir_core.specs.declared.instruction.Term.{Term}
use Rattle.ir_core.specs.declared.instruction.Term.TheVariants.{Ret, RetValue, Br, BrIf, Switch, Unreachable}
use Rattle.ir_core.specs.declared.module.Block.{Block}
use Rattle.ir_core.specs.declared.module.Function.{Function}
use Rattle.ir_core.specs.declared.module.Module.{Module}
use Rattle.ir_core.specs.Counts.{alloca_bytes, stack_arguments}
use Rattle.ir_core.specs.Definitions.{result_names, repeated}

-- a variable stands where it is; anything else is brought into a register
abbrev pub operand_weight : Operand → ℕ
operand_weight (LocalName name) = 0
operand_weight (Const place) = 20 + 64 * length place.indices
operand_weight other = 20

-- arguments of a call
abbrev pub args_weight : List Arg → ℕ
args_weight args = sum_by (λ (a : Arg). 16 + operand_weight a.value) args

-- an index is folded into a place or multiplied
abbrev pub indices_weight : List Arg → ℕ
indices_weight indices = sum_by (λ (a : Arg). 116) indices

-- a move; a phi isn't one
abbrev pub op_weight : Op → ℕ
op_weight (Bin op ty a b) = 64 + operand_weight a + operand_weight b
op_weight (Compare pred ty a b) = 44 + operand_weight a + operand_weight b
op_weight (Cast op from a to) = 40 + operand_weight a
op_weight (Select condition ty a ty2 b) = 48 + operand_weight condition + operand_weight a + operand_weight b
op_weight (Freeze ty a) = 16 + operand_weight a
op_weight (Alloca ty count) = 24
op_weight (Load ty p) = 64 + operand_weight p
op_weight (Store ty a p) = 64 + operand_weight a + operand_weight p
op_weight (Gep ty p indices) = 24 + operand_weight p + indices_weight indices
op_weight (Phi ty entries) = 0
op_weight (Call ret callee args) = 128 + operand_weight callee + args_weight args

-- the cases of a switch: a test for each, and one more for each four
abbrev pub cases_weight : List Case → ℕ
cases_weight cases = sum_by (λ (c : Case). 144) cases

-- an end
abbrev pub end_weight : Term → ℕ
end_weight Ret = 96
end_weight (RetValue ty a) = 96 + operand_weight a
end_weight (Br to) = 8
end_weight (BrIf condition taken other) = 28 + operand_weight condition
end_weight (Switch ty a default cases) = 96 + operand_weight a + cases_weight cases
end_weight Unreachable = 8

-- a block
abbrev pub block_weight : Block → ℕ
block_weight b = sum_by (λ (i : Inst). op_weight i.op) b.insts + end_weight b.end

-- a function
abbrev pub function_weight : Function → ℕ
function_weight f = 512 + sum_by block_weight f.blocks

-- a program
abbrev pub weight : Module → ℕ
weight m = sum_by function_weight m.functions

-- the variables that are assigned, as often as they are
abbrev pub assigned : Function → List (List ℕ)
assigned f = flat_map (λ (b : Block). flat_map (λ (i : Inst). result_names i.result) b.insts) f.blocks

-- how many names there are in a list, each counted once
abbrev pub count_apart : List (List ℕ) → ℕ
count_apart names = length names - length (repeated [] names)

-- the bytes of a function's allocas, each in steps of sixteen
abbrev pub allocas_room : List NamedTy → Function → ℕ
allocas_room types f = sum_by (λ (b : Block). sum_by (λ (i : Inst). alloca_bytes types i.op) b.insts) f.blocks

-- what a function asks of its frame, where each function has so much of its own
abbrev pub room : ℕ → List NamedTy → Function → ℕ
room own types f = own + 16 * length f.params + 16 * stack_arguments f + 16 * count_apart (assigned f) + allocas_room types f

-- what a function has of its own with switches, and without them: one more variable, for tests
abbrev pub low_own : ℕ
low_own = 256

abbrev pub lean_own : ℕ
lean_own = 240
