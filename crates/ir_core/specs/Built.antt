-- Modules that a text could say.
use Rattle.std.specs.Prelude.{ℕ, ◌+◌, ◌^◌, List, [], ◌∷◌, Bool, true, false, ◌&&◌, ◌||◌, not, nat_eq, nat_lt, nat_le, ℤ, pos, negsuc, length, codes, Option, Some, None, IsTrue}
use Rattle.std.specs.List.{list_all, starts_with}
use Rattle.ir_core.specs.declared.limit.TheConstants.{MAX_NESTING}
use Rattle.ir_core.specs.declared.ty.Ty.{Ty, out-Ty, fold-Ty}
use Rattle.ir_core.specs.declared.ty.Ty.TheOpen.{Ty-F}
use Rattle.ir_core.specs.declared.ty.NamedTy.{NamedTy}
use Rattle.ir_core.specs.declared.operand.Operand.{Operand}
use Rattle.ir_core.specs.declared.operand.Operand.TheVariants.{Int, Bool as Truth, Local as LocalName, Global, Const}
use Rattle.ir_core.specs.declared.operand.Index0.{Index0}
use Rattle.ir_core.specs.declared.init.Init.{Init, fold-Init}
use Rattle.ir_core.specs.declared.init.Init.TheOpen.{Init-F, Elem-F}
use Rattle.ir_core.specs.declared.instruction.Case.{Case}
use Rattle.ir_core.specs.declared.instruction.Term.{Term}
use Rattle.ir_core.specs.declared.instruction.Term.TheVariants.{Ret, RetValue, Br, BrIf, Switch, Unreachable}
use Rattle.ir_core.specs.declared.instruction.Op.{Op}
use Rattle.ir_core.specs.declared.instruction.Op.TheVariants.{Bin, Compare, Cast, Select, Freeze, Alloca, Load, Store, Gep, Phi, Call}
use Rattle.ir_core.specs.declared.instruction.Arg.{Arg}
use Rattle.ir_core.specs.declared.instruction.Entry.{Entry}
use Rattle.ir_core.specs.declared.instruction.Inst.{Inst}
use Rattle.ir_core.specs.declared.module.Block.{Block}
use Rattle.ir_core.specs.declared.module.Param.{Param}
use Rattle.ir_core.specs.declared.module.Extern.{Extern}
use Rattle.ir_core.specs.declared.module.Function.{Function}
use Rattle.ir_core.specs.declared.module.GlobalVar.{GlobalVar}
use Rattle.ir_core.specs.declared.module.Module.{Module}
use Rattle.ir_core.specs.Counts.{deeper, deepest}
use Rattle.ir_core.specs.Typing.{is_void_at}

-- there are fewer than 2^32 parts, each of which passes
abbrev pub built_all : {X : Type 0} → (X → Bool) → List X → Bool
built_all test xs = nat_lt (length xs) (2 ^ 32) && list_all test xs

-- a byte of a name: printable, and neither a quote nor a backslash
abbrev pub is_name_byte : ℕ → Bool
is_name_byte b = (nat_le 32 b && nat_le b 126) && (not (nat_eq b 34) && not (nat_eq b 92))

-- a name has a byte
abbrev pub name_built : List ℕ → Bool
name_built [] = false
name_built (b ∷ bs) = built_all is_name_byte (b ∷ bs)

-- a number has at most 38 digits
abbrev pub int_built : ℤ → Bool
int_built (pos n) = nat_lt n (10 ^ 38)
int_built (negsuc n) = nat_lt (n + 1) (10 ^ 38)

-- the parts of a type, one level; void is no part of a type
abbrev pub parts_built_at : Ty-F Bool → Bool
parts_built_at Ty-F.Void = false
parts_built_at (Ty-F.Int w) = true
parts_built_at Ty-F.Ptr = true
parts_built_at (Ty-F.Array n of) = nat_lt n (2 ^ 32) && of
parts_built_at (Ty-F.Struct fields) = built_all (λ b. b) fields
parts_built_at (Ty-F.Packed fields) = built_all (λ b. b) fields
parts_built_at (Ty-F.Named name) = name_built name

-- how deep a type stands in the text, one level
abbrev pub text_depth_at : Ty-F ℕ → ℕ
text_depth_at Ty-F.Void = 0
text_depth_at (Ty-F.Int w) = 0
text_depth_at Ty-F.Ptr = 0
text_depth_at (Ty-F.Array n of) = deeper of
text_depth_at (Ty-F.Struct fields) = deeper (deepest fields)
text_depth_at (Ty-F.Packed fields) = deeper (deepest fields)
text_depth_at (Ty-F.Named name) = 0

-- a type that isn't void
unfoldable pub type_built : Ty → Bool
type_built ty = fold-Ty Bool parts_built_at ty && nat_le (fold-Ty ℕ text_depth_at ty) MAX_NESTING

-- by the outermost word
abbrev pub is_struct_at : Ty-F Ty → Bool
is_struct_at (Ty-F.Struct fields) = true
is_struct_at (Ty-F.Packed fields) = true
is_struct_at other = false

-- a named type is a struct
abbrev pub named_built : NamedTy → Bool
named_built t = name_built t.name && (is_struct_at (out-Ty t.fields) && type_built t.fields)

-- what a function gives may be void
abbrev pub result_built : Ty → Bool
result_built ty = is_void_at (out-Ty ty) || type_built ty

-- an index
abbrev pub index_built : Index0 → Bool
index_built i = type_built i.ty && int_built i.value

-- an operand
abbrev pub operand_built : Operand → Bool
operand_built (Int n) = int_built n
operand_built (LocalName name) = name_built name
operand_built (Global name) = name_built name
operand_built (Const place) = type_built place.source && (name_built place.base && built_all index_built place.indices)
operand_built other = true

-- an operand behind its type
abbrev pub typed_built : Ty → Operand → Bool
typed_built ty a = type_built ty && operand_built a

-- an argument or an index
abbrev pub arg_built : Arg → Bool
arg_built a = typed_built a.ty a.value

-- an entry of a phi
abbrev pub entry_built : Entry → Bool
entry_built e = operand_built e.value && name_built e.from

-- a phi has an entry
abbrev pub entries_built : List Entry → Bool
entries_built [] = false
entries_built (e ∷ es) = built_all entry_built (e ∷ es)

-- functions with these names describe the program to debuggers alone
abbrev pub is_debug_name : List ℕ → Bool
is_debug_name name = starts_with nat_eq name (codes "llvm.dbg.")

-- a callee is a local or a function
abbrev pub callee_built : Operand → Bool
callee_built (LocalName name) = name_built name
callee_built (Global name) = name_built name && not (is_debug_name name)
callee_built other = false

-- what an instruction does
abbrev pub op_built : Op → Bool
op_built (Bin op ty a b) = typed_built ty a && operand_built b
op_built (Compare pred ty a b) = typed_built ty a && operand_built b
op_built (Cast op from a to) = typed_built from a && type_built to
op_built (Select condition ty a ty2 b) = operand_built condition && (typed_built ty a && typed_built ty2 b)
op_built (Freeze ty a) = typed_built ty a
op_built (Alloca ty count) = type_built ty && nat_lt count (2 ^ 32)
op_built (Load ty p) = typed_built ty p
op_built (Store ty a p) = typed_built ty a && operand_built p
op_built (Gep source p indices) = typed_built source p && built_all arg_built indices
op_built (Phi ty entries) = type_built ty && entries_built entries
op_built (Call ret callee args) = result_built ret && (callee_built callee && built_all arg_built args)

-- a store has no result, a call may have one, and all others have
abbrev pub result_named : Op → Option (List ℕ) → Bool
result_named (Store ty a p) (Some name) = false
result_named (Store ty a p) None = true
result_named (Call ret callee args) None = true
result_named op (Some name) = name_built name
result_named op None = false

-- an instruction
abbrev pub inst_built : Inst → Bool
inst_built i = op_built i.op && result_named i.op i.result

-- a case's value is a number or a truth value
abbrev pub case_value_built : Operand → Bool
case_value_built (Int n) = int_built n
case_value_built (Truth b) = true
case_value_built other = false

-- a case
abbrev pub case_built : Case → Bool
case_built c = type_built c.ty && (case_value_built c.value && name_built c.to)

-- a terminator
abbrev pub end_built : Term → Bool
end_built Ret = true
end_built (RetValue ty a) = typed_built ty a
end_built (Br to) = name_built to
end_built (BrIf condition taken other) = operand_built condition && (name_built taken && name_built other)
end_built (Switch ty a default cases) = typed_built ty a && (name_built default && built_all case_built cases)
end_built Unreachable = true

-- a block
abbrev pub block_built : Block → Bool
block_built b = name_built b.label && (built_all inst_built b.insts && end_built b.end)

-- a function has a block
abbrev pub blocks_built : List Block → Bool
blocks_built [] = false
blocks_built (b ∷ bs) = built_all block_built (b ∷ bs)

-- a parameter
abbrev pub param_built : Param → Bool
param_built p = type_built p.ty && name_built p.name

-- a function
abbrev pub function_built : Function → Bool
function_built f = (name_built f.name && result_built f.ret) && (built_all param_built f.params && blocks_built f.blocks)

-- a declaration
abbrev pub extern_built : Extern → Bool
extern_built e = (name_built e.name && not (is_debug_name e.name)) && (result_built e.ret && built_all type_built e.params)

-- a value of an initialiser is no local
abbrev pub value_built : Operand → Bool
value_built (LocalName name) = false
value_built other = operand_built other

-- an initialiser, one level
abbrev pub init_built_at : Init-F Bool Bool → Bool
init_built_at (Init-F.Value v) = value_built v
init_built_at Init-F.Zero = true
init_built_at (Init-F.Text bytes) = built_all (λ b. nat_lt b 256) bytes
init_built_at (Init-F.Array elements) = built_all (λ b. b) elements
init_built_at (Init-F.Struct elements) = built_all (λ b. b) elements
init_built_at (Init-F.Packed elements) = built_all (λ b. b) elements

-- how deep an initialiser stands in the text, one level
abbrev pub init_depth_at : Init-F ℕ ℕ → ℕ
init_depth_at (Init-F.Value v) = 0
init_depth_at Init-F.Zero = 0
init_depth_at (Init-F.Text bytes) = 0
init_depth_at (Init-F.Array elements) = deeper (deepest elements)
init_depth_at (Init-F.Struct elements) = deeper (deepest elements)
init_depth_at (Init-F.Packed elements) = deeper (deepest elements)

-- an initialiser
unfoldable pub init_built : Init → Bool
init_built i =
    fold-Init Bool Bool init_built_at (λ (e : Elem-F Bool Bool). type_built e.ty && e.init) i
    && nat_le (fold-Init ℕ ℕ init_depth_at (λ (e : Elem-F ℕ ℕ). e.init) i) MAX_NESTING

-- a global
abbrev pub global_built : GlobalVar → Bool
global_built g = name_built g.name && (type_built g.ty && init_built g.init)

-- a text could say the module
abbrev pub IsBuilt : Module → Type 0
IsBuilt m = IsTrue ((built_all named_built m.types && built_all global_built m.globals) && (built_all extern_built m.externs && built_all function_built m.functions))
