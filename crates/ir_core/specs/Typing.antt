-- The rules of types for operands and instructions, over what is known of a body's locals.
use Rattle.std.specs.Prelude.{ℕ, zero, suc, ◌-◌, ◌^◌, List, [], ◌∷◌, ℤ, pos, negsuc, Bool, true, false, ◌&&◌, ◌||◌, nat_lt, map, if◌then◌else◌, is_some, Option, Some, None}
use Rattle.std.specs.List.{list_all}
use Rattle.rd_num.specs.declared.width.Width.TheVariants.{W1, W8, W32, W64}
use Rattle.rd_num.specs.Number.{bits}
use Rattle.ir_core.specs.declared.ty.Ty.{Ty, out-Ty, fold-Ty}
use Rattle.ir_core.specs.declared.ty.Ty.TheOpen.{Ty-F}
use Rattle.ir_core.specs.declared.ty.NamedTy.{NamedTy}
use Rattle.ir_core.specs.declared.operand.Operand.{Operand}
use Rattle.ir_core.specs.declared.operand.Operand.TheVariants.{Int, Bool as Truth, Null as NullWord, Undef, Poison, Local as LocalName, Global, Const}
use Rattle.ir_core.specs.declared.operand.Place0.{Place0}
use Rattle.ir_core.specs.declared.operand.Index0.{Index0}
use Rattle.ir_core.specs.declared.instruction.BinOp.{BinOp}
use Rattle.ir_core.specs.declared.instruction.BinOp.TheVariants.{And, Or, Xor}
use Rattle.ir_core.specs.declared.instruction.CastOp.{CastOp}
use Rattle.ir_core.specs.declared.instruction.CastOp.TheVariants.{Trunc, Zext, Sext}
use Rattle.ir_core.specs.declared.instruction.Op.{Op}
use Rattle.ir_core.specs.declared.instruction.Op.TheVariants.{Bin, Compare, Cast, Select, Freeze, Alloca, Load, Store, Gep, Phi, Call}
use Rattle.ir_core.specs.declared.instruction.Arg.{Arg}
use Rattle.ir_core.specs.declared.instruction.Entry.{Entry}
use Rattle.ir_core.specs.declared.instruction.Inst.{Inst}
use Rattle.ir_core.specs.declared.instruction.Case.{Case}
use Rattle.ir_core.specs.declared.instruction.Term.{Term}
use Rattle.ir_core.specs.declared.instruction.Term.TheVariants.{Ret, RetValue, Br, BrIf, Switch, Unreachable}
use Rattle.ir_core.specs.declared.module.Function.{Function}
use Rattle.ir_core.specs.declared.module.Module.{Module}
use Rattle.ir_core.specs.declared.limit.TheConstants.{MAX_NESTING}
use Rattle.ir_core.specs.Names.{first_where, same_name}
use Rattle.ir_core.specs.Kinds.{Kind, NoValue, Number, Pointer, kind_of, same_kind}
use Rattle.ir_core.specs.Operands.{global_number, function_number}
use Rattle.ir_core.specs.Calls.{Outer, Putchar, Getchar, Exit, Memcpy, Memset, TrapNow, Lifetime, NoOuter, outer_of, same_kinds, is_called_as}

-- the kinds of a body's locals by their names; a name that is none of them has no kind
abbrev pub Env : Type 0
Env = List ℕ → Option Kind

-- a number or a pointer
abbrev pub is_value : Kind → Bool
is_value NoValue = false
is_value (Number w) = true
is_value Pointer = true

-- a number
abbrev pub is_number : Kind → Bool
is_number NoValue = false
is_number (Number w) = true
is_number Pointer = false

-- the kind is known and is this one
abbrev pub has_kind : Option Kind → Kind → Bool
has_kind (Some j) k = same_kind j k
has_kind None k = false

-- a literal from the least signed number of its width to the greatest number
abbrev pub int_fits : Kind → ℤ → Bool
int_fits (Number w) (pos n) = nat_lt n (2 ^ bits w)
int_fits (Number w) (negsuc n) = nat_lt n (2 ^ (bits w - 1))
int_fits NoValue n = false
int_fits Pointer n = false

-- an index has a width, not that of a truth value
abbrev pub is_index : Kind → Bool
is_index NoValue = false
is_index Pointer = false
is_index (Number W1) = false
is_index (Number w) = true

-- what is known of the indices before a run: a literal of 32 bits that isn't below zero as a signed number, or nothing
abbrev pub literal_field : Kind → ℤ → Option ℕ
literal_field (Number W32) (pos n) = if nat_lt n (2 ^ 31) then Some n else None
literal_field kind n = None

-- whether indices, of which literals are known, lead to a part of a type
abbrev pub Leads : Type 0
Leads = List (Option ℕ) → Bool

-- no index goes into a number or a pointer
abbrev pub leads_whole : Leads
leads_whole [] = true
leads_whole (i ∷ is) = false

-- any index goes into an array
abbrev pub leads_array : Leads → Leads
leads_array of [] = true
leads_array of (i ∷ is) = of is

-- a field's number goes into it
abbrev pub leads_field : List Leads → ℕ → Leads
leads_field [] i is = false
leads_field (f ∷ fs) zero is = f is
leads_field (f ∷ fs) (suc i) is = leads_field fs i is

-- a known number goes into a struct
abbrev pub leads_struct : List Leads → Leads
leads_struct fields [] = true
leads_struct fields (Some i ∷ is) = leads_field fields i is
leads_struct fields (None ∷ is) = false

-- one level
abbrev pub leads_at : (List ℕ → Leads) → Ty-F Leads → Leads
leads_at named Ty-F.Void = leads_whole
leads_at named (Ty-F.Int w) = leads_whole
leads_at named Ty-F.Ptr = leads_whole
leads_at named (Ty-F.Array n of) = leads_array of
leads_at named (Ty-F.Struct fields) = leads_struct fields
leads_at named (Ty-F.Packed fields) = leads_struct fields
leads_at named (Ty-F.Named name) = named name

-- into a named type, if there is one
abbrev pub leads_or_none : (Ty → Leads) → Option NamedTy → Leads
leads_or_none leads (Some t) = leads t.fields
leads_or_none leads None = leads_whole

-- with names replaced as often as n times
abbrev pub leads_named : List NamedTy → ℕ → List ℕ → Leads
leads_named types zero name = leads_whole
leads_named types (suc n) name = leads_or_none (fold-Ty Leads (leads_at (leads_named types n))) (first_where (λ (t : NamedTy). same_name t.name name) types)

-- into a type
unfoldable pub leads_into : List NamedTy → Ty → Leads
leads_into types = fold-Ty Leads (leads_at (leads_named types MAX_NESTING))

-- behind the first index, which counts whole ones of the type
abbrev pub leads_from : List NamedTy → Ty → Leads
leads_from types ty [] = true
leads_from types ty (i ∷ is) = leads_into types ty is

-- the literals among the indices of a constant place
abbrev pub known_index : Index0 → Option ℕ
known_index i = literal_field (kind_of i.ty) i.value

-- a constant place starts at a global, and its indices lead to a part
abbrev pub place_fits : Module → Place0 → Bool
place_fits m p = is_some (global_number m p.base) && (list_all (λ (i : Index0). is_index (kind_of i.ty) && int_fits (kind_of i.ty) i.value) p.indices && leads_from m.types p.source (map known_index p.indices))

-- an operand fits a kind
abbrev pub operand_fits : Module → Env → Kind → Operand → Bool
operand_fits m env kind (Int n) = int_fits kind n
operand_fits m env kind (Truth b) = same_kind kind (Number W1)
operand_fits m env kind NullWord = same_kind kind Pointer
operand_fits m env kind Undef = is_value kind
operand_fits m env kind Poison = is_value kind
operand_fits m env kind (LocalName name) = is_value kind && has_kind (env name) kind
operand_fits m env kind (Global name) = same_kind kind Pointer && (is_some (global_number m name) || is_some (function_number m name))
operand_fits m env kind (Const place) = same_kind kind Pointer && place_fits m place

-- the literals among the indices of an instruction
abbrev pub known_operand : Kind → Operand → Option ℕ
known_operand kind (Int n) = literal_field kind n
known_operand kind other = None

-- and those of arguments
abbrev pub known_arg : Arg → Option ℕ
known_arg a = known_operand (kind_of a.ty) a.value

-- an argument is a value that fits its type
abbrev pub arg_fits : Module → Env → Arg → Bool
arg_fits m env a = is_value (kind_of a.ty) && operand_fits m env (kind_of a.ty) a.value

-- truth values have the operations that go by bits alone
abbrev pub bin_fits : BinOp → Kind → Bool
bin_fits And (Number W1) = true
bin_fits Or (Number W1) = true
bin_fits Xor (Number W1) = true
bin_fits op (Number W1) = false
bin_fits op kind = is_number kind

-- to a smaller width, or to a greater one
abbrev pub cast_fits : CastOp → Kind → Kind → Bool
cast_fits Trunc (Number from) (Number to) = nat_lt (bits to) (bits from)
cast_fits Zext (Number from) (Number to) = nat_lt (bits from) (bits to)
cast_fits Sext (Number from) (Number to) = nat_lt (bits from) (bits to)
cast_fits op from to = false

-- no value, by its outermost word
abbrev pub is_void_at : Ty-F Ty → Bool
is_void_at Ty-F.Void = true
is_void_at other = false

-- void, or a value type
abbrev pub is_result : Ty → Bool
is_result ty = is_value (kind_of ty) || is_void_at (out-Ty ty)

-- the types of an outside function
abbrev pub outer_fits : Outer → Kind → List Kind → Bool
outer_fits Putchar ret kinds = same_kind ret (Number W32) && same_kinds kinds (Number W32 ∷ [])
outer_fits Getchar ret kinds = same_kind ret (Number W32) && same_kinds kinds []
outer_fits Exit ret kinds = same_kind ret NoValue && same_kinds kinds (Number W32 ∷ [])
outer_fits Memcpy ret kinds = same_kind ret NoValue && same_kinds kinds (Pointer ∷ Pointer ∷ Number W64 ∷ Number W1 ∷ [])
outer_fits Memset ret kinds = same_kind ret NoValue && same_kinds kinds (Pointer ∷ Number W8 ∷ Number W64 ∷ Number W1 ∷ [])
outer_fits TrapNow ret kinds = same_kind ret NoValue && same_kinds kinds []
outer_fits Lifetime ret kinds = same_kind ret NoValue && (same_kinds kinds (Pointer ∷ []) || same_kinds kinds (Number W64 ∷ Pointer ∷ []))
outer_fits NoOuter ret kinds = false

-- the function of that number has the types, or else an outside one
abbrev pub named_fits : Module → List ℕ → Kind → List Kind → Option Function → Bool
named_fits m name ret kinds (Some f) = is_called_as f ret kinds
named_fits m name ret kinds None = outer_fits (outer_of name) ret kinds

-- a callee is a function, or a local with a pointer
abbrev pub callee_fits : Module → Env → Kind → List Kind → Operand → Bool
callee_fits m env ret kinds (LocalName name) = has_kind (env name) Pointer
callee_fits m env ret kinds (Global name) = named_fits m name ret kinds (first_where (λ (f : Function). same_name f.name name) m.functions)
callee_fits m env ret kinds other = false

-- the kinds of arguments
abbrev pub kinds_of : List Arg → List Kind
kinds_of arguments = map (λ (a : Arg). kind_of a.ty) arguments

-- an instruction's operands and types
abbrev pub op_fits : Module → Env → Op → Bool
op_fits m env (Bin op ty a b) = bin_fits op (kind_of ty) && (operand_fits m env (kind_of ty) a && operand_fits m env (kind_of ty) b)
op_fits m env (Compare pred ty a b) = is_value (kind_of ty) && (operand_fits m env (kind_of ty) a && operand_fits m env (kind_of ty) b)
op_fits m env (Cast op from a to) = cast_fits op (kind_of from) (kind_of to) && operand_fits m env (kind_of from) a
op_fits m env (Select condition ty a ty2 b) =
    operand_fits m env (Number W1) condition && ((is_value (kind_of ty) && same_kind (kind_of ty) (kind_of ty2)) && (operand_fits m env (kind_of ty) a && operand_fits m env (kind_of ty2) b))
op_fits m env (Freeze ty a) = is_value (kind_of ty) && operand_fits m env (kind_of ty) a
op_fits m env (Alloca ty count) = true
op_fits m env (Load ty p) = is_value (kind_of ty) && operand_fits m env Pointer p
op_fits m env (Store ty a p) = is_value (kind_of ty) && (operand_fits m env (kind_of ty) a && operand_fits m env Pointer p)
op_fits m env (Gep ty p indices) = operand_fits m env Pointer p && (list_all (λ (a : Arg). is_index (kind_of a.ty) && operand_fits m env (kind_of a.ty) a.value) indices && leads_from m.types ty (map known_arg indices))
op_fits m env (Phi ty entries) = is_value (kind_of ty) && list_all (λ (e : Entry). operand_fits m env (kind_of ty) e.value) entries
op_fits m env (Call ret callee arguments) = is_result ret && (callee_fits m env (kind_of ret) (kinds_of arguments) callee && list_all (arg_fits m env) arguments)

-- the kind of what an instruction gives; NoValue where it gives nothing
abbrev pub kind_given : Op → Kind
kind_given (Bin op ty a b) = kind_of ty
kind_given (Compare pred ty a b) = Number W1
kind_given (Cast op from a to) = kind_of to
kind_given (Select condition ty a ty2 b) = kind_of ty
kind_given (Freeze ty a) = kind_of ty
kind_given (Alloca ty count) = Pointer
kind_given (Load ty p) = kind_of ty
kind_given (Store ty a p) = NoValue
kind_given (Gep ty p indices) = Pointer
kind_given (Phi ty entries) = kind_of ty
kind_given (Call ret callee arguments) = kind_of ret

-- the local that gets a value has its kind; only a call of a function without result may have none
abbrev pub into_fits : Env → Option (List ℕ) → Kind → Bool
into_fits env (Some name) kind = is_value kind && has_kind (env name) kind
into_fits env None kind = true

-- an instruction by itself
abbrev pub inst_fits : Module → Env → Inst → Bool
inst_fits m env i = op_fits m env i.op && into_fits env i.result (kind_given i.op)

-- the value of a return, where the function has one
abbrev pub returns_nothing : Kind → Bool
returns_nothing NoValue = true
returns_nothing other = false

-- a case has the type of its switch
abbrev pub case_fits : Module → Kind → Case → Bool
case_fits m kind c = same_kind (kind_of c.ty) kind && operand_fits m (λ name. None) kind c.value

-- the labels to which a terminator leads
abbrev pub labels_of : Term → List (List ℕ)
labels_of Ret = []
labels_of (RetValue ty a) = []
labels_of (Br to) = to ∷ []
labels_of (BrIf condition taken other) = taken ∷ other ∷ []
labels_of (Switch ty a default cases) = default ∷ map (λ (c : Case). c.to) cases
labels_of Unreachable = []

-- a terminator's operands and types, in a function with this result
abbrev pub term_fits : Module → Env → Kind → Term → Bool
term_fits m env ret Ret = returns_nothing ret
term_fits m env ret (RetValue ty a) = is_value ret && (same_kind (kind_of ty) ret && operand_fits m env ret a)
term_fits m env ret (Br to) = true
term_fits m env ret (BrIf condition taken other) = operand_fits m env (Number W1) condition
term_fits m env ret (Switch ty a default cases) = is_number (kind_of ty) && (operand_fits m env (kind_of ty) a && list_all (case_fits m (kind_of ty)) cases)
term_fits m env ret Unreachable = true
