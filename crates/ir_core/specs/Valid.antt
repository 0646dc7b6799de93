-- The rules of types for whole modules, one place after another.
use Rattle.std.specs.Prelude.{ℕ, List, [], ◌∷◌, ◌++◌, Bool, true, false, ◌&&◌, not, nat_eq, ℤ, pos, negsuc, length, map, take, filter, option_map, Option, Some, None, if◌then◌else◌}
use Rattle.std.specs.List.{list_all, list_any, flat_map, enumerate_from}
use Rattle.rd_num.specs.Number.{bits}
use Rattle.rd_num.specs.declared.width.Width.TheVariants.{W8}
use Rattle.ir_core.specs.declared.limit.Spot.{Spot}
use Rattle.ir_core.specs.declared.ty.Ty.{Ty, out-Ty, fold-Ty}
use Rattle.ir_core.specs.declared.ty.Ty.TheOpen.{Ty-F}
use Rattle.ir_core.specs.declared.ty.NamedTy.{NamedTy}
use Rattle.ir_core.specs.declared.operand.Operand.{Operand}
use Rattle.ir_core.specs.declared.operand.Operand.TheVariants.{Int, Bool as Truth, Null as NullWord, Undef, Poison, Local as LocalName, Global, Const}
use Rattle.ir_core.specs.declared.operand.Index0.{Index0}
use Rattle.ir_core.specs.declared.init.Init.{Init, fold-Init}
use Rattle.ir_core.specs.declared.init.Init.TheOpen.{Init-F, Elem-F}
use Rattle.ir_core.specs.declared.init.Elem.{Elem}
use Rattle.ir_core.specs.declared.instruction.Case.{Case}
use Rattle.ir_core.specs.declared.instruction.Term.{Term}
use Rattle.ir_core.specs.declared.instruction.Term.TheVariants.{Switch}
use Rattle.ir_core.specs.declared.instruction.Op.{Op}
use Rattle.ir_core.specs.declared.instruction.Op.TheVariants.{Alloca, Phi, Call}
use Rattle.ir_core.specs.declared.instruction.Arg.{Arg}
use Rattle.ir_core.specs.declared.instruction.Entry.{Entry}
use Rattle.ir_core.specs.declared.instruction.Inst.{Inst}
use Rattle.ir_core.specs.declared.module.Block.{Block}
use Rattle.ir_core.specs.declared.module.Param.{Param}
use Rattle.ir_core.specs.declared.module.Extern.{Extern}
use Rattle.ir_core.specs.declared.module.Function.{Function}
use Rattle.ir_core.specs.declared.module.GlobalVar.{GlobalVar}
use Rattle.ir_core.specs.declared.module.Module.{Module}
use Rattle.ir_core.specs.Names.{same_name, first_where}
use Rattle.ir_core.specs.Definitions.{is_among}
use Rattle.ir_core.specs.Kinds.{Kind, Number, Pointer, kind_of, same_kind, literal}
use Rattle.ir_core.specs.Calls.{outer_of}
use Rattle.ir_core.specs.Typing.{Env, is_value, has_kind, operand_fits, outer_fits, arg_fits, op_fits, kind_given, is_result, labels_of, term_fits}

-- a local of a function, with the kind of what it is given
pub record LocalKind : Type 0 where
  pub name : List ℕ
  pub kind : Kind

-- a result of that name, where there is one
abbrev pub result_local : Option (List ℕ) → Kind → List LocalKind
result_local (Some name) kind = record { name = name; kind = kind } ∷ []
result_local None kind = []

-- the result of an instruction
abbrev pub inst_local : Inst → List LocalKind
inst_local i = result_local i.result (kind_given i.op)

-- the results of instructions
abbrev pub kinds_in : List Inst → List LocalKind
kinds_in insts = flat_map inst_local insts

-- a parameter
abbrev pub param_kind : Param → LocalKind
param_kind p = record { name = p.name; kind = kind_of p.ty }

-- the results of blocks
abbrev pub results_of : List Block → List LocalKind
results_of blocks = flat_map (λ (b : Block). kinds_in b.insts) blocks

-- the parameters and then the results of a function, in the order of its text
abbrev pub locals_of : Function → List LocalKind
locals_of f = map param_kind f.params ++ results_of f.blocks

-- the names of locals
abbrev pub named_locals : List LocalKind → List (List ℕ)
named_locals all = map (λ (l : LocalKind). l.name) all

-- their kinds
abbrev pub local_kinds : List LocalKind → List Kind
local_kinds all = map (λ (l : LocalKind). l.kind) all

-- the kind of the first local of a name
abbrev pub kind_in : List LocalKind → Env
kind_in all name = option_map (λ (l : LocalKind). l.kind) (first_where (λ (l : LocalKind). same_name l.name name) all)

-- the kinds of a function's locals
abbrev pub env_of : Function → Env
env_of f = kind_in (locals_of f)

-- rows of the same length whose items pass together
abbrev pub all_two : {A B : Type 0} → (A → B → Bool) → List A → List B → Bool
all_two test [] [] = true
all_two test (a ∷ as') (b ∷ bs) = test a b && all_two test as' bs
all_two test [] (b ∷ bs) = false
all_two test (a ∷ as') [] = false

-- one level of a type against another type's
abbrev pub same_level : Ty-F (Ty → Bool) → Ty-F Ty → Bool
same_level Ty-F.Void Ty-F.Void = true
same_level (Ty-F.Int v) (Ty-F.Int w) = nat_eq (bits v) (bits w)
same_level Ty-F.Ptr Ty-F.Ptr = true
same_level (Ty-F.Array m is_of) (Ty-F.Array n of) = nat_eq m n && is_of of
same_level (Ty-F.Struct are) (Ty-F.Struct fields) = all_two (λ is t. is t) are fields
same_level (Ty-F.Packed are) (Ty-F.Packed fields) = all_two (λ is t. is t) are fields
same_level (Ty-F.Named a) (Ty-F.Named b) = same_name a b
same_level f t = false

-- the types are the same as they are written
abbrev pub same_ty : Ty → Ty → Bool
same_ty = fold-Ty (Ty → Bool) (λ f t. same_level f (out-Ty t))

-- a declaration has the type of the outside function of its name
abbrev pub extern_fits : Extern → Bool
extern_fits e = outer_fits (outer_of e.name) (kind_of e.ret) (map kind_of e.params) && is_result e.ret

-- the types of arguments
abbrev pub types_of : List Arg → List Ty
types_of arguments = map (λ (a : Arg). a.ty) arguments

-- a call of a declaration has its types
abbrev pub extern_called : Ty → List Ty → Option Extern → Bool
extern_called ret types (Some e) = extern_fits e && (same_ty e.ret ret && all_two same_ty e.params types)
extern_called ret types None = false

-- of a function, or of a declaration
abbrev pub named_called : Module → List ℕ → Ty → List Ty → Option Function → Bool
named_called m name ret types (Some f) = same_ty f.ret ret && all_two same_ty (map (λ (p : Param). p.ty) f.params) types
named_called m name ret types None = extern_called ret types (first_where (λ (e : Extern). same_name e.name name) m.externs)

-- through a name or a local
abbrev pub callee_rules : Module → Env → Ty → List Ty → Operand → Bool
callee_rules m env ret types (LocalName name) = has_kind (env name) Pointer
callee_rules m env ret types (Global name) = named_called m name ret types (first_where (λ (f : Function). same_name f.name name) m.functions)
callee_rules m env ret types other = false

-- an instruction's operands and types
abbrev pub op_rules : Module → Env → Op → Bool
op_rules m env (Call ret callee arguments) = is_result ret && (callee_rules m env ret (types_of arguments) callee && list_all (arg_fits m env) arguments)
op_rules m env op = op_fits m env op

-- only what gives a value has a result
abbrev pub names_value : Option (List ℕ) → Kind → Bool
names_value (Some name) kind = is_value kind
names_value None kind = true

-- whether a terminator of a block leads to a label
abbrev pub leads_to : List ℕ → Block → Bool
leads_to label p = list_any (λ to. same_name to label) (labels_of p.end)

-- the labels of the blocks that lead to a label
abbrev pub predecessors : List Block → List ℕ → List (List ℕ)
predecessors blocks label = map (λ (p : Block). p.label) (filter (leads_to label) blocks)

-- each predecessor has an entry, and each entry is for a predecessor
abbrev pub entries_fit : List (List ℕ) → List Entry → Bool
entries_fit from entries =
    list_all (λ (l : List ℕ). list_any (λ (e : Entry). same_name e.from l) entries) from
    && list_all (λ (e : Entry). is_among from e.from) entries

-- whole numbers that are the same
abbrev pub same_int : ℤ → ℤ → Bool
same_int (pos m) (pos n) = nat_eq m n
same_int (negsuc m) (negsuc n) = nat_eq m n
same_int a b = false

-- truth values that are the same
abbrev pub same_truth : Bool → Bool → Bool
same_truth true b = b
same_truth false b = not b

-- indices that are the same
abbrev pub same_index : Index0 → Index0 → Bool
same_index a b = same_ty a.ty b.ty && same_int a.value b.value

-- operands that are the same as they are written
abbrev pub same_operand : Operand → Operand → Bool
same_operand (Int m) (Int n) = same_int m n
same_operand (Truth a) (Truth b) = same_truth a b
same_operand NullWord NullWord = true
same_operand Undef Undef = true
same_operand Poison Poison = true
same_operand (LocalName a) (LocalName b) = same_name a b
same_operand (Global a) (Global b) = same_name a b
same_operand (Const p) (Const q) = same_ty p.source q.source && (same_name p.base q.base && all_two same_index p.indices q.indices)
same_operand a b = false

-- an entry has the operand of another, where there is one
abbrev pub agrees_with : Entry → Option Entry → Bool
agrees_with e (Some first) = same_operand first.value e.value
agrees_with e None = true

-- entries of one block have the operand of the first of them
abbrev pub entries_agree : List Entry → Bool
entries_agree entries = list_all (λ (e : Entry). agrees_with e (first_where (λ (g : Entry). same_name g.from e.from) entries)) entries

-- whether an instruction is a phi
abbrev pub is_phi : Op → Bool
is_phi (Phi ty entries) = true
is_phi other = false

-- a phi of a block stands behind phis alone, and its entries are those of the edges to the block
abbrev pub phi_fits : List (List ℕ) → List Inst → Op → Bool
phi_fits from before (Phi ty entries) = list_all (λ (i : Inst). is_phi i.op) before && (entries_fit from entries && entries_agree entries)
phi_fits from before other = true

-- allocas stand in the entry block
abbrev pub alloca_fits : ℕ → Op → Bool
alloca_fits block (Alloca ty count) = nat_eq block 0
alloca_fits block other = true

-- an instruction in a block of that number, behind others
abbrev pub inst_fits : Module → Function → ℕ → Block → List Inst → Inst → Bool
inst_fits m f block b before i =
    (op_rules m (env_of f) i.op && names_value i.result (kind_given i.op))
    && (phi_fits (predecessors f.blocks b.label) before i.op && alloca_fits block i.op)

-- the number that a case stands for
abbrev pub case_number : Kind → Operand → ℕ
case_number (Number w) (Int n) = literal w n
case_number kind (Truth true) = 1
case_number kind other = 0

-- no number stands behind itself, in a row or in one in front of it
abbrev pub none_repeats : List ℕ → List ℕ → Bool
none_repeats before [] = true
none_repeats before (n ∷ ns) = not (list_any (nat_eq n) before) && none_repeats (before ++ n ∷ []) ns

-- the cases of a switch differ modulo its width
abbrev pub cases_differ : Term → Bool
cases_differ (Switch ty a default cases) = none_repeats [] (map (λ (c : Case). case_number (kind_of ty) c.value) cases)
cases_differ other = true

-- whether a label is that of the entry block
abbrev pub is_entry : List Block → List ℕ → Bool
is_entry [] label = false
is_entry (b ∷ bs) label = same_name label b.label

-- no edge goes to the entry block
abbrev pub spares_entry : List Block → Term → Bool
spares_entry blocks end = not (list_any (is_entry blocks) (labels_of end))

-- a terminator
abbrev pub end_fits : Module → Function → Term → Bool
end_fits m f end = term_fits m (env_of f) (kind_of f.ret) end && (cases_differ end && spares_entry f.blocks end)

-- a function gives void or a value, and takes values
abbrev pub function_fits : Function → Bool
function_fits f = is_result f.ret && list_all (λ (p : Param). is_value (kind_of p.ty)) f.params

-- so does a declaration
abbrev pub declaration_fits : Extern → Bool
declaration_fits e = is_result e.ret && list_all (λ (t : Ty). is_value (kind_of t)) e.params

-- an element of an initialiser: its type, and whether it fits it
pub record Fitted : Type 0 where
  pub ty : Ty
  pub fits : Bool

-- elements of an array
abbrev pub array_fits : List Fitted → Ty-F Ty → Bool
array_fits es (Ty-F.Array n of) = nat_eq (length es) n && list_all (λ (e : Fitted). same_ty e.ty of && e.fits) es
array_fits es other = false

-- bytes of an array of bytes
abbrev pub text_fits : List ℕ → Ty-F Ty → Bool
text_fits bytes (Ty-F.Array n of) = nat_eq (length bytes) n && same_kind (kind_of of) (Number W8)
text_fits bytes other = false

-- elements that are fields
abbrev pub fields_fit : List Fitted → List Ty → Bool
fields_fit es fields = all_two (λ (e : Fitted) t. same_ty e.ty t && e.fits) es fields

-- of a struct, or of a packed one
abbrev pub struct_fits : Bool → List Fitted → Ty-F Ty → Bool
struct_fits packed es (Ty-F.Struct fields) = not packed && fields_fit es fields
struct_fits packed es (Ty-F.Packed fields) = packed && fields_fit es fields
struct_fits packed es other = false

-- the fields of a named type
abbrev pub named_fields : Option NamedTy → Ty-F Ty
named_fields (Some t) = out-Ty t.fields
named_fields None = Ty-F.Void

-- a type with its name replaced
abbrev pub opened : List NamedTy → Ty-F Ty → Ty-F Ty
opened types (Ty-F.Named name) = named_fields (first_where (λ (t : NamedTy). same_name t.name name) types)
opened types other = other

-- a value that stands for itself; undef and poison fit any type
abbrev pub value_fits : Module → Ty → Operand → Bool
value_fits m ty Undef = true
value_fits m ty Poison = true
value_fits m ty v = operand_fits m (λ name. None) (kind_of ty) v

-- an initialiser, one level
abbrev pub init_fits_at : Module → Init-F (Ty → Bool) Fitted → Ty → Bool
init_fits_at m (Init-F.Value v) ty = value_fits m ty v
init_fits_at m Init-F.Zero ty = true
init_fits_at m (Init-F.Text bytes) ty = text_fits bytes (out-Ty ty)
init_fits_at m (Init-F.Array es) ty = array_fits es (out-Ty ty)
init_fits_at m (Init-F.Struct es) ty = struct_fits false es (opened m.types (out-Ty ty))
init_fits_at m (Init-F.Packed es) ty = struct_fits true es (opened m.types (out-Ty ty))

-- an initialiser fits a type
abbrev pub init_fits : Module → Init → Ty → Bool
init_fits m = fold-Init (Ty → Bool) Fitted (init_fits_at m) (λ (e : Elem-F (Ty → Bool) Fitted). record { ty = e.ty; fits = e.init e.ty })

-- an element against its own type
abbrev pub fitted : Module → Elem → Fitted
fitted m e = record { ty = e.ty; fits = init_fits m e.init e.ty }

-- a place where a rule fails
abbrev pub unless : Bool → Spot → List Spot
unless fits at = if fits then [] else at ∷ []

-- the places of a block where a rule fails
abbrev pub faults_in_block : Module → Function → ℕ → ℕ × Block → List Spot
faults_in_block m f number (block, b) =
    flat_map (λ (p : ℕ × Inst). unless (inst_fits m f block b (take p.0 b.insts) p.1) (Spot.Inst number block p.0)) (enumerate_from 0 b.insts)
    ++ unless (end_fits m f b.end) (Spot.Inst number block (length b.insts))

-- of a function, its own types first
abbrev pub faults_in_function : Module → ℕ × Function → List Spot
faults_in_function m (number, f) = unless (function_fits f) (Spot.Function number) ++ flat_map (faults_in_block m f number) (enumerate_from 0 f.blocks)

-- of a module: globals, declarations, and functions with what is in them
abbrev pub type_faults : Module → List Spot
type_faults m =
    flat_map (λ (p : ℕ × GlobalVar). unless (init_fits m p.1.init p.1.ty) (Spot.Global p.0)) (enumerate_from 0 m.globals)
    ++ flat_map (λ (p : ℕ × Extern). unless (declaration_fits p.1) (Spot.Extern p.0)) (enumerate_from 0 m.externs)
    ++ flat_map (faults_in_function m) (enumerate_from 0 m.functions)
