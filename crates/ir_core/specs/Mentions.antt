-- What the text of a module mentions, in the order of its canonical text.
use Rattle.std.specs.Prelude.{ℕ, List, [], ◌∷◌, ◌++◌, map}
use Rattle.std.specs.List.{flat_map}
use Rattle.ir_core.specs.declared.ty.Ty.{Ty, fold-Ty}
use Rattle.ir_core.specs.declared.ty.Ty.TheOpen.{Ty-F}
use Rattle.ir_core.specs.declared.ty.Ty.TheVariants.{Void, Int as IntTy, Ptr, Array as ArrayTy, Struct as StructTy, Packed as PackedTy, Named}
use Rattle.ir_core.specs.declared.ty.NamedTy.{NamedTy}
use Rattle.ir_core.specs.declared.operand.Operand.{Operand}
use Rattle.ir_core.specs.declared.operand.Operand.TheVariants.{Local as LocalName, Global, Const}
use Rattle.ir_core.specs.declared.operand.Index0.{Index0}
use Rattle.ir_core.specs.declared.init.Init.{Init, fold-Init}
use Rattle.ir_core.specs.declared.init.Init.TheOpen.{Init-F, Elem-F}
use Rattle.ir_core.specs.declared.instruction.Arg.{Arg}
use Rattle.ir_core.specs.declared.instruction.Entry.{Entry}
use Rattle.ir_core.specs.declared.instruction.Case.{Case}
use Rattle.ir_core.specs.declared.instruction.Inst.{Inst}
use Rattle.ir_core.specs.declared.instruction.Op.{Op}
use Rattle.ir_core.specs.declared.instruction.Op.TheVariants.{Bin, Compare, Cast, Select, Freeze, Alloca, Load, Store, Gep, Phi, Call}
use Rattle.ir_core.specs.declared.instruction.Term.{Term}
use Rattle.ir_core.specs.declared.instruction.Term.TheVariants.{Ret, RetValue, Br, BrIf, Switch, Unreachable}
use Rattle.ir_core.specs.declared.module.Block.{Block}
use Rattle.ir_core.specs.declared.module.Param.{Param}
use Rattle.ir_core.specs.declared.module.Extern.{Extern}
use Rattle.ir_core.specs.declared.module.Function.{Function}
use Rattle.ir_core.specs.declared.module.GlobalVar.{GlobalVar}
use Rattle.ir_core.specs.declared.module.Module.{Module}

-- a type, or a name with what its place needs to be defined by it
pub data Mention : Type 0 where
  OfType : (ty : Ty) → Mention
  -- a block of the function
  OfLabel : (name : List ℕ) → Mention
  -- a parameter or a result of the function
  OfLocal : (name : List ℕ) → Mention
  -- a function, defined or declared
  OfCallee : (name : List ℕ) → Mention
  -- a global
  OfBase : (name : List ℕ) → Mention
  -- a global or a function
  OfSymbol : (name : List ℕ) → Mention

-- a type with those that are written in it
pub record Written : Type 0 where
  pub ty : Ty
  pub parts : List Ty

-- a type stands in front of those inside it
abbrev pub written : Ty → List Written → Written
written ty inside = record { ty = ty; parts = ty ∷ flat_map (λ (w : Written). w.parts) inside }

-- the types of several
abbrev pub types_written : List Written → List Ty
types_written inside = map (λ (w : Written). w.ty) inside

-- one level
abbrev pub written_at : Ty-F Written → Written
written_at Ty-F.Void = written Void []
written_at (Ty-F.Int w) = written (IntTy w) []
written_at Ty-F.Ptr = written Ptr []
written_at (Ty-F.Array n of) = written (ArrayTy n of.ty) (of ∷ [])
written_at (Ty-F.Struct fields) = written (StructTy (types_written fields)) fields
written_at (Ty-F.Packed fields) = written (PackedTy (types_written fields)) fields
written_at (Ty-F.Named name) = written (Named name) []

-- a type and all types that stand inside it, each in front of those inside it
unfoldable pub parts_of : Ty → List Ty
parts_of ty = (fold-Ty Written written_at ty).parts

-- the names of types, one level
abbrev pub names_at : Ty-F (List (List ℕ)) → List (List ℕ)
names_at Ty-F.Void = []
names_at (Ty-F.Int w) = []
names_at Ty-F.Ptr = []
names_at (Ty-F.Array n of) = of
names_at (Ty-F.Struct fields) = flat_map (λ ns. ns) fields
names_at (Ty-F.Packed fields) = flat_map (λ ns. ns) fields
names_at (Ty-F.Named name) = name ∷ []

-- the names of types that stand in a type
abbrev pub names_of : Ty → List (List ℕ)
names_of = fold-Ty (List (List ℕ)) names_at

-- the types of literal indices
abbrev pub of_indices : List Index0 → List Mention
of_indices indices = map (λ (i : Index0). OfType i.ty) indices

-- an operand
abbrev pub of_operand : Operand → List Mention
of_operand (LocalName name) = OfLocal name ∷ []
of_operand (Global name) = OfSymbol name ∷ []
of_operand (Const place) = OfType place.source ∷ OfBase place.base ∷ of_indices place.indices
of_operand other = []

-- an operand with its type in front
abbrev pub of_typed : Ty → Operand → List Mention
of_typed ty a = OfType ty ∷ of_operand a

-- arguments and indices
abbrev pub of_args : List Arg → List Mention
of_args args = flat_map (λ (a : Arg). of_typed a.ty a.value) args

-- entries of a phi
abbrev pub of_entries : List Entry → List Mention
of_entries entries = flat_map (λ (e : Entry). of_operand e.value ++ OfLabel e.from ∷ []) entries

-- what is called
abbrev pub of_callee : Operand → List Mention
of_callee (Global name) = OfCallee name ∷ []
of_callee other = of_operand other

-- an instruction
abbrev pub of_op : Op → List Mention
of_op (Bin op ty a b) = of_typed ty a ++ of_operand b
of_op (Compare pred ty a b) = of_typed ty a ++ of_operand b
of_op (Cast op from a to) = of_typed from a ++ OfType to ∷ []
of_op (Select condition ty a ty2 b) = of_operand condition ++ (of_typed ty a ++ of_typed ty2 b)
of_op (Freeze ty a) = of_typed ty a
of_op (Alloca ty count) = OfType ty ∷ []
of_op (Load ty p) = of_typed ty p
of_op (Store ty a p) = of_typed ty a ++ of_operand p
of_op (Gep source p indices) = of_typed source p ++ of_args indices
of_op (Phi ty entries) = OfType ty ∷ of_entries entries
of_op (Call ret callee args) = OfType ret ∷ (of_callee callee ++ of_args args)

-- cases of a switch
abbrev pub of_cases : List Case → List Mention
of_cases cases = flat_map (λ (c : Case). of_typed c.ty c.value ++ OfLabel c.to ∷ []) cases

-- a terminator
abbrev pub of_end : Term → List Mention
of_end Ret = []
of_end (RetValue ty a) = of_typed ty a
of_end (Br to) = OfLabel to ∷ []
of_end (BrIf condition taken other) = of_operand condition ++ OfLabel taken ∷ OfLabel other ∷ []
of_end (Switch ty a default cases) = of_typed ty a ++ OfLabel default ∷ of_cases cases
of_end Unreachable = []

-- a block
abbrev pub of_block : Block → List Mention
of_block b = flat_map (λ (i : Inst). of_op i.op) b.insts ++ of_end b.end

-- a function
abbrev pub of_function : Function → List Mention
of_function f = OfType f.ret ∷ (map (λ (p : Param). OfType p.ty) f.params ++ flat_map of_block f.blocks)

-- an initialiser, one level
abbrev pub of_init_at : Init-F (List Mention) (List Mention) → List Mention
of_init_at (Init-F.Value v) = of_operand v
of_init_at Init-F.Zero = []
of_init_at (Init-F.Text bytes) = []
of_init_at (Init-F.Array elements) = flat_map (λ ms. ms) elements
of_init_at (Init-F.Struct elements) = flat_map (λ ms. ms) elements
of_init_at (Init-F.Packed elements) = flat_map (λ ms. ms) elements

-- an initialiser; an element has its type in front
abbrev pub of_init : Init → List Mention
of_init = fold-Init (List Mention) (List Mention) of_init_at (λ (e : Elem-F (List Mention) (List Mention)). OfType e.ty ∷ e.init)

-- a global
abbrev pub of_global : GlobalVar → List Mention
of_global g = OfType g.ty ∷ of_init g.init

-- a declaration
abbrev pub of_extern : Extern → List Mention
of_extern e = OfType e.ret ∷ map (λ (t : Ty). OfType t) e.params

-- named types, globals and declarations
abbrev pub outside_functions : Module → List Mention
outside_functions m = map (λ (t : NamedTy). OfType t.fields) m.types ++ (flat_map of_global m.globals ++ flat_map of_extern m.externs)

-- a module
abbrev pub mentions : Module → List Mention
mentions m = outside_functions m ++ flat_map of_function m.functions

-- the types that are written in a mention
abbrev pub types_in : Mention → List Ty
types_in (OfType ty) = parts_of ty
types_in other = []

-- all types that are written in a module
abbrev pub written_types : Module → List Ty
written_types m = flat_map types_in (mentions m)
