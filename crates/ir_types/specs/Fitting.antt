-- Words for parts of the rules of types, as the functions that decide them share them.
use Rattle.std.specs.Prelude.{ℕ, zero, suc, List, Bool, ◌&&◌, map, slice_get, option_map, Option, Some, None}
use Rattle.std.specs.List.{list_all}
use Rattle.ir_core.specs.declared.ty.Ty.{Ty, out-Ty, fold-Ty}
use Rattle.ir_core.specs.declared.ty.Ty.TheOpen.{Ty-F}
use Rattle.ir_core.specs.declared.ty.NamedTy.{NamedTy}
use Rattle.ir_core.specs.declared.operand.Index0.{Index0}
use Rattle.ir_core.specs.declared.init.Elem.{Elem}
use Rattle.ir_core.specs.declared.instruction.Arg.{Arg}
use Rattle.ir_core.specs.declared.instruction.Entry.{Entry}
use Rattle.ir_core.specs.declared.module.Module.{Module}
use Rattle.ir_core.specs.Names.{same_name, first_where}
use Rattle.ir_core.specs.declared.kind.Kind.{Kind}
use Rattle.ir_core.specs.Kinds.{kind_of}
use Rattle.ir_core.specs.Valid.{Fitted, same_ty, fitted}
use Rattle.ir_core.specs.Typing.{Env, Leads, leads_at, leads_named, is_index, int_fits, operand_fits}

-- no local is known
abbrev pub no_locals : Env
no_locals name = None

-- whether indices lead to a part of a type where names can be replaced n times
unfoldable pub leads_within : List NamedTy → ℕ → Ty → Leads
leads_within types n = fold-Ty Leads (leads_at (leads_named types n))

-- a part of a type, and how often names can still be replaced in it
pub record Part : Type 0 where
  pub ty : Ty
  pub names : ℕ

-- a field, if there is one
abbrev pub field_part : List Ty → ℕ → Option ℕ → Option Part
field_part fields n (Some i) = option_map (λ (t : Ty). record { ty = t; names = n }) (slice_get fields i)
field_part fields n None = None

-- the part of a type to which an index leads, whose number is known or not, one level
abbrev pub part_at : (List ℕ → Option Part) → ℕ → Option ℕ → Ty-F Ty → Option Part
part_at named n known Ty-F.Void = None
part_at named n known (Ty-F.Int w) = None
part_at named n known Ty-F.Ptr = None
part_at named n known (Ty-F.Array count of) = Some (record { ty = of; names = n })
part_at named n known (Ty-F.Struct fields) = field_part fields n known
part_at named n known (Ty-F.Packed fields) = field_part fields n known
part_at named n known (Ty-F.Named name) = named name

-- in a named type, if there is one
abbrev pub part_or_none : (Ty-F Ty → Option Part) → Option NamedTy → Option Part
part_or_none part (Some t) = part (out-Ty t.fields)
part_or_none part None = None

-- in a named type, where names can be replaced n times
abbrev pub part_named : List NamedTy → Option ℕ → ℕ → List ℕ → Option Part
part_named types known zero name = None
part_named types known (suc n) name = part_or_none (part_at (part_named types known n) n known) (first_where (λ (t : NamedTy). same_name t.name name) types)

-- in any type
abbrev pub part_in : List NamedTy → Option ℕ → ℕ → Ty → Option Part
part_in types known n ty = part_at (part_named types known n) n known (out-Ty ty)

-- literal indices are of index types and fit
abbrev pub literals_fit : List Index0 → Bool
literals_fit indices = list_all (λ (i : Index0). is_index (kind_of i.ty) && int_fits (kind_of i.ty) i.value) indices

-- so are those of an instruction
abbrev pub indices_fit : Module → Env → List Arg → Bool
indices_fit m env indices = list_all (λ (a : Arg). is_index (kind_of a.ty) && operand_fits m env (kind_of a.ty) a.value) indices

-- the operands of entries fit
abbrev pub entries_typed : Module → Env → Kind → List Entry → Bool
entries_typed m env kind entries = list_all (λ (e : Entry). operand_fits m env kind e.value) entries

-- elements are of one type, and fit it
abbrev pub elements_fit : Module → Ty → List Elem → Bool
elements_fit m of es = list_all (λ (e : Fitted). same_ty e.ty of && e.fits) (map (fitted m) es)
