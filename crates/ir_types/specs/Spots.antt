-- The places of a function where a rule of types fails, over rows of predecessors.
use Rattle.std.specs.Prelude.{◌≡◌, ℕ, List, Bool, true, ◌&&◌, take, slice_get, Option}
use Rattle.std.specs.List.{flat_map, list_all, enumerate_from}
use Rattle.ir_core.specs.declared.limit.Spot.{Spot}
use Rattle.ir_core.specs.declared.instruction.Op.{Op}
use Rattle.ir_core.specs.declared.instruction.Op.TheVariants.{Phi}
use Rattle.ir_core.specs.declared.instruction.Entry.{Entry}
use Rattle.ir_core.specs.declared.instruction.Inst.{Inst}
use Rattle.ir_core.specs.declared.module.Block.{Block}
use Rattle.ir_core.specs.declared.module.Function.{Function}
use Rattle.ir_core.specs.declared.module.GlobalVar.{GlobalVar}
use Rattle.ir_core.specs.declared.module.Extern.{Extern}
use Rattle.ir_core.specs.declared.module.Module.{Module}
use Rattle.ir_core.specs.Typing.{kind_given}
use Rattle.ir_core.specs.Valid.{env_of, op_rules, names_value, entries_fit, entries_agree, is_phi, alloca_fits, unless, predecessors, init_fits, declaration_fits, faults_in_function}

-- a phi stands behind phis alone or doesn't, and its entries are for a row of labels
abbrev pub phi_placed : List (List ℕ) → Bool → Op → Bool
phi_placed row early (Phi ty entries) = early && (entries_fit row entries && entries_agree entries)
phi_placed row early other = true

-- whether all of some instructions are phis
abbrev pub are_phis : List Inst → Bool
are_phis insts = list_all (λ (i : Inst). is_phi i.op) insts

-- an instruction in a block of that number, whose predecessors are a row
abbrev pub inst_placed : Module → Function → List (List ℕ) → ℕ → Bool → Inst → Bool
inst_placed m f row number early i =
    (op_rules m (env_of f) i.op && names_value i.result (kind_given i.op)) && (phi_placed row early i.op && alloca_fits number i.op)

-- the place of an instruction where it fails
abbrev pub inst_faults : Module → Function → List (List ℕ) → ℕ → ℕ → List Inst → ℕ × Inst → List Spot
inst_faults m f row function number insts p = unless (inst_placed m f row number (are_phis (take p.0 insts)) p.1) (Spot.Inst function number p.0)

-- the places of instructions
abbrev pub insts_faults : Module → Function → List (List ℕ) → ℕ → ℕ → List Inst → List Spot
insts_faults m f row function number insts = flat_map (inst_faults m f row function number insts) (enumerate_from 0 insts)

-- the first of places
abbrev pub first_spot : List Spot → Option Spot
first_spot spots = slice_get spots 0

-- entries fit a row where they fit the predecessors of a block
abbrev pub HasSources : Function → Block → List (List ℕ) → Type 0
HasSources f b row = (entries : List Entry) → entries_fit row entries ≡ entries_fit (predecessors f.blocks b.label) entries

-- globals whose initialisers aren't of their types
abbrev pub global_faults : Module → List Spot
global_faults m = flat_map (λ (p : ℕ × GlobalVar). unless (init_fits m p.1.init p.1.ty) (Spot.Global p.0)) (enumerate_from 0 m.globals)

-- declarations whose types aren't those of one
abbrev pub extern_faults : Module → List Spot
extern_faults m = flat_map (λ (p : ℕ × Extern). unless (declaration_fits p.1) (Spot.Extern p.0)) (enumerate_from 0 m.externs)

-- the places of functions
abbrev pub functions_faults : Module → List Spot
functions_faults m = flat_map (faults_in_function m) (enumerate_from 0 m.functions)
