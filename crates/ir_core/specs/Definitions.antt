-- What a module defines, in the order of its canonical text, and names that are defined a second time.
use Rattle.std.specs.Prelude.{ℕ, List, [], ◌∷◌, ◌++◌, Bool, Option, Some, None, map, if◌then◌else◌}
use Rattle.std.specs.List.{flat_map, list_any}
use Rattle.ir_core.specs.declared.ty.NamedTy.{NamedTy}
use Rattle.ir_core.specs.declared.instruction.Inst.{Inst}
use Rattle.ir_core.specs.declared.module.Block.{Block}
use Rattle.ir_core.specs.declared.module.Param.{Param}
use Rattle.ir_core.specs.declared.module.Extern.{Extern}
use Rattle.ir_core.specs.declared.module.Function.{Function}
use Rattle.ir_core.specs.declared.module.GlobalVar.{GlobalVar}
use Rattle.ir_core.specs.declared.module.Module.{Module}
use Rattle.ir_core.specs.Names.{same_name}

-- a name as a text has it: a type or a local with its mark
abbrev pub local_mark : List ℕ → List ℕ
local_mark name = 37 ∷ name

-- a global or a function with its mark
abbrev pub global_mark : List ℕ → List ℕ
global_mark name = 64 ∷ name

-- named types
abbrev pub type_names : Module → List (List ℕ)
type_names m = map (λ (t : NamedTy). t.name) m.types

-- globals
abbrev pub variable_names : Module → List (List ℕ)
variable_names m = map (λ (g : GlobalVar). g.name) m.globals

-- declarations
abbrev pub extern_names : Module → List (List ℕ)
extern_names m = map (λ (e : Extern). e.name) m.externs

-- defined functions
abbrev pub function_names : Module → List (List ℕ)
function_names m = map (λ (f : Function). f.name) m.functions

-- the result of an instruction, where it has a name
abbrev pub result_names : Option (List ℕ) → List (List ℕ)
result_names (Some name) = name ∷ []
result_names None = []

-- a block's label and the results of its instructions
abbrev pub block_names : Block → List (List ℕ)
block_names b = b.label ∷ flat_map (λ (i : Inst). result_names i.result) b.insts

-- parameters
abbrev pub param_names : Function → List (List ℕ)
param_names f = map (λ (p : Param). p.name) f.params

-- labels
abbrev pub label_names : Function → List (List ℕ)
label_names f = map (λ (b : Block). b.label) f.blocks

-- what a function defines inside
abbrev pub local_names : Function → List (List ℕ)
local_names f = param_names f ++ flat_map block_names f.blocks

-- whether a name is among others
abbrev pub is_among : List (List ℕ) → List ℕ → Bool
is_among names name = list_any (same_name name) names

-- the names of a list that stand behind the same name, in the list or among others in front of it
abbrev pub repeated : List (List ℕ) → List (List ℕ) → List (List ℕ)
repeated before [] = []
repeated before (name ∷ names) = if is_among before name then name ∷ repeated before names else repeated (before ++ name ∷ []) names

-- of functions behind `@` names: their names, each in front of the locals of its own
abbrev pub repeated_in : List (List ℕ) → List Function → List (List ℕ)
repeated_in before [] = []
repeated_in before (f ∷ fs) =
    map global_mark (repeated before (f.name ∷ [])) ++ map local_mark (repeated [] (local_names f)) ++ repeated_in (before ++ f.name ∷ []) fs

-- names that are defined a second time: types apart, `@` names together, and the locals of each function
abbrev pub doubled : Module → List (List ℕ)
doubled m =
    let front = variable_names m ++ extern_names m in
    map local_mark (repeated [] (type_names m)) ++ map global_mark (repeated [] front) ++ repeated_in front m.functions
