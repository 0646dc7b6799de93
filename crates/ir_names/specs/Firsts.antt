-- The first of names, and names that are added to a set until one is there already.
use Rattle.std.specs.Prelude.{◌≡◌, ℕ, List, [], ◌∷◌, ◌++◌, map, slice_get, Option, None}
use Rattle.std.specs.List.{flat_map}
use Rattle.ir_core.specs.declared.instruction.Inst.{Inst}
use Rattle.ir_core.specs.declared.module.Function.{Function}
use Rattle.ir_core.specs.declared.module.Module.{Module}
use Rattle.ir_core.specs.Definitions.{local_mark, global_mark, variable_names, extern_names, result_names, local_names, repeated, repeated_in}

-- the first of names
abbrev pub first_name : List (List ℕ) → Option (List ℕ)
first_name names = slice_get names 0

-- which of the names that are added is there already; without one, the set has all of them behind its own
pub record Adds (before after names : List (List ℕ)) (found : Option (List ℕ)) : Type 0 where
  pub first : found ≡ first_name (repeated before names)
  pub added : found ≡ None → after ≡ before ++ names

-- results of instructions
abbrev pub insts_names : List Inst → List (List ℕ)
insts_names insts = flat_map (λ (i : Inst). result_names i.result) insts

-- globals and declarations
abbrev pub front_names : Module → List (List ℕ)
front_names m = variable_names m ++ extern_names m

-- what a function repeats, its own name behind `@` names
abbrev pub repeated_by : List (List ℕ) → Function → List (List ℕ)
repeated_by before f = map global_mark (repeated before (f.name ∷ [])) ++ map local_mark (repeated [] (local_names f))

-- what repeats behind the named types of a module
abbrev pub repeated_symbols : Module → List (List ℕ)
repeated_symbols m = map global_mark (repeated [] (front_names m)) ++ repeated_in (front_names m) m.functions
