-- The program of registers that a program without switches becomes.
use Rattle.std.specs.Prelude.{ℕ, List, map, Bool, false, codes}
use Rattle.std.specs.List.{list_any}
use Rattle.ir_core.specs.declared.module.Function.{Function}
use Rattle.ir_core.specs.declared.module.Module.{Module}
use Rattle.ir_core.specs.Mentions.{Mention, OfType, OfLabel, OfLocal, OfCallee, OfBase, OfSymbol, mentions}
use Rattle.ir_core.specs.Names.{same_name}
use Rattle.ir_core.specs.Operands.{function_number}
use Rattle.low_core.specs.declared.moves.Body.{Body}
use Rattle.low_core.specs.declared.sel.Sel.{Sel}
use Rattle.low_core.specs.Plain.{plain}
use Rattle.isel_rows.specs.Variables.{number_or_first}
use Rattle.isel_rows.specs.Functions.{function_selected}

-- a name that is mentioned as a value: as an operand that isn't a callee, or in an initialiser
abbrev pub is_value_of : List ℕ → Mention → Bool
is_value_of name (OfSymbol n) = same_name n name
is_value_of name (OfType ty) = false
is_value_of name (OfLabel n) = false
is_value_of name (OfLocal n) = false
is_value_of name (OfCallee n) = false
is_value_of name (OfBase n) = false

-- a pointer to the function may arise
abbrev pub is_taken : Module → Function → Bool
is_taken m f = list_any (is_value_of f.name) (mentions m)

-- a whole module
abbrev pub module_selected : Module → Sel
module_selected m = record {
  functions = map (function_selected m) m.functions;
  main = number_or_first (function_number m (codes "main"));
  taken = map (is_taken m) m.functions;
}

-- the module for which a base and bodies stand
unfoldable pub selected : Module → List Body → Sel
selected base bodies = module_selected (plain base bodies)
