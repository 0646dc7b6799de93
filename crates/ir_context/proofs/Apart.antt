-- Names of symbols that differ: those of globals do, and those of functions.
use Rattle.std.proofs.Common.{◌≡◌, ℕ, List, [], ◌∷◌, ◌++◌}
use Rattle.ir_core.specs.declared.module.Module.{Module}
use Rattle.ir_core.specs.Definitions.{repeated, variable_names, extern_names, function_names}
use Rattle.ir_core.specs.Refusals.{symbols}
use Rattle.ir_core.proofs.Distinct.{repeated_split, Sub, sub_repeat}

-- a whole list
whole : (names : List (List ℕ)) → Sub names names
whole [] = Sub.Done
whole (n ∷ ns) = Sub.Keeps n (whole ns)

-- the end of a list
behind : (front names : List (List ℕ)) → Sub names (front ++ names)
behind [] names = whole names
behind (n ∷ front) names = Sub.Skips n (behind front names)

pub globals_differ : (m : Module) → repeated [] (symbols m) ≡ [] → repeated [] (variable_names m) ≡ []
globals_differ m none = (repeated_split [] (variable_names m) (extern_names m ++ function_names m) none).0

pub functions_differ : (m : Module) → repeated [] (symbols m) ≡ [] → repeated [] (function_names m) ≡ []
functions_differ m none =
    sub_repeat [] (behind (extern_names m) (function_names m)) (sub_repeat [] (behind (variable_names m) (extern_names m ++ function_names m)) none)
