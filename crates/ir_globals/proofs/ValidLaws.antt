-- What is known of a module that is known to be valid and no more.
use Rattle.std.proofs.Common.{◌≡◌, ◌<◌, ◌^◌, [], length, Option, None, ◌∙◌}
use Rattle.std.specs.Prelude.{◌&&◌, nat_lt}
use Rattle.std.specs.List.{list_all}
use Rattle.std.proofs.Props.{props}
use Rattle.std.proofs.Math.Logic.{∥∥₁_elim}
use Rattle.std.proofs.lemmas.Bool.{and_parts, ltb-true}
use Rattle.ir_core.specs.declared.module.Module.{Module}
use Rattle.ir_core.specs.Built.{built_all, named_built, global_built, extern_built, function_built}
use Rattle.ir_core.specs.Definitions.{doubled, repeated, type_names, variable_names, function_names}
use Rattle.ir_core.specs.Globals.{first_objects}
use Rattle.ir_core.specs.Memory.{Memory}
use Rattle.ir_core.specs.Refusals.{Fault, IsValid}
use Rattle.ir_core.proofs.Distinct.{types_differ, variables_differ, functions_differ}
use Rattle.ir_sound.proofs.NoFaults.{unrefused}
use Rattle.ir_globals.specs.Told.{told_objects}
use Rattle.ir_globals.proofs.FirstLaws.{first_told}

-- no refusal is no refusal in one way
no_fault : (o : Option Fault) → IsProp (o ≡ None)
no_fault = hlevel props

-- what is known to be valid is valid
pub known_valid : (m : Module) → ∥ IsValid m ∥₁ → IsValid m
known_valid m known = ∥∥₁_elim known (hlevel (props, no_fault)) (λ valid. valid)

-- no name is defined twice
pub valid_distinct : (m : Module) → ∥ IsValid m ∥₁ → doubled m ≡ []
valid_distinct m known = (unrefused m (known_valid m known).accepted).doubled

-- no type, no global and no function
pub valid_types : (m : Module) → ∥ IsValid m ∥₁ → repeated [] (type_names m) ≡ []
valid_types m known = types_differ m (valid_distinct m known)

pub valid_globals : (m : Module) → ∥ IsValid m ∥₁ → repeated [] (variable_names m) ≡ []
valid_globals m known = variables_differ m (valid_distinct m known)

pub valid_functions : (m : Module) → ∥ IsValid m ∥₁ → repeated [] (function_names m) ≡ []
valid_functions m known = functions_differ m (valid_distinct m known)

-- functions can be numbered in 32 bits
pub valid_few : (m : Module) → ∥ IsValid m ∥₁ → length m.functions < 2 ^ 32
valid_few m known =
    let built = and_parts (built_all named_built m.types && built_all global_built m.globals) (built_all extern_built m.externs && built_all function_built m.functions) (known_valid m known).built in
    let functions = (and_parts (built_all extern_built m.externs) (built_all function_built m.functions) built.1).1 in
    ltb-true (length m.functions) (2 ^ 32) (and_parts (nat_lt (length m.functions) (2 ^ 32)) (list_all function_built m.functions) functions).0

-- its first objects are told as they are
pub valid_told : (m : Module) → ∥ IsValid m ∥₁ → (objects : Memory) → objects ≡ told_objects m → objects ≡ first_objects m
valid_told m known objects told = told ∙ first_told m (known_valid m known)
