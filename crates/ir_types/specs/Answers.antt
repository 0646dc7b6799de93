-- What the answers of the checker of types say of a module.
use Rattle.std.specs.Prelude.{◌≡◌, None, Some}
use Rattle.ir_core.specs.declared.module.Module.{Module}
use Rattle.ir_core.specs.Valid.{type_faults}
use Rattle.ir_types.specs.declared.TypeFault.{TypeFault}
use Rattle.ir_types.specs.declared.TypeFault.TheVariants.{At, NoMemory}
use Rattle.ir_types.specs.Spots.{first_spot}

-- all rules hold
abbrev pub AreTyped : Module → Type 0
AreTyped m = first_spot (type_faults m) ≡ None

-- the first rule that fails does so there; want of memory says nothing
abbrev pub IsTypeFault : Module → TypeFault → Type 0
IsTypeFault m (At spot) = first_spot (type_faults m) ≡ Some spot
IsTypeFault m NoMemory = Unit {0}
