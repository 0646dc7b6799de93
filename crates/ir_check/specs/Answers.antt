-- What the answers of the checker say of a module.
use Rattle.std.specs.Prelude.{◌≡◌, List, slice_get, Option, Some, None, Result, MatchResult}
use Rattle.ir_core.specs.declared.module.Module.{Module}
use Rattle.ir_core.specs.Refusals.{Fault, first_fault}
use Rattle.ir_check.specs.declared.CheckFault.{CheckFault}
use Rattle.ir_check.specs.declared.CheckFault.TheVariants.{Doubled, Unknown, Limit, External, NoMain, BadType, NoMemory}

-- the refusal that a fault is; want of memory is none
abbrev pub refusal_of : CheckFault → Option Fault
refusal_of (Doubled name) = Some (Fault.Doubled name)
refusal_of (Unknown name) = Some (Fault.Unknown name)
refusal_of (Limit which count) = Some (Fault.Limited which count)
refusal_of (External name) = Some (Fault.External name)
refusal_of NoMain = Some Fault.NoMain
refusal_of (BadType spot) = Some (Fault.BadType spot)
refusal_of NoMemory = None

-- the first of refusals
abbrev pub first_of : List Fault → Option Fault
first_of faults = slice_get faults 0

-- a refusal, if it is one, is the first
abbrev pub IsFirst : Option Fault → Option Fault → Type 0
IsFirst first (Some fault) = first ≡ Some fault
IsFirst first None = Unit {0}

-- there is no refusal, or a fault is the first one or want of memory
abbrev pub Decides : Option Fault → Result Unit CheckFault → Type 0
Decides first r = MatchResult r (λ _. first ≡ None) (λ fault. IsFirst first (refusal_of fault))

-- nothing refuses a module
abbrev pub IsAccepted : Module → Type 0
IsAccepted m = first_fault m ≡ None

-- a fault is the first refusal of a module; want of memory says nothing
abbrev pub IsRefusedBy : Module → CheckFault → Type 0
IsRefusedBy m fault = IsFirst (first_fault m) (refusal_of fault)
