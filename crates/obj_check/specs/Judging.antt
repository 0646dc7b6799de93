-- What the answers of the verifier say of an object.
use Rattle.std.specs.Prelude.{List, Option, Some, None}
use Rattle.x86_core.specs.declared.instr.Instr.{Instr}
use Rattle.obj_core.specs.declared.object.Slot.{Slot}
use Rattle.obj_core.specs.declared.object.Object.{Object}
use Rattle.obj_core.specs.Disassembly.{found}
use Rattle.obj_core.specs.WellFormed.{Violation, IsWellFormed, IsFirstViolation, or_else, in_slots, in_functions, is_good_slot, agrees_with, zero_unless, is_saved_well, bad_cut}
use Rattle.obj_check.specs.declared.fault.Broken.{Broken}
use Rattle.obj_check.specs.declared.fault.ShapeFault.{ShapeFault}
use Rattle.obj_check.specs.Least.{spot_of, violation_of}

-- the first of rules 6 and 7 that fails
abbrev pub slot_violation : List Slot → List (List Instr) → Option Violation
slot_violation slots disassemblies = or_else (in_slots 6 (λ k s. is_good_slot disassemblies s) 0 slots) (in_slots 7 agrees_with 0 slots)

-- the first of rules 8 and 9 that fails
abbrev pub last_violation : Object → List (List Instr) → Option Violation
last_violation o disassemblies =
    or_else (in_functions 8 (λ n f instrs. zero_unless (is_saved_well o.reg_seed n f instrs)) 0 o.functions disassemblies)
    (in_functions 9 (λ n f instrs. bad_cut 0 (found instrs) f.cuts) 0 o.functions disassemblies)

-- the first of rules 6 to 9 that fails
abbrev pub later_violation : Object → List (List Instr) → Option Violation
later_violation o disassemblies = or_else (slot_violation o.slots disassemblies) (last_violation o disassemblies)

-- nothing is wrong, or this comes first
abbrev pub Judges : Object → Option Broken → Type 0
Judges o None = IsWellFormed o
Judges o (Some b) = IsFirstViolation o (violation_of b)

-- a fault names the first violation; want of memory says nothing of the object
abbrev pub NamesViolation : Object → ShapeFault → Type 0
NamesViolation o (ShapeFault.Rule rule spot offset) = IsFirstViolation o (record { rule = rule; spot = spot_of spot; offset = offset })
NamesViolation o ShapeFault.NoMemory = Unit {0}
