-- The slots of a program of registers: the entry, a jump for each function to which a pointer may arise, the calls by their
-- functions and numbers, and the slots of the routines. The routines are the six functions behind those of the program.
use Rattle.std.specs.Prelude.{◌≡◌, ℕ, suc, ◌+◌, List, [], ◌∷◌, ◌++◌, Bool, true, false, length, Option, Some, None, slice_index}
use Rattle.rd_draw.specs.Draw.{keystream_word, shuffled}
use Rattle.low_core.specs.declared.sel.Which.{Which}
use Rattle.low_core.specs.declared.sel.Which.TheVariants.{Putchar, Getchar, Exit, Memcpy, Memset, Trap}
use Rattle.low_core.specs.declared.sel.SelOp.{SelOp}
use Rattle.low_core.specs.declared.sel.SelOp.TheVariants.{Call, CallAt, Outside}
use Rattle.low_core.specs.declared.sel.SelFun.{SelFun}
use Rattle.low_core.specs.declared.sel.Sel.{Sel}
use Rattle.low_core.specs.SelParts.{ops_of}
use Rattle.obj_core.specs.declared.address.SlotAddr.{SlotAddr}
use Rattle.obj_core.specs.declared.plan.Slot0.{Slot0}
use Rattle.obj_core.specs.declared.plan.SlotPlan.{SlotPlan}
use Rattle.obj_core.specs.declared.plan.Slot0.TheVariants as slot
use Rattle.obj_core.specs.Slots.{slot_purpose}

-- what there is, as a list
abbrev pub list_of : Option Slot0 → List Slot0
list_of (Some s) = s ∷ []
list_of None = []

-- the routines by their places among the six: the first starts the program
abbrev pub routine_place : Which → ℕ
routine_place Putchar = 1
routine_place Getchar = 2
routine_place Exit = 3
routine_place Memcpy = 4
routine_place Memset = 5
routine_place Trap = 0

-- a jump for each function that is taken, the first of them with a number
abbrev pub jumps_from : ℕ → List Bool → List Slot0
jumps_from f [] = []
jumps_from f (true ∷ ts) = slot.Jump f ∷ jumps_from (suc f) ts
jumps_from f (false ∷ ts) = jumps_from (suc f) ts

-- the slot of an operation, where it is a call, from a function of so many, at a number of calls before it
abbrev pub call_slot : ℕ → ℕ → ℕ → SelOp → List Slot0
call_slot count f n (Call g r args) = slot.Call g (record { function = f; number = n }) ∷ []
call_slot count f n (CallAt s r args) = slot.Indirect (record { function = f; number = n }) ∷ []
call_slot count f n (Outside Trap r args) = []
call_slot count f n (Outside which r args) = slot.Call (count + routine_place which) (record { function = f; number = n }) ∷ []
call_slot count f n other = []

-- those of operations, behind a number of calls
abbrev pub calls_from : ℕ → ℕ → ℕ → List SelOp → List Slot0
calls_from count f n [] = []
calls_from count f n (op ∷ ops) = call_slot count f n op ++ calls_from count f (n + length (call_slot count f n op)) ops

-- those of functions, the first of them with a number
abbrev pub all_calls_from : ℕ → ℕ → List SelFun → List Slot0
all_calls_from count f [] = []
all_calls_from count f (fn ∷ fns) = calls_from count f 0 (ops_of fn) ++ all_calls_from count (suc f) fns

-- the routines: the start calls the first function of the run and ends with what it gives; three others ask the kernel
abbrev pub routine_slots : ℕ → ℕ → List Slot0
routine_slots count main =
    slot.Call main (record { function = count; number = 0 }) ∷ slot.System (record { function = count; number = 1 })
    ∷ slot.System (record { function = count + 1; number = 0 }) ∷ slot.System (record { function = count + 2; number = 0 })
    ∷ slot.System (record { function = count + 3; number = 0 }) ∷ []

-- all slots in their order
abbrev pub slots_of : Sel → List Slot0
slots_of sel =
    let count = length sel.functions in
    slot.Entry count ∷ (jumps_from 0 sel.taken ++ (all_calls_from count 0 sel.functions ++ routine_slots count sel.main))

-- where they stand
abbrev pub positions_of : ℕ → ℕ → List ℕ
positions_of slot_seed count = shuffled (keystream_word slot_seed slot_purpose 0) count

-- the slot at a place in the order, as an address
abbrev pub address_of : List ℕ → ℕ → SlotAddr
address_of positions k = record { position = slice_index positions k }

-- an address for each function: that of its jump, or that of the first slot; so many slots stand before
abbrev pub pointers_from : List ℕ → ℕ → List Bool → List SlotAddr
pointers_from positions k [] = []
pointers_from positions k (true ∷ ts) = address_of positions k ∷ pointers_from positions (suc k) ts
pointers_from positions k (false ∷ ts) = address_of positions 0 ∷ pointers_from positions k ts

-- the plan of a program for a slot seed
pub record IsPlan (sel : Sel) (slot_seed : ℕ) (p : SlotPlan) : Type 0 where
  pub slots : p.slots ≡ slots_of sel
  pub positions : p.positions ≡ positions_of slot_seed (length (slots_of sel))
  pub pointers : p.pointers ≡ pointers_from p.positions 1 sel.taken

-- the operations of functions, counted
abbrev pub operations : List SelFun → ℕ
operations [] = 0
operations (f ∷ fs) = length (ops_of f) + operations fs

-- the functions to which a pointer may arise, counted
abbrev pub takens : List Bool → ℕ
takens [] = 0
takens (true ∷ ts) = suc (takens ts)
takens (false ∷ ts) = takens ts
