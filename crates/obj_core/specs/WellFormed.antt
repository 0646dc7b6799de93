-- Which objects are well formed, and what is the first thing that is wrong with another one. There are nine rules,
-- in order; a rule speaks of functions, in order, or of slots, in order, and in a function the least offset counts.
use Rattle.std.specs.Prelude.{◌≡◌, ℕ, ◌+◌, ◌≤◌, ◌⊎◌, Bool, true, false, not, ◌&&◌, ◌||◌, nat_eq, nat_lt, min, if◌then◌else◌, List, [], ◌∷◌, ◌++◌, length, sum, map, Option, Some, None, slice_get, ℤ, pos, negsuc}
use Rattle.x86_core.specs.declared.instr.Instr.{Instr}
use Rattle.x86_core.specs.declared.instr.Instr.TheVariants.{Jcc, Jmp, Call, Ret, CallR11, JmpR11, Syscall, Ud2, Int3}
use Rattle.x86_core.specs.Arithmetic.{moved}
use Rattle.x86_core.specs.Encoding.{encoding, IsInstr}
use Rattle.obj_core.specs.declared.object.TheConstants.{MOST_FUNCTIONS, MOST_PIECES, MOST_SLOTS, MOST_CODE, MOST_DATA}
use Rattle.obj_core.specs.declared.object.Object.{Object}
use Rattle.obj_core.specs.declared.object.Func.{Func}
use Rattle.obj_core.specs.declared.object.FuncKind.{FuncKind}
use Rattle.obj_core.specs.declared.object.Link.{Link}
use Rattle.obj_core.specs.declared.object.Slot.{Slot}
use Rattle.obj_core.specs.declared.object.CodeAt.{CodeAt}
use Rattle.obj_core.specs.Object.{Each, IsObject}
use Rattle.obj_core.specs.Disassembly.{AreDisassemblies, Found, found, starts_at, spelled, size_of}
use Rattle.obj_core.specs.Saved.{prologue, begins_with, are_first_colors}

-- the limits of rule 1
abbrev pub most_functions : ℕ
most_functions = MOST_FUNCTIONS

abbrev pub most_pieces : ℕ
most_pieces = MOST_PIECES

abbrev pub most_slots : ℕ
most_slots = MOST_SLOTS

abbrev pub most_code : ℕ
most_code = MOST_CODE

abbrev pub most_data : ℕ
most_data = MOST_DATA

-- rule 1, sizes: functions, pieces, slots, bytes of code, bytes of data; each cut makes one piece more
pub record AreFew (o : Object) : Type 0 where
  pub some_function : 1 ≤ length o.functions
  pub functions : length o.functions ≤ most_functions
  pub pieces : length o.functions + sum (map (λ (f : Func). length f.cuts) o.functions) ≤ most_pieces
  pub some_slot : 1 ≤ length o.slots
  pub slots : length o.slots ≤ most_slots
  pub code : sum (map (λ (f : Func). length f.bytes) o.functions) ≤ most_code
  pub data_bytes : length o.ro + length o.rw ≤ most_data

-- rule 3, transfers: what only a slot may do
abbrev pub is_slots_own : Instr → Bool
is_slots_own (Call by) = true
is_slots_own CallR11 = true
is_slots_own Syscall = true
is_slots_own i = false

abbrev pub forbidden_in : List Found → List ℕ
forbidden_in [] = []
forbidden_in (x ∷ xs) = if is_slots_own x.instr then x.at ∷ forbidden_in xs else forbidden_in xs

-- rule 4, branches: the displacement of a branch
abbrev pub displacement : Instr → Option ℤ
displacement (Jcc c by) = Some by
displacement (Jmp by) = Some by
displacement i = None

abbrev pub is_zero : Option ℤ → Bool
is_zero (Some (pos n)) = nat_eq n 0
is_zero (Some (negsuc n)) = false
is_zero None = false

abbrev pub end_of : Found → ℕ
end_of x = x.at + size_of x.instr

-- a branch with displacement 0 has its last four bytes here
abbrev pub fills_zero : List Found → ℕ → Bool
fills_zero [] at = false
fills_zero (x ∷ xs) at = (nat_eq (end_of x) (at + 4) && is_zero (displacement x.instr)) || fills_zero xs at

-- behind the link before it, at the displacement 0 of a branch, and to a slot that exists
abbrev pub is_good_link : Option ℕ → List Found → ℕ → Link → Bool
is_good_link None xs slots l = fills_zero xs l.at && nat_lt l.slot slots
is_good_link (Some before) xs slots l = nat_lt before l.at && (fills_zero xs l.at && nat_lt l.slot slots)

abbrev pub bad_links : Option ℕ → List Found → ℕ → List Link → List ℕ
bad_links before xs slots [] = []
bad_links before xs slots (l ∷ ls) =
    if is_good_link before xs slots l then bad_links (Some l.at) xs slots ls else l.at ∷ bad_links (Some l.at) xs slots ls

abbrev pub is_linked : List Link → ℕ → Bool
is_linked [] end = false
is_linked (l ∷ ls) end = nat_eq (l.at + 4) end || is_linked ls end

-- a branch without a link goes to the start of an instruction
abbrev pub goes_well : List Found → ℕ → Option ℤ → Bool
goes_well all end None = true
goes_well all end (Some by) = starts_at all (moved end by)

abbrev pub bad_branches : List Link → List Found → List Found → List ℕ
bad_branches links all [] = []
bad_branches links all (x ∷ xs) =
    if is_linked links (end_of x) || goes_well all (end_of x) (displacement x.instr) then bad_branches links all xs else x.at ∷ bad_branches links all xs

-- rule 5, ends: what a function may end with
abbrev pub is_end : Instr → Bool
is_end (Jmp by) = true
is_end JmpR11 = true
is_end Ret = true
is_end Ud2 = true
is_end Int3 = true
is_end i = false

abbrev pub open_end : List Found → List ℕ
open_end [] = []
open_end (x ∷ []) = if is_end x.instr then [] else x.at ∷ []
open_end (x ∷ y ∷ ys) = open_end (y ∷ ys)

-- rule 6, goals of slots
abbrev pub is_start : List (List Instr) → CodeAt → Bool
is_start disassemblies c = starts_in (slice_get disassemblies c.function) c.offset
  where
    starts_in : Option (List Instr) → ℕ → Bool
    starts_in None off = false
    starts_in (Some instrs) off = starts_at (found instrs) off

abbrev pub is_good_slot : List (List Instr) → Slot → Bool
is_good_slot disassemblies (Slot.Entry f) = nat_lt f (length disassemblies)
is_good_slot disassemblies (Slot.Jump f) = nat_lt f (length disassemblies)
is_good_slot disassemblies (Slot.Call f back) = nat_lt f (length disassemblies) && is_start disassemblies back
is_good_slot disassemblies (Slot.Indirect back) = is_start disassemblies back
is_good_slot disassemblies (Slot.System back) = is_start disassemblies back

-- rule 7, the entry: slot 0 and no other
abbrev pub is_entry : Slot → Bool
is_entry (Slot.Entry f) = true
is_entry s = false

abbrev pub agrees_with : ℕ → Slot → Bool
agrees_with k s = if nat_eq k 0 then is_entry s else not (is_entry s)

-- rule 8, saved registers
abbrev pub is_saved_well : ℕ → ℕ → Func → List Instr → Bool
is_saved_well reg_seed n f instrs = by_kind f.kind
  where
    by_kind : FuncKind → Bool
    by_kind FuncKind.Plain = true
    by_kind FuncKind.Saved = begins_with (prologue reg_seed n) f.bytes && are_first_colors reg_seed n instrs

-- rule 9, cuts: an instruction that nothing runs past ends at an offset
abbrev pub stops_at : List Found → ℕ → Bool
stops_at [] off = false
stops_at (x ∷ xs) off = (nat_eq (end_of x) off && is_end x.instr) || stops_at xs off

-- behind the cut before it, and between an instruction that nothing runs past and another one
abbrev pub is_good_cut : ℕ → List Found → ℕ → Bool
is_good_cut before xs cut = nat_lt before cut && (starts_at xs cut && stops_at xs cut)

-- the first cut that is not good, where 0 or another one comes before
abbrev pub bad_cut : ℕ → List Found → List ℕ → List ℕ
bad_cut before xs [] = []
bad_cut before xs (c ∷ cs) = if is_good_cut before xs c then bad_cut c xs cs else c ∷ []

-- where a violation is
pub data Spot : Type 0 where
  Whole : Spot
  Function : (n : ℕ) → Spot
  OfSlot : (k : ℕ) → Spot

pub record Violation : Type 0 where
  pub rule : ℕ
  pub spot : Spot
  pub offset : ℕ

abbrev pub least_from : ℕ → List ℕ → ℕ
least_from n [] = n
least_from n (m ∷ ms) = least_from (min n m) ms

abbrev pub or_else : Option Violation → Option Violation → Option Violation
or_else None v = v
or_else (Some v) w = Some v

abbrev pub at_least_offset : ℕ → ℕ → List ℕ → Option Violation
at_least_offset rule n [] = None
at_least_offset rule n (m ∷ ms) = Some (record { rule = rule; spot = Function n; offset = least_from m ms })

-- the first function in which a rule fails, from number n on
abbrev pub in_functions : ℕ → (ℕ → Func → List Instr → List ℕ) → ℕ → List Func → List (List Instr) → Option Violation
in_functions rule fails n (f ∷ fs) (instrs ∷ disassemblies) = or_else (at_least_offset rule n (fails n f instrs)) (in_functions rule fails (n + 1) fs disassemblies)
in_functions rule fails n fs disassemblies = None

-- the first slot that a test doesn't pass, from number k on
abbrev pub in_slots : ℕ → (ℕ → Slot → Bool) → ℕ → List Slot → Option Violation
in_slots rule passes k [] = None
in_slots rule passes k (s ∷ ss) = if passes k s then in_slots rule passes (k + 1) ss else Some (record { rule = rule; spot = OfSlot k; offset = 0 })

abbrev pub zero_unless : Bool → List ℕ
zero_unless true = []
zero_unless false = 0 ∷ []

-- the first of rules 3 to 9 that fails, where these are the functions' disassemblies
abbrev pub violation : Object → List (List Instr) → Option Violation
violation o disassemblies =
    or_else (in_functions 3 (λ n f instrs. forbidden_in (found instrs)) 0 o.functions disassemblies)
    (or_else (in_functions 4 (λ n f instrs. bad_links None (found instrs) (length o.slots) f.links ++ bad_branches f.links (found instrs) (found instrs)) 0 o.functions disassemblies)
    (or_else (in_functions 5 (λ n f instrs. open_end (found instrs)) 0 o.functions disassemblies)
    (or_else (in_slots 6 (λ k s. is_good_slot disassemblies s) 0 o.slots)
    (or_else (in_slots 7 agrees_with 0 o.slots)
    (or_else (in_functions 8 (λ n f instrs. zero_unless (is_saved_well o.reg_seed n f instrs)) 0 o.functions disassemblies)
    (in_functions 9 (λ n f instrs. bad_cut 0 (found instrs) f.cuts) 0 o.functions disassemblies))))))

-- all nine rules hold; rule 2 is that every function has a disassembly
pub record IsWellFormed (o : Object) : Type 0 where
  pub object : IsObject o
  pub few : AreFew o
  pub disassemblies : List (List Instr)
  pub disassembled : AreDisassemblies o.functions disassemblies
  pub kept : violation o disassemblies ≡ None

-- the bytes begin with whole instructions up to an offset inside them, and with none there; an empty function fails at 0
pub record IsStuck (bytes : List ℕ) (off : ℕ) : Type 0 where
  pub before : List Instr
  pub rest : List ℕ
  pub instructions : Each IsInstr before
  pub bytes_are : bytes ≡ spelled before ++ rest
  pub offset : off ≡ length (spelled before)
  pub inside : (1 ≤ length rest) ⊎ (bytes ≡ [])
  pub none : (i : Instr) → IsInstr i → (more : List ℕ) → rest ≡ encoding i ++ more → ⊥

-- the first function without a disassembly
pub record IsFirstStuck (fs : List Func) (n off : ℕ) : Type 0 where
  pub disassemblies : List (List Instr)
  pub before : List Func
  pub stuck : Func
  pub others : List Func
  pub functions : fs ≡ before ++ stuck ∷ others
  pub number : n ≡ length before
  pub disassembled : AreDisassemblies before disassemblies
  pub here : IsStuck stuck.bytes off

-- what is wrong with an object that is not well formed: the first rule that fails, where it fails first
abbrev pub IsFirstViolation : Object → Violation → Type 0
IsFirstViolation o v =
    ((v ≡ record { rule = 1; spot = Whole; offset = 0 }) × (AreFew o → ⊥)) ⊎
    (((n : ℕ) × (off : ℕ) × ((v ≡ record { rule = 2; spot = Function n; offset = off }) × AreFew o × IsFirstStuck o.functions n off)) ⊎
    (AreFew o × ((disassemblies : List (List Instr)) × (AreDisassemblies o.functions disassemblies × (violation o disassemblies ≡ Some v)))))
