-- The machine of an object. It stands at places of functions and slots; no address of code occurs in it.
use Rattle.std.specs.Prelude.{ℕ, ◌+◌, ◌*◌, nat_eq, nat_lt, if◌then◌else◌, List, [], ◌∷◌, drop, Option, Some, None, slice_get, ℤ}
use Rattle.behavior.specs.Ending.{NoForm, Breakpoint}
use Rattle.behavior.specs.Moment.{Behavior}
use Rattle.behavior.specs.System.{iter}
use Rattle.x86_core.specs.declared.instr.Instr.TheVariants.{Nop}
use Rattle.x86_core.specs.declared.instr.Decoded.{Decoded}
use Rattle.x86_core.specs.declared.instr.Decoded.TheVariants.{One, Short, Unknown}
use Rattle.x86_core.specs.Arithmetic.{moved}
use Rattle.x86_core.specs.Decoding.{decode}
use Rattle.x86_core.specs.Data.{data_segments, stack_end}
use Rattle.x86_core.specs.Step.{Fetched, Stops, Plain, Goes, Calls, CallsWord, Systems, sorted, State, moment_of, step_of}
use Rattle.x86_core.specs.Run.{Act, run_over, started}
use Rattle.obj_core.specs.declared.object.Object.{Object}
use Rattle.obj_core.specs.declared.object.Func.{Func}
use Rattle.obj_core.specs.declared.object.Link.{Link}
use Rattle.obj_core.specs.declared.object.Slot.{Slot}
use Rattle.obj_core.specs.declared.object.CodeAt.{CodeAt}
use Rattle.obj_core.specs.declared.object.Place.{Place}
use Rattle.obj_core.specs.Slots.{slot_base, slot_start, positions}

-- the slot to which the displacement goes whose four bytes end at an offset
abbrev pub link_before : List Link → ℕ → Option ℕ
link_before [] end = None
link_before (l ∷ ls) end = if nat_eq (l.at + 4) end then Some l.slot else link_before ls end

-- where a displacement leads whose instruction ends at an offset: to the slot of its link, or into the function
abbrev pub target : ℕ → ℕ → Option ℕ → ℤ → Place
target f end (Some k) by = Place.Slot k 0
target f end None by = Place.Code f (moved end by)

abbrev pub by_decoded : Func → ℕ → ℕ → Decoded → Fetched Place
by_decoded f n off (One i size) = sorted i (Place.Code n (off + size)) (target n (off + size) (link_before f.links (off + size))) 0
by_decoded f n off Short = Stops NoForm
by_decoded f n off Unknown = Stops NoForm

-- no well-formed object comes to a place that is none of these
abbrev pub in_function : Option Func → ℕ → ℕ → Fetched Place
in_function None n off = Stops NoForm
in_function (Some f) n off = by_decoded f n off (decode (drop off f.bytes))

abbrev pub at_code : CodeAt → Place
at_code c = Place.Code c.function c.offset

abbrev pub in_slot : Option Slot → Object → ℕ → ℕ → Fetched Place
in_slot None o k at = Stops NoForm
in_slot (Some (Slot.Entry f)) o k at = if nat_eq at 0 then Goes (Place.Code f 0) else Stops Breakpoint
in_slot (Some (Slot.Jump f)) o k at = if nat_eq at 0 then Goes (Place.Code f 0) else Stops Breakpoint
in_slot (Some (Slot.Call f back)) o k at = if nat_eq at 0 then Calls (Place.Code f 0) (slot_start o k + 5) else Goes (at_code back)
in_slot (Some (Slot.Indirect back)) o k at =
    if nat_lt at 2 then Plain Nop (Place.Slot k (at + 1)) else
    (if nat_eq at 2 then CallsWord (slot_start o k + 5) else Goes (at_code back))
in_slot (Some (Slot.System back)) o k at =
    if nat_eq at 0 then Systems (Place.Slot k 2) (slot_start o k + 2) else
    (if nat_lt at 5 then Plain Nop (Place.Slot k (at + 1)) else Goes (at_code back))

abbrev pub symbolic_fetch : Object → Place → Fetched Place
symbolic_fetch o (Place.Code n off) = in_function (slice_get o.functions n) n off
symbolic_fetch o (Place.Slot k at) = in_slot (slice_get o.slots k) o k at

-- the landing place of a word: the start of a slot, or the byte behind its call
abbrev pub landing_from : List ℕ → ℕ → ℕ → Option Place
landing_from [] k w = None
landing_from (p ∷ ps) k w =
    if nat_eq w (slot_base + 16 * p) then Some (Place.Slot k 0) else
    (if nat_eq w (slot_base + 16 * p + 5) then Some (Place.Slot k 5) else landing_from ps (k + 1) w)

abbrev pub symbolic_land : Object → ℕ → Option Place
symbolic_land o w = landing_from (positions o) 0 w

abbrev pub symbolic_step : Object → State Place → State Place
symbolic_step o s = step_of (λ _. symbolic_fetch o) (symbolic_land o) s

-- at the entry slot, with the stack's end in rsp
abbrev pub symbolic_start : Object → List ℕ → State Place
symbolic_start o input = started (Place.Slot 0 0) (data_segments o.ro o.rw) input stack_end 0

abbrev pub symbolic_run : Object → List ℕ → List Act → State Place
symbolic_run o input acts = run_over (symbolic_step o) acts (symbolic_start o input)

abbrev pub symbolic_behavior : Object → Behavior
symbolic_behavior o input n = moment_of (iter (symbolic_step o) n (symbolic_start o input))
