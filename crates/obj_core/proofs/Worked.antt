-- Small objects, run by the machine of objects: an exit, an invalid instruction, and a tour through all kinds of slots.
use Rattle.std.proofs.Common.{◌≡◌, ℕ, zero, suc, List, [], ◌∷◌, ◌++◌, refl}
use Rattle.std.specs.Prelude.{replicate}
use Rattle.rand_core.specs.Steps.{u32_at}
use Rattle.rand_chacha.specs.Block.{quarter_round, column_round, diagonal_round, double_rounds, block_word}
use Rattle.rd_draw.specs.Draw.{stream_key, stream_word, shuffled}
use Rattle.behavior.specs.Ending.{Ending, Going, Ended, Invalid, Strayed}
use Rattle.behavior.specs.System.{iter}
use Rattle.behavior.specs.Moment.{Moment}
use Rattle.x86_core.specs.declared.reg.Reg.TheVariants.{Rax, Rcx, R11}
use Rattle.x86_core.specs.Registers.{word}
use Rattle.x86_core.specs.Decoding.{decode}
use Rattle.x86_core.specs.Effect.{effect_of}
use Rattle.x86_core.specs.Data.{segment, stack_end}
use Rattle.x86_core.specs.Run.{started}
use Rattle.x86_core.specs.Step.{State, request_of}
use Rattle.obj_core.specs.declared.object.Object.{Object}
use Rattle.obj_core.specs.declared.object.Func.{Func}
use Rattle.obj_core.specs.declared.object.FuncKind.{FuncKind}
use Rattle.obj_core.specs.declared.object.Link.{Link}
use Rattle.obj_core.specs.declared.object.Slot.{Slot}
use Rattle.obj_core.specs.declared.object.CodeAt.{CodeAt}
use Rattle.obj_core.specs.declared.object.Place.{Place}
use Rattle.obj_core.specs.Slots.{positions}
use Rattle.obj_core.specs.SymbolicMachine.{symbolic_step, symbolic_behavior}

-- a plain function
abbrev pub plain : List ℕ → List Link → Func
plain bytes links = record { kind = FuncKind.Plain; bytes = bytes; links = links; cuts = [] }

-- a link
abbrev pub link : ℕ → ℕ → Link
link at slot = record { at = at; slot = slot }

-- a place in code
abbrev pub place : ℕ → ℕ → CodeAt
place function offset = record { function = function; offset = offset }

-- an object without data
abbrev object : List Func → List Slot → Object
object functions slots = record { slot_seed = 1; reg_seed = 2; functions = functions; slots = slots; ro = []; rw = [] }

-- what a run shows that neither prints nor takes
abbrev silent : Ending → Moment
silent ending = record { printed = []; taken = 0; ending = ending }

-- main: sub rsp, 0; mov edi, 7; mov eax, 60; jmp to the exit; ud2
abbrev main : Func
main = plain (
    72 ∷ 129 ∷ 236 ∷ 0 ∷ 0 ∷ 0 ∷ 0
    ∷ 191 ∷ 7 ∷ 0 ∷ 0 ∷ 0
    ∷ 184 ∷ 60 ∷ 0 ∷ 0 ∷ 0
    ∷ 233 ∷ 0 ∷ 0 ∷ 0 ∷ 0
    ∷ 15 ∷ 11 ∷ []) (link 18 2 ∷ [])

-- start: jmp to main
abbrev start : Func
start = plain (233 ∷ 0 ∷ 0 ∷ 0 ∷ 0 ∷ []) (link 1 1 ∷ [])

-- main returns 7
abbrev seven : Object
seven = object (main ∷ start ∷ []) (Slot.Entry 1 ∷ Slot.Jump 0 ∷ Slot.System (place 0 22) ∷ [])

-- entry, start, main's slot, three instructions of main, and its jump
seven_at_7 : symbolic_behavior seven [] 7 ≡ silent Going
unfolding decode effect_of request_of
seven_at_7 = refl

-- the exit
seven_at_8 : symbolic_behavior seven [] 8 ≡ silent (Ended 7)
unfolding decode effect_of request_of
seven_at_8 = refl

-- ud2 alone
abbrev invalid : Object
invalid = object (plain (15 ∷ 11 ∷ []) [] ∷ []) (Slot.Entry 0 ∷ [])

-- in its function
invalid_at_1 : symbolic_behavior invalid [] 1 ≡ silent Going
invalid_at_1 = refl

-- at ud2
invalid_at_2 : symbolic_behavior invalid [] 2 ≡ silent Invalid
unfolding decode effect_of request_of
invalid_at_2 = refl

-- calls ret by its slot, then by a pointer in r11, and goes on by a pointer in r11
abbrev pub caller : Func
caller = plain (
    233 ∷ 0 ∷ 0 ∷ 0 ∷ 0
    ∷ 65 ∷ 187 ∷ 0x50 ∷ 0 ∷ 0 ∷ 0x10
    ∷ 233 ∷ 0 ∷ 0 ∷ 0 ∷ 0
    ∷ 65 ∷ 187 ∷ 0x10 ∷ 0 ∷ 0 ∷ 0x10
    ∷ 65 ∷ 255 ∷ 227 ∷ []) (link 1 1 ∷ link 12 3 ∷ [])

-- ret
abbrev pub returner : Func
returner = plain (195 ∷ []) []

-- asks the kernel for the input's next 0 bytes, and goes by r11, where flags are then, and no slot's address
abbrev pub asker : Func
asker = plain (233 ∷ 0 ∷ 0 ∷ 0 ∷ 0 ∷ 65 ∷ 255 ∷ 227 ∷ []) (link 1 4 ∷ [])

-- the entry, a call of ret, two pointers, a call by pointer, and a call of the kernel
abbrev pub tour : Object
tour = record {
  slot_seed = 4;
  reg_seed = 2;
  functions = caller ∷ returner ∷ asker ∷ [];
  slots = Slot.Entry 0 ∷ Slot.Call 1 (place 0 5) ∷ Slot.Jump 1 ∷ Slot.Indirect (place 0 16) ∷ Slot.System (place 2 5) ∷ Slot.Jump 2 ∷ [];
  ro = [];
  rw = [];
}

-- at slot 0, over a stack of two words
abbrev pub tour_start : State Place
tour_start = started (Place.Slot 0 0) (segment 3221225456 (replicate 16 0) 6 ∷ []) [] stack_end 0

-- the places of a run's first steps
abbrev pub places : {P : Type 0} → (State P → State P) → ℕ → State P → List P
places step zero s = []
places step (suc n) s = s.place ∷ places step n (step s)

-- where the tour goes
tour_goes : places (symbolic_step tour) 24 tour_start ≡
    Place.Slot 0 0 ∷ Place.Code 0 0 ∷
    Place.Slot 1 0 ∷ Place.Code 1 0 ∷ Place.Slot 1 5 ∷ Place.Code 0 5 ∷ Place.Code 0 11 ∷
    Place.Slot 3 0 ∷ Place.Slot 3 1 ∷ Place.Slot 3 2 ∷ Place.Slot 2 0 ∷ Place.Code 1 0 ∷ Place.Slot 3 5 ∷ Place.Code 0 16 ∷ Place.Code 0 22 ∷
    Place.Slot 5 0 ∷ Place.Code 2 0 ∷
    Place.Slot 4 0 ∷ Place.Slot 4 2 ∷ Place.Slot 4 3 ∷ Place.Slot 4 4 ∷ Place.Slot 4 5 ∷ Place.Code 2 5 ∷ Place.Code 2 5 ∷ []
unfolding decode effect_of request_of u32_at quarter_round column_round diagonal_round double_rounds block_word stream_key stream_word shuffled positions
tour_goes = refl

-- it strays at the last of them, and not before
tour_goes_on : (iter (symbolic_step tour) 22 tour_start).ending ≡ Going
unfolding decode effect_of request_of u32_at quarter_round column_round diagonal_round double_rounds block_word stream_key stream_word shuffled positions
tour_goes_on = refl

tour_strays : (iter (symbolic_step tour) 23 tour_start).ending ≡ Strayed
unfolding decode effect_of request_of u32_at quarter_round column_round diagonal_round double_rounds block_word stream_key stream_word shuffled positions
tour_strays = refl

-- what the kernel leaves: its answer, the place behind the call, and the flags, which are all 0
tour_answered : let s = iter (symbolic_step tour) 18 tour_start in word s.regs Rax ∷ word s.regs Rcx ∷ word s.regs R11 ∷ [] ≡ 0 ∷ 0x10000032 ∷ 514 ∷ []
unfolding decode effect_of request_of u32_at quarter_round column_round diagonal_round double_rounds block_word stream_key stream_word shuffled positions
tour_answered = refl

-- what the two calls left on the stack: the address behind the second one's slot
tour_pushed : (iter (symbolic_step tour) 22 tour_start).segments ≡ segment 3221225456 (replicate 8 0 ++ (0x25 ∷ 0 ∷ 0 ∷ 0x10 ∷ replicate 4 0)) 6 ∷ []
unfolding decode effect_of request_of u32_at quarter_round column_round diagonal_round double_rounds block_word stream_key stream_word shuffled positions
tour_pushed = refl
