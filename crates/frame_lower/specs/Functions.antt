-- The functions of an object that a program of registers becomes.
use Rattle.std.specs.Prelude.{ℕ, suc, ◌+◌, ◌*◌, List, [], ◌∷◌, ◌++◌, map, take, get_or, if◌then◌else◌, pos}
use Rattle.x86_core.specs.declared.reg.Reg.{Reg}
use Rattle.x86_core.specs.declared.reg.Reg.TheVariants.{Rsp}
use Rattle.x86_core.specs.declared.instr.Wide.{Wide}
use Rattle.x86_core.specs.declared.instr.ImmOp.{ImmOp}
use Rattle.x86_core.specs.declared.instr.Instr.{Instr}
use Rattle.x86_core.specs.declared.instr.Instr.TheVariants as instr
use Rattle.low_core.specs.declared.sel.Home.{Home}
use Rattle.low_core.specs.declared.sel.SelFun.{SelFun}
use Rattle.low_core.specs.declared.sel.Sel.{Sel}
use Rattle.frame_rows.specs.Bodies.{spot_of, addresses_of}
use Rattle.slot_plan.specs.Slots.{takens}
use Rattle.obj_core.specs.declared.address.SlotAddr.{SlotAddr}
use Rattle.obj_core.specs.declared.object.Func.{Func}
use Rattle.obj_core.specs.declared.object.FuncKind.{FuncKind}
use Rattle.obj_core.specs.declared.plan.SlotPlan.{SlotPlan}
use Rattle.obj_core.specs.declared.plan.Placing.{Placing}
use Rattle.obj_core.specs.Disassembly.{size_of, spelled}
use Rattle.obj_core.specs.Saved.{five_of}
use Rattle.obj_core.specs.Slots.{slot_base, push_purpose}
use Rattle.obj_core.specs.WellFormed.{is_end}
use Rattle.obj_rows.specs.Marked.{Marked, all_unlinked, instrs_of, row_size, links_from}
use Rattle.frame_lower.specs.Frames.{spots, frame_words, room_bytes}
use Rattle.frame_lower.specs.Calls.{receive_row}
use Rattle.frame_lower.specs.Rows.{Making, count_row, push_row}
use Rattle.frame_lower.specs.Blocks.{calls_of_blocks, starts_from, start_in, blocks_row}

-- what stands in front of the first block
abbrev pub front_row : Making → SelFun → List Marked
front_row by f = all_unlinked (count_row ++ (push_row by.order ++ (instr.AluImm ImmOp.Sub Wide.W64 Rsp (pos by.room) ∷ receive_row by.homes by.room f.params)))

-- a whole function, whose calls go by the slots from one on
abbrev pub function_row : Making → ℕ → SelFun → List Marked
function_row by slot f =
    let front = front_row by f in
    front ++ blocks_row by (start_in (starts_from by (row_size front) f.blocks)) (row_size front) slot f.blocks

-- where a row may be cut: behind each instruction that nothing runs past, but for the last one
abbrev pub cuts_from : ℕ → List Instr → List ℕ
cuts_from at [] = []
cuts_from at (i ∷ []) = []
cuts_from at (i ∷ j ∷ is) =
    if is_end i then (at + size_of i) ∷ cuts_from (at + size_of i) (j ∷ is) else cuts_from (at + size_of i) (j ∷ is)

-- a row as a function of an object
abbrev pub saved_function : List Marked → Func
saved_function row = record { kind = FuncKind.Saved; bytes = spelled (instrs_of row); links = links_from 0 row; cuts = cuts_from 0 (instrs_of row) }

-- a function with so many of its cuts, the first ones
abbrev pub with_cuts : ℕ → Func → Func
with_cuts most f = record f { cuts = take most f.cuts }

-- the address of a function as a pointer
abbrev pub slot_number : SlotAddr → ℕ
slot_number a = slot_base + 16 * a.position

-- what is decided before code is written: the homes of registers, the names of colours, and the addresses
pub record Choices : Type 0 where
  pub homes : List (List Home)
  pub reg_seed : ℕ
  pub names : List (List Reg)
  pub placing : Placing
  pub slots : SlotPlan

-- a function of a number, with its homes and the names of its colours
abbrev pub making_with : List ℕ → List ℕ → ℕ → ℕ → List Reg → List Home → SelFun → Making
making_with globals functions reg_draw number names homes f = record {
  homes = spot_of (spots names f homes);
  plan = addresses_of globals functions;
  words = frame_words f homes;
  room = room_bytes f homes;
  order = five_of reg_draw push_purpose number;
}

-- the function of a number
abbrev pub making_of : Choices → ℕ → SelFun → Making
making_of c number f =
    making_with c.placing.globals (map slot_number c.slots.pointers) c.reg_seed number (get_or c.names number []) (get_or c.homes number []) f

-- functions one after another, the first of them with a number and with the slot of its first call
abbrev pub functions_with : List ℕ → List ℕ → ℕ → List (List Reg) → List (List Home) → ℕ → ℕ → List SelFun → List Func
functions_with globals functions reg_draw names homes number slot [] = []
functions_with globals functions reg_draw names homes number slot (f ∷ fs) =
    saved_function (function_row (making_with globals functions reg_draw number (get_or names number []) (get_or homes number []) f) slot f)
    ∷ functions_with globals functions reg_draw names homes (suc number) (slot + calls_of_blocks f.blocks) fs

-- the functions of a program; the slots of calls stand behind the entry and the functions to which a pointer may arise
unfoldable pub lowered : Choices → Sel → List Func
lowered c sel = functions_with c.placing.globals (map slot_number c.slots.pointers) c.reg_seed c.names c.homes 0 (suc (takens sel.taken)) sel.functions
