-- The image of an object for a layout seed: slots, data, and code where the seed places it.
use Rattle.std.specs.Prelude.{ℕ, ◌+◌, ◌-◌, nat_lt, if◌then◌else◌, List, [], ◌∷◌, ◌++◌, length, take, drop, Option, Some, None, slice_get, ℤ, pos}
use Rattle.x86_core.specs.declared.image.Segment.{Segment}
use Rattle.x86_core.specs.declared.image.Image.{Image}
use Rattle.x86_core.specs.declared.instr.Instr.TheVariants.{Jmp, Call, CallR11, Syscall, Nop}
use Rattle.x86_core.specs.Arithmetic.{moved}
use Rattle.x86_core.specs.Encoding.{encoding}
use Rattle.x86_core.specs.Data.{ro_start, rw_start, segment}
use Rattle.obj_core.specs.declared.object.Object.{Object}
use Rattle.obj_core.specs.declared.object.Func.{Func}
use Rattle.obj_core.specs.declared.object.Link.{Link}
use Rattle.obj_core.specs.declared.object.Slot.{Slot}
use Rattle.obj_core.specs.declared.object.CodeAt.{CodeAt}
use Rattle.obj_core.specs.declared.piece.Piece.{Piece}
use Rattle.obj_core.specs.Slots.{slot_base, slot_start, positions}
use Rattle.obj_core.specs.Pieces.{piece_len}
use Rattle.obj_core.specs.Disassembly.{Found, instrs_in}
use Rattle.obj_core.specs.WellFormed.{displacement, end_of}
use Rattle.obj_core.specs.Placement.{filler, up16, displacement_bytes, overlaid, slot_in, inverse, code_base, row, starts, address, start_of}

-- four bytes at an offset of a function, and the address to which they lead
pub record Way : Type 0 where
  pub at : ℕ
  pub to : ℕ

-- a branch with a displacement leads into its function: the address of the place where it goes
abbrev pub way_of : (CodeAt → ℕ) → ℕ → Func → Found → Option ℤ → List Way
way_of code n f x None = []
way_of code n f x (Some by) =
    if nat_lt (moved (end_of x) by) (length f.bytes) then record { at = end_of x - 4; to = code (record { function = n; offset = moved (end_of x) by }) } ∷ [] else []

abbrev pub ways_of : (CodeAt → ℕ) → ℕ → Func → List Found → List Way
ways_of code n f [] = []
ways_of code n f (x ∷ xs) = way_of code n f x (displacement x.instr) ++ ways_of code n f xs

-- the branches of a function that is cut; in a function that is one piece they stay as they are
abbrev pub branch_ways : (CodeAt → ℕ) → ℕ → Func → List ℕ → List Way
branch_ways code n f [] = []
branch_ways code n f (c ∷ cs) = ways_of code n f (instrs_in f.bytes)

-- the branches that go to slots
abbrev pub link_ways : List ℕ → List Link → List Way
link_ways at [] = []
link_ways at (l ∷ ls) = record { at = l.at; to = slot_in at l.slot } ∷ link_ways at ls

-- bytes with displacements filled in, where the address behind four bytes is known
abbrev pub led : (ℕ → ℕ) → List Way → List ℕ → List ℕ
led behind [] bytes = bytes
led behind (w ∷ ws) bytes = led behind ws (overlaid bytes w.at (displacement_bytes w.to (behind w.at)))

-- the address behind four bytes of a function
abbrev pub behind : (CodeAt → ℕ) → ℕ → ℕ → ℕ
behind code n at = code (record { function = n; offset = at + 3 }) + 1

-- the bytes of a function whose branches lead where they go; a link counts more than the displacement that it replaces
abbrev pub filled : (CodeAt → ℕ) → List ℕ → ℕ → Func → List ℕ
filled code at n f = led (behind code n) (branch_ways code n f f.cuts ++ link_ways at f.links) f.bytes

abbrev pub filled_by : (CodeAt → ℕ) → List ℕ → ℕ → Option Func → List ℕ
filled_by code at n None = []
filled_by code at n (Some f) = filled code at n f

-- each function so
abbrev pub filled_in : (CodeAt → ℕ) → List ℕ → List Func → ℕ → List ℕ
filled_in code at fs n = filled_by code at n (slice_get fs n)

-- the bytes of each function as they are
abbrev pub bytes_by : Option Func → List ℕ
bytes_by None = []
bytes_by (Some f) = f.bytes

abbrev pub bytes_in : List Func → ℕ → List ℕ
bytes_in fs n = bytes_by (slice_get fs n)

-- the bytes of a piece, by the bytes of each function
abbrev pub piece_bytes : (ℕ → List ℕ) → Piece → List ℕ
piece_bytes bytes p = take (piece_len p) (drop p.from (bytes p.function))

-- pieces at the addresses where they begin, with breakpoints between and up to a multiple of 16
abbrev pub code_from : (ℕ → List ℕ) → ℕ → List ℕ → List Piece → List ℕ
code_from bytes end (start ∷ starts) (p ∷ ps) = filler (start - end) ++ (piece_bytes bytes p ++ code_from bytes (start + piece_len p) starts ps)
code_from bytes end starts ps = filler (up16 end - end)

-- the bytes of all code
unfoldable pub code_bytes : Object → ℕ → List ℕ
code_bytes o seed = code_from (filled_in (address o seed) (positions o) o.functions) (code_base seed) (starts o seed) (row o seed)

-- JMP rel32 and CALL rel32 that end at an address: the opcode, and the displacement from there
abbrev pub jump : ℕ → ℕ → List ℕ
jump to end = take 1 (encoding (Jmp (pos 0))) ++ displacement_bytes to end

abbrev pub call : ℕ → ℕ → List ℕ
call to end = take 1 (encoding (Call (pos 0))) ++ displacement_bytes to end

-- five bytes that call through r11, and five that ask the system
abbrev pub call_through_r11 : List ℕ
call_through_r11 = encoding Nop ++ (encoding Nop ++ encoding CallR11)

abbrev pub system_call : List ℕ
system_call = encoding Syscall ++ (encoding Nop ++ (encoding Nop ++ encoding Nop))

-- the sixteen bytes of a slot at an address, where code has these addresses
abbrev pub trampoline : (CodeAt → ℕ) → ℕ → Option Slot → List ℕ
trampoline code at None = filler 16
trampoline code at (Some (Slot.Entry target)) = jump (code (start_of target)) (at + 5) ++ filler 11
trampoline code at (Some (Slot.Jump target)) = jump (code (start_of target)) (at + 5) ++ filler 11
trampoline code at (Some (Slot.Call target back)) = call (code (start_of target)) (at + 5) ++ (jump (code back) (at + 10) ++ filler 6)
trampoline code at (Some (Slot.Indirect back)) = call_through_r11 ++ (jump (code back) (at + 10) ++ filler 6)
trampoline code at (Some (Slot.System back)) = system_call ++ (jump (code back) (at + 10) ++ filler 6)

-- slots of these numbers, one behind the other
abbrev pub trampolines : (CodeAt → ℕ) → List ℕ → List Slot → List ℕ → List ℕ
trampolines code at slots [] = []
trampolines code at slots (k ∷ ks) = trampoline code (slot_in at k) (slice_get slots k) ++ trampolines code at slots ks

-- the bytes of all slots, in the order of their positions
unfoldable pub trampoline_bytes : Object → ℕ → List ℕ
trampoline_bytes o seed = trampolines (address o seed) (positions o) o.slots (inverse (positions o))

-- a segment, unless it is empty
abbrev pub present : ℕ → List ℕ → ℕ → List Segment
present start [] rights = []
present start (b ∷ bs) rights = segment start (b ∷ bs) rights ∷ []

-- slots that may be run alone, data that may be read, data that may be written too, and code that may be run alone
abbrev pub segments : Object → ℕ → List Segment
segments o seed =
    present slot_base (trampoline_bytes o seed) 1 ++ (present ro_start o.ro 4 ++ (present rw_start o.rw 6 ++ present (code_base seed) (code_bytes o seed) 1))

unfoldable pub layout : Object → ℕ → Image
layout o seed = record { entry = slot_start o 0; segments = segments o seed }
