-- What the stack keeps of the calls that wait, by the bytes of memory above the running frame.
use Rattle.std.specs.Prelude.{◌≡◌, ◌≢◌, ℕ, suc, ◌+◌, ◌*◌, ◌^◌, ◌<◌, ◌≤◌, ◌⊎◌, true, List, [], ◌∷◌, ◌++◌, drop, take, map, get_or, slice_get, Some, Ok}
use Rattle.rd_num.specs.Number.{le_bytes}
use Rattle.x86_core.specs.declared.image.Segment.{Segment}
use Rattle.x86_core.specs.declared.reg.Reg.{Reg}
use Rattle.x86_core.specs.Data.{stack_start, stack_end}
use Rattle.x86_rows.specs.Addresses.{range_at}
use Rattle.x86_rows.specs.Straight.{Core}
use Rattle.low_core.specs.declared.sel.SelBlock.{SelBlock}
use Rattle.low_core.specs.declared.sel.SelEnd.{SelEnd}
use Rattle.low_core.specs.declared.sel.SelFun.{SelFun}
use Rattle.low_core.specs.declared.sel.SelOp.{SelOp}
use Rattle.low_core.specs.declared.sel.Sel.{Sel}
use Rattle.low_core.specs.Flat.{Span, is_inside}
use Rattle.low_core.specs.SelState.{SelFrame, word_in}
use Rattle.obj_core.specs.declared.object.Object.{Object}
use Rattle.obj_core.specs.declared.object.Place.{Place}
use Rattle.obj_core.specs.Saved.{saved_register}
use Rattle.obj_core.specs.SymbolicMachine.{symbolic_land, symbolic_step}
use Rattle.obj_rows.specs.Marked.{Marked, all_unlinked, row_size, Stands}
use Rattle.obj_rows.specs.Standing.{Outside, standing}
use Rattle.slot_plan.specs.Slots.{takens}
use Rattle.frame_rows.specs.declared.spot.Spot.{Spot}
use Rattle.frame_rows.specs.declared.spot.Spot.TheVariants.{Own, Frame}
use Rattle.frame_rows.specs.Ties.{Differ}
use Rattle.frame_lower.specs.Blocks.{calls_in, calls_of_blocks, ops_row, starts_from, start_in}
use Rattle.frame_lower.specs.Calls.{take_row}
use Rattle.frame_lower.specs.Functions.{front_row, function_row}
use Rattle.frame_lower.specs.Given.{calls_of_functions}
use Rattle.frame_lower.specs.Rows.{Making, end_row}

-- registers by the addresses where they are pushed, from the lowest one on: the last that is pushed is the first
abbrev pub upward : List ℕ → List Reg
upward [] = []
upward (place ∷ order) = upward order ++ saved_register place ∷ []

-- wherever a register was pushed, this word stands
abbrev pub Saved : List Segment → List Reg → ℕ → Reg → ℕ → Type 0
Saved ss [] p r n = Unit {0}
Saved ss (s ∷ rs) p r n = (s ≡ r → range_at ss p 8 ≡ le_bytes 8 n) × Saved ss rs (p + 8) r n

-- the word of a home of a function that waits: it stands in its frame, or where the function that it called pushed the register
abbrev pub Stored : List Segment → List ℕ → ℕ → ℕ → Spot → ℕ → Type 0
Stored ss order pushes base (Own r) n = Saved ss (upward order) pushes r n
Stored ss order pushes base (Frame k) n = range_at ss (base + 8 * k) 8 ≡ le_bytes 8 n

-- the eight bytes at an address are a word by which a run lands at a place
pub record IsWay (o : Object) (ss : List Segment) (at : ℕ) (place : Place) : Type 0 where
  pub word : ℕ
  pub small : word < 2 ^ 64
  pub there : range_at ss at 8 ≡ le_bytes 8 word
  pub lands : symbolic_land o word ≡ Some place

-- the most bytes of a frame, and the bytes that stay free below all of them
abbrev pub most_frame : ℕ
most_frame = 65536

abbrev pub spare_bytes : ℕ
spare_bytes = 4096

-- so many calls may still be made below an address
abbrev pub HasRoom : ℕ → ℕ → Type 0
HasRoom base depth = stack_start + spare_bytes + most_frame * depth ≤ base

-- the function of a number
abbrev pub no_function : SelFun
no_function = record { params = []; registers = 0; frame = 0; blocks = [] }

abbrev pub function_in : Sel → ℕ → SelFun
function_in sel g = get_or sel.functions g no_function

-- the slot of a function's first call, and of the first call behind operations of a block
abbrev pub first_slot : Sel → ℕ → ℕ
first_slot sel g = suc (takens sel.taken) + calls_of_functions (take g sel.functions)

abbrev pub slot_behind : Sel → ℕ → ℕ → List SelOp → ℕ
slot_behind sel g k ops = first_slot sel g + calls_of_blocks (take k (function_in sel g).blocks) + calls_in ops

-- what is left of a block from an operation on
abbrev pub rest_row : Making → (ℕ → ℕ) → ℕ → ℕ → List SelOp → SelEnd → List Marked
rest_row by starts at slot ops end =
    let row = ops_row by slot ops in
    row ++ end_row by starts (at + row_size row) end

-- the code of each function, and where its blocks start
abbrev pub code_in : Sel → (ℕ → Making) → ℕ → List Marked
code_in sel by g = function_row (by g) (first_slot sel g) (function_in sel g)

abbrev pub starts_in : Sel → (ℕ → Making) → ℕ → ℕ → ℕ
starts_in sel by g = start_in (starts_from (by g) (row_size (front_row (by g) (function_in sel g))) (function_in sel g).blocks)

-- what is left of a block of a function, by its number, from an operation on that stands at an offset
abbrev pub rest_in : Sel → (ℕ → Making) → ℕ → ℕ → ℕ → ℕ → SelBlock → List Marked
rest_in sel by g at k n b = rest_row (by g) (starts_in sel by g) at (slot_behind sel g k (take n b.ops)) (drop n b.ops) b.end

-- how the functions of a program are made, the globals, what is live before each operation of each block of each function, and
-- where the first function goes back
module _ (o : Object) (sel : Sel) (by : ℕ → Making) (globals : List Span) (live : ℕ → ℕ → ℕ → ℕ → Type 0) (last : Place) where
  -- where a call's registers were pushed, above its frame
  abbrev pub pushes_of : SelFrame → ℕ
  pushes_of f = f.base + (by f.function).room

  -- its own memory
  abbrev pub own_of : SelFrame → Span
  own_of f = record { start = f.base + 8 * (by f.function).words; size = (function_in sel f.function).frame; writable = true }

  -- the flat memory of calls
  abbrev pub spans_of : List SelFrame → List Span
  spans_of fs = map (λ (f : SelFrame). f.own) fs ++ globals

  -- the machine keeps something of calls that wait here: pushed registers, landing words, words of frames
  abbrev pub Reserved : List SelFrame → ℕ → ℕ → Type 0
  Reserved [] pushes p = (pushes ≤ p) × (p < pushes + 48)
  Reserved (x ∷ xs) pushes p = ((pushes ≤ p) × (p < pushes + 48 + 8 * (by x.function).words)) ⊎ Reserved xs (pushes_of x) p

  -- the flat memory of a call and of those that wait for it lies elsewhere, and so not in the stack below the call's own memory
  abbrev pub IsOff : SelFrame → List SelFrame → Type 0
  IsOff f xs = (p : ℕ) → is_inside p 1 (spans_of (f ∷ xs)) ≡ true → (stack_start ≤ p → p < f.base + 8 * (by f.function).words → ⊥) × (Reserved xs (pushes_of f) p → ⊥)

  -- x waits for the call f; so many calls may still be made in its place
  pub record Entry (ss : List Segment) (f : SelFrame) (depth : ℕ) (x : SelFrame) : Type 0 where
    -- where the run lands by the word above the pushed registers, and where it goes from there
    pub back : Place
    pub way : IsWay o ss (pushes_of f + 40) back
    pub offset : ℕ
    pub returns : (out : Outside) (core : Core) → symbolic_step o (standing out back core) ≡ standing out (Place.Code x.function offset) core
    -- there the result goes to its home, and behind that stands what is left of the block
    pub here : SelBlock
    pub is_function : slice_get sel.functions x.function ≡ Some (function_in sel x.function)
    pub is_block : slice_get (function_in sel x.function).blocks x.block ≡ Some here
    pub after : ℕ
    pub after_is : after ≡ offset + row_size (all_unlinked (take_row (by x.function).homes f.into))
    pub stands : Stands (code_in sel by x.function) offset (all_unlinked (take_row (by x.function).homes f.into) ++ rest_in sel by x.function after x.block x.next here)
    -- the frame
    pub base : x.base ≡ pushes_of f + 48
    pub own : x.own ≡ own_of x
    pub room : HasRoom x.base depth
    -- its words: those that live on but for the result
    pub small : (y n : ℕ) → word_in x.registers y ≡ Ok n → n < 2 ^ 64
    pub apart : (y r : ℕ) → f.into ≡ Some r → live x.function x.block x.next y → y ≢ r → Differ ((by x.function).homes y) ((by x.function).homes r)
    pub stored : (y n : ℕ) → live x.function x.block x.next y → f.into ≢ Some y → word_in x.registers y ≡ Ok n → Stored ss (by f.function).order (pushes_of f) (pushes_of f + 48) ((by x.function).homes y) n

  -- all calls that wait, from the one that waits for f on, of which so many calls may still be made; the first function goes back
  -- where the run ends
  abbrev pub Chain : List Segment → SelFrame → ℕ → List SelFrame → Type 0
  Chain ss f depth [] = (pushes_of f + 48 ≤ stack_end) × IsWay o ss (pushes_of f + 40) last
  Chain ss f depth (x ∷ xs) = Entry ss f (suc depth) x × IsOff x xs × Chain ss x (suc depth) xs
