-- Worked images, computed outside this project, so that a wrong order, gap, base or displacement in the definitions
-- doesn't check; and one that is run beside its object, through all kinds of slots.
use Rattle.std.proofs.Common.{◌≡◌, ℕ, zero, suc, List, [], ◌∷◌, ◌++◌, refl}
use Rattle.std.specs.Prelude.{replicate}
use Rattle.behavior.specs.Ending.{PageFault}
use Rattle.behavior.specs.System.{iter}
use Rattle.rand_core.specs.Steps.{u32_at}
use Rattle.rand_chacha.specs.Block.{quarter_round, column_round, diagonal_round, double_rounds, block_word}
use Rattle.rd_draw.specs.Draw.{stream_key, stream_word, shuffled}
use Rattle.x86_core.specs.declared.image.Segment.{Segment}
use Rattle.x86_core.specs.declared.image.Image.{Image}
use Rattle.x86_core.specs.Data.{segment, stack_end}
use Rattle.x86_core.specs.Decoding.{decode}
use Rattle.x86_core.specs.Effect.{effect_of}
use Rattle.x86_core.specs.Step.{State, request_of}
use Rattle.x86_core.specs.Run.{started}
use Rattle.x86_core.specs.Machine.{machine_step}
use Rattle.x86_core.specs.Observation.{Observation, observe}
use Rattle.obj_core.specs.declared.object.Object.{Object}
use Rattle.obj_core.specs.declared.object.Func.{Func}
use Rattle.obj_core.specs.declared.object.FuncKind.{FuncKind}
use Rattle.obj_core.specs.declared.object.Link.{Link}
use Rattle.obj_core.specs.declared.object.Slot.{Slot}
use Rattle.obj_core.specs.declared.object.CodeAt.{CodeAt}
use Rattle.obj_core.specs.Slots.{positions}
use Rattle.obj_core.specs.SymbolicMachine.{symbolic_step}
use Rattle.obj_core.proofs.Worked.{tour, tour_start, places}
use Rattle.obj_core.specs.Placement.{filler, piece_in, order, starts, address}
use Rattle.obj_core.specs.Layout.{code_bytes, trampoline_bytes, layout}

abbrev plain : List ℕ → List Link → Func
plain bytes links = record { kind = FuncKind.Plain; bytes = bytes; links = links; cuts = [] }

abbrev object : ℕ → List Func → List Slot → List ℕ → List ℕ → Object
object slot_seed functions slots ro rw = record { slot_seed = slot_seed; reg_seed = 0; functions = functions; slots = slots; ro = ro; rw = rw }

abbrev image : ℕ → List Segment → Image
image entry segments = record { entry = entry; segments = segments }

-- ud2
abbrev invalid : Func
invalid = plain (15 ∷ 11 ∷ []) []

-- jmp to slot 1
abbrev jump_on : Func
jump_on = plain (233 ∷ 0 ∷ 0 ∷ 0 ∷ 0 ∷ []) (record { at = 1; slot = 1 } ∷ [])

abbrev back : CodeAt
back = record { function = 1; offset = 0 }

-- one function and the entry, without data
one_function : layout (object 1 (invalid ∷ []) (Slot.Entry 0 ∷ []) [] []) 4 ≡ image 0x10000000 (
    segment 0x10000000 ((233 ∷ 251 ∷ 63 ∷ 71 ∷ 54 ∷ []) ++ filler 11) 1 ∷
    segment 1179074560 ((15 ∷ 11 ∷ []) ++ filler 14) 1 ∷ [])
unfolding u32_at quarter_round column_round diagonal_round double_rounds block_word stream_key stream_word shuffled positions piece_in order starts code_bytes address trampoline_bytes layout
one_function = refl

-- two functions in the other order with a gap between, and slots in the other order
two_functions : layout (object 1 (jump_on ∷ invalid ∷ []) (Slot.Entry 0 ∷ Slot.Jump 1 ∷ []) (7 ∷ []) (8 ∷ 9 ∷ [])) 1326 ≡ image 268435472 (
    segment 0x10000000 ((233 ∷ 251 ∷ 47 ∷ 202 ∷ 53 ∷ []) ++ (filler 11 ++ ((233 ∷ 11 ∷ 48 ∷ 202 ∷ 53 ∷ []) ++ filler 11))) 1 ∷
    segment 0x20000000 (7 ∷ []) 4 ∷
    segment 0x30000000 (8 ∷ 9 ∷ []) 6 ∷
    segment 1170878464 ((15 ∷ 11 ∷ []) ++ (filler 30 ++ ((233 ∷ 219 ∷ 207 ∷ 53 ∷ 202 ∷ []) ++ filler 11))) 1 ∷ [])
unfolding u32_at quarter_round column_round diagonal_round double_rounds block_word stream_key stream_word shuffled positions piece_in order starts code_bytes address trampoline_bytes layout
two_functions = refl

-- slots of all five kinds
five_slots : layout (object 2 (invalid ∷ jump_on ∷ []) (Slot.Entry 1 ∷ Slot.Call 0 back ∷ Slot.Indirect back ∷ Slot.System back ∷ Slot.Jump 0 ∷ []) (7 ∷ []) []) 684 ≡ image 0x10000000 (
    segment 0x10000000 (
    (233 ∷ 251 ∷ 31 ∷ 36 ∷ 61 ∷ []) ++ (filler 11 ++
    ((144 ∷ 144 ∷ 65 ∷ 255 ∷ 211 ∷ 233 ∷ 230 ∷ 31 ∷ 36 ∷ 61 ∷ []) ++ (filler 6 ++
    ((232 ∷ 235 ∷ 31 ∷ 36 ∷ 61 ∷ 233 ∷ 214 ∷ 31 ∷ 36 ∷ 61 ∷ []) ++ (filler 6 ++
    ((15 ∷ 5 ∷ 144 ∷ 144 ∷ 144 ∷ 233 ∷ 198 ∷ 31 ∷ 36 ∷ 61 ∷ []) ++ (filler 6 ++
    ((233 ∷ 203 ∷ 31 ∷ 36 ∷ 61 ∷ []) ++ filler 11))))))))
    ) 1 ∷
    segment 0x20000000 (7 ∷ []) 4 ∷
    segment 1294213120 ((233 ∷ 27 ∷ 224 ∷ 219 ∷ 194 ∷ []) ++ (filler 11 ++ ((15 ∷ 11 ∷ []) ++ filler 14))) 1 ∷ [])
unfolding u32_at quarter_round column_round diagonal_round double_rounds block_word stream_key stream_word shuffled positions piece_in order starts code_bytes address trampoline_bytes layout
five_slots = refl

-- a function in three pieces, in another order: its jump goes over a breakpoint, to the last piece
abbrev in_pieces : Func
in_pieces = record { kind = FuncKind.Plain; bytes = 233 ∷ 1 ∷ 0 ∷ 0 ∷ 0 ∷ 204 ∷ 15 ∷ 11 ∷ []; links = []; cuts = 5 ∷ 6 ∷ [] }

four_pieces : layout (object 1 (in_pieces ∷ jump_on ∷ []) (Slot.Entry 0 ∷ Slot.Jump 1 ∷ []) [] []) 2049 ≡ image 268435472 (
    segment 0x10000000 ((233 ∷ 59 ∷ 16 ∷ 183 ∷ 63 ∷ []) ++ (filler 11 ++ ((233 ∷ 91 ∷ 16 ∷ 183 ∷ 63 ∷ []) ++ filler 11))) 1 ∷
    segment 1337397248 (filler 64 ++ ((233 ∷ 187 ∷ 239 ∷ 72 ∷ 192 ∷ []) ++ (filler 43 ++ ((233 ∷ 11 ∷ 0 ∷ 0 ∷ 0 ∷ []) ++ (filler 11 ++ ((15 ∷ 11 ∷ []) ++ filler 14)))))) 1 ∷ [])
unfolding u32_at quarter_round column_round diagonal_round double_rounds block_word stream_key stream_word shuffled positions piece_in order starts code_bytes address trampoline_bytes layout decode
four_pieces = refl

-- the tour in an image, with its code wherever it fits
abbrev slots_bytes : List ℕ
slots_bytes = (233 ∷ 251 ∷ 255 ∷ 255 ∷ 47 ∷ []) ++ (filler 11 ++ ((233 ∷ 27 ∷ 0 ∷ 0 ∷ 48 ∷ []) ++ (filler 11 ++ ((144 ∷ 144 ∷ 65 ∷ 255 ∷ 211 ∷ 233 ∷ 230 ∷ 255 ∷ 255 ∷ 47 ∷ []) ++ (filler 6 ++ ((15 ∷ 5 ∷ 144 ∷ 144 ∷ 144 ∷ 233 ∷ 251 ∷ 255 ∷ 255 ∷ 47 ∷ []) ++ (filler 6 ++ ((232 ∷ 219 ∷ 255 ∷ 255 ∷ 47 ∷ 233 ∷ 187 ∷ 255 ∷ 255 ∷ 47 ∷ []) ++ (filler 6 ++ ((233 ∷ 203 ∷ 255 ∷ 255 ∷ 47 ∷ []) ++ (filler 11)))))))))))

abbrev tour_code : List ℕ
tour_code = (233 ∷ 59 ∷ 0 ∷ 0 ∷ 208 ∷ 65 ∷ 187 ∷ 80 ∷ 0 ∷ 0 ∷ 16 ∷ 233 ∷ 16 ∷ 0 ∷ 0 ∷ 208 ∷ 65 ∷ 187 ∷ 16 ∷ 0 ∷ 0 ∷ 16 ∷ 65 ∷ 255 ∷ 227 ∷ []) ++ (filler 7 ++ ((195 ∷ []) ++ (filler 15 ++ ((233 ∷ 251 ∷ 255 ∷ 255 ∷ 207 ∷ 65 ∷ 255 ∷ 227 ∷ []) ++ filler 8))))

-- at the entry, over the same short stack
abbrev image_start : State ℕ
image_start = started 0x10000000 (segment 0x10000000 slots_bytes 1 ∷ segment 0x40000000 tour_code 1 ∷ segment 3221225456 (replicate 16 0) 6 ∷ []) [] stack_end 0

-- the addresses of the places of the tour, and at last the flags that it goes to
image_goes : places machine_step 24 image_start ≡
    0x10000000 ∷ 0x40000000 ∷
    0x10000040 ∷ 0x40000020 ∷ 0x10000045 ∷ 0x40000005 ∷ 0x4000000B ∷
    0x10000020 ∷ 0x10000021 ∷ 0x10000022 ∷ 0x10000050 ∷ 0x40000020 ∷ 0x10000025 ∷ 0x40000010 ∷ 0x40000016 ∷
    0x10000010 ∷ 0x40000030 ∷
    0x10000030 ∷ 0x10000032 ∷ 0x10000033 ∷ 0x10000034 ∷ 0x10000035 ∷ 0x40000035 ∷ 514 ∷ []
unfolding decode effect_of request_of
image_goes = refl

-- the machine has no strays: it stops where nothing may be executed
image_stops : (iter machine_step 24 image_start).ending ≡ PageFault
unfolding decode effect_of request_of
image_stops = refl

-- what is shown of a run's first steps
abbrev shown : {P : Type 0} → (State P → State P) → ℕ → State P → List Observation
shown step zero s = []
shown step (suc n) s = observe s ∷ shown step n (step s)

-- both machines show the same until the stray
tour_alike : shown machine_step 23 image_start ≡ shown (symbolic_step tour) 23 tour_start
unfolding decode effect_of request_of u32_at quarter_round column_round diagonal_round double_rounds block_word stream_key stream_word shuffled positions
tour_alike = refl
