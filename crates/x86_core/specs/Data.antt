-- The readable segments of a run, and its stack.
use Rattle.std.specs.Prelude.{ℕ, List, [], ◌∷◌, replicate}
use Rattle.x86_core.specs.declared.image.Segment.{Segment}
use Rattle.x86_core.specs.declared.image.TheConstants.{RO_START, RW_START, STACK_START, STACK_END}

-- where the readable segments and the stack lie
abbrev pub ro_start : ℕ
ro_start = RO_START

abbrev pub rw_start : ℕ
rw_start = RW_START

abbrev pub stack_start : ℕ
stack_start = STACK_START

abbrev pub stack_end : ℕ
stack_end = STACK_END

-- 512 MiB and 4,096 bytes; never opened in a proof
unfoldable pub stack_bytes : List ℕ
stack_bytes = replicate 536875008 0

abbrev pub segment : ℕ → List ℕ → ℕ → Segment
segment start bytes rights = record { start = start; bytes = bytes; rights = record { 0 = rights } }

abbrev pub stack : Segment
stack = segment stack_start stack_bytes 6

-- a segment in front of others, unless it is empty
abbrev pub unless_empty : List ℕ → Segment → List Segment → List Segment
unless_empty [] s others = others
unless_empty (b ∷ bs) s others = s ∷ others

-- read-only data, data, and the stack, in the order of their addresses
abbrev pub data_segments : List ℕ → List ℕ → List Segment
data_segments ro rw = unless_empty ro (segment ro_start ro 4) (unless_empty rw (segment rw_start rw 6) (stack ∷ []))
