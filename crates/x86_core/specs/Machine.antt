-- The machine of an image: instructions are the bytes at addresses, and any word is an address.
use Rattle.std.specs.Prelude.{ℕ, ◌+◌, ◌%◌, ◌^◌, List, [], ◌∷◌, ◌++◌, Option, Some, None}
use Rattle.behavior.specs.Ending.{PageFault, NoForm}
use Rattle.behavior.specs.Moment.{Behavior}
use Rattle.behavior.specs.System.{iter}
use Rattle.x86_core.specs.declared.image.Segment.{Segment}
use Rattle.x86_core.specs.declared.image.Image.{Image}
use Rattle.x86_core.specs.declared.instr.Decoded.{Decoded}
use Rattle.x86_core.specs.declared.instr.Decoded.TheVariants.{One, Short, Unknown}
use Rattle.x86_core.specs.Arithmetic.{moved}
use Rattle.x86_core.specs.Decoding.{decode}
use Rattle.x86_core.specs.Memory.{code_at}
use Rattle.x86_core.specs.Data.{stack, stack_end}
use Rattle.x86_core.specs.Step.{Fetched, Stops, sorted, State, moment_of, step_of}
use Rattle.x86_core.specs.Run.{Act, run_over, started}

-- what bytes at an address begin with: a part of an instruction is not there whole
abbrev pub by_decoded : ℕ → Decoded → Fetched ℕ
by_decoded at (One i size) = let after = (at + size) % 2 ^ 64 in sorted i after (moved after) after
by_decoded at Short = Stops PageFault
by_decoded at Unknown = Stops NoForm

abbrev pub by_bytes : ℕ → Option (List ℕ) → Fetched ℕ
by_bytes at None = Stops PageFault
by_bytes at (Some bytes) = by_decoded at (decode bytes)

abbrev pub machine_fetch : List Segment → ℕ → Fetched ℕ
machine_fetch segments at = by_bytes at (code_at segments at)

abbrev pub machine_step : State ℕ → State ℕ
machine_step s = step_of machine_fetch Some s

-- the segments of the image, and behind them the stack
abbrev pub machine_segments : Image → List Segment
machine_segments image = image.segments ++ stack ∷ []

-- at the entry, with the stack's end in rsp
abbrev pub machine_start : Image → List ℕ → State ℕ
machine_start image input = started image.entry (machine_segments image) input stack_end 0

abbrev pub machine_run : Image → List ℕ → List Act → State ℕ
machine_run image input acts = run_over machine_step acts (machine_start image input)

abbrev pub machine_behavior : Image → Behavior
machine_behavior image input n = moment_of (iter machine_step n (machine_start image input))
