-- What an observer of memory sees of a run. No place is seen, and nothing of what may not be read.
use Rattle.std.specs.Prelude.{ℕ, if◌then◌else◌, List, [], ◌∷◌, Option}
use Rattle.behavior.specs.Ending.{Ending}
use Rattle.x86_core.specs.declared.flags.Flags.{Flags}
use Rattle.x86_core.specs.declared.image.Segment.{Segment}
use Rattle.x86_core.specs.Memory.{reads, read_at}
use Rattle.x86_core.specs.Step.{State}

pub record Observation : Type 0 where
  pub regs : List ℕ
  pub flags : Flags
  pub ending : Ending
  pub printed : List ℕ
  pub taken : ℕ
  -- the segments that may be read, in the order of their addresses
  pub segments : List Segment

abbrev pub readable : List Segment → List Segment
readable [] = []
readable (s ∷ others) = if reads s.rights then s ∷ readable others else readable others

abbrev pub observe : {P : Type 0} → State P → Observation
observe s = record { regs = s.regs; flags = s.flags; ending = s.ending; printed = s.printed; taken = s.taken; segments = readable s.segments }

-- the bytes of a range of at least one byte, where one readable segment holds it; none where the read is refused
abbrev pub reply_to : Observation → ℕ → ℕ → Option (List ℕ)
reply_to seen at len = read_at seen.segments at len
