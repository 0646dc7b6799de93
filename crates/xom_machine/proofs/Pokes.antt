-- A write by somebody who looks on changes the segments alone.
use Rattle.std.proofs.Common.{◌≡◌, ℕ, List, [], ◌∷◌, Option, Some, None, refl, ap, ◌∙◌}
use Rattle.std.specs.Option.{unwrap_or}
use Rattle.x86_core.specs.declared.image.Segment.{Segment}
use Rattle.x86_core.specs.Memory.{write_at}
use Rattle.x86_core.specs.Step.{State}
use Rattle.x86_core.specs.Run.{Write, wrote, acted}
use Rattle.x86_core.specs.Machine.{machine_step}
use Rattle.xom_memory.specs.Access.{written_at}
use Rattle.xom_machine.specs.Whole.{Whole}
use Rattle.xom_machine.specs.Standing.{state_of}
use Rattle.xom_machine.specs.Calls.{Becomes}

-- a state with the segments that a write leaves
written_state : (o : Option (List Segment)) (s : State ℕ) → record s { segments = unwrap_or o s.segments } ≡ wrote o s
written_state None s = refl
written_state (Some segments) s = refl

acted_is : (at : ℕ) (bytes : List ℕ) (s : State ℕ) → record s { segments = written_at s.segments at bytes } ≡ acted machine_step (Write at bytes) s
acted_is at [] s = refl
acted_is at (b ∷ bs) s = written_state (write_at s.segments at (b ∷ bs)) s

-- a machine whose segments are those that the write leaves
pub poked : (m : Whole) (memory : List Segment) (at : ℕ) (bytes : List ℕ) → memory ≡ written_at m.memory at bytes → Becomes (acted machine_step (Write at bytes)) m (record m { memory = memory })
poked m memory at bytes e left printed taken =
    ap (λ (ss : List Segment). record (state_of m left printed taken) { segments = ss }) e ∙ acted_is at bytes (state_of m left printed taken)
