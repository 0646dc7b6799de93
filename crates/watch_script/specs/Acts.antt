-- What the events of a script do to a run.
use Rattle.std.specs.Prelude.{ℕ, zero, suc, nat_eq, if◌then◌else◌, List, [], ◌∷◌, ◌++◌}
use Rattle.x86_core.specs.Run.{Act, Step, Write as Writes}
use Rattle.watch_script.specs.declared.event.Event.{Event}
use Rattle.watch_script.specs.declared.event.Event.TheVariants.{Read, Write}
use Rattle.watch_script.specs.Events.{after_of}

-- a read does nothing
abbrev pub done_by : Event → List Act
done_by (Read after at len) = []
done_by (Write after at bytes) = Writes at bytes ∷ []

-- what the events with a number do, in their order
abbrev pub done_at : ℕ → List Event → List Act
done_at n [] = []
done_at n (e ∷ es) = if nat_eq (after_of e) n then done_by e ++ done_at n es else done_at n es

-- all acts by so many steps: what the events with the number of a step do comes right after it
abbrev pub acts_to : ℕ → List Event → List Act
acts_to zero es = done_at 0 es
acts_to (suc n) es = acts_to n es ++ (Step ∷ done_at (suc n) es)
