-- The run of an image, and the texts on it.
use Rattle.std.specs.Prelude.{ℕ, List, [], ◌∷◌}
use Rattle.x86_core.specs.declared.image.Image.{Image}
use Rattle.x86_core.specs.Step.{State}
use Rattle.x86_core.specs.Machine.{machine_step, machine_run}
use Rattle.x86_core.specs.Observation.{observe}
use Rattle.watch_script.specs.declared.event.Event.{Event}
use Rattle.watch_script.specs.Report.{report_of}
use Rattle.watch_script.specs.ShowText.{text_of}
use Rattle.watch_script.specs.Watching.{run_to, watched_to}
use Rattle.rd_top.specs.Courses.{Point, Course}

-- what a machine does next, apart from what it did: the bytes that it prints, and how many it takes
abbrev pub prints_next : State ℕ → List ℕ
prints_next s = (machine_step (record s { left = []; printed = []; taken = 0 })).printed

abbrev pub takes_next : State ℕ → ℕ
takes_next s = (machine_step (record s { left = 0 ∷ []; printed = []; taken = 0 })).taken

abbrev pub point_of : State ℕ → Point
point_of s = record { left = s.left; printed = s.printed; ending = s.ending; prints = prints_next s; takes = takes_next s }

-- the machine of an image, from its start
unfoldable pub machine_course : Image → Course
machine_course image xs n = point_of (run_to image xs n)

-- the same with a script's events
unfoldable pub watched_course : Image → List Event → Course
watched_course image events xs n = point_of (watched_to image events xs n)

-- what an observer sees of an image after a number of instructions, as a text
unfoldable pub shown_after : Image → ℕ → List ℕ → List ℕ
shown_after image n xs = text_of (observe (run_to image xs n))

-- the report on a script's reads of an image and writes to it, as a text
abbrev pub report_on : Image → List Event → List ℕ → List ℕ
report_on image events xs = report_of (machine_run image xs) events
