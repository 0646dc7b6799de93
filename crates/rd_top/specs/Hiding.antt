-- What no image of an object tells about its layout, reports included.
use Rattle.std.specs.Prelude.{◌≡◌, ◌≢◌, ℕ, List, true}
use Rattle.behavior.specs.Ending.{Strayed}
use Rattle.x86_core.specs.declared.image.Image.{Image}
use Rattle.obj_core.specs.declared.object.Object.{Object}
use Rattle.obj_core.specs.Layout.{layout}
use Rattle.obj_core.specs.SymbolicMachine.{symbolic_run}
use Rattle.obj_lay.specs.Hidden.{HasDataOf, RepliesAsObject, ShowTheSame, ShowsObject}
use Rattle.watch_script.specs.declared.event.Event.{Event}
use Rattle.watch_script.specs.Events.{are_in_order}
use Rattle.watch_script.specs.Report.{last_of, report_of}
use Rattle.rd_top.specs.Machines.{report_on}

-- an object's run with a script's events hasn't strayed behind the last of them
abbrev pub StaysStraight : Object → List ℕ → List Event → Type 0
StaysStraight o input events = (last_of (symbolic_run o input) events).ending ≢ Strayed

-- the image gives the report that the object's own run gives, on every script of reads and writes by whose last event that
-- hasn't strayed
abbrev pub ReportsAsObject : Image → Object → Type 0
ReportsAsObject image o = (input : List ℕ) (events : List Event) → are_in_order 0 events ≡ true → StaysStraight o input events → report_on image events input ≡ report_of (symbolic_run o input) events

-- the layout of an object for a seed shows, answers and reports what the object does, has its data alone in what may be
-- read, and shows the same as its layout for any other seed
pub record Hides (o : Object) (layout_seed : ℕ) : Type 0 where
  pub shows : ShowsObject (layout o layout_seed) o
  pub replies : RepliesAsObject (layout o layout_seed) o
  pub reports : ReportsAsObject (layout o layout_seed) o
  pub data_of : HasDataOf (layout o layout_seed) o
  pub lockstep : (other : ℕ) → ShowTheSame (layout o layout_seed) (layout o other) o
