-- When a state of an image's machine stands for a state of an object's machine.
use Rattle.std.specs.Prelude.{◌≡◌, ℕ, Bool, true, List}
use Rattle.x86_core.specs.declared.image.Segment.{Segment}
use Rattle.x86_core.specs.Memory.{data_of, code_of}
use Rattle.x86_core.specs.Step.{State}
use Rattle.obj_core.specs.declared.object.Place.{Place}

-- the state with an address for its place, over other segments
abbrev pub at_address : (Place → ℕ) → List Segment → State Place → State ℕ
at_address place segments a = record {
  regs = a.regs;
  flags = a.flags;
  place = place a.place;
  segments = segments;
  left = a.left;
  printed = a.printed;
  taken = a.taken;
  ending = a.ending;
}

-- the same state but for the address of its place, and for executable segments, which the object's machine lacks
pub record Mirrors (exec : List Segment) (place : Place → ℕ) (is_place : Place → Bool) (a : State Place) (b : State ℕ) : Type 0 where
  pub segments : List Segment
  pub same : b ≡ at_address place segments a
  pub readable : data_of segments ≡ a.segments
  pub runs : code_of segments ≡ exec
  pub here : is_place a.place ≡ true
