use Rattle.std.proofs.Common.{◌≡◌, ◌*◌, [], ◌∷◌, length}
use Rattle.obj_core.specs.Slots.{slot_base}
use Rattle.obj_core.specs.Placement.{inverse}
use Rattle.obj_core.specs.Runs.{slot_run}
use Rattle.obj_core.specs.Plans.{planned}
use Rattle.obj_core.specs.Layout.{trampolines}
use Rattle.obj_lay.proofs.Slotting.{so_far}
use Rattle.obj_lay.proofs.slots.slot_segment.Given as goal

-- the slots so far, and breakpoints where the others will be
abbrev pub invariant-loop-i : goal.invariant-loop-i
invariant-loop-i l = record {
  start : l.builder.start ≡ slot_base;
  runs : l.builder.runs ≡ slot_run (16 * length l.slots) ∷ [];
  bytes : l.builder.bytes ≡ trampolines (planned l.plan) l.positions (so_far l.slots l.i) (inverse l.positions);
}
