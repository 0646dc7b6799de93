-- An object that is put together of a program's functions, with a word of the frame for each register, means what the program means.
use Rattle.std.proofs.Common.{ℕ, ◌+◌, ◌≤◌, List, [], ◌∷◌, length}
use Rattle.behavior.specs.Moment.{AreBytes}
use Rattle.behavior.specs.Preserves.{Preserves, ReachesWithin}
use Rattle.ir_core.specs.declared.TheConstants.{MAX_CALLS}
use Rattle.low_core.specs.declared.sel.Sel.{Sel}
use Rattle.low_core.specs.Plan.{Content, PlanFits}
use Rattle.low_core.specs.SelRun.{sel_run}
use Rattle.obj_core.specs.declared.object.Func.{Func}
use Rattle.obj_core.specs.declared.object.Object.{Object}
use Rattle.obj_core.specs.Object.{Each, IsByte, IsObject}
use Rattle.obj_core.specs.SymbolicMachine.{symbolic_behavior}
use Rattle.obj_core.specs.WellFormed.{most_data}
use Rattle.obj_rows.specs.Assembled.{IsAssembled}
use Rattle.obj_rows.specs.Routines.{AreRoutines}
use Rattle.frame_lower.specs.Functions.{Choices, lowered}
use Rattle.frame_lower.specs.Given.{AreChosen}
use Rattle.frame_lower.specs.Meaning.{IsHeld, most_steps}
use Rattle.frame_lower.specs.Planned.{plan_of, HaveOwn}
use Rattle.frame_lower.specs.Suits.{Suits}
use Rattle.frame_lower.proofs.FineRunning as running
use Rattle.frame_lower.proofs.Suiting.{by, live, suits}

-- data are bytes
are_bytes : (bs : List ℕ) → Each IsByte bs → AreBytes bs
are_bytes [] h = tt
are_bytes (b ∷ bs) h = (h.0, are_bytes bs h.1)

module _ (c : Choices) (sel : Sel) (slot_draw : ℕ) (routines : List Func) (o : Object) (contents : List Content) (chosen : AreChosen c sel slot_draw) (own : HaveOwn sel.functions c.homes)
    (assembled : IsAssembled (lowered c sel) routines c.slots c.placing slot_draw c.reg_seed o) (fits : PlanFits sel contents (plan_of c sel)) (are : AreRoutines o (length sel.functions) sel.main MAX_CALLS) (few : length o.ro + length o.rw ≤ most_data)
    (held : IsHeld c contents o) (object : IsObject o) where
  suited : Suits o sel (plan_of c sel) contents (by c sel slot_draw chosen own) (live c sel slot_draw chosen own)
  suited = suits c sel slot_draw chosen own routines o assembled contents fits are few held

  pub means : Preserves (sel_run sel (plan_of c sel) contents) (symbolic_behavior o)
  means = running.keeps o sel (plan_of c sel) contents (by c sel slot_draw chosen own) (live c sel slot_draw chosen own) suited (are_bytes o.ro object.ro) (are_bytes o.rw object.rw)

  pub means_within : ReachesWithin most_steps most_steps (sel_run sel (plan_of c sel) contents) (symbolic_behavior o)
  means_within = running.keeps_within o sel (plan_of c sel) contents (by c sel slot_draw chosen own) (live c sel slot_draw chosen own) suited (are_bytes o.ro object.ro) (are_bytes o.rw object.rw)
