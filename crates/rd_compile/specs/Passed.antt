-- What object a program of registers becomes, with the data of a module.
use Rattle.std.specs.Prelude.{ℕ, ◌+◌, ◌≤◌, length}
use Rattle.ir_core.specs.declared.limit.TheConstants.{MAX_BYTES}
use Rattle.ir_core.specs.declared.module.Module.{Module}
use Rattle.low_core.specs.declared.sel.Sel.{Sel}
use Rattle.obj_core.specs.declared.object.Object.{Object}
use Rattle.obj_core.specs.declared.plan.Placing.{Placing}
use Rattle.obj_core.specs.declared.plan.SlotPlan.{SlotPlan}
use Rattle.obj_rows.specs.Assembled.{IsAssembled}
use Rattle.slot_plan.specs.Slots.{IsPlan}
use Rattle.rt_routines.specs.Code.{routines_of}
use Rattle.data_place.specs.Placed.{HoldsData}
use Rattle.frame_lower.specs.Functions.{Choices, lowered}
use Rattle.rd_compile.specs.Own.{own_homes, drawn_names}

-- what is decided for a program: each register has a word of its own, names are drawn, and addresses are those of the slots and the data
abbrev pub choices_of : Sel → ℕ → SlotPlan → Placing → Choices
choices_of sel reg_seed slots placing = record {
  homes = own_homes sel.functions;
  reg_seed = reg_seed;
  names = drawn_names reg_seed (length sel.functions);
  placing = placing;
  slots = slots;
}

-- an object of a program's functions, the routines, and a module's data, by slots whose places a seed draws
pub record IsObjectOf (m : Module) (sel : Sel) (slot_seed reg_seed : ℕ) (o : Object) : Type 0 where
  pub slots : SlotPlan
  pub placing : Placing
  pub plan : IsPlan sel slot_seed slots
  pub holds : HoldsData m slots.pointers placing
  pub few : length placing.ro + length placing.rw ≤ MAX_BYTES
  pub assembled : IsAssembled (lowered (choices_of sel reg_seed slots placing) sel) (routines_of slots) slots placing slot_seed reg_seed o
