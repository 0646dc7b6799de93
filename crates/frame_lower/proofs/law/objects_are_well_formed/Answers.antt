use Rattle.frame_lower.proofs.WellFormed.{well_formed}
use Rattle.frame_lower.proofs.law.objects_are_well_formed.Goals as goal

pub returns : goal.returns
returns c = λ d sel slot_draw routines o chosen assembled sound. well_formed d sel slot_draw chosen routines o assembled sound
