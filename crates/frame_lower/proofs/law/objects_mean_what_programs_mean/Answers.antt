use Rattle.frame_lower.proofs.Meaning.{means, means_within}
use Rattle.frame_lower.proofs.law.objects_mean_what_programs_mean.Goals as goal

pub returns-clause-keeps : goal.returns-clause-keeps
returns-clause-keeps c = λ d sel slot_draw routines o contents chosen own assembled fits are few held object. means d sel slot_draw routines o contents chosen own assembled fits are few held object

pub returns-clause-within : goal.returns-clause-within
returns-clause-within c = λ d sel slot_draw routines o contents chosen own assembled fits are few held object. means_within d sel slot_draw routines o contents chosen own assembled fits are few held object
