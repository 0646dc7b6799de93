use Rattle.frame_lower.proofs.LinkedOnce.{lowered_long, linked_once}
use Rattle.frame_lower.proofs.law.functions_of_a_program.Goals as goal

pub returns-clause-many : goal.returns-clause-many
returns-clause-many c = lowered_long

pub returns-clause-linked : goal.returns-clause-linked
returns-clause-linked c = linked_once
