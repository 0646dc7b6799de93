use Rattle.obj_rows.proofs.Slots.{indirect_goes, pointer_goes, indirect_returns}
use Rattle.obj_rows.proofs.law.pointer_calls.Goals as goal

pub returns-clause-call : goal.returns-clause-call
returns-clause-call c = indirect_goes

pub returns-clause-function : goal.returns-clause-function
returns-clause-function c = pointer_goes

pub returns-clause-back : goal.returns-clause-back
returns-clause-back c = indirect_returns
