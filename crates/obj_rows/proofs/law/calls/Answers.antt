use Rattle.obj_rows.proofs.Slots.{entry_goes, jump_goes, call_goes, call_returns}
use Rattle.obj_rows.proofs.law.calls.Goals as goal

pub returns-clause-entry : goal.returns-clause-entry
returns-clause-entry c = entry_goes

pub returns-clause-jump : goal.returns-clause-jump
returns-clause-jump c = jump_goes

pub returns-clause-call : goal.returns-clause-call
returns-clause-call c = call_goes

pub returns-clause-back : goal.returns-clause-back
returns-clause-back c = call_returns
