use Rattle.ir_core.proofs.Laws.{step_adds, step_stays, run_ending, reason_apart}
use Rattle.ir_core.proofs.run_laws.Goals as goal

pub returns : goal.returns
returns c = record { adds = step_adds; stays = step_stays; endings = run_ending; apart = reason_apart }
