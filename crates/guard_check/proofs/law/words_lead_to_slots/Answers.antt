use Rattle.guard_check.proofs.Runs.{keeps_words}
use Rattle.guard_check.proofs.law.words_lead_to_slots.Goals as goal

pub returns : goal.returns
returns c = keeps_words
