use Rattle.obj_rows.proofs.Words.{start_lands, back_lands, slot_below}
use Rattle.obj_rows.proofs.law.words.Goals as goal

pub returns-clause-start : goal.returns-clause-start
returns-clause-start c = start_lands

pub returns-clause-back : goal.returns-clause-back
returns-clause-back c = back_lands

pub returns-clause-small : goal.returns-clause-small
returns-clause-small c = slot_below
