use Rattle.rd_draw.proofs.Permuted.{shuffled_permutes, shuffled_long, shuffled_below, shuffled_holds, shuffled_apart}
use Rattle.rd_draw.proofs.shuffle_known.Goals as goal

pub returns-clause-permutes : goal.returns-clause-permutes
returns-clause-permutes c = shuffled_permutes

pub returns-clause-long : goal.returns-clause-long
returns-clause-long c = shuffled_long

pub returns-clause-below : goal.returns-clause-below
returns-clause-below c = shuffled_below

pub returns-clause-holds : goal.returns-clause-holds
returns-clause-holds c = shuffled_holds

pub returns-clause-apart : goal.returns-clause-apart
returns-clause-apart c = shuffled_apart
