use Rattle.x86_core.proofs.Laws.{one_begins, one_length}
use Rattle.x86_decode.proofs.law.answers_begin_the_bytes.Goals as goal

pub returns : goal.returns
returns c = λ bytes i n h e. (one_begins bytes i n h e, one_length bytes i n h e)
