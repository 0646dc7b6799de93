use Rattle.x86_core.proofs.Laws.{same_begin, none_behind}
use Rattle.x86_decode.proofs.law.no_encoding_begins_another.Goals as goal

pub returns : goal.returns
returns c = λ i j rest h k e. (same_begin i j rest h k e, none_behind i j rest h k e)
