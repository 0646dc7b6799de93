use Rattle.x86_core.proofs.Laws.{cut_unknown, unknown_none, none_unknown}
use Rattle.x86_decode.proofs.law.unknown_is_neither.Goals as goal

pub returns : goal.returns
returns c = λ bytes h. (λ e. (λ i. unknown_none bytes i e, cut_unknown bytes h e), λ n. none_unknown bytes h n.0 n.1)
