use Rattle.x86_core.proofs.Laws.{short_cut, cut_short}
use Rattle.x86_decode.proofs.law.short_is_a_proper_prefix.Goals as goal

pub returns : goal.returns
returns c = λ bytes h. (short_cut bytes h, cut_short bytes h)
