use Rattle.x86_core.proofs.Laws.{encoding_sized}
use Rattle.x86_decode.proofs.law.encodings_are_short.Goals as goal

pub returns : goal.returns
returns c = λ i. ((encoding_sized i).some, (encoding_sized i).few)
