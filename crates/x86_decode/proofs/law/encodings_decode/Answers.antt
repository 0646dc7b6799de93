use Rattle.x86_core.proofs.Back.{decode_back}
use Rattle.x86_decode.proofs.law.encodings_decode.Goals as goal

pub returns : goal.returns
returns c = decode_back
