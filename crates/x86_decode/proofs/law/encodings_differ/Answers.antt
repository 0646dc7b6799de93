use Rattle.x86_core.proofs.Laws.{encodings_differ}
use Rattle.x86_decode.proofs.law.encodings_differ.Goals as goal

pub returns : goal.returns
returns c = encodings_differ
