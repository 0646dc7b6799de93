-- The law, by the lemma on whole modules.
use Rattle.ir_print.proofs.Whole.{reads_back}
use Rattle.ir_print.proofs.law.canonical_text_reads_back.Goals as goal

pub returns : goal.returns
returns c = reads_back
