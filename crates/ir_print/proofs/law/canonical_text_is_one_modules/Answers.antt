use Rattle.ir_print.proofs.Alone as alone
use Rattle.ir_print.proofs.law.canonical_text_is_one_modules.Goals as goal

pub returns : goal.returns
returns c = record { alone = alone.alone; apart = alone.apart }
