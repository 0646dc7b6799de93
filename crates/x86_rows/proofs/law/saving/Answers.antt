use Rattle.x86_rows.proofs.Saving.{segment_is_stack, pushes, pops, restored_word, restored_top, restored_other}
use Rattle.x86_rows.proofs.law.saving.Goals as goal

pub returns-clause-segment : goal.returns-clause-segment
returns-clause-segment c = segment_is_stack

pub returns-clause-pushes : goal.returns-clause-pushes
returns-clause-pushes c = pushes

pub returns-clause-pops : goal.returns-clause-pops
returns-clause-pops c = pops

pub returns-clause-words : goal.returns-clause-words
returns-clause-words c = restored_word

pub returns-clause-top : goal.returns-clause-top
returns-clause-top c = restored_top

pub returns-clause-others : goal.returns-clause-others
returns-clause-others c = restored_other
