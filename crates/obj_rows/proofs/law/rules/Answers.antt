use Rattle.obj_rows.proofs.Rules.{row_disassembles, stands_starts, none_forbidden, links_are_good, branches_are_good, ends_closed}
use Rattle.obj_rows.proofs.law.rules.Goals as goal

pub returns-clause-disassembly : goal.returns-clause-disassembly
returns-clause-disassembly c = row_disassembles

pub returns-clause-starts : goal.returns-clause-starts
returns-clause-starts c = stands_starts

pub returns-clause-transfers : goal.returns-clause-transfers
returns-clause-transfers c = none_forbidden 0

pub returns-clause-links : goal.returns-clause-links
returns-clause-links c = links_are_good

pub returns-clause-branches : goal.returns-clause-branches
returns-clause-branches c = branches_are_good

pub returns-clause-end : goal.returns-clause-end
returns-clause-end c = ends_closed 0
