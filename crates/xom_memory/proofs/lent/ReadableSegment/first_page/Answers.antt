use Rattle.std.proofs.Common.{[]}
use Rattle.xom_memory.proofs.Laid.{no_zeros}
use Rattle.xom_memory.proofs.lent.ReadableSegment.first_page.Goals as goal

pub returns-in-Whole-clause-blank : goal.returns-in-Whole-clause-blank
returns-in-Whole-clause-blank c = no_zeros []
