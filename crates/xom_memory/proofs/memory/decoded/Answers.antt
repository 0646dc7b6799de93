use Rattle.std.proofs.Common.{sym, ap, ◌∙◌}
use Rattle.x86_core.specs.Data.{stack_start, segment}
use Rattle.x86_core.specs.Machine.{by_decoded}
use Rattle.xom_memory.proofs.Lasting.{lasting_fetched}
use Rattle.xom_memory.proofs.memory.decoded.Goals as goal

pub returns-in-One-clause-value : goal.returns-in-One-clause-value
returns-in-One-clause-value c =
    lasting_fetched (segment stack_start c.args.stack.now 6) c.args.parts.now c.args.at c.in-Some.code.now c.in-Some.ensures
    ∙ ap (by_decoded c.args.at) (sym c.in-One.ensures.decoding)
