use Rattle.std.proofs.Common.{List, ap, ◌∙◌}
use Rattle.x86_core.specs.declared.image.Segment.{Segment}
use Rattle.x86_core.specs.Data.{stack_end}
use Rattle.x86_core.specs.Run.{started}
use Rattle.xom_machine.proofs.machine.Machine.start.Goals as goal

pub returns : goal.returns
returns c = λ input. c.start-context.ensures c.in_ok-memory.memory input
    ∙ ap (λ (s : List Segment). started c.args.image.now.entry s input stack_end 0) c.in_ok-memory.ensures
