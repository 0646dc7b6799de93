use Rattle.std.proofs.Common.{◌∙◌}
use Rattle.xom_machine.specs.Whole.{over}
use Rattle.xom_machine.proofs.Acts.{read_acts, write_acts}
use Rattle.xom_machine.proofs.Changed.{moved_alone, moved_wanted}
use Rattle.xom_machine.proofs.context.Context.execute.Goals as goal

pub returns-in-Read : goal.returns-in-Read
returns-in-Read c =
    moved_alone _ _ _ _ (λ left printed taken. c.read.ensures left printed taken
    ∙ read_acts c.args.instr.now c.args.after (over c.args.self.now c.args.memory.now) c.in-Read.at c.in-Read.size c.in-Read.into (c.in-Read.ensures c.args.self.now.flags) left printed taken)

pub returns-in-Ok : goal.returns-in-Ok
returns-in-Ok c =
    moved_alone _ _ _ _ (λ left printed taken. c.in-Ok.ensures left printed taken
    ∙ write_acts c.args.instr.now c.args.after (over c.args.self.now c.args.memory.now) c.in-Write.at c.in-Write.size c.in-Write.word (c.in-Write.ensures c.args.self.now.flags) left printed taken)

pub returns-in-Err : goal.returns-in-Err
returns-in-Err c = moved_wanted _ _ _ _ c.in-Err.ensures
