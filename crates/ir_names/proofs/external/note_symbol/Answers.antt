use Rattle.ir_names.proofs.UseLaws.{uses_callee}
use Rattle.ir_names.proofs.external.note_symbol.Goals as goal

pub returns : goal.returns
returns c = uses_callee c.args.names.now c.note.new.names c.args.name.now c.in_ok-note.ensures
