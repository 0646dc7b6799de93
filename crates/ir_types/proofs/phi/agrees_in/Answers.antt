use Rattle.std.proofs.Common.{◌∙◌, ap}
use Rattle.ir_core.specs.declared.instruction.Entry.{Entry}
use Rattle.ir_core.specs.Names.{same_name, first_where}
use Rattle.ir_core.specs.Valid.{agrees_with}
use Rattle.ir_types.proofs.EntryLaws.{first_is}
use Rattle.ir_types.proofs.phi.agrees_in.Goals as goal

pub returns : goal.returns
returns c = c.agrees.ensures ∙ ap (agrees_with c.args.e.now) (c.entry.ensures ∙ ap (first_where (λ (g : Entry). same_name g.from c.args.e.now.from)) c.requires.firsts ∙ first_is c.args.entries.now c.args.e.now.from)
