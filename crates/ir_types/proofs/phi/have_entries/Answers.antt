use Rattle.std.proofs.Common.{◌∙◌, ap}
use Rattle.ir_types.specs.Entries.{entry_names}
use Rattle.ir_types.proofs.EntryLaws.{row_among}
use Rattle.ir_types.proofs.phi.have_entries.Goals as goal

pub returns : goal.returns
returns c = c.are_among.ensures ∙ row_among c.args.firsts.now.names c.args.row.now c.args.entries.now (c.requires.named ∙ ap entry_names c.requires.firsts)
