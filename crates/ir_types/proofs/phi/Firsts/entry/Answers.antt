use Rattle.std.proofs.Common.{◌∙◌, ap, sym, Some, None}
use Rattle.std.specs.Option.{option_copied}
use Rattle.ir_types.proofs.EntryLaws.{entry_found}
use Rattle.ir_types.proofs.phi.Firsts.entry.Goals as goal

pub returns-in-Some : goal.returns-in-Some
returns-in-Some c = ap option_copied (c.copied.ensures ∙ c.get.ensures.value) ∙ entry_found c.args.self.now.entries c.args.self.now.names c.args.block.now (Some c.in-Some.k) c.requires (sym c.in-Some.is ∙ c.number.ensures)

pub returns-in-None : goal.returns-in-None
returns-in-None c = entry_found c.args.self.now.entries c.args.self.now.names c.args.block.now None c.requires (sym c.in-None.is ∙ c.number.ensures)
