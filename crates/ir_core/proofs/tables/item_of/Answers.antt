use Rattle.std.proofs.Common.{◌∙◌, sym, Some, None}
use Rattle.ir_core.proofs.LookupLaws.{item_found}
use Rattle.ir_core.proofs.tables.item_of.Goals as goal

pub returns-in-Some : goal.returns-in-Some
returns-in-Some g c = c.get.ensures.value ∙ item_found g.T.Named.name_of c.args.items.now c.args.names.now c.args.name.now (Some c.in-Some.k) c.requires (sym c.in-Some.is ∙ c.number.ensures)

pub returns-in-None : goal.returns-in-None
returns-in-None g c = item_found g.T.Named.name_of c.args.items.now c.args.names.now c.args.name.now None c.requires (sym c.in-None.is ∙ c.number.ensures)
