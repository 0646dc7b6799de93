use Rattle.std.proofs.Common.{◌∙◌, ap}
use Rattle.std.specs.List.{list_any}
use Rattle.ir_core.specs.Names.{same_name}
use Rattle.ir_core.proofs.NameSets.{any_names}
use Rattle.ir_core.proofs.names.NameSet.has.Goals as goal

pub returns : goal.returns
returns c = c.contains.ensures ∙ any_names c.args.name.now c.self.inside.kept.keys ∙ ap (list_any (same_name c.args.name.now)) c.self.view_is
