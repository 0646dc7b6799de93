use Rattle.std.proofs.Common.{◌∙◌, ap}
use Rattle.ir_core.specs.Names.{same_name, number_where}
use Rattle.ir_core.proofs.NameSets.{position-now}
use Rattle.ir_core.proofs.names.NameSet.number.Goals as goal

pub returns : goal.returns
returns c = let f = position-now c.args.name.now c.self.inside.kept.keys in let v = c.self.view_is in c.get_index_of.ensures.index ∙ f ∙ ap (number_where (λ n. same_name n c.args.name.now)) v
