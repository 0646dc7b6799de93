use Rattle.std.proofs.Common.{◌++◌, ◌∙◌, ap, length}
use Rattle.switch_lower.proofs.TreeLaws.{tree_deep}
use Rattle.switch_lower.proofs.tree.Switch.add.Goals as goal

pub returns : goal.returns
returns c = c.in_ok-add_tree.ensures ∙ ap (λ l. c.args.all.now ++ l) (tree_deep c.args.self.now c.deepest.result (length c.args.all.now) c.args.ways.now c.deepest.ensures.serves)
