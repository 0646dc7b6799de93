use Rattle.std.proofs.Common.{◌≤◌, subst, sym}
use Rattle.switch_lower.proofs.TreeLaws.{size_told, size_fits}
use Rattle.switch_lower.proofs.tree.size.Goals as goal

pub returns-clause-value : goal.returns-clause-value
returns-clause-value c = size_told c.args.depth c.requires

pub returns-clause-within : goal.returns-clause-within
returns-clause-within c = subst (λ n. n ≤ 5764607523034234880) (sym (size_told c.args.depth c.requires)) (size_fits c.args.depth c.requires)
