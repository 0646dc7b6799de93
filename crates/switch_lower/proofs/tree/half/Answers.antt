use Rattle.switch_lower.proofs.TreeLaws.{ways_told}
use Rattle.switch_lower.proofs.tree.half.Goals as goal

pub returns : goal.returns
returns c = ways_told c.args.depth c.requires
