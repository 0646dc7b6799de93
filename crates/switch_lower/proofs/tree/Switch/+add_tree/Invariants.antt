-- the depth falls
use Rattle.switch_lower.proofs.tree.Switch.+add_tree.Given as goal

abbrev pub decreases-add_tree : goal.decreases-add_tree
decreases-add_tree l = l.depth
