use Rattle.std.proofs.Common.{◌++◌, ◌-◌, ◌<◌, ◌∙◌, sym, ap, arith, get_or}
use Rattle.std.specs.Prelude.{length}
use Rattle.switch_lower.specs.Ways.{Way}
use Rattle.switch_lower.specs.Tree.{tree}
use Rattle.switch_lower.proofs.ListLaws.{all_left}
use Rattle.switch_lower.proofs.TreeLaws.{halves_by, least_left}
use Rattle.switch_lower.proofs.tree.Switch.+add_tree.Goals as goal

pub returns : goal.returns
returns t c =
    let many : c.half-half.result < length c.args.ways.now = c.if-ways-half.false in
    let b = c.add_tree-2.new.all in
    halves_by c.args.self.now c.args.all.now c.add_halving.new.all b c.add_tree-3.new.all c.args.depth
    (get_or c.args.ways.now c.half-half.result c.index-ways-half.result).0 c.half-half.result c.args.ways.now
    c.half-half.ensures (omega (arith, c.if-depth-eq0.false)) many
    (sym (least_left c.half-half.result c.args.ways.now c.index-ways-half.result many c.index-ways-half.is ∙ ap (λ (w : Way). w.0) c.index-ways-half.is))
    c.in_ok-add_halving.ensures c.in_ok-add_tree.ensures
    (c.in_ok-add_tree-2.ensures ∙ ap (λ ws. b ++ tree c.args.self.now (c.args.depth - 1) (length b) ws) (all_left c.half-half.result c.args.ways.now))
