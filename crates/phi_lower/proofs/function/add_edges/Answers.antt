use Rattle.std.proofs.Common.{◌+◌, ◌++◌, ◌∙◌, ap, take, drop, append_assoc}
use Rattle.phi_lower.specs.Lowered.{chunks_to}
use Rattle.phi_lower.proofs.TableLaws.{edges_step}
use Rattle.phi_lower.proofs.function.add_edges.Goals as goal

pub loop-k-preserved : goal.loop-k-preserved
loop-k-preserved c =
    let later = chunks_to c.args.edges.now c.args.from.now (drop (c.loop-k.k + 1) c.args.targets.now) in
    ap (λ cs. cs ++ later) c.in_ok-add_edge_at.ensures
    ∙ append_assoc c.loop-k.all (chunks_to c.args.edges.now c.args.from.now (take 1 (drop c.loop-k.k c.args.targets.now))) later
    ∙ ap (λ cs. c.loop-k.all ++ cs) (edges_step c.args.edges.now c.args.from.now c.loop-k.k c.args.targets.now) ∙ c.loop-k.invariant
