use Rattle.std.proofs.Common.{◌++◌, ◌∙◌, ap, sym}
use Rattle.std.proofs.lemmas.List.{append-nil}
use Rattle.std.specs.Option.{option_copied}
use Rattle.phi_lower.specs.Lowered.{chunk_to}
use Rattle.phi_lower.proofs.TableLaws.{one_edge, no_edge}
use Rattle.phi_lower.proofs.function.add_edge_at.Goals as goal

pub returns-in_ok-add_edge-in-Some : goal.returns-in_ok-add_edge-in-Some
returns-in_ok-add_edge-in-Some c =
    c.in_ok-add_edge-in-Some.ensures
    ∙ ap (λ cs. c.args.all.now ++ cs) (ap (chunk_to c.args.from.now c.in-Some.to.now) c.phis_to.ensures ∙ one_edge c.args.edges.now c.args.from.now c.args.targets.now c.args.k c.in-Some.to.now (sym c.get.ensures ∙ ap option_copied c.in-Some.is))

pub returns-in-None : goal.returns-in-None
returns-in-None c =
    sym (append-nil c.args.all.now) ∙ ap (λ cs. c.args.all.now ++ cs) (no_edge c.args.edges.now c.args.from.now c.args.targets.now c.args.k (sym c.get.ensures ∙ ap option_copied c.in-None.is))
