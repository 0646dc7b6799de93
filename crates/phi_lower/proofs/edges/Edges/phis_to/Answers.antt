use Rattle.std.proofs.Common.{◌∙◌, ap, sym, Some, None}
use Rattle.phi_lower.specs.Lowered.{phis_or_none, phis_to}
use Rattle.phi_lower.proofs.TableLaws.{phis_found}
use Rattle.phi_lower.proofs.edges.Edges.phis_to.Goals as goal

pub returns-in-Some : goal.returns-in-Some
returns-in-Some c =
    ap phis_or_none c.get.ensures.value
    ∙ phis_found c.self.inside.blocks.now c.self.inside.labels c.self.inside.phis c.args.to.now (Some c.in-Some.k) c.self.invariant.0 c.self.invariant.1 (sym c.in-Some.is ∙ c.number.ensures)
    ∙ ap (λ bs. phis_to bs c.args.to.now) c.self.view_is

pub returns-in-None : goal.returns-in-None
returns-in-None c =
    phis_found c.self.inside.blocks.now c.self.inside.labels c.self.inside.phis c.args.to.now None c.self.invariant.0 c.self.invariant.1 (sym c.in-None.is ∙ c.number.ensures)
    ∙ ap (λ bs. phis_to bs c.args.to.now) c.self.view_is
