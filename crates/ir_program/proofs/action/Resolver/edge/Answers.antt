use Rattle.std.proofs.Common.{◌≡◌, Some, None, subst}
use Rattle.std.specs.Prelude.{IfOk}
use Rattle.ir_program.specs.declared.exit.Edge.{Edge}
use Rattle.ir_program.proofs.EdgeLaws.{numbered}
use Rattle.ir_program.proofs.action.Resolver.edge.Goals as goal

pub returns-in-Some : goal.returns-in-Some
returns-in-Some c =
    subst (λ (x : Edge). IfOk c.edge_at.result (λ edge. edge ≡ x))
    (numbered c.args.self.now.context.now c.args.self.now.names.now c.args.way.now.from.now c.args.way.now.scope.now.blocks c.args.label.now (Some c.in-Some.k) c.in-Some.ensures)
    c.edge_at.ensures

pub returns-in-None : goal.returns-in-None
returns-in-None c =
    subst (λ (x : Edge). IfOk c.no_edge.result (λ edge. edge ≡ x))
    (numbered c.args.self.now.context.now c.args.self.now.names.now c.args.way.now.from.now c.args.way.now.scope.now.blocks c.args.label.now None c.in-None.ensures)
    c.no_edge.ensures
