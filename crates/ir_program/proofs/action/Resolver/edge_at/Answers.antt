use Rattle.std.proofs.Common.{◌≡◌, sym, subst}
use Rattle.std.specs.Prelude.{IfOk}
use Rattle.ir_program.specs.declared.exit.Edge.{Edge}
use Rattle.ir_program.proofs.EdgeLaws.{row_there, row_none}
use Rattle.ir_program.proofs.action.Resolver.edge_at.Goals as goal

pub returns-in-Some : goal.returns-in-Some
returns-in-Some c =
    subst (λ (x : Edge). IfOk c.edge_with.result (λ edge. edge ≡ x))
    (row_there c.args.self.now.context.now c.args.self.now.names.now c.args.way.now.from.now _ c.args.way.now.rows.now c.requires c.args.k c.in-Some.phis.now (sym c.in-Some.ensures.value))
    c.edge_with.ensures

pub returns-in-None : goal.returns-in-None
returns-in-None c =
    subst (λ (x : Edge). IfOk c.no_edge.result (λ edge. edge ≡ x))
    (row_none c.args.self.now.context.now c.args.self.now.names.now c.args.way.now.from.now _ c.args.way.now.rows.now c.requires c.args.k (sym c.in-None.ensures.value))
    c.no_edge.ensures
