use Rattle.isel_rows.proofs.VariableLaws.{added, not_added}
use Rattle.isel_rows.proofs.variables.Variables.with.Goals as goal

pub returns-in_ok-add-2 : goal.returns-in_ok-add-2
returns-in_ok-add-2 c =
    added c.args.self c.self.inside.names c.add.new.self c.self.inside.kinds _ c.args.name.now c.args.kind c.in_ok-add.field-0
    c.self.view_is c.self.invariant c.in_ok-add.ensures.new c.in_ok-add.ensures.added c.if-branch.true c.in_ok-add-2.ensures.put

pub returns-else-branch : goal.returns-else-branch
returns-else-branch c =
    not_added c.args.self c.self.inside.names c.add.new.self c.self.inside.kinds c.args.name.now c.args.kind c.in_ok-add.field-0
    c.self.view_is c.self.invariant c.in_ok-add.ensures.new c.in_ok-add.ensures.added c.if-branch.false
