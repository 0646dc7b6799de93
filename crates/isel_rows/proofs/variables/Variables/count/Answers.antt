use Rattle.std.proofs.Common.{◌≡◌, ◌∙◌, ap, sym, subst, length}
use Rattle.std.specs.Prelude.{IfOk}
use Rattle.isel_rows.proofs.VariableLaws.{length_kept}
use Rattle.isel_rows.proofs.variables.Variables.count.Goals as goal

pub returns : goal.returns
returns c =
    subst (λ n. IfOk c.small.result (λ k. k ≡ n))
    (c.len.ensures ∙ sym (length_kept c.self.inside.names c.self.inside.kinds c.self.invariant) ∙ ap length c.self.view_is) c.small.ensures
