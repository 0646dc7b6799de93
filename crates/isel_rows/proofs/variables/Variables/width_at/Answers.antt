use Rattle.std.proofs.Common.{◌∙◌, ap, List}
use Rattle.std.specs.Prelude.{slice_get}
use Rattle.ir_core.specs.Valid.{LocalKind}
use Rattle.isel_rows.specs.Variables.{width_in}
use Rattle.isel_rows.proofs.VariableLaws.{width_kept, width_at}
use Rattle.isel_rows.proofs.variables.Variables.width_at.Goals as goal

pub returns-in-Some : goal.returns-in-Some
returns-in-Some c =
    c.width_of.ensures ∙ ap width_kept c.in-Some.ensures.value ∙ width_at c.self.inside.names c.self.inside.kinds c.args.k c.self.invariant
    ∙ ap (λ (vs : List LocalKind). width_in (slice_get vs c.args.k)) c.self.view_is

pub returns-in-None : goal.returns-in-None
returns-in-None c =
    ap width_kept c.in-None.ensures.value ∙ width_at c.self.inside.names c.self.inside.kinds c.args.k c.self.invariant
    ∙ ap (λ (vs : List LocalKind). width_in (slice_get vs c.args.k)) c.self.view_is
