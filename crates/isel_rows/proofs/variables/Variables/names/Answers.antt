use Rattle.std.proofs.Common.{◌∙◌, ap, sym}
use Rattle.ir_core.specs.Valid.{named_locals}
use Rattle.isel_rows.proofs.VariableLaws.{names_kept}
use Rattle.isel_rows.proofs.variables.Variables.names.Goals as goal

pub returns : goal.returns
returns c = sym (names_kept c.self.inside.names c.self.inside.kinds c.self.invariant) ∙ ap named_locals c.self.view_is
