use Rattle.std.proofs.Common.{◌∙◌, ap}
use Rattle.std.specs.List.{flat_map}
use Rattle.ir_names.specs.Firsts.{first_name}
use Rattle.ir_names.specs.Outer.{unfit}
use Rattle.ir_names.proofs.UseLaws.{unfit_wrong}
use Rattle.ir_names.proofs.external.first_declaration.Goals as goal

pub returns : goal.returns
returns c =
    c.first_unfit.ensures ∙ ap (λ es. first_name (flat_map (unfit c.in_ok-used.used) es)) c.as_slice.ensures
    ∙ ap first_name (unfit_wrong c.args.whole.now c.in_ok-used.used c.args.whole.now.externs c.in_ok-used.ensures)
