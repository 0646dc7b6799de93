use Rattle.std.proofs.Common.{◌≡◌, [], ◌∙◌, ap, sym, subst}
use Rattle.ir_core.specs.declared.module.Function.{Function}
use Rattle.ir_core.specs.declared.module.Module.{Module}
use Rattle.ir_core.specs.Definitions.{repeated, local_names}
use Rattle.ir_core.proofs.Distinct.{locals_of_functions, locals_at}
use Rattle.ir_names.specs.Reached.{LocalsApart}
use Rattle.ir_names.proofs.unknown.first_of_functions.Goals as goal

pub first_in_row-requires : goal.first_in_row-requires
first_in_row-requires c =
    let fs = c.args.tables.now.functions in
    let same : c.as_slice.result.now ≡ fs = c.as_slice.ensures ∙ ap (λ (m : Module). m.functions) c.whole-whole.ensures in
    subst LocalsApart (sym same) (λ k f inside item. ap (λ (g : Function). repeated [] (local_names g)) item ∙ locals_at fs (locals_of_functions c.args.tables.now c.requires) k f inside)
