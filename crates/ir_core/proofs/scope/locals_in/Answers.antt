use Rattle.std.proofs.Common.{[], ◌++◌, ◌∙◌, ap, map}
use Rattle.ir_core.specs.Definitions.{repeated}
use Rattle.ir_core.specs.Valid.{named_locals, param_kind, results_of}
use Rattle.ir_core.proofs.LocalLaws.{params_and_results}
use Rattle.ir_core.proofs.scope.locals_in.Goals as goal

pub add_params-requires : goal.add_params-requires
add_params-requires c =
    let p = params_and_results c.args.f.now c.requires in
    ap (λ ns. repeated ns (named_locals (map param_kind c.as_slice.result.now))) c.new.ensures
    ∙ ap (λ ps. repeated [] (named_locals (map param_kind ps))) c.as_slice.ensures ∙ p.0

pub add_blocks-requires : goal.add_blocks-requires
add_blocks-requires c =
    let p = params_and_results c.args.f.now c.requires in
    ap (λ ns. repeated ns (named_locals (results_of c.as_slice-2.result.now)))
    (c.in_ok-add_params.ensures.named ∙ ap (λ ns. ns ++ named_locals (map param_kind c.as_slice.result.now)) c.new.ensures ∙ ap (λ ps. named_locals (map param_kind ps)) c.as_slice.ensures)
    ∙ ap (λ bs. repeated (named_locals (map param_kind c.args.f.now.params)) (named_locals (results_of bs))) c.as_slice-2.ensures ∙ p.1
