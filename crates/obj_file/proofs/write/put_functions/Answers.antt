use Rattle.std.proofs.Common.{◌≡◌, ◌+◌, ◌∷◌, drop, sym, ◌∙◌, ap}
use Rattle.std.proofs.lemmas.List.{drop_more}
use Rattle.obj_file.specs.Fits.{FunctionFits}
use Rattle.obj_file.proofs.Joined.{put_function_then, each_rest}
use Rattle.obj_file.proofs.write.put_functions.Goals as goal

pub loop-function-preserved : goal.loop-function-preserved
loop-function-preserved c =
    let i = c.loop-function.function-index in
    let fs = c.args.functions.now in
    let f = c.function-item.result in
    let split : drop i fs ≡ f ∷ drop (i + 1) fs = drop_more fs i f c.loop-function-test.true ∙ ap (λ x. x ∷ drop (i + 1) fs) (sym c.function-item.is) in (
      put_function_then _ _ _ f (drop (i + 1) fs) (drop i fs) split c.loop-function.invariant.0 c.in_ok-put_function.ensures,
      each_rest FunctionFits f (drop (i + 1) fs) (drop i fs) split c.loop-function.invariant.1,
    )
