use Rattle.std.proofs.Common.{◌≡◌, ◌∷◌, [], ◌∙◌, ap, length, map}
use Rattle.ir_core.specs.declared.limit.Limit.{Limit}
use Rattle.ir_core.specs.declared.limit.TheConstants.{MAX_FUNCTIONS, MAX_INSTRUCTIONS, MAX_TOTAL, MAX_FRAME, MAX_PARAMETERS, MAX_BYTES, MAX_CODE}
use Rattle.ir_core.specs.declared.module.Function.{Function}
use Rattle.ir_core.specs.Counts.{told, steps_in, total_count, parameter_counts, frame_count, bytes_count, code_count}
use Rattle.ir_core.specs.Refusals.{past}
use Rattle.ir_limits.specs.Past.{first_past}
use Rattle.ir_limits.specs.Answers.{types_limited}
use Rattle.ir_limits.proofs.OverLaws.{one_limit, limits_joined}
use Rattle.ir_limits.proofs.first_of_all.Goals as goal

pub returns : goal.returns
returns c =
    let m = c.args.whole.now in
    let steps = λ (f : Function). told (steps_in f.blocks) in
    let functions = one_limit Limit.Functions MAX_FUNCTIONS (length m.functions ∷ []) c.of_limit.result c.past.result c.of_limit.ensures
    (c.past.ensures ∙ ap (λ fs. first_past MAX_FUNCTIONS (length fs ∷ [])) c.as_slice-functions.ensures) in
    let instructions = one_limit Limit.Instructions MAX_INSTRUCTIONS (map steps m.functions) c.of_limit-2.result c.past_steps.result c.of_limit-2.ensures
    (c.past_steps.ensures ∙ ap (λ fs. first_past MAX_INSTRUCTIONS (map steps fs)) c.as_slice-functions.ensures) in
    let total = one_limit Limit.Total MAX_TOTAL (told (total_count m) ∷ []) c.of_limit-3.result c.past-2.result c.of_limit-3.ensures
    (c.past-2.ensures ∙ ap (λ n. first_past MAX_TOTAL (n ∷ [])) c.total.ensures) in
    let params = one_limit Limit.Parameters MAX_PARAMETERS (parameter_counts m) c.of_limit-4.result c.past_params.result c.of_limit-4.ensures c.past_params.ensures in
    let frames = one_limit Limit.Frame MAX_FRAME (map (frame_count m.types) m.functions) c.of_limit-5.result c.past_frames.result c.of_limit-5.ensures
    (c.past_frames.ensures ∙ ap (λ fs. first_past MAX_FRAME (map (frame_count c.args.sizes.now) fs)) c.as_slice-functions.ensures ∙ ap (λ types. first_past MAX_FRAME (map (frame_count types) m.functions)) c.requires) in
    let bytes = one_limit Limit.Bytes MAX_BYTES (bytes_count m ∷ []) c.of_limit-6.result c.past-3.result c.of_limit-6.ensures
    (c.past-3.ensures ∙ ap (λ n. first_past MAX_BYTES (n ∷ [])) c.global_bytes.ensures) in
    let code = one_limit Limit.Code MAX_CODE (code_count m ∷ []) c.of_limit-7.result c.past-4.result c.of_limit-7.ensures
    (c.past-4.ensures ∙ ap (λ n. first_past MAX_CODE (n ∷ [])) c.module_code.ensures) in
    let one = limits_joined (types_limited m) (past Limit.Functions MAX_FUNCTIONS (length m.functions ∷ [])) c.first_of_types.result c.of_limit.result c.or.result c.or.ensures c.first_of_types.ensures functions in
    let two = limits_joined _ (past Limit.Instructions MAX_INSTRUCTIONS (map steps m.functions)) c.or.result c.of_limit-2.result c.or-2.result c.or-2.ensures one instructions in
    let three = limits_joined _ (past Limit.Total MAX_TOTAL (told (total_count m) ∷ [])) c.or-2.result c.of_limit-3.result c.or-3.result c.or-3.ensures two total in
    let four = limits_joined _ (past Limit.Parameters MAX_PARAMETERS (parameter_counts m)) c.or-3.result c.of_limit-4.result c.or-4.result c.or-4.ensures three params in
    let five = limits_joined _ (past Limit.Frame MAX_FRAME (map (frame_count m.types) m.functions)) c.or-4.result c.of_limit-5.result c.or-5.result c.or-5.ensures four frames in
    let six = limits_joined _ (past Limit.Bytes MAX_BYTES (bytes_count m ∷ [])) c.or-5.result c.of_limit-6.result c.or-6.result c.or-6.ensures five bytes in
    limits_joined _ (past Limit.Code MAX_CODE (code_count m ∷ [])) c.or-6.result c.of_limit-7.result c.or-7.result c.or-7.ensures six code
