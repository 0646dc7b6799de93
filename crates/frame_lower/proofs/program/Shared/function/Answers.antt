use Rattle.std.proofs.Common.{◌≡◌, ◌+◌, ◌*◌, map, length, ap, ◌∙◌, arith}
use Rattle.low_core.specs.SelWeights.{words_passed}
use Rattle.frame_lower.specs.declared.maker.Maker.{Maker}
use Rattle.frame_lower.specs.Frames.{spot, frame_words}
use Rattle.frame_lower.specs.Functions.{function_row, saved_function, with_cuts}
use Rattle.frame_lower.proofs.FrameLaws.{room_few, fits, all_reach, making_is}
use Rattle.frame_lower.proofs.program.Shared.function.Goals as goal

pub overflow_add-words : goal.overflow_add-words
overflow_add-words c =
    let few = room_few c.args.function.now c.args.homes.now c.requires.small c.requires.places in
    let p = c.passed_words-passed.ensures in
    let h = c.home_words.ensures in
    omega arith

pub overflow_mul-maker : goal.overflow_mul-maker
overflow_mul-maker c =
    let few = room_few c.args.function.now c.args.homes.now c.requires.small c.requires.places in
    let p = c.passed_words-passed.ensures in
    let h = c.home_words.ensures in
    omega arith

pub overflow_add-maker : goal.overflow_add-maker
overflow_add-maker c =
    let few = room_few c.args.function.now c.args.homes.now c.requires.small c.requires.places in
    let p = c.passed_words-passed.ensures in
    let h = c.home_words.ensures in
    omega arith

pub function-requires-clause-fit : goal.function-requires-clause-fit
function-requires-clause-fit c =
    let f = c.args.function.now in
    let homes = c.args.homes.now in
    let p = c.passed_words-passed.ensures in
    let h = c.home_words.ensures in
    let words : c.passed_words-passed.result + c.home_words.result ≡ frame_words f homes = ap (λ n. n + c.home_words.result) p ∙ ap (λ n. words_passed f + n) h in
    fits f homes c.args.names.now c.requires.small c.requires.places _
    (c.as_slice.ensures ∙ c.in_ok-spots.ensures ∙ ap (λ n. map (spot c.args.names.now n) homes) p) words (ap (λ n. 8 * n + f.frame) words)
    (ap length c.as_slice-2.ensures ∙ c.in_ok-order.ensures.five)

pub function-requires-clause-reaches : goal.function-requires-clause-reaches
function-requires-clause-reaches c =
    let f = c.args.function.now in
    let homes = c.args.homes.now in
    let words : c.passed_words-passed.result + c.home_words.result ≡ frame_words f homes = ap (λ n. n + c.home_words.result) c.passed_words-passed.ensures ∙ ap (λ n. words_passed f + n) c.home_words.ensures in
    all_reach f homes c.requires.small c.requires.places (c.passed_words-passed.result + c.home_words.result) words

pub returns : goal.returns
returns c =
    let f = c.args.function.now in
    let homes = c.args.homes.now in
    let p = c.passed_words-passed.ensures in
    let words : c.passed_words-passed.result + c.home_words.result ≡ frame_words f homes = ap (λ n. n + c.home_words.result) p ∙ ap (λ n. words_passed f + n) c.home_words.ensures in
    let maker : Maker = record { homes = c.as_slice.result; globals = c.args.self.now.globals; functions = c.args.self.now.functions; words = c.passed_words-passed.result + c.home_words.result; room = 8 * (c.passed_words-passed.result + c.home_words.result) + f.frame; order = c.as_slice-2.result } in
    c.in_ok-made.ensures
    ∙ ap (λ by. with_cuts c.args.most (saved_function (function_row by c.args.first f)))
    (making_is maker c.args.self.now.reg_seed c.args.number c.args.names.now homes f
    (c.as_slice.ensures ∙ c.in_ok-spots.ensures ∙ ap (λ n. map (spot c.args.names.now n) homes) p) words (ap (λ n. 8 * n + f.frame) words)
    (c.as_slice-2.ensures ∙ c.in_ok-order.ensures.drawn))
