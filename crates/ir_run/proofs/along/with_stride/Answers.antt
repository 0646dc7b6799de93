use Rattle.std.proofs.Common.{◌∙◌, ◌+◌, ◌*◌, ◌%◌, ◌^◌, refl, ap, Ok}
use Rattle.ir_core.specs.Stops.{and_then}
use Rattle.ir_core.specs.Operands.{index_word}
use Rattle.ir_run.proofs.StrideLaws.{added}
use Rattle.ir_run.proofs.along.with_stride.Goals as goal

pub returns-clause-sum : goal.returns-clause-sum
returns-clause-sum c =
    added c.args.bytes c.in_ok-word.word c.args.stride.size ((c.args.bytes + (c.in_ok-word.word * c.args.stride.size) % 2 ^ 64) % 2 ^ 64) (index_word c.in_ok-v.v) c.in_ok-word.ensures refl
    ∙ ap (λ a. and_then (and_then a (λ v. and_then (index_word v) (λ n. Ok (n * c.args.stride.size)))) (λ n. Ok ((c.args.bytes + n) % 2 ^ 64))) c.in_ok-v.ensures
