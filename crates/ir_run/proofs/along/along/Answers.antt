use Rattle.std.proofs.Common.{◌≡◌, subst, List, true}
use Rattle.std.specs.Prelude.{is_ok}
use Rattle.ir_core.specs.Answers.{stop_of, answered}
use Rattle.ir_context.specs.declared.path.Stride.{Stride}
use Rattle.ir_context.specs.Reads.{stride_values}
use Rattle.ir_run.proofs.StrideLaws.{moves_along, sum_stops_along}
use Rattle.ir_run.proofs.along.along.Goals as goal

pub returns-in-Ok : goal.returns-in-Ok
returns-in-Ok c =
    moves_along c.args.registers.now c.args.base c.args.path.now c.in_ok-v.v (answered c.moved.result) c.in-Ok.bytes c.in_ok-v.ensures
    (subst (λ (ss : List Stride). is_ok (stride_values c.args.registers.now ss) ≡ true) c.as_slice.ensures c.in_ok-read_indices.ensures) c.in-Ok.ensures c.moved.ensures

pub returns-in-Err : goal.returns-in-Err
returns-in-Err c =
    sum_stops_along c.args.registers.now c.args.base c.args.path.now c.in_ok-v.v (stop_of c.in-Err.stop) c.in_ok-v.ensures
    (subst (λ (ss : List Stride). is_ok (stride_values c.args.registers.now ss) ≡ true) c.as_slice.ensures c.in_ok-read_indices.ensures) c.in-Err.ensures
