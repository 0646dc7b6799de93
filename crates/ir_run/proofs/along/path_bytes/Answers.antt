use Rattle.std.proofs.Common.{◌≡◌, ◌≤◌, ◌∙◌, length, ap, arith}
use Rattle.rd_num.specs.declared.width.Width.TheVariants.{W1}
use Rattle.ir_core.specs.declared.memory.Value.TheVariants.{Num}
use Rattle.ir_core.specs.Answers.{stop_of}
use Rattle.ir_context.specs.declared.origin.Origin.TheVariants.{Known}
use Rattle.ir_context.specs.declared.path.Stride.{Stride}
use Rattle.ir_run.proofs.StrideLaws.{no_more_strides, stride_stops_in}
use Rattle.ir_run.proofs.along.path_bytes.Goals as goal

pub returns : goal.returns
returns c =
    let same : c.as_slice-s-items.result.now ≡ c.args.path.now.strides = c.as_slice-s-items.ensures in
    let many : length c.as_slice-s-items.result.now ≡ length c.args.path.now.strides = ap length same in
    let past : length c.args.path.now.strides ≤ c.loop-s.s-index = omega arith in
    no_more_strides c.args.registers.now c.args.path.now.strides c.loop-s.s-index c.loop-s.bytes past c.loop-s.invariant.small ∙ c.loop-s.invariant.sum

pub returns-in-Err : goal.returns-in-Err
returns-in-Err c =
    let none : Stride = record { index = Known (Num W1 0); size = 0 } in
    stride_stops_in c.args.registers.now c.args.path.now.strides c.as_slice-s-items.result.now c.loop-s.s-index c.loop-s.bytes none (stop_of c.in-Err.stop) c.as_slice-s-items.ensures c.loop-s-test.true c.in-Err.ensures.sum
    ∙ c.loop-s.invariant.sum
