use Rattle.std.proofs.Common.{◌∙◌, ◌+◌, ◌-◌, ap, arith, take, drop}
use Rattle.ir_core.specs.declared.memory.Object0.{Object0}
use Rattle.ir_core.specs.Answers.{answered}
use Rattle.ir_memory.specs.Reads.{row_read}
use Rattle.ir_memory.proofs.MemoryLaws.{loads_inside}
use Rattle.ir_memory.proofs.object.Object.load.Goals as goal

pub returns : goal.returns
returns c =
    let from = c.args.from in
    let count = c.kind_bytes-count.result in
    loads_inside c.args.kind from count (from + count - from) c.args.self.now (answered c.read.result) c.kind_bytes-count.ensures.value (omega arith) c.in_ok-test.ensures
    (c.read.ensures
    ∙ ap (λ cells. row_read c.args.kind (take (from + count - from) (drop from cells))) (c.deref.ensures.value ∙ ap (λ (x : Object0). x.cells) c.self.view_is))
