use Rattle.std.proofs.Common.{arith}
use Rattle.obj_file.proofs.Primitive.{text_short, text_wrong, all_stand}
use Rattle.obj_file.proofs.part.expect.Goals as goal
use Rattle.obj_file.proofs.part.expect.Goals.{then-at-i-via-then-at-i, then-at-i-via-else-at-i+then-bytes-at}

pub returns-then-at-i-clause-fault : goal.returns-then-at-i-clause-fault
returns-then-at-i-clause-fault c =
    let bytes = c.args.bytes.now in
    let wanted = c.args.wanted.now in
    let kept = c.loop-i.invariant in
    elim c.then-at-i.branch [
      | then-at-i-via-then-at-i w ↦ text_short bytes wanted c.args.at c.loop-i.i kept.0 c.loop-i-test.true kept.1 w.if-at-i.true
      | then-at-i-via-else-at-i+then-bytes-at w ↦ text_wrong bytes wanted c.args.at c.loop-i.i kept.0 c.loop-i-test.true kept.1 w.if-bytes-at.true
    ]

pub returns-clause-read : goal.returns-clause-read
returns-clause-read c = all_stand c.args.bytes.now c.args.wanted.now c.args.at c.loop-i.i (omega arith) c.loop-i.invariant.0 c.loop-i.invariant.1
