use Rattle.obj_file.specs.Faults.{NamesFault}
use Rattle.obj_file.proofs.Primitive.{at_exit}
use Rattle.obj_file.proofs.NoObject.{explained, longer, exactly}
use Rattle.obj_file.proofs.read.read.Goals as goal

pub returns-in_err-part-clause-fault : goal.returns-in_err-part-clause-fault
returns-in_err-part-clause-fault c =
    at_exit _ _ (NamesFault c.args.bytes.now) c.from_residual.ensures.1
    (explained c.args.bytes.now _ c.in_err-part.ensures.fault)

pub returns-then-part-bytes-clause-fault : goal.returns-then-part-bytes-clause-fault
returns-then-part-bytes-clause-fault c =
    let part = c.in_ok-part in
    longer c.args.bytes.now part.part.end part.part.value part.ensures.holds c.if-part-bytes.true

pub returns-clause-spelling : goal.returns-clause-spelling
returns-clause-spelling c =
    let part = c.in_ok-part in
    exactly c.args.bytes.now part.part.end part.part.value part.ensures.holds c.if-part-bytes.false
