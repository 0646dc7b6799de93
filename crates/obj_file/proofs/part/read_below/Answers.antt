use Rattle.std.proofs.Common.{◌≢◌}
use Rattle.obj_file.specs.declared.fault.FormFault.{FormFault}
use Rattle.std.proofs.Common.{arith}
use Rattle.obj_file.specs.Texts.{IsNumber, Fault}
use Rattle.obj_file.proofs.Primitive.{below_fault, zeros_fault, at_exit}
use Rattle.obj_file.proofs.part.read_below.Goals as goal
use Rattle.obj_file.proofs.part.read_below.Goals.{then-at-bytes-via-then-at-bytes, then-at-bytes-via-else-at-bytes+then-bytes-at}

pub returns-then-at-bytes-clause-fault : goal.returns-then-at-bytes-clause-fault
returns-then-at-bytes-clause-fault c =
    below_fault c.args.bytes.now c.args.at c.args.limit c.requires.some (omega arith) c.requires.within
    (elim c.then-at-bytes.branch [
      | then-at-bytes-via-then-at-bytes w ↦ (λ inside. omega arith)
      | then-at-bytes-via-else-at-bytes+then-bytes-at w ↦ (λ inside. w.if-bytes-at.true)
    ])

pub returns-in_err-expect-clause-fault : goal.returns-in_err-expect-clause-fault
returns-in_err-expect-clause-fault c =
    at_exit _ _ (Fault (IsNumber c.args.limit) c.args.bytes.now c.args.at) c.from_residual.ensures.1
    (zeros_fault c.args.bytes.now c.args.at c.args.limit _ (omega arith) c.if-at-bytes.false c.if-bytes-at.false c.in_err-expect.ensures.fault)

pub returns-in_err-expect-clause-told : goal.returns-in_err-expect-clause-told
returns-in_err-expect-clause-told c = at_exit _ _ (λ e. e ≢ FormFault.NoMemory) c.from_residual.ensures.1 c.in_err-expect.ensures.told
