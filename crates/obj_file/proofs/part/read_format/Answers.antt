use Rattle.std.proofs.Common.{arith}
use Rattle.obj_file.specs.Texts.{IsFormat, Fault}
use Rattle.obj_file.proofs.Primitive.{format_fault, format_zeros, at_exit}
use Rattle.obj_file.proofs.part.read_format.Goals as goal

-- no byte
pub returns-then-at-bytes-clause-fault : goal.returns-then-at-bytes-clause-fault
returns-then-at-bytes-clause-fault c = format_fault c.args.bytes.now c.args.at c.requires (λ inside. absurd (omega arith))

-- a byte that is no number of a format
pub returns-in-None-clause-fault : goal.returns-in-None-clause-fault
returns-in-None-clause-fault c = format_fault c.args.bytes.now c.args.at c.requires (λ inside. c.format_of.ensures.none c.in-None.is)

pub returns-in_err-expect-in-Some-clause-fault : goal.returns-in_err-expect-in-Some-clause-fault
returns-in_err-expect-in-Some-clause-fault c =
    at_exit _ _ (Fault IsFormat c.args.bytes.now c.args.at) c.from_residual.ensures.1
    (format_zeros c.args.bytes.now c.args.at c.in-Some.format _ c.if-at-bytes.false c.in-Some.ensures.some c.in_err-expect-in-Some.ensures.fault)
