use Rattle.std.proofs.Common.{◌+◌}
use Rattle.obj_core.specs.Object.{IsField, field, cuts_bytes}
use Rattle.obj_file.specs.Texts.{IsNumber, full, Times, Fault}
use Rattle.obj_file.proofs.Primitive.{at_exit}
use Rattle.obj_file.proofs.Rows.{row_fault, row_more, cuts_row}
use Rattle.obj_file.proofs.Limits.{good_cut}
use Rattle.obj_file.proofs.Parts.{cut_text}
use Rattle.obj_file.proofs.function.read_cuts.Goals as goal

pub returns-in_err-cut-clause-fault : goal.returns-in_err-cut-clause-fault
returns-in_err-cut-clause-fault c =
    let bytes = c.args.bytes.now in
    at_exit _ _ (Fault (Times (IsNumber full) c.args.count) bytes c.args.at) c.from_residual.ensures.1
    (row_fault IsField field cuts_bytes (IsNumber full) cuts_row bytes c.args.at c.loop.end c.loop.counter c.args.count c.loop.cuts _ good_cut cut_text c.loop.invariant c.loop-test.true c.in_err-cut.ensures.fault)

pub loop-preserved : goal.loop-preserved
loop-preserved c =
    row_more IsField field cuts_bytes cuts_row c.args.bytes.now c.args.at c.loop.end (c.loop.end + 4) c.loop.counter c.loop.cuts c.in_ok-cut.cut c.add.new.self
    c.loop.invariant c.in_ok-cut.ensures.small c.in_ok-cut.ensures.read c.in_ok-add.ensures.put
