use Rattle.std.proofs.Common.{◌+◌}
use Rattle.obj_file.specs.declared.format.Format.{Format}
use Rattle.obj_file.specs.Texts.{IsRaw, Times, IsLinkText, CodeText, Fault}
use Rattle.obj_file.proofs.Good.{good_raw, good_times}
use Rattle.obj_file.proofs.Leaving.{fault_first, fault_second}
use Rattle.obj_file.proofs.Primitive.{at_exit}
use Rattle.obj_file.proofs.Limits.{good_link}
use Rattle.obj_file.proofs.function.read_uncut.Goals as goal

pub returns-in_err-code-clause-fault : goal.returns-in_err-code-clause-fault
returns-in_err-code-clause-fault c =
    let size = c.args.size in
    let count = c.args.count in
    at_exit _ _ (Fault (CodeText Format.One size count) c.args.bytes.now c.args.at) c.from_residual.ensures.1
    (fault_first (IsRaw size) (Times IsLinkText count) c.args.bytes.now c.args.at _ (good_raw size) (good_times IsLinkText count good_link) c.in_err-code.ensures.fault)

pub returns-in_err-links-clause-fault : goal.returns-in_err-links-clause-fault
returns-in_err-links-clause-fault c =
    let bytes = c.args.bytes.now in
    let at = c.args.at in
    let size = c.args.size in
    let count = c.args.count in
    let code = c.in_ok-code in
    at_exit _ _ (Fault (CodeText Format.One size count) bytes at) c.from_residual-in_err-links.ensures.1
    (fault_second (IsRaw size) (Times IsLinkText count) bytes at (at + size) code.code _ (good_raw size) code.ensures.any code.ensures.read c.in_err-links.ensures.fault)
