use Rattle.std.proofs.Common.{◌+◌}
use Rattle.obj_core.specs.Object.{IsLink, link_bytes, links_bytes}
use Rattle.obj_file.specs.declared.format.Format.{Format}
use Rattle.obj_file.specs.Texts.{IsRaw, IsNumber, full, Times, IsLinkText, RowsText, CutCodeText, CodeText, Fault}
use Rattle.obj_file.proofs.Good.{good_raw, good_times}
use Rattle.obj_file.proofs.Leaving.{fault_number, fault_after, fault_first, fault_second}
use Rattle.obj_file.proofs.Primitive.{at_exit}
use Rattle.obj_file.proofs.Rows.{row_counted, links_row}
use Rattle.obj_file.proofs.Limits.{full_limit, good_link, good_cut, good_rows, good_cut_code}
use Rattle.obj_file.proofs.Parts.{link_text}
use Rattle.obj_file.proofs.function.read_cut.Goals as goal

pub returns-in_err-cut_count-clause-fault : goal.returns-in_err-cut_count-clause-fault
returns-in_err-cut_count-clause-fault c =
    let size = c.args.size in
    let count = c.args.count in
    at_exit _ _ (Fault (CodeText Format.Two size count) c.args.bytes.now c.args.at) c.from_residual.ensures.1
    (fault_number full (CutCodeText size count) c.args.bytes.now c.args.at _ full_limit (good_cut_code size count) c.in_err-cut_count.ensures.fault)

pub returns-in_err-code-clause-fault : goal.returns-in_err-code-clause-fault
returns-in_err-code-clause-fault c =
    let bytes = c.args.bytes.now in
    let at = c.args.at in
    let size = c.args.size in
    let count = c.args.count in
    let cuts = c.in_ok-cut_count in
    let n = cuts.cut_count in
    let two = fault_first (IsRaw size) (RowsText count n) bytes (at + 4) _ (good_raw size) (good_rows count n) c.in_err-code.ensures.fault in
    at_exit _ _ (Fault (CodeText Format.Two size count) bytes at) c.from_residual-in_err-code.ensures.1
    (fault_after full (CutCodeText size count) bytes at (at + 4) n _ full_limit cuts.ensures.small cuts.ensures.read two)

pub returns-in_err-links-clause-fault : goal.returns-in_err-links-clause-fault
returns-in_err-links-clause-fault c =
    let bytes = c.args.bytes.now in
    let at = c.args.at in
    let size = c.args.size in
    let count = c.args.count in
    let cuts = c.in_ok-cut_count in
    let n = cuts.cut_count in
    let code = c.in_ok-code in
    let three = fault_first (Times IsLinkText count) (Times (IsNumber full) n) bytes (at + 4 + size) _ (good_times IsLinkText count good_link) (good_times (IsNumber full) n good_cut) c.in_err-links.ensures.fault in
    let two = fault_second (IsRaw size) (RowsText count n) bytes (at + 4) (at + 4 + size) code.code _ (good_raw size) code.ensures.any code.ensures.read three in
    at_exit _ _ (Fault (CodeText Format.Two size count) bytes at) c.from_residual-in_err-links.ensures.1
    (fault_after full (CutCodeText size count) bytes at (at + 4) n _ full_limit cuts.ensures.small cuts.ensures.read two)

pub returns-in_err-cuts-clause-fault : goal.returns-in_err-cuts-clause-fault
returns-in_err-cuts-clause-fault c =
    let bytes = c.args.bytes.now in
    let at = c.args.at in
    let size = c.args.size in
    let count = c.args.count in
    let cuts = c.in_ok-cut_count in
    let n = cuts.cut_count in
    let code = c.in_ok-code in
    let links = c.in_ok-links in
    let read = row_counted IsLink link_bytes links_bytes IsLinkText links_row links.links.value count link_text links.ensures.links links.ensures.count in
    let three = fault_second (Times IsLinkText count) (Times (IsNumber full) n) bytes (at + 4 + size) links.links.end (links_bytes links.links.value) _ (good_times IsLinkText count good_link) read links.ensures.read c.in_err-cuts.ensures.fault in
    let two = fault_second (IsRaw size) (RowsText count n) bytes (at + 4) (at + 4 + size) code.code _ (good_raw size) code.ensures.any code.ensures.read three in
    at_exit _ _ (Fault (CodeText Format.Two size count) bytes at) c.from_residual-in_err-cuts.ensures.1
    (fault_after full (CutCodeText size count) bytes at (at + 4) n _ full_limit cuts.ensures.small cuts.ensures.read two)
