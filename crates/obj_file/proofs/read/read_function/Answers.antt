use Rattle.std.proofs.Common.{◌+◌, arith}
use Rattle.obj_core.specs.Object.{field}
use Rattle.obj_file.specs.Texts.{full, CodeText, LinksText, SizeText, IsFunctionText, Fault}
use Rattle.obj_file.proofs.Leaving.{fault_number, fault_after}
use Rattle.obj_file.proofs.Primitive.{at_exit}
use Rattle.obj_file.proofs.Limits.{full_limit, two_limit, good_code, good_links, good_size}
use Rattle.obj_file.proofs.Parts.{spans_to, rows_are, function_spans}
use Rattle.obj_file.proofs.read.read_function.Goals as goal

pub returns-in_err-kind-clause-fault : goal.returns-in_err-kind-clause-fault
returns-in_err-kind-clause-fault c =
    let f = c.args.format in
    at_exit _ _ (Fault (IsFunctionText f) c.args.bytes.now c.args.at) c.from_residual.ensures.1
    (fault_number 2 (λ _. SizeText f) c.args.bytes.now c.args.at _ two_limit (λ _. good_size f) c.in_err-kind.ensures.fault)

pub returns-in_err-size-clause-fault : goal.returns-in_err-size-clause-fault
returns-in_err-size-clause-fault c =
    let f = c.args.format in
    let bytes = c.args.bytes.now in
    let at = c.args.at in
    let kind = c.in_ok-kind in
    let one = fault_number full (LinksText f) bytes (at + 4) _ full_limit (good_links f) c.in_err-size.ensures.fault in
    at_exit _ _ (Fault (IsFunctionText f) bytes at) c.from_residual-in_err-size.ensures.1
    (fault_after 2 (λ _. SizeText f) bytes at (at + 4) kind.kind _ two_limit kind.ensures.small kind.ensures.read one)

pub returns-in_err-count-clause-fault : goal.returns-in_err-count-clause-fault
returns-in_err-count-clause-fault c =
    let f = c.args.format in
    let bytes = c.args.bytes.now in
    let at = c.args.at in
    let kind = c.in_ok-kind in
    let size = c.in_ok-size in
    let to = spans_to bytes (at + 4) (at + 4 + 4) (at + 8) (field size.size) (omega arith) size.ensures.read in
    let two = fault_number full (CodeText f size.size) bytes (at + 8) _ full_limit (good_code f size.size) c.in_err-count.ensures.fault in
    let one = fault_after full (LinksText f) bytes (at + 4) (at + 8) size.size _ full_limit size.ensures.small to two in
    at_exit _ _ (Fault (IsFunctionText f) bytes at) c.from_residual-in_err-count.ensures.1
    (fault_after 2 (λ _. SizeText f) bytes at (at + 4) kind.kind _ two_limit kind.ensures.small kind.ensures.read one)

pub returns-in_err-rows-clause-fault : goal.returns-in_err-rows-clause-fault
returns-in_err-rows-clause-fault c =
    let f = c.args.format in
    let bytes = c.args.bytes.now in
    let at = c.args.at in
    let kind = c.in_ok-kind in
    let size = c.in_ok-size in
    let count = c.in_ok-count in
    let to = spans_to bytes (at + 4) (at + 4 + 4) (at + 8) (field size.size) (omega arith) size.ensures.read in
    let to2 = spans_to bytes (at + 8) (at + 8 + 4) (at + 12) (field count.count) (omega arith) count.ensures.read in
    let two = fault_after full (CodeText f size.size) bytes (at + 8) (at + 12) count.count _ full_limit count.ensures.small to2 c.in_err-rows.ensures.fault in
    let one = fault_after full (LinksText f) bytes (at + 4) (at + 8) size.size _ full_limit size.ensures.small to two in
    at_exit _ _ (Fault (IsFunctionText f) bytes at) c.from_residual-in_err-rows.ensures.1
    (fault_after 2 (λ _. SizeText f) bytes at (at + 4) kind.kind _ two_limit kind.ensures.small kind.ensures.read one)

pub returns-clause-function : goal.returns-clause-function
returns-clause-function c =
    let rows = c.in_ok-rows in
    rows_are c.args.format (record { kind = c.kind_of.result; bytes = rows.rows.bytes; links = rows.rows.links; cuts = rows.rows.cuts }) c.in_ok-size.size c.in_ok-count.count
    rows.ensures.rows c.in_ok-size.ensures.small c.in_ok-count.ensures.small

pub returns-clause-read : goal.returns-clause-read
returns-clause-read c =
    let size = c.in_ok-size in
    let count = c.in_ok-count in
    let rows = c.in_ok-rows in
    function_spans c.args.format c.args.bytes.now c.args.at rows.rows.end c.in_ok-kind.kind size.size count.count
    (record { kind = c.kind_of.result; bytes = rows.rows.bytes; links = rows.rows.links; cuts = rows.rows.cuts })
    c.in_ok-kind.ensures.read size.ensures.read count.ensures.read rows.ensures.read c.kind_of.ensures rows.ensures.rows.raw.size rows.ensures.rows.links_counted
