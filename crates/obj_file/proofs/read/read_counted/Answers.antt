use Rattle.std.proofs.Common.{◌+◌, arith}
use Rattle.obj_core.specs.Object.{field}
use Rattle.obj_file.specs.Texts.{full, BodyText, AfterRo, AfterSlots, AfterFunctions, CountedText, Fault}
use Rattle.obj_file.proofs.Leaving.{fault_number, fault_after}
use Rattle.obj_file.proofs.Primitive.{at_exit}
use Rattle.obj_file.proofs.Limits.{full_limit, good_body, good_after_ro, good_after_slots, good_after_functions}
use Rattle.obj_file.proofs.Parts.{spans_to}
use Rattle.obj_file.proofs.read.read_counted.Goals as goal

pub returns-in_err-functions-clause-fault : goal.returns-in_err-functions-clause-fault
returns-in_err-functions-clause-fault c =
    let bytes = c.args.bytes.now in
    let at = c.args.at in
    at_exit _ _ (Fault (CountedText c.args.format) bytes at) c.from_residual.ensures.1
    (fault_number full (AfterFunctions c.args.format) bytes at _ full_limit (good_after_functions c.args.format) c.in_err-functions.ensures.fault)

pub returns-in_err-slots-clause-fault : goal.returns-in_err-slots-clause-fault
returns-in_err-slots-clause-fault c =
    let bytes = c.args.bytes.now in
    let at = c.args.at in
    let f = c.in_ok-functions in
    let step1 = fault_number full (AfterSlots c.args.format f.functions) bytes (at + 4) _ full_limit (good_after_slots c.args.format f.functions) c.in_err-slots.ensures.fault in
    at_exit _ _ (Fault (CountedText c.args.format) bytes at) c.from_residual-in_err-slots.ensures.1
    (fault_after full (AfterFunctions c.args.format) bytes at (at + 4) f.functions _ full_limit f.ensures.small f.ensures.read step1)

pub returns-in_err-ro-clause-fault : goal.returns-in_err-ro-clause-fault
returns-in_err-ro-clause-fault c =
    let bytes = c.args.bytes.now in
    let at = c.args.at in
    let f = c.in_ok-functions in
    let s = c.in_ok-slots in
    let to1 = spans_to bytes (at + 4) (at + 4 + 4) (at + 8) (field s.slots) (omega arith) s.ensures.read in
    let step2 = fault_number full (AfterRo c.args.format f.functions s.slots) bytes (at + 8) _ full_limit (good_after_ro c.args.format f.functions s.slots) c.in_err-ro.ensures.fault in
    let step1 = fault_after full (AfterSlots c.args.format f.functions) bytes (at + 4) (at + 8) s.slots _ full_limit s.ensures.small to1 step2 in
    at_exit _ _ (Fault (CountedText c.args.format) bytes at) c.from_residual-in_err-ro.ensures.1
    (fault_after full (AfterFunctions c.args.format) bytes at (at + 4) f.functions _ full_limit f.ensures.small f.ensures.read step1)

pub returns-in_err-rw-clause-fault : goal.returns-in_err-rw-clause-fault
returns-in_err-rw-clause-fault c =
    let bytes = c.args.bytes.now in
    let at = c.args.at in
    let f = c.in_ok-functions in
    let s = c.in_ok-slots in
    let r = c.in_ok-ro in
    let to1 = spans_to bytes (at + 4) (at + 4 + 4) (at + 8) (field s.slots) (omega arith) s.ensures.read in
    let to2 = spans_to bytes (at + 8) (at + 8 + 4) (at + 12) (field r.ro) (omega arith) r.ensures.read in
    let step3 = fault_number full (BodyText c.args.format f.functions s.slots r.ro) bytes (at + 12) _ full_limit (good_body c.args.format f.functions s.slots r.ro) c.in_err-rw.ensures.fault in
    let step2 = fault_after full (AfterRo c.args.format f.functions s.slots) bytes (at + 8) (at + 12) r.ro _ full_limit r.ensures.small to2 step3 in
    let step1 = fault_after full (AfterSlots c.args.format f.functions) bytes (at + 4) (at + 8) s.slots _ full_limit s.ensures.small to1 step2 in
    at_exit _ _ (Fault (CountedText c.args.format) bytes at) c.from_residual-in_err-rw.ensures.1
    (fault_after full (AfterFunctions c.args.format) bytes at (at + 4) f.functions _ full_limit f.ensures.small f.ensures.read step1)

pub returns-in_err-body-clause-fault : goal.returns-in_err-body-clause-fault
returns-in_err-body-clause-fault c =
    let bytes = c.args.bytes.now in
    let at = c.args.at in
    let f = c.in_ok-functions in
    let s = c.in_ok-slots in
    let r = c.in_ok-ro in
    let w = c.in_ok-rw in
    let to1 = spans_to bytes (at + 4) (at + 4 + 4) (at + 8) (field s.slots) (omega arith) s.ensures.read in
    let to2 = spans_to bytes (at + 8) (at + 8 + 4) (at + 12) (field r.ro) (omega arith) r.ensures.read in
    let to3 = spans_to bytes (at + 12) (at + 12 + 4) (at + 16) (field w.rw) (omega arith) w.ensures.read in
    let step4 = c.in_err-body.ensures.fault in
    let step3 = fault_after full (BodyText c.args.format f.functions s.slots r.ro) bytes (at + 12) (at + 16) w.rw _ full_limit w.ensures.small to3 step4 in
    let step2 = fault_after full (AfterRo c.args.format f.functions s.slots) bytes (at + 8) (at + 12) r.ro _ full_limit r.ensures.small to2 step3 in
    let step1 = fault_after full (AfterSlots c.args.format f.functions) bytes (at + 4) (at + 8) s.slots _ full_limit s.ensures.small to1 step2 in
    at_exit _ _ (Fault (CountedText c.args.format) bytes at) c.from_residual-in_err-body.ensures.1
    (fault_after full (AfterFunctions c.args.format) bytes at (at + 4) f.functions _ full_limit f.ensures.small f.ensures.read step1)
