use Rattle.std.proofs.Common.{◌+◌}
use Rattle.obj_core.specs.Object.{IsSlot, functions_bytes, slot_bytes, slots_bytes}
use Rattle.obj_file.specs.Texts.{IsRaw, Times, IsFunctionText, IsSlotText, DataText, SlotsText, BodyText, Fault}
use Rattle.obj_file.specs.Spellings.{function_in, IsFuncIn}
use Rattle.obj_file.proofs.Good.{good_raw, good_times}
use Rattle.obj_file.proofs.Leaving.{fault_first, fault_second}
use Rattle.obj_file.proofs.Primitive.{at_exit}
use Rattle.obj_file.proofs.Rows.{row_counted, functions_row, slots_row}
use Rattle.obj_file.proofs.Limits.{good_function, good_slot, good_data, good_slots}
use Rattle.obj_file.proofs.Parts.{function_text, slot_text}
use Rattle.obj_file.proofs.read.read_body.Goals as goal

pub returns-in_err-functions-clause-fault : goal.returns-in_err-functions-clause-fault
returns-in_err-functions-clause-fault c =
    let n = c.args.counts in
    at_exit _ _ (Fault (BodyText c.args.format n.functions n.slots n.ro n.rw) c.args.bytes.now c.args.at) c.from_residual.ensures.1
    (fault_first (Times (IsFunctionText c.args.format) n.functions) (SlotsText n.slots n.ro n.rw) c.args.bytes.now c.args.at _ (good_times (IsFunctionText c.args.format) n.functions (good_function c.args.format)) (good_slots n.slots n.ro n.rw) c.in_err-functions.ensures.fault)

pub returns-in_err-slots-clause-fault : goal.returns-in_err-slots-clause-fault
returns-in_err-slots-clause-fault c =
    let n = c.args.counts in
    let bytes = c.args.bytes.now in
    let functions = c.in_ok-functions in
    let fs = functions.functions in
    let read = row_counted (IsFuncIn c.args.format) (function_in c.args.format) (functions_bytes (function_in c.args.format)) (IsFunctionText c.args.format) (functions_row (function_in c.args.format)) fs.value n.functions (function_text c.args.format) functions.ensures.functions functions.ensures.count in
    let two = fault_first (Times IsSlotText n.slots) (DataText n.ro n.rw) bytes fs.end _ (good_times IsSlotText n.slots good_slot) (good_data n.ro n.rw) c.in_err-slots.ensures.fault in
    at_exit _ _ (Fault (BodyText c.args.format n.functions n.slots n.ro n.rw) bytes c.args.at) c.from_residual-in_err-slots.ensures.1
    (fault_second (Times (IsFunctionText c.args.format) n.functions) (SlotsText n.slots n.ro n.rw) bytes c.args.at fs.end (functions_bytes (function_in c.args.format) fs.value) _ (good_times (IsFunctionText c.args.format) n.functions (good_function c.args.format)) read functions.ensures.read two)

pub returns-in_err-ro-clause-fault : goal.returns-in_err-ro-clause-fault
returns-in_err-ro-clause-fault c =
    let n = c.args.counts in
    let bytes = c.args.bytes.now in
    let functions = c.in_ok-functions in
    let fs = functions.functions in
    let slots = c.in_ok-slots in
    let ss = slots.slots in
    let read = row_counted (IsFuncIn c.args.format) (function_in c.args.format) (functions_bytes (function_in c.args.format)) (IsFunctionText c.args.format) (functions_row (function_in c.args.format)) fs.value n.functions (function_text c.args.format) functions.ensures.functions functions.ensures.count in
    let read2 = row_counted IsSlot slot_bytes slots_bytes IsSlotText slots_row ss.value n.slots slot_text slots.ensures.slots slots.ensures.count in
    let three = fault_first (IsRaw n.ro) (IsRaw n.rw) bytes ss.end _ (good_raw n.ro) (good_raw n.rw) c.in_err-ro.ensures.fault in
    let two = fault_second (Times IsSlotText n.slots) (DataText n.ro n.rw) bytes fs.end ss.end (slots_bytes ss.value) _ (good_times IsSlotText n.slots good_slot) read2 slots.ensures.read three in
    at_exit _ _ (Fault (BodyText c.args.format n.functions n.slots n.ro n.rw) bytes c.args.at) c.from_residual-in_err-ro.ensures.1
    (fault_second (Times (IsFunctionText c.args.format) n.functions) (SlotsText n.slots n.ro n.rw) bytes c.args.at fs.end (functions_bytes (function_in c.args.format) fs.value) _ (good_times (IsFunctionText c.args.format) n.functions (good_function c.args.format)) read functions.ensures.read two)

pub returns-in_err-rw-clause-fault : goal.returns-in_err-rw-clause-fault
returns-in_err-rw-clause-fault c =
    let n = c.args.counts in
    let bytes = c.args.bytes.now in
    let functions = c.in_ok-functions in
    let fs = functions.functions in
    let slots = c.in_ok-slots in
    let ss = slots.slots in
    let ro = c.in_ok-ro in
    let read = row_counted (IsFuncIn c.args.format) (function_in c.args.format) (functions_bytes (function_in c.args.format)) (IsFunctionText c.args.format) (functions_row (function_in c.args.format)) fs.value n.functions (function_text c.args.format) functions.ensures.functions functions.ensures.count in
    let read2 = row_counted IsSlot slot_bytes slots_bytes IsSlotText slots_row ss.value n.slots slot_text slots.ensures.slots slots.ensures.count in
    let three = fault_second (IsRaw n.ro) (IsRaw n.rw) bytes ss.end (ss.end + n.ro) ro.ro _ (good_raw n.ro) ro.ensures.any ro.ensures.read c.in_err-rw.ensures.fault in
    let two = fault_second (Times IsSlotText n.slots) (DataText n.ro n.rw) bytes fs.end ss.end (slots_bytes ss.value) _ (good_times IsSlotText n.slots good_slot) read2 slots.ensures.read three in
    at_exit _ _ (Fault (BodyText c.args.format n.functions n.slots n.ro n.rw) bytes c.args.at) c.from_residual-in_err-rw.ensures.1
    (fault_second (Times (IsFunctionText c.args.format) n.functions) (SlotsText n.slots n.ro n.rw) bytes c.args.at fs.end (functions_bytes (function_in c.args.format) fs.value) _ (good_times (IsFunctionText c.args.format) n.functions (good_function c.args.format)) read functions.ensures.read two)
