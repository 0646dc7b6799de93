use Rattle.std.proofs.Common.{◌+◌}
use Rattle.obj_core.specs.Object.{IsSlot, slot_bytes, slots_bytes}
use Rattle.obj_file.specs.Texts.{IsSlotText, Times, Fault}
use Rattle.obj_file.proofs.Primitive.{at_exit}
use Rattle.obj_file.proofs.Rows.{row_fault, row_more, slots_row}
use Rattle.obj_file.proofs.Limits.{good_slot}
use Rattle.obj_file.proofs.Parts.{slot_text}
use Rattle.obj_file.proofs.read.read_slots.Goals as goal

pub returns-in_err-slot-clause-fault : goal.returns-in_err-slot-clause-fault
returns-in_err-slot-clause-fault c =
    let bytes = c.args.bytes.now in
    at_exit _ _ (Fault (Times IsSlotText c.args.count) bytes c.args.at) c.from_residual.ensures.1
    (row_fault IsSlot slot_bytes slots_bytes IsSlotText slots_row bytes c.args.at c.loop.end c.loop.counter c.args.count c.loop.slots _ good_slot slot_text c.loop.invariant c.loop-test.true c.in_err-slot.ensures.fault)

pub loop-preserved : goal.loop-preserved
loop-preserved c =
    row_more IsSlot slot_bytes slots_bytes slots_row c.args.bytes.now c.args.at c.loop.end (c.loop.end + 16) c.loop.counter c.loop.slots c.in_ok-slot.slot c.add.new.self
    c.loop.invariant c.in_ok-slot.ensures.slot c.in_ok-slot.ensures.read c.in_ok-add.ensures.put
