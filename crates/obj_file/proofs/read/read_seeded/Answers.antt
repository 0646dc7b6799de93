use Rattle.std.proofs.Common.{◌+◌, arith}
use Rattle.rd_num.specs.Number.{le_bytes}
use Rattle.obj_file.specs.Texts.{IsRaw, CountedText, RegSeedText, SlotSeedText, Fault}
use Rattle.obj_file.proofs.Good.{good_raw}
use Rattle.obj_file.proofs.Leaving.{fault_first, fault_second}
use Rattle.obj_file.proofs.Primitive.{at_exit}
use Rattle.obj_file.proofs.Limits.{good_counted, good_reg_seed}
use Rattle.obj_file.proofs.Parts.{spans_to, funcs_are}
use Rattle.obj_file.proofs.Spelled.{word_raw}
use Rattle.obj_file.proofs.read.read_seeded.Goals as goal

pub returns-in_err-slot_seed-clause-fault : goal.returns-in_err-slot_seed-clause-fault
returns-in_err-slot_seed-clause-fault c =
    let f = c.args.format in
    at_exit _ _ (Fault (SlotSeedText f) c.args.bytes.now c.args.at) c.from_residual.ensures.1
    (fault_first (IsRaw 8) (RegSeedText f) c.args.bytes.now c.args.at _ (good_raw 8) (good_reg_seed f) c.in_err-slot_seed.ensures.fault)

pub returns-in_err-reg_seed-clause-fault : goal.returns-in_err-reg_seed-clause-fault
returns-in_err-reg_seed-clause-fault c =
    let f = c.args.format in
    let bytes = c.args.bytes.now in
    let at = c.args.at in
    let slot = c.in_ok-slot_seed in
    let s = slot.slot_seed in
    let two = fault_first (IsRaw 8) (CountedText f) bytes (at + 8) _ (good_raw 8) (good_counted f) c.in_err-reg_seed.ensures.fault in
    at_exit _ _ (Fault (SlotSeedText f) bytes at) c.from_residual-in_err-reg_seed.ensures.1
    (fault_second (IsRaw 8) (RegSeedText f) bytes at (at + 8) (le_bytes 8 s) _ (good_raw 8) (word_raw 8 s) slot.ensures.read two)

pub returns-in_err-body-clause-fault : goal.returns-in_err-body-clause-fault
returns-in_err-body-clause-fault c =
    let f = c.args.format in
    let bytes = c.args.bytes.now in
    let at = c.args.at in
    let slot = c.in_ok-slot_seed in
    let s = slot.slot_seed in
    let reg = c.in_ok-reg_seed in
    let r = reg.reg_seed in
    let to = spans_to bytes (at + 8) (at + 8 + 8) (at + 16) (le_bytes 8 r) (omega arith) reg.ensures.read in
    let two = fault_second (IsRaw 8) (CountedText f) bytes (at + 8) (at + 16) (le_bytes 8 r) _ (good_raw 8) (word_raw 8 r) to c.in_err-body.ensures.fault in
    at_exit _ _ (Fault (SlotSeedText f) bytes at) c.from_residual-in_err-body.ensures.1
    (fault_second (IsRaw 8) (RegSeedText f) bytes at (at + 8) (le_bytes 8 s) _ (good_raw 8) (word_raw 8 s) slot.ensures.read two)

pub returns-clause-object : goal.returns-clause-object
returns-clause-object c =
    let counted = c.in_ok-body.ensures.parts in
    let parts = counted.parts in
    record {
      object = record {
        slot_seed = c.in_ok-slot_seed.ensures.small;
        reg_seed = c.in_ok-reg_seed.ensures.small;
        functions = funcs_are c.args.format c.in_ok-body.body.functions parts.each_function;
        slots = parts.each_slot;
        ro = parts.raw_ro.bytes;
        rw = parts.raw_rw.bytes;
        functions_fit = counted.functions_fit;
        slots_fit = counted.slots_fit;
        ro_fits = counted.ro_fits;
        rw_fits = counted.rw_fits;
      };
      functions = parts.each_function;
    }
