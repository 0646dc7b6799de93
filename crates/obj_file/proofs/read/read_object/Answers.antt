use Rattle.std.proofs.Common.{refl}
use Rattle.obj_core.specs.Object.{magic}
use Rattle.obj_file.specs.Texts.{IsText, FormatThen, SlotSeedText, IsObjectText, Fault}
use Rattle.obj_file.proofs.Good.{good_text}
use Rattle.obj_file.proofs.Leaving.{fault_first, fault_second, fault_format, fault_after_format}
use Rattle.obj_file.proofs.Primitive.{at_exit}
use Rattle.obj_file.proofs.Limits.{good_slot_seed, good_formatted}
use Rattle.obj_file.proofs.Parts.{object_holds}
use Rattle.obj_file.proofs.read.read_object.Goals as goal

pub returns-in_err-expect-clause-fault : goal.returns-in_err-expect-clause-fault
returns-in_err-expect-clause-fault c =
    at_exit _ _ (Fault IsObjectText c.args.bytes.now 0) c.from_residual.ensures.1
    (fault_first (IsText magic) (FormatThen SlotSeedText) c.args.bytes.now 0 _ (good_text magic) good_formatted c.in_err-expect.ensures.fault)

pub returns-in_err-format-clause-fault : goal.returns-in_err-format-clause-fault
returns-in_err-format-clause-fault c =
    let bytes = c.args.bytes.now in
    let two = fault_format SlotSeedText bytes 4 _ good_slot_seed c.in_err-format.ensures.fault in
    at_exit _ _ (Fault IsObjectText bytes 0) c.from_residual-in_err-format.ensures.1
    (fault_second (IsText magic) (FormatThen SlotSeedText) bytes 0 4 magic _ (good_text magic) (record { same = refl }) c.in_ok-expect.ensures.read two)

pub returns-in_err-part-clause-fault : goal.returns-in_err-part-clause-fault
returns-in_err-part-clause-fault c =
    let bytes = c.args.bytes.now in
    let format = c.in_ok-format in
    let two = fault_after_format SlotSeedText bytes 4 8 format.format _ format.ensures.read c.in_err-part.ensures.fault in
    at_exit _ _ (Fault IsObjectText bytes 0) c.from_residual-in_err-part.ensures.1
    (fault_second (IsText magic) (FormatThen SlotSeedText) bytes 0 4 magic _ (good_text magic) (record { same = refl }) c.in_ok-expect.ensures.read two)

pub returns-clause-holds : goal.returns-clause-holds
returns-clause-holds c =
    let part = c.in_ok-part in
    object_holds c.in_ok-format.format c.args.bytes.now part.part.end part.part.value part.ensures.object c.in_ok-expect.ensures.read c.in_ok-format.ensures.read part.ensures.read
