use Rattle.std.proofs.Common.{◌≢◌}
use Rattle.obj_file.specs.declared.fault.FormFault.{FormFault}
use Rattle.obj_file.specs.Texts.{full, IsNumber, IsLinkText, Fault}
use Rattle.obj_file.proofs.Good.{good_number}
use Rattle.obj_file.proofs.Leaving.{fault_number, fault_after}
use Rattle.obj_file.proofs.Primitive.{at_exit}
use Rattle.obj_file.proofs.Limits.{full_limit}
use Rattle.obj_file.proofs.function.read_link.Goals as goal

pub returns-in_err-place-clause-fault : goal.returns-in_err-place-clause-fault
returns-in_err-place-clause-fault c =
    at_exit _ _ (Fault IsLinkText c.args.bytes.now c.args.at) c.from_residual.ensures.1
    (fault_number full (λ _. IsNumber full) c.args.bytes.now c.args.at _ full_limit (λ n. good_number full full_limit) c.in_err-place.ensures.fault)

pub returns-in_err-slot-clause-fault : goal.returns-in_err-slot-clause-fault
returns-in_err-slot-clause-fault c =
    let place = c.in_ok-place in
    at_exit _ _ (Fault IsLinkText c.args.bytes.now c.args.at) c.from_residual-in_err-slot.ensures.1
    (fault_after full (λ _. IsNumber full) c.args.bytes.now c.args.at _ place.place _ full_limit place.ensures.small place.ensures.read c.in_err-slot.ensures.fault)

pub returns-in_err-place-clause-told : goal.returns-in_err-place-clause-told
returns-in_err-place-clause-told c = at_exit _ _ (λ e. e ≢ FormFault.NoMemory) c.from_residual.ensures.1 c.in_err-place.ensures.told

pub returns-in_err-slot-clause-told : goal.returns-in_err-slot-clause-told
returns-in_err-slot-clause-told c = at_exit _ _ (λ e. e ≢ FormFault.NoMemory) c.from_residual-in_err-slot.ensures.1 c.in_err-slot.ensures.told
