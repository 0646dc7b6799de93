use Rattle.std.proofs.Common.{◌≢◌}
use Rattle.obj_file.specs.declared.fault.FormFault.{FormFault}
use Rattle.std.proofs.Common.{◌+◌, arith}
use Rattle.std.specs.Prelude.{nat_le}
use Rattle.obj_core.specs.Object.{field}
use Rattle.obj_file.specs.Texts.{limit_if, OffsetText, BackText, TargetText, IsSlotText, Fault}
use Rattle.obj_file.proofs.Leaving.{fault_number, fault_after}
use Rattle.obj_file.proofs.Primitive.{at_exit}
use Rattle.obj_file.proofs.Limits.{good_offset, good_back, good_target, used_limit, five_limit}
use Rattle.obj_file.proofs.Parts.{spans_to}
use Rattle.obj_file.proofs.read.read_slot.Goals as goal

pub returns-in_err-kind-clause-fault : goal.returns-in_err-kind-clause-fault
returns-in_err-kind-clause-fault c =
    at_exit _ _ (Fault IsSlotText c.args.bytes.now c.args.at) c.from_residual.ensures.1
    (fault_number 5 TargetText c.args.bytes.now c.args.at _ five_limit good_target c.in_err-kind.ensures.fault)

pub returns-in_err-target-clause-fault : goal.returns-in_err-target-clause-fault
returns-in_err-target-clause-fault c =
    let bytes = c.args.bytes.now in
    let at = c.args.at in
    let kind = c.in_ok-kind in
    let k = kind.kind in
    let one = fault_number (limit_if (nat_le k 2)) (λ _. BackText k) bytes (at + 4) _ (used_limit (nat_le k 2)) (λ _. good_back k) c.in_err-target.ensures.fault in
    at_exit _ _ (Fault IsSlotText bytes at) c.from_residual-in_err-target.ensures.1
    (fault_after 5 TargetText bytes at (at + 4) k _ five_limit kind.ensures.small kind.ensures.read one)

pub returns-in_err-function-clause-fault : goal.returns-in_err-function-clause-fault
returns-in_err-function-clause-fault c =
    let bytes = c.args.bytes.now in
    let at = c.args.at in
    let kind = c.in_ok-kind in
    let target = c.in_ok-target in
    let k = kind.kind in
    let t = target.target in
    let to = spans_to bytes (at + 4) (at + 4 + 4) (at + 8) (field t) (omega arith) target.ensures.read in
    let two = fault_number (limit_if (nat_le 2 k)) (λ _. OffsetText k) bytes (at + 8) _ (used_limit (nat_le 2 k)) (λ _. good_offset k) c.in_err-function.ensures.fault in
    let one = fault_after (limit_if (nat_le k 2)) (λ _. BackText k) bytes (at + 4) (at + 8) t _ (used_limit (nat_le k 2)) target.ensures.small to two in
    at_exit _ _ (Fault IsSlotText bytes at) c.from_residual-in_err-function.ensures.1
    (fault_after 5 TargetText bytes at (at + 4) k _ five_limit kind.ensures.small kind.ensures.read one)

pub returns-in_err-offset-clause-fault : goal.returns-in_err-offset-clause-fault
returns-in_err-offset-clause-fault c =
    let bytes = c.args.bytes.now in
    let at = c.args.at in
    let kind = c.in_ok-kind in
    let target = c.in_ok-target in
    let function = c.in_ok-function in
    let k = kind.kind in
    let t = target.target in
    let f = function.function in
    let to = spans_to bytes (at + 4) (at + 4 + 4) (at + 8) (field t) (omega arith) target.ensures.read in
    let to2 = spans_to bytes (at + 8) (at + 8 + 4) (at + 12) (field f) (omega arith) function.ensures.read in
    let two = fault_after (limit_if (nat_le 2 k)) (λ _. OffsetText k) bytes (at + 8) (at + 12) f _ (used_limit (nat_le 2 k)) function.ensures.small to2 c.in_err-offset.ensures.fault in
    let one = fault_after (limit_if (nat_le k 2)) (λ _. BackText k) bytes (at + 4) (at + 8) t _ (used_limit (nat_le k 2)) target.ensures.small to two in
    at_exit _ _ (Fault IsSlotText bytes at) c.from_residual-in_err-offset.ensures.1
    (fault_after 5 TargetText bytes at (at + 4) k _ five_limit kind.ensures.small kind.ensures.read one)

pub returns-in_err-kind-clause-told : goal.returns-in_err-kind-clause-told
returns-in_err-kind-clause-told c = at_exit _ _ (λ e. e ≢ FormFault.NoMemory) c.from_residual.ensures.1 c.in_err-kind.ensures.told

pub returns-in_err-target-clause-told : goal.returns-in_err-target-clause-told
returns-in_err-target-clause-told c = at_exit _ _ (λ e. e ≢ FormFault.NoMemory) c.from_residual-in_err-target.ensures.1 c.in_err-target.ensures.told

pub returns-in_err-function-clause-told : goal.returns-in_err-function-clause-told
returns-in_err-function-clause-told c = at_exit _ _ (λ e. e ≢ FormFault.NoMemory) c.from_residual-in_err-function.ensures.1 c.in_err-function.ensures.told

pub returns-in_err-offset-clause-told : goal.returns-in_err-offset-clause-told
returns-in_err-offset-clause-told c = at_exit _ _ (λ e. e ≢ FormFault.NoMemory) c.from_residual-in_err-offset.ensures.1 c.in_err-offset.ensures.told
