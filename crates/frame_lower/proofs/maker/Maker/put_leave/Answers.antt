use Rattle.std.proofs.Common.{ap, ◌∙◌, pos}
use Rattle.x86_core.specs.declared.instr.Instr.TheVariants.{AluImm, Ret}
use Rattle.x86_core.specs.declared.reg.Reg.TheVariants.{R15}
use Rattle.x86_core.specs.declared.instr.Wide.{Wide}
use Rattle.x86_core.specs.declared.instr.ImmOp.{ImmOp}
use Rattle.obj_rows.specs.Marked.{unlinked, all_unlinked}
use Rattle.frame_lower.specs.Making.{making}
use Rattle.frame_lower.specs.Rows.{pop_row}
use Rattle.frame_lower.specs.Writing.{with_one, with_row}
use Rattle.frame_lower.proofs.Writing.{leave_joined}
use Rattle.frame_lower.proofs.maker.Maker.put_leave.Goals as goal

pub returns : goal.returns
returns c =
    c.in_ok-put-3.ensures ∙ ap (with_one (unlinked Ret))
    (c.in_ok-put-2.ensures ∙ ap (with_one (unlinked (AluImm ImmOp.Add Wide.W64 R15 (pos 1))))
    (c.in_ok-put_pops.ensures ∙ ap (with_row (all_unlinked (pop_row c.args.self.now.order.now))) (c.in_ok-put.ensures ∙ ap (λ i. with_one (unlinked i) c.args.code.now) c.stack_moved.ensures)))
    ∙ leave_joined (making c.args.self.now) c.args.code.now
