use Rattle.std.proofs.Common.{ap, ◌∙◌, pos}
use Rattle.x86_core.specs.declared.instr.Instr.TheVariants.{AluImm}
use Rattle.x86_core.specs.declared.reg.Reg.TheVariants.{Rsp}
use Rattle.x86_core.specs.declared.instr.Wide.{Wide}
use Rattle.x86_core.specs.declared.instr.ImmOp.{ImmOp}
use Rattle.obj_rows.specs.Marked.{unlinked, all_unlinked}
use Rattle.frame_lower.specs.Calls.{receive_row}
use Rattle.frame_lower.specs.Making.{making}
use Rattle.frame_lower.specs.Rows.{push_row}
use Rattle.frame_lower.specs.Writing.{with_one, with_row}
use Rattle.frame_lower.proofs.Writing.{front_joined}
use Rattle.frame_lower.proofs.maker.Maker.put_front.Goals as goal

pub returns : goal.returns
returns c =
    let by = making c.args.self.now in
    let f = c.args.function.now in
    let params = ap (λ ps. with_row (all_unlinked (receive_row by.homes by.room ps)) c.put.new.self) c.as_slice.ensures in
    c.in_ok-put_params.ensures ∙ params
    ∙ ap (with_row (all_unlinked (receive_row by.homes by.room f.params)))
    (c.in_ok-put.ensures ∙ ap (λ i. with_one (unlinked i) c.put_pushes.new.code) c.stack_moved.ensures
    ∙ ap (with_one (unlinked (AluImm ImmOp.Sub Wide.W64 Rsp (pos by.room)))) (c.in_ok-put_pushes.ensures ∙ ap (with_row (all_unlinked (push_row by.order))) c.in_ok-put_count.ensures))
    ∙ front_joined by f c.args.code.now
