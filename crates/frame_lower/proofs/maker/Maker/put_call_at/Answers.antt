use Rattle.std.proofs.Common.{ap, sym, ◌∙◌, [], ◌∷◌, pos}
use Rattle.x86_core.specs.declared.instr.Instr.TheVariants.{Jmp}
use Rattle.x86_core.specs.declared.reg.Reg.TheVariants.{R11}
use Rattle.frame_rows.specs.Bodies.{spot_of}
use Rattle.frame_rows.specs.Code.{home_read}
use Rattle.obj_rows.specs.Marked.{linked, unlinked, all_unlinked}
use Rattle.frame_lower.specs.Calls.{take_row}
use Rattle.frame_lower.specs.Writing.{with_one, with_row}
use Rattle.frame_lower.proofs.Writing.{call_joined}
use Rattle.frame_lower.proofs.maker.Maker.put_call_at.Goals as goal

pub returns : goal.returns
returns c =
    let homes = spot_of c.args.self.now.homes.now in
    let read = home_read (homes c.args.target) R11 in
    let wanted = ap (λ i. unlinked i) (c.home_read.ensures ∙ ap (λ h. home_read h R11) c.spot.ensures) in
    c.in_ok-put_jump_and_result.ensures
    ∙ ap (with_row (linked (Jmp (pos 0)) c.args.slot ∷ all_unlinked (take_row homes c.args.into)))
    (c.in_ok-put.ensures ∙ ap (λ x. with_one x c.put_args.new.code) wanted ∙ ap (with_one (unlinked read)) c.in_ok-put_args.ensures)
    ∙ sym (call_joined homes (read ∷ []) c.args.slot c.args.into c.args.args.now c.args.code.now)
