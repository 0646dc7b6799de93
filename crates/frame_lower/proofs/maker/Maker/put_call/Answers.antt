use Rattle.std.proofs.Common.{ap, sym, ◌∙◌, [], ◌∷◌, pos}
use Rattle.x86_core.specs.declared.instr.Instr.TheVariants.{Jmp}
use Rattle.frame_rows.specs.Bodies.{spot_of}
use Rattle.obj_rows.specs.Marked.{linked, all_unlinked}
use Rattle.frame_lower.specs.Calls.{take_row}
use Rattle.frame_lower.specs.Writing.{with_row}
use Rattle.frame_lower.proofs.Writing.{call_joined}
use Rattle.frame_lower.proofs.maker.Maker.put_call.Goals as goal

pub returns : goal.returns
returns c =
    let homes = spot_of c.args.self.now.homes.now in
    c.in_ok-put_jump_and_result.ensures
    ∙ ap (with_row (linked (Jmp (pos 0)) c.args.slot ∷ all_unlinked (take_row homes c.args.into))) c.in_ok-put_args.ensures
    ∙ sym (call_joined homes [] c.args.slot c.args.into c.args.args.now c.args.code.now)
