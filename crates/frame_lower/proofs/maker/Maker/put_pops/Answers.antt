use Rattle.std.proofs.Common.{ap, sym, ◌∙◌, ◌-◌, length}
use Rattle.std.specs.Prelude.{slice_index}
use Rattle.x86_core.specs.declared.instr.Instr.TheVariants.{Pop}
use Rattle.obj_core.specs.Saved.{saved_register}
use Rattle.obj_rows.specs.Marked.{unlinked}
use Rattle.frame_lower.specs.Writing.{with_one}
use Rattle.frame_lower.proofs.Writing.{popped_next}
use Rattle.frame_lower.proofs.maker.Maker.put_pops.Goals as goal

pub loop-k-preserved : goal.loop-k-preserved
loop-k-preserved c =
    let order = c.args.self.now.order.now in
    c.in_ok-put.ensures ∙ ap (λ r. with_one (unlinked (Pop r)) c.loop-k.code) c.saved.ensures
    ∙ ap (with_one (unlinked (Pop (saved_register (slice_index order (length order - 1 - c.loop-k.k)))))) c.loop-k.invariant
    ∙ sym (popped_next order c.loop-k.k c.args.code.now c.loop-k-test.true)
