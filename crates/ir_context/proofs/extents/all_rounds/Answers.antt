use Rattle.std.proofs.Common.{◌≡◌, ◌≤◌, ◌∙◌, ap, sym, arith}
use Rattle.ir_core.specs.declared.limit.TheConstants.{MAX_NESTING}
use Rattle.ir_core.specs.Sizes.{next_rows}
use Rattle.ir_core.proofs.RowLaws.{rows-zero, rows-more, settled}
use Rattle.ir_context.proofs.extents.all_rounds.Goals as goal

pub loop-round-init : goal.loop-round-init
loop-round-init c = c.in_ok-rows.ensures ∙ rows-zero c.args.types.now

pub loop-round-preserved : goal.loop-round-preserved
loop-round-preserved c =
    c.in_ok-next.ensures ∙ ap (next_rows c.args.types.now) (c.as_slice.ensures ∙ c.loop-round.invariant) ∙ rows-more c.args.types.now c.loop-round._round

pub returns-then-same_rows : goal.returns-then-same_rows
returns-then-same_rows c =
    let within : c.loop-round._round ≤ MAX_NESTING = omega arith in
    let same : c.as_slice-in-loop-round.result.now ≡ c.as_slice-in-loop-round-2.result.now = c.same_rows.ensures.0 c.if-same_rows.true in
    settled c.args.types.now c.loop-round._round c.loop-round.rows c.in_ok-next.next c.loop-round.invariant within
    (c.in_ok-next.ensures ∙ ap (next_rows c.args.types.now) c.as_slice.ensures) (sym c.as_slice-in-loop-round.ensures ∙ same ∙ c.as_slice-in-loop-round-2.ensures)
