use Rattle.std.proofs.Common.{◌≡◌, ◌+◌, ◌∷◌, drop, max, ap, sym, ◌∙◌, arith}
use Rattle.std.specs.List.{flat_map}
use Rattle.std.proofs.lemmas.List.{drop_more}
use Rattle.ir_core.specs.Counts.{greatest}
use Rattle.low_core.specs.declared.sel.SelBlock.{SelBlock}
use Rattle.frame_lower.proofs.Greatest.{passed, most_of_both}
use Rattle.frame_lower.proofs.frame.most_passed_in.Goals as goal

pub loop-block-preserved : goal.loop-block-preserved
loop-block-preserved c =
    let blocks = c.args.blocks.now in
    let i = c.loop-block.block-index in
    let b = c.block-item.result in
    let rest = drop (i + 1) blocks in
    let split : drop i blocks ≡ b ∷ rest = drop_more blocks i b c.loop-block-test.true ∙ ap (λ x. x ∷ rest) (sym c.block-item.is) in
    let whole : greatest (passed (flat_map (λ (x : SelBlock). x.ops) (drop i blocks))) ≡ max (greatest (passed b.ops)) (greatest (passed (flat_map (λ (x : SelBlock). x.ops) rest))) =
    ap (λ bs. greatest (passed (flat_map (λ (x : SelBlock). x.ops) bs))) split ∙ most_of_both b.ops (flat_map (λ (x : SelBlock). x.ops) rest) in
    let own : c.most_passed.result ≡ greatest (passed b.ops) = c.most_passed.ensures ∙ ap (λ xs. greatest (passed xs)) c.as_slice.ensures in
    let more = c.greater-most.ensures in
    let before = c.loop-block.invariant in
    omega arith
