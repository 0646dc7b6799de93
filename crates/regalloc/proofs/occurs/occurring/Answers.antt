use Rattle.std.proofs.Common.{◌≡◌, ◌≤◌, length, List, ap, ◌∙◌, subst, arith}
use Rattle.std.specs.List.{flat_map}
use Rattle.std.proofs.lemmas.List.{drop_all}
use Rattle.low_core.specs.declared.sel.SelBlock.{SelBlock}
use Rattle.regalloc.specs.Occurs.{marked, block_registers}
use Rattle.regalloc.proofs.Marks.{tells_occurring, marks_last}
use Rattle.regalloc.proofs.occurs.occurring.Goals as goal

pub loop-b-preserved : goal.loop-b-preserved
loop-b-preserved c = marks_last block_registers c.loop-b.seen c.mark_block.new.seen _ c.as_slice-b-items.result.now c.loop-b.b-index c.b-item.result c.loop-b-test.true c.b-item.is c.loop-b.invariant c.mark_block.ensures

pub returns-clause-tells : goal.returns-clause-tells
returns-clause-tells c =
    let past : length c.as_slice-b-items.result.now ≤ c.loop-b.b-index = omega arith in
    let none = drop_all c.loop-b.b-index c.as_slice-b-items.result.now past in
    let is : c.loop-b.seen ≡ marked c.mark_all.new.seen (flat_map block_registers c.args.f.now.blocks) =
    subst (λ (ds : List SelBlock). marked c.loop-b.seen (flat_map block_registers ds) ≡ marked c.mark_all.new.seen (flat_map block_registers c.args.f.now.blocks)) none c.loop-b.invariant in
    let first : c.mark_all.new.seen ≡ marked c.in_ok-seen.seen c.args.f.now.params = c.mark_all.ensures ∙ ap (marked c.in_ok-seen.seen) c.as_slice.ensures in
    tells_occurring c.args.f.now c.in_ok-seen.seen c.loop-b.seen c.in_ok-seen.ensures.long c.in_ok-seen.ensures.none (is ∙ ap (λ s. marked s (flat_map block_registers c.args.f.now.blocks)) first)

pub returns-clause-few : goal.returns-clause-few
returns-clause-few c =
    let long = (returns-clause-tells c).long in
    let same = c.in_ok-seen.ensures.long in
    omega arith
