use Rattle.std.proofs.Common.{◌≡◌, ◌+◌, ◌-◌, ◌++◌, ℕ, List, ◌∷◌, drop, length, arith, ap, sym, ◌∙◌}
use Rattle.std.specs.List.{flat_map}
use Rattle.std.proofs.lemmas.List.{length-append}
use Rattle.low_core.specs.declared.sel.SelBlock.{SelBlock}
use Rattle.low_core.specs.SelParts.{ops_of}
use Rattle.slot_plan.specs.Slots.{calls_from}
use Rattle.slot_plan.proofs.InTurn.{next_block, one_left}
use Rattle.slot_plan.proofs.calls.add_function.Goals as goal

pub loop-b-preserved : goal.loop-b-preserved
loop-b-preserved c =
    let i : ℕ = c.loop-b.b-index in
    let bs = c.as_slice-b-items.result.now in
    let b = c.b-item.result in
    let left : drop i bs ≡ b ∷ drop (i + 1) bs = one_left bs i b c.loop-b-test.true c.b-item.is in
    let ops = λ (c : SelBlock). c.ops in
    let is : c.loop-b.slots ++ calls_from c.args.count c.args.number (length c.loop-b.slots - c.len-first.result) (b.ops ++ flat_map ops (drop (i + 1) bs)) ≡ c.args.slots.now ++ calls_from c.args.count c.args.number 0 (ops_of c.args.function.now) =
    ap (λ (ds : List SelBlock). c.loop-b.slots ++ calls_from c.args.count c.args.number (length c.loop-b.slots - c.len-first.result) (flat_map ops ds)) (sym left) ∙ c.loop-b.invariant.rest in
    let grown = c.in_ok-add_calls.ensures.grown in
    let longer = c.in_ok-add_calls.ensures.behind in
    let behind = c.loop-b.invariant.behind in
    let same : length c.as_slice.result.now ≡ length b.ops = ap length c.as_slice.ensures in
    let few = c.loop-b.invariant.few in
    let long : length (flat_map ops (drop i bs)) ≡ length b.ops + length (flat_map ops (drop (i + 1) bs)) = ap (λ (ds : List SelBlock). length (flat_map ops ds)) left ∙ length-append b.ops (flat_map ops (drop (i + 1) bs)) in
    record {
      rest = next_block c.args.count c.args.number c.len-first.result c.loop-b.slots c.add_calls.new.slots b (drop (i + 1) bs) _ c.loop-b.invariant.behind is (c.in_ok-add_calls.ensures.added ∙ ap (λ os. c.loop-b.slots ++ calls_from c.args.count c.args.number (length c.loop-b.slots - c.len-first.result) os) c.as_slice.ensures);
      behind = omega (arith, behind, longer);
      few = omega (arith, few, long, grown, same);
    }
