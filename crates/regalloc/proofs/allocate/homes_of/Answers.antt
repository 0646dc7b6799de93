use Rattle.std.proofs.Common.{◌≡◌, length, map, List, Bool, Option, ap, sym, subst, ◌∙◌, arith}
use Rattle.low_core.specs.declared.sel.Home.{Home}
use Rattle.regalloc.specs.declared.range.Range.{Range}
use Rattle.regalloc.specs.Allocated.{AreApartIn, AreColorsOf, AreFramesOf}
use Rattle.regalloc.specs.Ranges.{AreRanges, IsOrder, AreSeparate, AreOwnFrames, AreGapless, IsRanged}
use Rattle.regalloc.specs.Whole.{range_where, AreListed}
use Rattle.regalloc.proofs.Wholes.{whole_ranges, whole_order, whole_long, whole_apart, whole_colors, whole_frames, both_ok}
use Rattle.regalloc.proofs.allocate.homes_of.Goals as goal

pub order_of-requires : goal.order_of-requires
order_of-requires c =
    let same : length c.as_slice-2.result.now ≡ length c.in_ok-seen.seen = ap length c.as_slice-2.ensures in
    let few = c.in_ok-seen.ensures.few in
    omega arith

pub scan-requires-clause-few : goal.scan-requires-clause-few
scan-requires-clause-few c =
    let is : c.as_slice-3.result.now ≡ map range_where c.in_ok-seen.seen = c.as_slice-3.ensures ∙ c.in_ok-ranges.ensures ∙ ap (map range_where) c.as_slice.ensures in
    let same : length c.as_slice-3.result.now ≡ length c.in_ok-seen.seen = ap length is ∙ whole_long c.in_ok-seen.seen in
    let few = c.in_ok-seen.ensures.few in
    omega arith

pub scan-requires-clause-ranges : goal.scan-requires-clause-ranges
scan-requires-clause-ranges c =
    let is : c.as_slice-3.result.now ≡ map range_where c.in_ok-seen.seen = c.as_slice-3.ensures ∙ c.in_ok-ranges.ensures ∙ ap (map range_where) c.as_slice.ensures in
    subst AreRanges (sym is) (whole_ranges c.in_ok-seen.seen)

pub scan-requires-clause-order : goal.scan-requires-clause-order
scan-requires-clause-order c =
    let is : c.as_slice-3.result.now ≡ map range_where c.in_ok-seen.seen = c.as_slice-3.ensures ∙ c.in_ok-ranges.ensures ∙ ap (map range_where) c.as_slice.ensures in
    let listed : AreListed c.in_ok-seen.seen (length c.in_ok-seen.seen) c.in_ok-order.order = subst (λ (s : List Bool). AreListed s (length s) c.in_ok-order.order) c.as_slice-2.ensures c.in_ok-order.ensures in
    subst (λ (rs : List (Option Range)). IsOrder rs c.as_slice-4.result.now) (sym is) (subst (IsOrder (map range_where c.in_ok-seen.seen)) (sym c.as_slice-4.ensures) (whole_order c.in_ok-seen.seen c.in_ok-order.order listed))

pub returns-clause-apart : goal.returns-clause-apart
returns-clause-apart c =
    let is : c.as_slice-3.result.now ≡ map range_where c.in_ok-seen.seen = c.as_slice-3.ensures ∙ c.in_ok-ranges.ensures ∙ ap (map range_where) c.as_slice.ensures in
    let seen = c.in_ok-seen.seen in
    let f = c.args.f.now in
    let t = c.in_ok-seen.ensures.tells in
    both_ok (λ (hs : List Home). length hs ≡ length c.as_slice-3.result.now) (AreSeparate c.as_slice-3.result.now) (AreApartIn f) c.scan.result
    (λ hs long apart. whole_apart f seen hs t (long ∙ ap length is) (subst (λ (rs : List (Option Range)). AreSeparate rs hs) is apart))
    c.scan.ensures.long c.scan.ensures.apart

pub returns-clause-colors : goal.returns-clause-colors
returns-clause-colors c =
    let is : c.as_slice-3.result.now ≡ map range_where c.in_ok-seen.seen = c.as_slice-3.ensures ∙ c.in_ok-ranges.ensures ∙ ap (map range_where) c.as_slice.ensures in
    let seen = c.in_ok-seen.seen in
    let f = c.args.f.now in
    let t = c.in_ok-seen.ensures.tells in
    let colors = c.scan.ensures.colors in
    both_ok (λ (hs : List Home). AreGapless (IsRanged c.as_slice-3.result.now) hs) (λ (hs : List Home). AreGapless (IsRanged c.as_slice-3.result.now) hs) (AreColorsOf f) c.scan.result
    (λ hs g h. whole_colors f seen hs t (subst (λ (rs : List (Option Range)). AreGapless (IsRanged rs) hs) is g))
    colors colors

pub returns-clause-frames : goal.returns-clause-frames
returns-clause-frames c =
    let is : c.as_slice-3.result.now ≡ map range_where c.in_ok-seen.seen = c.as_slice-3.ensures ∙ c.in_ok-ranges.ensures ∙ ap (map range_where) c.as_slice.ensures in
    let seen = c.in_ok-seen.seen in
    let f = c.args.f.now in
    let t = c.in_ok-seen.ensures.tells in
    both_ok (λ (hs : List Home). length hs ≡ length c.as_slice-3.result.now) AreOwnFrames (AreFramesOf f) c.scan.result
    (λ hs long own. whole_frames f seen hs t (long ∙ ap length is) own)
    c.scan.ensures.long c.scan.ensures.frames
