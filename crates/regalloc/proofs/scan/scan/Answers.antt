use Rattle.std.proofs.Common.{◌≡◌, ◌<◌, length, get_or, Some, None, refl, arith}
use Rattle.std.proofs.lemmas.Option.{get_or_from_slice_get, slice_get-get_or}
use Rattle.regalloc.proofs.Coloring.{given_apart}
use Rattle.regalloc.proofs.Fewest.{all_gapless}
use Rattle.regalloc.proofs.Steps.{stands_color, stands_frame, stands_first, stands_as, stands_end, all_zeros}
use Rattle.regalloc.proofs.scan.scan.Goals as goal
use Rattle.regalloc.proofs.scan.scan.Goals.{in-Some+in-Some-free_color, in-Some+in_default-free_color, in_default}

pub loop-r-init : goal.loop-r-init
loop-r-init c = stands_first _ _ _ _ c.requires.order c.in_ok-homes.ensures.long c.in_ok-homes.ensures.own refl all_zeros

pub loop-r-preserved : goal.loop-r-preserved
loop-r-preserved c = elim c.match-ranges-number.branch [
  | in-Some+in-Some-free_color w ↦
      let lt : c.loop-r.r-index < length c.args.order.now = omega arith in
      let e = w.in-Some-free_color.ensures in
      stands_as _ _ _ w.homes-is w.set.ensures w.free_from-is
      (stands_color _ _ _ _ _ w.in-Some.range w.in-Some-free_color.color c.requires.ranges c.requires.order c.loop-r.invariant lt w.in-Some.is e.0 e.1.0 e.1.1)
  | in-Some+in_default-free_color w ↦
      let lt : c.loop-r.r-index < length c.args.order.now = omega arith in
      stands_as _ _ _ w.homes-is refl w.free_from-is
      (stands_frame _ _ _ _ _ w.in-Some.range c.requires.ranges c.requires.order c.loop-r.invariant lt w.in-Some.is w.in_default-free_color.ensures)
  | in_default w ↦
      let lt : c.loop-r.r-index < length c.args.order.now = omega arith in
      let has = c.requires.order.ranged c.loop-r.r-index (get_or c.args.order.now c.loop-r.r-index 0) (slice_get-get_or c.args.order.now c.loop-r.r-index 0 lt) in
      absurd (w.in_default.not-Some has.0 (get_or_from_slice_get c.args.ranges.now (get_or c.args.order.now c.loop-r.r-index 0) (Some has.0) None has.1))
]

pub returns-clause-apart : goal.returns-clause-apart
returns-clause-apart c = given_apart c.args.ranges.now c.loop-r.homes _ c.loop-r.invariant.given

pub returns-clause-frames : goal.returns-clause-frames
returns-clause-frames c = c.loop-r.invariant.given.frames

pub returns-clause-colors : goal.returns-clause-colors
returns-clause-colors c = all_gapless _ _ c.loop-r.r-index _ _ c.loop-r.invariant.passed

pub returns-clause-crowded : goal.returns-clause-crowded
returns-clause-crowded c = let end : c.loop-r.r-index ≡ length c.args.order.now = omega arith in stands_end _ _ _ _ _ end c.requires.order c.loop-r.invariant
