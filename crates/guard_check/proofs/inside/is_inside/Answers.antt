use Rattle.std.proofs.Common.{arith, ◌≡◌, true, false, sym, ◌∙◌}
use Rattle.guard_check.specs.Form.{is_guarded}
use Rattle.guard_check.specs.Checking.{is_but}
use Rattle.guard_check.proofs.Walked.{stands}
use Rattle.guard_check.proofs.Ahead.{ahead_all, ahead_none, ahead_far, ahead_found, ahead_more, neither_but, neither_guarded}
use Rattle.guard_check.proofs.inside.is_inside.Goals as goal
use Rattle.guard_check.proofs.inside.is_inside.Goals.{else-is_guarded-via-then-is_guarded+else-not-is_but, else-is_guarded-via-else-is_guarded}

-- the places from the offset on are left
pub loop-here-init : goal.loop-here-init
loop-here-init c = ahead_all c.args.slots.now c.args.function.now c.as_slice-bytes.result.now c.args.off c.args.but c.as_slice-bytes.ensures c.requires.known c.requires.start

pub returns-then-at-off-ge-GUARD_SIZE : goal.returns-then-at-off-ge-GUARD_SIZE
returns-then-at-off-ge-GUARD_SIZE c =
    let from = c.loop-here.invariant.from in
    ahead_far c.args.slots.now c.args.function.now c.as_slice-bytes.result.now c.args.off c.loop-here.at c.args.but c.loop-here.invariant (omega arith)

pub returns-then-not-is_but : goal.returns-then-not-is_but
returns-then-not-is_but c =
    let from = c.loop-here.invariant.from in
    let g : is_guarded c.args.slots.now c.args.function.now c.in-Some.here.end c.in-Some.here.instr ≡ true = sym c.is_guarded.ensures ∙ c.if-is_guarded.true in
    let b : is_but c.args.but c.loop-here.at ≡ false = sym c.is_but.ensures ∙ c.if-not-is_but.true in
    ahead_found c.args.slots.now c.args.function.now c.as_slice-bytes.result.now c.args.off c.loop-here.at c.args.but c.in-Some.here c.loop-here.invariant c.in-Some.ensures (omega arith) g b

pub loop-here-smaller : goal.loop-here-smaller
loop-here-smaller c =
    let s = stands c.as_slice-bytes.result.now c.loop-here.at c.loop-here.invariant.row c.in-Some.here c.loop-here.invariant.rest c.in-Some.ensures in
    let up = s.grows in
    let within = s.rest.within in
    omega arith

pub loop-here-preserved : goal.loop-here-preserved
loop-here-preserved c =
    ahead_more c.args.slots.now c.args.function.now c.as_slice-bytes.result.now c.args.off c.loop-here.at c.args.but c.in-Some.here c.loop-here.invariant c.in-Some.ensures
    (elim c.else-is_guarded.branch [
      | else-is_guarded-via-then-is_guarded+else-not-is_but w ↦ neither_but _ _ (sym w.is_but.ensures ∙ w.if-not-is_but.false)
      | else-is_guarded-via-else-is_guarded w ↦ neither_guarded _ _ (sym c.is_guarded.ensures ∙ w.if-is_guarded.false)
    ])

pub returns : goal.returns
returns c = ahead_none c.args.slots.now c.args.function.now c.as_slice-bytes.result.now c.args.off c.loop-here.at c.args.but c.loop-here.invariant c.in_default.ensures
