use Rattle.std.proofs.Common.{arith, ◌+◌, ℕ, length, sym, ◌∙◌, ap}
use Rattle.std.specs.Prelude.{nat_eq}
use Rattle.obj_core.specs.Disassembly.{size_of}
use Rattle.guard_check.proofs.Counted.{follows_by_count}
use Rattle.guard_check.proofs.Walked.{stands, walk_all, walk_more, walk_fails, walk_none, goes_here, few_counted}
use Rattle.guard_check.proofs.check.first_in_function.Goals as goal

-- all instructions are left
pub loop-here-init : goal.loop-here-init
loop-here-init c = walk_all c.args.rule c.args.slots.now c.args.function.now c.as_slice-bytes.result.now c.as_slice-bytes.ensures c.requires

pub breaks-requires-clause-end : goal.breaks-requires-clause-end
breaks-requires-clause-end c =
    let s = stands c.as_slice-bytes.result.now c.loop-here.at c.loop-here.invariant.row c.in-Some.here c.loop-here.invariant.rest c.in-Some.ensures in
    s.end_is ∙ ap (λ (k : ℕ). k + size_of c.in-Some.here.instr) (sym s.at_is)

pub breaks-requires-clause-goes : goal.breaks-requires-clause-goes
breaks-requires-clause-goes c = goes_here c.args.rule c.args.slots.now c.args.function.now c.as_slice-bytes.result.now c.loop-here.at c.loop-here.count c.in-Some.here c.loop-here.invariant c.in-Some.ensures

pub returns-then-breaks-clause-first : goal.returns-then-breaks-clause-first
returns-then-breaks-clause-first c =
    walk_fails c.args.rule c.args.slots.now c.args.function.now c.as_slice-bytes.result.now c.loop-here.at c.loop-here.count c.in-Some.here c.loop-here.invariant c.in-Some.ensures
    (λ behind h. sym c.if-breaks.true ∙ c.breaks.ensures behind h)
    (λ behind e. follows_by_count (length c.args.slots.now) behind ∙ ap (λ (k : ℕ). nat_eq k 10) (sym e))

pub next_count-count-requires-clause-within : goal.next_count-count-requires-clause-within
next_count-count-requires-clause-within c = few_counted c.args.rule c.args.slots.now c.args.function.now c.as_slice-bytes.result.now c.loop-here.at c.loop-here.count c.loop-here.invariant

pub loop-here-smaller : goal.loop-here-smaller
loop-here-smaller c =
    let s = stands c.as_slice-bytes.result.now c.loop-here.at c.loop-here.invariant.row c.in-Some.here c.loop-here.invariant.rest c.in-Some.ensures in
    let up = s.grows in
    let within = s.rest.within in
    omega arith

pub loop-here-preserved : goal.loop-here-preserved
loop-here-preserved c =
    walk_more c.args.rule c.args.slots.now c.args.function.now c.as_slice-bytes.result.now c.loop-here.at c.loop-here.count c.in-Some.here c.loop-here.invariant c.in-Some.ensures
    c.next_count-count.result c.next_count-count.ensures
    (λ behind h. sym c.if-breaks.false ∙ c.breaks.ensures behind h)
    (λ behind e. follows_by_count (length c.args.slots.now) behind ∙ ap (λ (k : ℕ). nat_eq k 10) (sym e))

pub returns-clause-first : goal.returns-clause-first
returns-clause-first c = walk_none c.args.rule c.args.slots.now c.args.function.now c.as_slice-bytes.result.now c.loop-here.at c.loop-here.count c.loop-here.invariant c.in_default.ensures
