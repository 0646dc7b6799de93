use Rattle.std.proofs.Common.{◌≡◌, ◌+◌, List, length, sym, subst}
use Rattle.low_core.specs.declared.sel.Home.{Home}
use Rattle.low_core.specs.declared.sel.SelFun.{SelFun}
use Rattle.regalloc.specs.Allocated.{Each}
use Rattle.regalloc.proofs.Wholes.{IsAllocated, each_more, pushed_long}
use Rattle.regalloc.proofs.allocate.allocate.Goals as goal

pub loop-f-preserved : goal.loop-f-preserved
loop-f-preserved c =
    let e = c.in_ok-homes_of.ensures in
    let a : IsAllocated c.f-item.result c.in_ok-homes_of.field-0 = record { long = e.long; apart = e.apart; colors = e.colors; frames = e.frames } in
    let each = each_more c.as_slice-f-items.result.now c.loop-f.homes c.loop-f.f-index c.f-item.result c.in_ok-homes_of.field-0 c.loop-f.invariant.long c.loop-f-test.true c.f-item.is c.loop-f.invariant.each a in
    let long = pushed_long c.loop-f.homes c.in_ok-homes_of.field-0 c.loop-f.f-index c.loop-f.invariant.long in
    record {
      long = subst (λ (l : List (List Home)). length l ≡ c.loop-f.f-index + 1) (sym c.in_ok-add.ensures.put) long;
      each = subst (λ (l : List (List Home)). Each IsAllocated c.as_slice-f-items.result.now l) (sym c.in_ok-add.ensures.put) each;
    }

pub returns-clause-long : goal.returns-clause-long
returns-clause-long c k f hs at h = (subst (λ (fs : List SelFun). Each IsAllocated fs c.loop-f.homes) c.as_slice-f-items.ensures c.loop-f.invariant.each k f hs at h).long

pub returns-clause-apart : goal.returns-clause-apart
returns-clause-apart c k f hs at h = (subst (λ (fs : List SelFun). Each IsAllocated fs c.loop-f.homes) c.as_slice-f-items.ensures c.loop-f.invariant.each k f hs at h).apart

pub returns-clause-colors : goal.returns-clause-colors
returns-clause-colors c k f hs at h = (subst (λ (fs : List SelFun). Each IsAllocated fs c.loop-f.homes) c.as_slice-f-items.ensures c.loop-f.invariant.each k f hs at h).colors

pub returns-clause-frames : goal.returns-clause-frames
returns-clause-frames c k f hs at h = (subst (λ (fs : List SelFun). Each IsAllocated fs c.loop-f.homes) c.as_slice-f-items.ensures c.loop-f.invariant.each k f hs at h).frames
