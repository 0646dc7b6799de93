use Rattle.std.proofs.Common.{◌≡◌, ◌++◌, ℕ, Some, slice_get, None, ◌≤◌, length, replicate, ap, sym, subst, ◌∙◌, arith}
use Rattle.std.proofs.Common.{Option}
use Rattle.obj_core.specs.declared.object.CodeAt.{CodeAt}
use Rattle.obj_core.specs.declared.plan.Site.{Site}
use Rattle.obj_core.specs.declared.plan.Slot0.{Slot0}
use Rattle.obj_rows.specs.Assembled.{ends_from, site_of, AreSlotsOf}
use Rattle.obj_assemble.specs.Made.{slots_made}
use Rattle.obj_assemble.specs.Noted.{all_noted}
use Rattle.obj_assemble.proofs.NotedLaws.{made_is, made_long}
use Rattle.obj_assemble.proofs.assemble.Goals as goal

pub slots-requires : goal.slots-requires
slots-requires c =
    let none : Option CodeAt = None in
    let fs = c.add_copies.new.all in
    let planned = c.args.plan.now.slots in
    let are : c.in_ok-ends.ends ≡ all_noted 0 fs (replicate (length planned) none) = c.in_ok-ends.ensures ∙ ap (λ xs. all_noted 0 xs (replicate c.len.result none)) c.as_slice-2.ensures ∙ ap (λ n. all_noted 0 fs (replicate n none)) c.len.ensures in
    let long = made_long fs planned c.in_ok-ends.ends are in
    let a = ap length c.as_slice-3.ensures in
    let b = ap length c.as_slice-4.ensures in
    omega (arith, long, a, b)

pub returns-clause-slots : goal.returns-clause-slots
returns-clause-slots c =
    let none : Option CodeAt = None in
    let fs = c.add_copies.new.all in
    let planned = c.args.plan.now.slots in
    let are : c.in_ok-ends.ends ≡ all_noted 0 fs (replicate (length planned) none) = c.in_ok-ends.ensures ∙ ap (λ xs. all_noted 0 xs (replicate c.len.result none)) c.as_slice-2.ensures ∙ ap (λ n. all_noted 0 fs (replicate n none)) c.len.ensures in
    let made : c.in_ok-slots.slots ≡ slots_made planned c.in_ok-ends.ends = c.in_ok-slots.ensures ∙ ap (λ ps. slots_made ps c.as_slice-4.result.now) c.as_slice-3.ensures ∙ ap (slots_made planned) c.as_slice-4.ensures in
    let once : (k : ℕ) (slot : Slot0) (site : Site) → slice_get planned k ≡ Some slot → site_of slot ≡ Some site → length (ends_from k 0 fs) ≡ 1 = λ k slot site there has. ap (λ gs. length (ends_from k 0 gs)) (c.in_ok-add_copies.ensures ∙ ap (λ r. c.args.functions ++ r) c.as_slice.ensures) ∙ c.requires.linked.once k slot site there has in
    subst (AreSlotsOf fs 0 planned) (sym made) (made_is fs planned c.in_ok-ends.ends are once)
