use Rattle.std.proofs.Common.{◌≡◌, ℕ, List, sym, ap, subst, ◌∙◌, IfOk}
use Rattle.xom_machine.specs.Standing.{state_of}
use Rattle.watch_script.specs.declared.event.Event.{Event}
use Rattle.watch_script.specs.declared.event.Event.TheVariants.{Write}
use Rattle.watch_script.specs.Report.{reply_in}
use Rattle.watch_script.proofs.watch.answer.Goals as goal

pub returns-in-Write-clause-reply : goal.returns-in-Write-clause-reply
returns-in-Write-clause-reply c =
    let same : Write c.in-Write.after c.in-Write.at c.as_slice.result.now ≡ c.args.event.now = ap (Write c.in-Write.after c.in-Write.at) c.as_slice.ensures ∙ sym c.in-Write.is in
    subst (λ (e : Event). IfOk c.write.result (λ r. (left printed : List ℕ) (taken : ℕ) → r ≡ reply_in e (state_of c.args.machine.now left printed taken))) same c.write.ensures.reply
