use Rattle.std.proofs.Common.{◌≡◌, None, Some, MatchOption, subst, sym, ap, ◌∙◌}
use Rattle.x86_core.specs.Data.{stack_start, segment}
use Rattle.xom_memory.specs.Access.{where_readable}
use Rattle.xom_memory.specs.Access.{lent as lent_segment}
use Rattle.xom_memory.proofs.Whole.{whole_front}
use Rattle.xom_memory.proofs.memory.readable_part.Goals as goal

pub returns-in-Some : goal.returns-in-Some
returns-in-Some c =
    let whole = whole_front (segment stack_start c.args.stack.now 6) c.args.parts.now c.args.i c.in-Some.part.now c.in-Some.ensures.lookup.3.0 in
    subst (λ o. MatchOption c.readable.result (o ≡ None) (λ s. o ≡ Some (lent_segment s)))
    (sym (whole ∙ ap where_readable (sym c.in-Some.ensures.lookup.1))) c.readable.ensures
