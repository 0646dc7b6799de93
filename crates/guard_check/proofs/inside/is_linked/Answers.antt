use Rattle.std.proofs.Common.{◌≡◌, ℕ, Option, Some, None, refl, ap, ◌∙◌}
use Rattle.std.specs.Option.{is_some as has_some}
use Rattle.guard_check.proofs.Linked.{is_some, linked_is}
use Rattle.guard_check.proofs.inside.is_linked.Goals as goal

same : (x : Option ℕ) → has_some x ≡ is_some x
same None = refl
same (Some n) = refl

pub returns : goal.returns
returns c = c.is_some.ensures ∙ same c.slot_before.result ∙ ap is_some c.slot_before.ensures ∙ linked_is c.args.function.now.links c.args.end
