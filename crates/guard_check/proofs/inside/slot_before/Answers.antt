use Rattle.std.proofs.Common.{sym, subst, None}
use Rattle.std.specs.List.Sorted.{IsNonDecreasingBy}
use Rattle.guard_check.proofs.Linked.{link_end, links_rise}
use Rattle.guard_check.proofs.inside.slot_before.Goals as goal

-- the links of a known function rise
pub slot_of_link-requires : goal.slot_of_link-requires
slot_of_link-requires c = subst (IsNonDecreasingBy link_end) (sym c.as_slice.ensures) (links_rise None _ _ c.args.function.now.links c.requires.links)
