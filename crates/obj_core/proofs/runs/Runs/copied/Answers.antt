use Rattle.std.proofs.Common.{◌∙◌, sym, subst}
use Rattle.std.specs.List.Sorted.{IsNonDecreasingBy}
use Rattle.obj_core.proofs.Looked.{end_of_run}
use Rattle.obj_core.proofs.runs.Runs.copied.Goals as goal

pub invariant_of-result : goal.invariant_of-result
invariant_of-result c = subst (IsNonDecreasingBy end_of_run) (sym (c.in_ok-kept.ensures ∙ c.as_slice.ensures)) c.self.invariant
