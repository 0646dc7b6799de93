use Rattle.std.proofs.Common.{subst}
use Rattle.obj_core.specs.declared.object.Object.{Object}
use Rattle.obj_core.specs.WellFormed.{IsWellFormed}
use Rattle.guard_check.proofs.Runs.{straight_of}
use Rattle.guard_check.proofs.guarded.known_straight.Goals as goal

pub returns : goal.returns
returns c form = straight_of _ (subst (λ (x : Object). ∥ IsWellFormed x ∥₁) c.object-object.ensures.value c.object-object.ensures.well_formed) form
