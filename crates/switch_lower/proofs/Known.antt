-- What is known of the result, by the bodies that it has.
use Rattle.std.proofs.Common.{◌≡◌, List, sym, subst}
use Rattle.behavior.specs.Preserves.{Preserves, ReachesWithin}
use Rattle.ir_core.specs.declared.module.Module.{Module}
use Rattle.low_core.specs.declared.moves.Body.{Body}
use Rattle.low_core.specs.Plain.{moves_run}
use Rattle.low_core.specs.Shaped.{AreShaped}
use Rattle.low_core.specs.Weights.{low_own}
use Rattle.switch_lower.specs.Bodies.{bodies_without_switches}
use Rattle.switch_lower.specs.Bound.{most_steps}
use Rattle.switch_lower.proofs.Keeps.{switches_gone, switches_gone_within}

-- it means the same
pub known_keeps : (base : Module) (bodies lean : List Body) → AreShaped low_own base bodies → lean ≡ bodies_without_switches base bodies → Preserves (moves_run base bodies) (moves_run base lean)
known_keeps base bodies lean shaped are = subst (λ bs. Preserves (moves_run base bodies) (moves_run base bs)) (sym are) (switches_gone base bodies shaped)

-- within a bound
pub known_within : (base : Module) (bodies lean : List Body) → AreShaped low_own base bodies → lean ≡ bodies_without_switches base bodies → ReachesWithin 0 (most_steps bodies) (moves_run base bodies) (moves_run base lean)
known_within base bodies lean shaped are = subst (λ bs. ReachesWithin 0 (most_steps bodies) (moves_run base bodies) (moves_run base bs)) (sym are) (switches_gone_within base bodies shaped)
