-- What is known of a module that is valid.
use Rattle.std.proofs.Common.{◌≡◌, ℕ, ◌+◌, ◌<◌, ◌≤◌, List, [], length, ap, sym, ◌∙◌, subst, arith}
use Rattle.std.specs.Prelude.{get_or}
use Rattle.std.specs.List.{All}
use Rattle.std.proofs.Math.Logic.{∥∥₁_elim}
use Rattle.std.proofs.Props.{props}
use Rattle.behavior.specs.Preserves.{Preserves, ReachesWithin}
use Rattle.ir_core.specs.declared.module.Function.{Function}
use Rattle.ir_core.specs.declared.module.Module.{Module}
use Rattle.ir_core.specs.Built.{IsBuilt}
use Rattle.ir_core.specs.Counts.{code_count}
use Rattle.ir_core.specs.Definitions.{doubled, repeated, label_names, local_names}
use Rattle.ir_core.specs.Refusals.{IsValid}
use Rattle.ir_core.specs.Run.{source_run}
use Rattle.ir_core.proofs.Distinct.{LocalsDiffer, locals_of_functions, locals_at, labels_differ}
use Rattle.ir_sound.proofs.NoFaults.{unrefused}
use Rattle.ir_sound.proofs.ValidTyped.{known_typed}
use Rattle.low_core.specs.declared.moves.Body.{Body}
use Rattle.low_core.specs.Plain.{plain, moves_run}
use Rattle.low_core.specs.Shaped.{IsBody, returns_of, local_calls_of}
use Rattle.low_core.specs.Weights.{weight}
use Rattle.phi_lower.specs.Lowered.{bodies_without_phis}
use Rattle.phi_lower.specs.Bound.{most_steps}
use Rattle.phi_lower.proofs.Keeps.{phis_gone, phis_gone_within}
use Rattle.phi_lower.proofs.CountLaws.{as_many_returns, as_many_calls}
use Rattle.phi_lower.proofs.LightLaws.{valid_weighs}
use Rattle.phi_lower.proofs.BodyLaws.{bodies_made}

-- it is built
pub known_built : (m : Module) → ∥ IsValid m ∥₁ → IsBuilt m
known_built m known = ∥∥₁_elim known (hlevel props) (λ v. v.built)

-- no name is defined twice
pub known_single : (m : Module) → ∥ IsValid m ∥₁ → doubled m ≡ []
known_single m known = ∥∥₁_elim known (hlevel props) (λ v. (unrefused m v.accepted).doubled)

-- bodies without its phis mean what it means
pub known_keeps : (m base : Module) (bodies : List Body) → ∥ IsValid base ∥₁ → base ≡ m → bodies ≡ bodies_without_phis base → Preserves (source_run m) (moves_run base bodies)
known_keeps m base bodies known same are =
    subst (λ x. Preserves (source_run x) (moves_run base bodies)) same
    (subst (λ bs. Preserves (source_run base) (moves_run base bs)) (sym are) (phis_gone base (known_built base known) (known_typed base known)))

-- in so many steps
pub known_within : (m base : Module) (bodies : List Body) → ∥ IsValid base ∥₁ → base ≡ m → bodies ≡ bodies_without_phis base → ReachesWithin 0 (most_steps m) (source_run m) (moves_run base bodies)
known_within m base bodies known same are =
    subst (λ x. ReachesWithin 0 (most_steps x) (source_run x) (moves_run base bodies)) same
    (subst (λ bs. ReachesWithin 0 (most_steps base) (source_run base) (moves_run base bs)) (sym are) (phis_gone_within base (known_built base known) (known_typed base known)))

-- with as many returns and calls through locals
pub known_returns : (m base : Module) (bodies : List Body) → base ≡ m → bodies ≡ bodies_without_phis base → returns_of (plain base bodies) ≤ returns_of m
known_returns m base bodies same are =
    let e : returns_of (plain base bodies) ≡ returns_of m = ap (λ bs. returns_of (plain base bs)) are ∙ as_many_returns base ∙ ap returns_of same in
    omega arith

pub known_calls : (m base : Module) (bodies : List Body) → base ≡ m → bodies ≡ bodies_without_phis base → local_calls_of (plain base bodies) ≤ local_calls_of m
known_calls m base bodies same are =
    let e : local_calls_of (plain base bodies) ≡ local_calls_of m = ap (λ bs. local_calls_of (plain base bs)) are ∙ as_many_calls base ∙ ap local_calls_of same in
    omega arith

-- and so light
pub known_weighs : (m base : Module) (bodies : List Body) → ∥ IsValid base ∥₁ → base ≡ m → bodies ≡ bodies_without_phis base → weight (plain base bodies) + 512 ≤ code_count m
known_weighs m base bodies known same are =
    subst (λ x. weight (plain base bodies) + 512 ≤ code_count x) same
    (subst (λ bs. weight (plain base bs) + 512 ≤ code_count base) (sym are) (∥∥₁_elim known (hlevel props) (λ v. valid_weighs base v)))

-- no label of a function stands twice
pub labels_at : (m : Module) (fs : List Function) (k : ℕ) (f : Function) → doubled m ≡ [] → fs ≡ m.functions → k < length fs → f ≡ get_or fs k f → repeated [] (label_names f) ≡ []
labels_at m fs k f none same below is =
    labels_differ f (subst (λ g. repeated [] (local_names g) ≡ []) (sym is) (locals_at fs (subst LocalsDiffer (sym same) (locals_of_functions m none)) k f below))

-- and made of moves
pub known_made : (base : Module) (bodies : List Body) → ∥ IsValid base ∥₁ → bodies ≡ bodies_without_phis base → All IsBody bodies
known_made base bodies known are = subst (All IsBody) (sym are) (bodies_made base (known_typed base known).functions)
