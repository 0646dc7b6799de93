-- What is said of bodies without switches, of the bodies that are these.
use Rattle.std.proofs.Common.{◌≡◌, ◌≤◌, true, List, sym, subst}
use Rattle.std.specs.List.{All, list_all}
use Rattle.ir_core.specs.declared.module.Module.{Module}
use Rattle.low_core.specs.declared.moves.Body.{Body}
use Rattle.low_core.specs.declared.moves.Chunk.{Chunk}
use Rattle.low_core.specs.declared.moves.Lean.{Lean}
use Rattle.low_core.specs.Plain.{plain}
use Rattle.low_core.specs.Shaped.{is_lean_end, AreShaped, IsLean, returns_of, local_calls_of}
use Rattle.low_core.specs.Weights.{weight, low_own, lean_own}
use Rattle.switch_lower.specs.Bodies.{bodies_without_switches}
use Rattle.switch_lower.proofs.ShapeAll.{bodies_shaped, no_switches}
use Rattle.switch_lower.proofs.WeighBodies.{bodies_weigh, bodies_return, bodies_call}

pub is_lean : (base : Module) (bodies : List Body) (lean : Lean) → AreShaped low_own base bodies → lean.base.now ≡ base → lean.bodies ≡ bodies_without_switches base bodies → IsLean lean
is_lean base bodies lean low same are = record {
  shaped = subst (λ b. AreShaped lean_own b lean.bodies) (sym same) (subst (AreShaped lean_own base) (sym are) (bodies_shaped base bodies low));
  no_switch = subst (All (λ (b : Body). list_all (λ (c : Chunk). is_lean_end c.end) b.chunks ≡ true)) (sym are) (no_switches base bodies);
}

pub lean_weighs : (base : Module) (bodies lean : List Body) → AreShaped low_own base bodies → lean ≡ bodies_without_switches base bodies → weight (plain base lean) ≤ weight (plain base bodies)
lean_weighs base bodies lean low are = subst (λ l. weight (plain base l) ≤ weight (plain base bodies)) (sym are) (bodies_weigh base bodies low)

pub lean_returns : (base : Module) (bodies lean : List Body) → lean ≡ bodies_without_switches base bodies → returns_of (plain base lean) ≤ returns_of (plain base bodies)
lean_returns base bodies lean are = subst (λ l. returns_of (plain base l) ≤ returns_of (plain base bodies)) (sym are) (bodies_return base bodies)

pub lean_calls : (base : Module) (bodies lean : List Body) → lean ≡ bodies_without_switches base bodies → local_calls_of (plain base lean) ≤ local_calls_of (plain base bodies)
lean_calls base bodies lean are = subst (λ l. local_calls_of (plain base l) ≤ local_calls_of (plain base bodies)) (sym are) (bodies_call base bodies)
