-- Registers that phis give values to, and the arms of a switch.
use Rattle.std.proofs.Common.{◌≡◌, ◌<◌, ◌≤◌, ℕ, zero, suc, ◌+◌, List, [], ◌∷◌, Option, Ok, Err, Bool, true, false, length, drop, get_or, refl, ap, sym, ◌∙◌, arith, min}
use Rattle.std.specs.Prelude.{◌&&◌, if◌then◌else◌}
use Rattle.ir_core.specs.declared.memory.Value.{Value}
use Rattle.ir_core.specs.declared.kind.Kind.{Kind}
use Rattle.ir_core.specs.Kinds.{same_kind}
use Rattle.ir_core.specs.Calls.{same_kinds}
use Rattle.ir_core.specs.Stops.{Stop, Answer, and_then}
use Rattle.ir_core.proofs.LoopLaws.{drop_item}
use Rattle.ir_context.specs.Registers.{with_register}
use Rattle.ir_program.specs.declared.action.Argument.{Argument}
use Rattle.ir_program.specs.declared.exit.Move.{Move}
use Rattle.ir_program.specs.declared.exit.Arm.{Arm}
use Rattle.ir_context.specs.Reads.{origin_value}
use Rattle.ir_run.specs.Turns.{with_moves, same_number, arm_chosen, kinds_in}

-- one move more, in front of those that were done
pub one_more_move : (moves : List Move) (values : List Value) (i : ℕ) (m : Move) (v : Value) (registers : List (Option Value))
    → i < length moves → m ≡ get_or moves i m → i < length values → v ≡ get_or values i v
    → with_register m.into v (with_moves (drop (i + 1) moves) (drop (i + 1) values) registers) ≡ with_moves (drop i moves) (drop i values) registers
one_more_move moves values i m v registers inside item inside2 item2 =
    ap (λ vs. with_moves (m ∷ drop (i + 1) moves) vs registers) (sym (drop_item values i v inside2 item2))
    ∙ ap (λ ms. with_moves ms (drop i values) registers) (sym (drop_item moves i m inside item))

-- past the shorter of the two nothing is done
pub no_moves : (moves : List Move) (values : List Value) (registers : List (Option Value)) (i : ℕ) → min (length moves) (length values) ≤ i
    → registers ≡ with_moves (drop i moves) (drop i values) registers
no_moves [] values registers zero few = refl
no_moves [] values registers (suc i) few = refl
no_moves (m ∷ ms) [] registers zero few = refl
no_moves (m ∷ ms) [] registers (suc i) few = by (drop i ms)
  where
    by : (rest : List Move) → registers ≡ with_moves rest [] registers
    by [] = refl
    by (n ∷ ns) = refl
no_moves (m ∷ ms) (v ∷ vs) registers zero few = absurd (omega arith)
no_moves (m ∷ ms) (v ∷ vs) registers (suc i) few = no_moves ms vs registers i (omega arith)

-- an arm in front of others
abbrev pub chosen_with : Answer Bool → ℕ → Answer ℕ → Answer ℕ
chosen_with same edge others = and_then same (λ b. if b then Ok edge else others)

module _ (v : Value) (default : ℕ) (arms : List Arm) (i : ℕ) (a : Arm) (inside : i < length arms) (item : a ≡ get_or arms i a) where
  chosen_at : chosen_with (and_then (origin_value [] a.value) (λ x. same_number x v)) a.edge (arm_chosen v default (drop (i + 1) arms)) ≡ arm_chosen v default (drop i arms)
  chosen_at = ap (arm_chosen v default) (sym (drop_item arms i a inside item))

  pub other_arm : Ok false ≡ and_then (origin_value [] a.value) (λ x. same_number x v) → arm_chosen v default (drop (i + 1) arms) ≡ arm_chosen v default (drop i arms)
  other_arm is = ap (λ b. chosen_with b a.edge (arm_chosen v default (drop (i + 1) arms))) is ∙ chosen_at

  pub this_arm : Ok true ≡ and_then (origin_value [] a.value) (λ x. same_number x v) → Ok a.edge ≡ arm_chosen v default (drop i arms)
  this_arm is = ap (λ b. chosen_with b a.edge (arm_chosen v default (drop (i + 1) arms))) is ∙ chosen_at

  pub arm_stops : (stop : Stop) → Err stop ≡ and_then (origin_value [] a.value) (λ x. same_number x v) → Err stop ≡ arm_chosen v default (drop i arms)
  arm_stops stop is = ap (λ b. chosen_with b a.edge (arm_chosen v default (drop (i + 1) arms))) is ∙ chosen_at

-- what is false on the right is false
and_false : (a b : Bool) → false ≡ b → false ≡ (a && b)
and_false true b e = e
and_false false b e = refl

-- rows of kinds of different lengths are not the same
pub lengths_differ : (kinds : List Kind) (arguments : List Argument) → (length kinds ≡ length arguments → ⊥) → false ≡ same_kinds kinds (kinds_in arguments)
lengths_differ [] [] other = absurd (other refl)
lengths_differ [] (a ∷ as') other = refl
lengths_differ (k ∷ ks) [] other = refl
lengths_differ (k ∷ ks) (a ∷ as') other = and_false (same_kind k a.kind) (same_kinds ks (kinds_in as')) (lengths_differ ks as' (λ e. other (ap (λ n. suc n) e)))

module _ (kinds : List Kind) (arguments : List Argument) (i : ℕ) (k : Kind) (a : Argument) (inside : i < length kinds) (item : k ≡ get_or kinds i k)
    (inside2 : i < length arguments) (item2 : a ≡ get_or arguments i a) where
  kinds_at : (same_kind k a.kind && same_kinds (drop (i + 1) kinds) (kinds_in (drop (i + 1) arguments))) ≡ same_kinds (drop i kinds) (kinds_in (drop i arguments))
  kinds_at = ap (λ as'. same_kinds (k ∷ drop (i + 1) kinds) (kinds_in as')) (sym (drop_item arguments i a inside2 item2))
      ∙ ap (λ ks. same_kinds ks (kinds_in (drop i arguments))) (sym (drop_item kinds i k inside item))

  pub same_there : true ≡ same_kind k a.kind → same_kinds (drop (i + 1) kinds) (kinds_in (drop (i + 1) arguments)) ≡ same_kinds (drop i kinds) (kinds_in (drop i arguments))
  same_there is = ap (λ b. b && same_kinds (drop (i + 1) kinds) (kinds_in (drop (i + 1) arguments))) is ∙ kinds_at

  pub other_there : false ≡ same_kind k a.kind → false ≡ same_kinds (drop i kinds) (kinds_in (drop i arguments))
  other_there is = ap (λ b. b && same_kinds (drop (i + 1) kinds) (kinds_in (drop (i + 1) arguments))) is ∙ kinds_at
