-- The module without phis of a valid module weighs at least 512 less than the code that was counted.
use Rattle.std.proofs.Common.{◌≡◌, ℕ, zero, suc, ◌+◌, ◌≤◌, Bool, true, false, List, [], ◌∷◌, map, length, Some, refl, ap, sym, ◌∙◌, arith}
use Rattle.std.specs.Prelude.{slice_get, if◌then◌else◌, nat_lt}
use Rattle.std.specs.List.{sum_by}
use Rattle.std.proofs.lemmas.Bool.{ltb-false}
use Rattle.ir_core.specs.declared.limit.Limit.{Limit}
use Rattle.ir_core.specs.declared.limit.TheConstants.{MAX_CODE}
use Rattle.ir_core.specs.declared.module.Function.{Function}
use Rattle.ir_core.specs.declared.module.Module.{Module}
use Rattle.ir_core.specs.Counts.{function_code, code_count}
use Rattle.ir_core.specs.Definitions.{repeated, local_names, label_names}
use Rattle.ir_core.specs.Refusals.{IsValid, Limited, past, has_main, main_of}
use Rattle.ir_core.proofs.Distinct.{LocalsDiffer, locals_of_functions, labels_differ}
use Rattle.ir_sound.proofs.NoFaults.{both_empty, unrefused, not_empty}
use Rattle.ir_sound.proofs.SameLaws.{not_true, some_is, none_is}
use Rattle.ir_sound.proofs.ValidTyped.{valid_typed}
use Rattle.low_core.specs.Plain.{plain}
use Rattle.low_core.specs.Weights.{function_weight, weight}
use Rattle.phi_lower.specs.Lowered.{bodies_without_phis}
use Rattle.phi_lower.proofs.Turns.{lowered}
use Rattle.phi_lower.proofs.Keeps.{plain_is}
use Rattle.phi_lower.proofs.SumLaws.{names_apart, sum_le, sum_both, sum_map, sum_times}
use Rattle.phi_lower.proofs.WeightLaws.{function_le}
use Rattle.phi_lower.proofs.EntriesThere.{entries_there}

-- a module with `main` has a function
some_function : (m : Module) (fs : List Function) → m.functions ≡ fs → has_main (main_of m) ≡ true → 1 ≤ length fs
some_function m [] e main = not_true (sym (ap (λ l. has_main (main_of (record m { functions = l }))) e) ∙ main)
some_function m (f ∷ fs) e main = omega arith

-- a count that isn't past its limit
code_within : (n : ℕ) → past Limit.Code MAX_CODE (n ∷ []) ≡ [] → n ≤ MAX_CODE
code_within n none = by_test (nat_lt MAX_CODE n) refl none
  where
    by_test : (b : Bool) → nat_lt MAX_CODE n ≡ b → map (λ k. Limited Limit.Code k) (if b then n ∷ [] else []) ≡ [] → n ≤ MAX_CODE
    by_test true e f = not_empty (Limited Limit.Code n) [] f
    by_test false e f = let l = ltb-false MAX_CODE n e in omega arith

-- locals of the function at a place differ
differ_at : (fs : List Function) → LocalsDiffer fs → (k : ℕ) (f : Function) → slice_get fs k ≡ Some f → repeated [] (local_names f) ≡ []
differ_at [] all k f at = none_is f at
differ_at (g ∷ gs) all zero f at = ap (λ (h : Function). repeated [] (local_names h)) (sym (some_is g f at)) ∙ all.0
differ_at (g ∷ gs) all (suc k) f at = differ_at gs all.1 k f at

pub valid_weighs : (m : Module) → IsValid m → weight (plain m (bodies_without_phis m)) + 512 ≤ code_count m
valid_weighs m valid =
    let u = unrefused m valid.accepted in
    let typed = valid_typed m valid in
    let fs = m.functions in
    let locals = locals_of_functions m u.doubled in
    let each = sum_le (λ (f : Function). function_weight (lowered f) + 512) function_code fs (λ k f at.
    function_le f (names_apart [] (label_names f) (labels_differ f (differ_at fs locals k f at))) (λ j b at_block. entries_there m typed.functions k f at j b at_block)) in
    let split = sum_both (λ (f : Function). function_weight (lowered f)) (λ (f : Function). 512) fs in
    let own = sum_times {X = Function} 512 fs in
    let changed = sum_map function_weight lowered fs in
    let some = some_function m fs refl u.main in
    let same : weight (plain m (bodies_without_phis m)) ≡ sum_by function_weight (map lowered fs) = ap weight (plain_is m) in
    let counted = code_within (code_count m) (both_empty _ (past Limit.Code MAX_CODE (code_count m ∷ [])) u.limited).1 in
    let most : MAX_CODE ≡ 67108864 = refl in
    omega arith
