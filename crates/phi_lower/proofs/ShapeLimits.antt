-- What a valid module's limits and rules say, part by part.
use Rattle.std.proofs.Common.{◌≡◌, ℕ, ◌≤◌, Bool, true, false, List, [], ◌∷◌, map, length, refl, arith}
use Rattle.std.specs.Prelude.{nat_lt, if◌then◌else◌}
use Rattle.std.specs.List.{filter, All}
use Rattle.std.proofs.lemmas.Bool.{ltb-false}
use Rattle.std.proofs.lemmas.List.Elements.{All-nil, All-cons}
use Rattle.ir_core.specs.declared.limit.Limit.{Limit}
use Rattle.ir_core.specs.declared.limit.TheConstants.{MAX_NESTING, MAX_SIZE, MAX_FUNCTIONS, MAX_PARAMETERS, MAX_FRAME, MAX_CODE}
use Rattle.ir_core.specs.declared.ty.Ty.{Ty}
use Rattle.ir_core.specs.declared.module.Function.{Function}
use Rattle.ir_core.specs.declared.module.Module.{Module}
use Rattle.ir_core.specs.Counts.{depth_of, size_count, parameter_counts, frame_count, code_count}
use Rattle.ir_core.specs.Mentions.{written_types}
use Rattle.ir_core.specs.Refusals.{past, limited}
use Rattle.ir_sound.specs.WellTyped.{Each}
use Rattle.ir_sound.proofs.NoFaults.{both_empty, map_empty, not_empty}
use Rattle.ir_sound.proofs.RowLaws.{each_mapped}

-- what holds of each holds of all
pub all_of : {X : Type 0} (P : X → Type 0) (xs : List X) → Each P xs → All P xs
all_of P [] each = All-nil P
all_of P (x ∷ xs) each = All-cons P x xs each.0 (all_of P xs each.1)

-- counts none of which is past a limit
none_past : (most : ℕ) (counts : List ℕ) → filter (λ n. nat_lt most n) counts ≡ [] → Each (λ n. n ≤ most) counts
none_past most [] e = tt
none_past most (n ∷ ns) e = by_test (nat_lt most n) refl e (none_past most ns)
  where
    by_test : (b : Bool) → nat_lt most n ≡ b → (if b then n ∷ filter (λ k. nat_lt most k) ns else filter (λ k. nat_lt most k) ns) ≡ [] → (filter (λ k. nat_lt most k) ns ≡ [] → Each (λ k. k ≤ most) ns) → Each (λ k. k ≤ most) (n ∷ ns)
    by_test true f g go = not_empty n (filter (λ k. nat_lt most k) ns) g
    by_test false f g go = (let l = ltb-false most n f in omega arith, go g)

-- a limit that nothing passes
kept : (which : Limit) (most : ℕ) (counts : List ℕ) → past which most counts ≡ [] → Each (λ n. n ≤ most) counts
kept which most counts none = none_past most counts (map_empty _ (filter (λ n. nat_lt most n) counts) none)

-- the limits of a module
pub record AreKept (m : Module) : Type 0 where
  pub depths : Each (λ (ty : Ty). depth_of m.types ty ≤ MAX_NESTING) (written_types m)
  pub sizes : Each (λ (ty : Ty). size_count m.types ty ≤ MAX_SIZE) (written_types m)
  pub functions : length m.functions ≤ MAX_FUNCTIONS
  pub parameters : Each (λ n. n ≤ MAX_PARAMETERS) (parameter_counts m)
  pub frames : Each (λ (f : Function). frame_count m.types f ≤ MAX_FRAME) m.functions
  pub code : code_count m ≤ MAX_CODE

-- hold in a module that passes none
pub limits_kept : (m : Module) → limited m ≡ [] → AreKept m
limits_kept m none =
    let code = both_empty _ (past Limit.Code MAX_CODE (code_count m ∷ [])) none in
    let bytes = both_empty _ _ code.0 in
    let frame = both_empty _ (past Limit.Frame MAX_FRAME (map (frame_count m.types) m.functions)) bytes.0 in
    let parameters = both_empty _ (past Limit.Parameters MAX_PARAMETERS (parameter_counts m)) frame.0 in
    let total = both_empty _ _ parameters.0 in
    let instructions = both_empty _ _ total.0 in
    let functions = both_empty _ (past Limit.Functions MAX_FUNCTIONS (length m.functions ∷ [])) instructions.0 in
    let sizes = both_empty (past Limit.Nesting MAX_NESTING (map (depth_of m.types) (written_types m))) (past Limit.Size MAX_SIZE (map (size_count m.types) (written_types m))) functions.0 in
    record {
      depths = each_mapped (λ n. n ≤ MAX_NESTING) (depth_of m.types) (written_types m) (kept Limit.Nesting MAX_NESTING (map (depth_of m.types) (written_types m)) sizes.0);
      sizes = each_mapped (λ n. n ≤ MAX_SIZE) (size_count m.types) (written_types m) (kept Limit.Size MAX_SIZE (map (size_count m.types) (written_types m)) sizes.1);
      functions = (kept Limit.Functions MAX_FUNCTIONS (length m.functions ∷ []) functions.1).0;
      parameters = kept Limit.Parameters MAX_PARAMETERS (parameter_counts m) parameters.1;
      frames = each_mapped (λ n. n ≤ MAX_FRAME) (frame_count m.types) m.functions (kept Limit.Frame MAX_FRAME (map (frame_count m.types) m.functions) frame.1);
      code = (kept Limit.Code MAX_CODE (code_count m ∷ []) code.1).0;
    }
