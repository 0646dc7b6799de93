-- The limits that are passed, one behind another.
use Rattle.std.proofs.Common.{◌≡◌, ℕ, List, [], ◌∷◌, ◌++◌, Option, Some, None, refl, ap, sym, ◌∙◌}
use Rattle.std.specs.Prelude.{slice_get, option_map}
use Rattle.std.specs.Option.{option_or}
use Rattle.ir_core.specs.declared.limit.Limit.{Limit}
use Rattle.ir_core.specs.Refusals.{Fault, Limited, past}
use Rattle.ir_limits.specs.declared.Over.{Over}
use Rattle.ir_limits.specs.Past.{first_past}
use Rattle.ir_limits.specs.Answers.{limit_fault}
use Rattle.ir_limits.proofs.PastLaws.{first_append, past-first}

-- the refusal of one limit
pub one_limit : (which : Limit) (most : ℕ) (counts : List ℕ) (over : Option Over) (count : Option ℕ) → option_map limit_fault over ≡ option_map (λ n. Limited which n) count → count ≡ first_past most counts → option_map limit_fault over ≡ slice_get (past which most counts) 0
one_limit which most counts over count e f = e ∙ ap (option_map (λ n. Limited which n)) f ∙ sym (past-first which most counts)

-- a refusal or else another
or_mapped : (a b : Option Over) → option_map limit_fault (option_or a b) ≡ option_or (option_map limit_fault a) (option_map limit_fault b)
or_mapped (Some over) b = refl
or_mapped None b = refl

-- the refusals of limits and of those behind them
pub limits_joined : (xs ys : List Fault) (a b r : Option Over) → r ≡ option_or a b → option_map limit_fault a ≡ slice_get xs 0 → option_map limit_fault b ≡ slice_get ys 0 → option_map limit_fault r ≡ slice_get (xs ++ ys) 0
limits_joined xs ys a b r e f g =
    ap (option_map limit_fault) e ∙ or_mapped a b ∙ ap (λ o. option_or o (option_map limit_fault b)) f ∙ ap (option_or (slice_get xs 0)) g ∙ sym (first_append xs ys)
