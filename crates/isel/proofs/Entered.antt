-- The variables of a call at its start: parameters hold the words of the arguments, and no other variable has a value.
use Rattle.std.proofs.Common.{◌≡◌, ℕ, zero, suc, ◌+◌, ◌≤◌, Bool, true, false, List, [], ◌∷◌, ◌++◌, map, length, replicate, Option, Some, None, refl, ap, sym, ◌∙◌, subst, arith}
use Rattle.std.specs.Prelude.{◌||◌, option_map, if◌then◌else◌}
use Rattle.std.proofs.lemmas.List.{length-replicate}
use Rattle.std.proofs.lemmas.List.Folds.{list_any-append}
use Rattle.ir_core.specs.declared.memory.Value.{Value}
use Rattle.ir_core.specs.declared.module.Param.{Param}
use Rattle.ir_core.specs.Calls as source
use Rattle.ir_core.specs.Definitions.{is_among, repeated}
use Rattle.ir_core.specs.Names.{same_name}
use Rattle.ir_core.specs.Valid.{LocalKind, named_locals, param_kind}
use Rattle.ir_core.proofs.Distinct.{fresh}
use Rattle.ir_sound.specs.WellTyped.{Each}
use Rattle.ir_sound.proofs.RowLaws.{length_map, number_below}
use Rattle.ir_sound.proofs.SameLaws.{differ_back, same_itself, not_true}
use Rattle.ir_context.specs.Registers.{register, number_of}
use Rattle.ir_context.proofs.RegisterLaws.{stands_first}
use Rattle.low_core.specs.Contents.{Addresses, word_of}
use Rattle.low_core.specs.Bridge.{IsKnown}
use Rattle.low_core.specs.SelState.{bound}
use Rattle.low_core.specs.SelStep.{with_result}
use Rattle.flat_memory.proofs.Lists.{length_set}
use Rattle.isel_rows.specs.Variables.{first_of_each}
use Rattle.isel_rows.specs.Functions.{numbers_from}
use Rattle.isel.proofs.Beside.{Holds}
use Rattle.isel.proofs.Delivered.{holds_result}

-- parameters have numbers one after another
abbrev pub AreNumbered : List (List ℕ) → ℕ → List Param → Type 0
AreNumbered names k [] = Unit {0}
AreNumbered names k (p ∷ ps) = (number_of names p.name ≡ Some k) × AreNumbered names (k + 1) ps

-- neither of two is true
first_false : (a c : Bool) → (a || c) ≡ false → a ≡ false
first_false false c e = refl
first_false true c e = not_true (sym e)

-- nor is the second
second_false : (a c : Bool) → (a || c) ≡ false → c ≡ false
second_false false c e = e
second_false true c e = not_true (sym e)

-- behind one more name, from which all of them differ
numbered_behind : (before : List (List ℕ)) (n : List ℕ) (names : List (List ℕ)) (k : ℕ) (ps : List Param) → ((q : List ℕ) → is_among before q ≡ false → same_name n q ≡ false)
    → repeated before (map (λ (p : Param). p.name) ps) ≡ [] → AreNumbered names k ps
    → AreNumbered (n ∷ names) (k + 1) ps
numbered_behind before n names k [] apart none are = tt
numbered_behind before n names k (p ∷ ps) apart none are =
    let f = fresh before p.name (map (λ (q : Param). q.name) ps) none in
    let next : suc k ≡ k + 1 = omega arith in
    let others = numbered_behind (before ++ p.name ∷ []) n names (k + 1) ps
    (λ q e. apart q (first_false (is_among before q) (is_among (p.name ∷ []) q) (sym (list_any-append (same_name q) before (p.name ∷ [])) ∙ e))) f.rest are.1 in
    (ap (λ b. if b then Some 0 else option_map (λ i. suc i) (number_of names p.name)) (apart p.name f.new) ∙ ap (option_map (λ i. suc i)) are.0 ∙ ap Some next, others)

-- parameters that differ are the first variables
pub params_numbered : (before : List (List ℕ)) (ps : List Param) (rest : List LocalKind) → repeated before (map (λ (p : Param). p.name) ps) ≡ [] → AreNumbered (named_locals (first_of_each before (map param_kind ps ++ rest))) 0 ps
params_numbered before [] rest none = tt
params_numbered before (p ∷ ps) rest none =
    let f = fresh before p.name (map (λ (q : Param). q.name) ps) none in
    let more : List LocalKind = first_of_each (before ++ p.name ∷ []) (map param_kind ps ++ rest) in
    let is : first_of_each before (map param_kind (p ∷ ps) ++ rest) ≡ param_kind p ∷ more = ap (λ b. if b then first_of_each before (map param_kind ps ++ rest) else param_kind p ∷ more) f.new in
    let apart : (q : List ℕ) → is_among (before ++ p.name ∷ []) q ≡ false → same_name p.name q ≡ false =
    (λ q e. differ_back q p.name (first_false (same_name q p.name) false (second_false (is_among before q) (same_name q p.name || false) (sym (list_any-append (same_name q) before (p.name ∷ [])) ∙ e)))) in
    subst (λ vs. AreNumbered (named_locals vs) 0 (p ∷ ps)) (sym is) (
      ap (λ b. if b then Some 0 else option_map (λ i. suc i) (number_of (named_locals more) p.name)) (same_itself p.name),
      numbered_behind (before ++ p.name ∷ []) p.name (named_locals more) 0 ps apart f.rest (params_numbered (before ++ p.name ∷ []) ps rest f.rest),
    )

-- as many registers as before
pub length_bound : (rs ns : List ℕ) (registers : List (Option ℕ)) → length (bound rs ns registers) ≡ length registers
length_bound [] ns registers = refl
length_bound (r ∷ rs) [] registers = refl
length_bound (r ∷ rs) (n ∷ ns) registers = length_set (bound rs ns registers) r (Some n) ∙ length_bound rs ns registers

-- as many numbers as were asked for
pub length_numbers : (k count : ℕ) → length (numbers_from k count) ≡ count
length_numbers k zero = refl
length_numbers k (suc count) = ap suc (length_numbers (k + 1) count)

-- no place has a value at first
no_value : (count k : ℕ) (v : Value) → register (replicate count None) k ≡ Some v → ⊥
no_value zero k v e = absurd (cc)
no_value (suc count) zero v e = absurd (cc)
no_value (suc count) (suc k) v e = no_value count k v e

-- parameters from the k-th on hold the values of arguments that can arise
pub params_hold : (objects : ℕ) (taken : List Bool) (at : Addresses) (vs : List LocalKind) (count : ℕ) (k : ℕ) (ps : List Param) (us : List Value) → length vs + 8 ≤ count → AreNumbered (named_locals vs) k ps
    → length us ≡ length ps → Each (IsKnown objects taken) us
    → Holds objects taken at (named_locals vs) (source.bound ps us) (bound (numbers_from k (length ps)) (map (word_of at) us) (replicate count None))
params_hold objects taken at vs count k [] us room are even known = record {
  values = replicate (length (named_locals vs)) None;
  count = length-replicate (length (named_locals vs)) None;
  stand = stands_first (named_locals vs) (length (named_locals vs));
  words = λ j v e. absurd (no_value (length (named_locals vs)) j v e);
  known = λ j v e. absurd (no_value (length (named_locals vs)) j v e);
}
params_hold objects taken at vs count k (p ∷ ps) [] room are even known = absurd (omega (arith, even))
params_hold objects taken at vs count k (p ∷ ps) (u ∷ us) room are even known =
    let others = params_hold objects taken at vs count (k + 1) ps us room are.1 (omega (arith, even)) known.1 in
    let before : List (Option ℕ) = bound (numbers_from (k + 1) (length ps)) (map (word_of at) us) (replicate count None) in
    let long = length_bound (numbers_from (k + 1) (length ps)) (map (word_of at) us) (replicate count None) in
    let many = length-replicate count (none_word) in
    let low = number_below (λ (n : List ℕ). same_name n p.name) (named_locals vs) k are.0 in
    let same = length_map (λ (l : LocalKind). l.name) vs in
    subst (λ o. Holds objects taken at (named_locals vs) (source.bound (p ∷ ps) (u ∷ us)) (with_result o (word_of at u) before)) are.0
    (holds_result objects taken at vs (source.bound ps us) before (Some p.name) u others
    (λ name e. (k, ap (number_of (named_locals vs)) (sym (name_same name e)) ∙ are.0, omega (arith, low, same))) (omega (arith, long, many, room)) known.0)
  where
    none_word : Option ℕ
    none_word = None

    name_same : (name : List ℕ) → Some p.name ≡ Some name → p.name ≡ name
    name_same name e = cc
