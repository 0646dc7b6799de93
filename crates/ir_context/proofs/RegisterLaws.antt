-- Registers stand for the locals of a call, at its start and after each value that is given.
use Rattle.std.proofs.Common.{◌≡◌, ◌<◌, ℕ, zero, suc, Bool, true, false, List, [], ◌∷◌, Option, Some, None, refl, ap, sym, ◌∙◌, arith, length, replicate, slice_get, slice_set, if◌then◌else◌}
use Rattle.std.specs.Prelude.{◌&&◌, option_map, option_and_then}
use Rattle.std.proofs.lemmas.Bool.{and_parts, eqb-true, eq-eqb}
use Rattle.ir_core.specs.declared.memory.Value.{Value}
use Rattle.ir_core.specs.Names.{same_name, first_where}
use Rattle.ir_core.specs.State.{Local}
use Rattle.ir_context.specs.Registers.{register, number_of, StandFor}

-- no place has a value at first
empty_register : (count number : ℕ) → register (replicate count None) number ≡ None
empty_register zero number = refl
empty_register (suc count) zero = refl
empty_register (suc count) (suc number) = empty_register count number

pub stands_first : (names : List (List ℕ)) (count : ℕ) → StandFor names (replicate count None) []
stands_first names count name = by (number_of names name)
  where
    by : (o : Option ℕ) → None ≡ option_and_then (register (replicate count None)) o
    by None = refl
    by (Some n) = sym (empty_register count n)

-- names that are the same are one name
pub name_is : (a b : List ℕ) → same_name a b ≡ true → a ≡ b
name_is [] [] e = refl
name_is [] (b ∷ bs) e = absurd (cc)
name_is (a ∷ as') [] e = absurd (cc)
name_is (a ∷ as') (b ∷ bs) e = let p = and_parts _ _ e in let q = eqb-true a b p.0 in let r = name_is as' bs p.1 in cc

-- a name is the same as itself
pub same_itself : (a : List ℕ) → same_name a a ≡ true
same_itself [] = refl
same_itself (a ∷ as') = ap (λ b. b && same_name as' as') (eq-eqb a a refl) ∙ same_itself as'

-- the name at a number that was looked up
pub named_there : (names : List (List ℕ)) (q : List ℕ) (j : ℕ) → number_of names q ≡ Some j → slice_get names j ≡ Some q
named_there [] q j e = absurd (cc)
named_there (n ∷ names) q j e = by (same_name n q) (number_of names q) j refl (λ i. named_there names q i) refl e
  where
    by : (b : Bool) (o : Option ℕ) (j : ℕ) → same_name n q ≡ b → ((i : ℕ) → number_of names q ≡ Some i → slice_get names i ≡ Some q) → number_of names q ≡ o
        → (if b then Some 0 else option_map (λ i. suc i) o) ≡ Some j → slice_get (n ∷ names) j ≡ Some q
    by true o zero same go is e = ap Some (name_is n q same)
    by true o (suc j) same go is e = absurd (cc)
    by false None j same go is e = absurd (cc)
    by false (Some i) zero same go is e = absurd (cc)
    by false (Some i) (suc j) same go is e = go j (let next : i ≡ j = cc in is ∙ ap Some next)

-- a place that was written
written_register : (registers : List (Option Value)) (k : ℕ) (v : Value) → k < length registers → register (slice_set registers k (Some v)) k ≡ Some v
written_register [] k v within = absurd (omega arith)
written_register (r ∷ registers) zero v within = refl
written_register (r ∷ registers) (suc k) v within = written_register registers k v (omega arith)

-- and another
other_register : (registers : List (Option Value)) (k j : ℕ) (v : Value) → (j ≡ k → ⊥) → register (slice_set registers k (Some v)) j ≡ register registers j
other_register [] k j v apart = refl
other_register (r ∷ registers) zero zero v apart = absurd (apart refl)
other_register (r ∷ registers) zero (suc j) v apart = refl
other_register (r ∷ registers) (suc k) zero v apart = refl
other_register (r ∷ registers) (suc k) (suc j) v apart = other_register registers k j v (λ e. apart (ap (λ i. suc i) e))

-- a local is given a value
pub stands_given : (names : List (List ℕ)) (registers : List (Option Value)) (locals : List Local) (name : List ℕ) (k : ℕ) (v : Value) → k < length registers
    → number_of names name ≡ Some k → StandFor names registers locals → StandFor names (slice_set registers k (Some v)) (record { name = name; value = v } ∷ locals)
stands_given names registers locals name k v within number stand q = by (same_name name q) (number_of names q) refl refl
  where
    by : (b : Bool) (o : Option ℕ) → same_name name q ≡ b → number_of names q ≡ o
        → option_map (λ (l : Local). l.value) (if b then Some (record { name = name; value = v }) else first_where (λ (l : Local). same_name l.name q) locals)
        ≡ option_and_then (register (slice_set registers k (Some v))) (number_of names q)
    by true o same is =
        sym (ap (option_and_then (register (slice_set registers k (Some v)))) (ap (number_of names) (sym (name_is name q same)) ∙ number) ∙ written_register registers k v within)
    by false None other is =
        stand q ∙ ap (option_and_then (register registers)) is ∙ sym (ap (option_and_then (register (slice_set registers k (Some v)))) is)
    by false (Some j) other is =
        let apart : j ≡ k → ⊥ = λ e. elsewhere e in
        stand q ∙ ap (option_and_then (register registers)) is ∙ sym (other_register registers k j v apart) ∙ sym (ap (option_and_then (register (slice_set registers k (Some v)))) is)
      where
        elsewhere : j ≡ k → ⊥
        elsewhere e =
            let at_j : slice_get names j ≡ Some q = named_there names q j is in
            let at_k : slice_get names k ≡ Some name = named_there names name k number in
            let same : name ≡ q = cc in
            let itself : same_name name q ≡ true = ap (same_name name) (sym same) ∙ same_itself name in
            cc
