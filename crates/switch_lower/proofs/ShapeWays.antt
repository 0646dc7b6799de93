-- The ways out of a switch: no more than its cases, and what all cases say of them.
use Rattle.std.proofs.Common.{ℕ, ◌+◌, ◌≤◌, List, [], ◌∷◌, length, arith, Ordering, Less, Equal, Greater}
use Rattle.std.specs.Ordering.{match_ordering, nat_cmp}
use Rattle.std.specs.BTreeMap.{insert_entry}
use Rattle.ir_core.specs.declared.ty.Ty.{Ty}
use Rattle.ir_core.specs.declared.instruction.Case.{Case}
use Rattle.ir_core.specs.Kinds.{kind_of}
use Rattle.ir_core.specs.Valid.{case_number}
use Rattle.ir_sound.specs.WellTyped.{Each}
use Rattle.switch_lower.specs.Ways.{Way, ways}

insert_length : (ws : List Way) (n : ℕ) (to : List ℕ) → length (insert_entry nat_cmp ws n to) ≤ length ws + 1
insert_length [] n to = omega arith
insert_length (w ∷ ws) n to = by_order (nat_cmp n w.0) (insert_length ws n to)
  where
    by_order : (o : Ordering) → length (insert_entry nat_cmp ws n to) ≤ length ws + 1 → length (match_ordering o ((n, to) ∷ w ∷ ws) ((w.0, to) ∷ ws) (w ∷ insert_entry nat_cmp ws n to)) ≤ length (w ∷ ws) + 1
    by_order Less go = omega arith
    by_order Equal go = omega arith
    by_order Greater go = omega arith

pub ways_length : (ty : Ty) (cases : List Case) → length (ways ty cases) ≤ length cases
ways_length ty [] = omega arith
ways_length ty (c ∷ cs) = let a = insert_length (ways ty cs) (case_number (kind_of ty) c.value) c.to in let b = ways_length ty cs in omega arith

module _ (N : ℕ → Type 0) (L : List ℕ → Type 0) where
  insert_has : (ws : List Way) (n : ℕ) (to : List ℕ) → N n → L to → Each (λ (w : Way). N w.0 × L w.1) ws → Each (λ (w : Way). N w.0 × L w.1) (insert_entry nat_cmp ws n to)
  insert_has [] n to number label all = ((number, label), tt)
  insert_has (w ∷ ws) n to number label all = by_order (nat_cmp n w.0) (insert_has ws n to number label all.1)
    where
      by_order : (o : Ordering) → Each (λ (x : Way). N x.0 × L x.1) (insert_entry nat_cmp ws n to) → Each (λ (x : Way). N x.0 × L x.1) (match_ordering o ((n, to) ∷ w ∷ ws) ((w.0, to) ∷ ws) (w ∷ insert_entry nat_cmp ws n to))
      by_order Less go = ((number, label), all)
      by_order Equal go = ((all.0.0, label), all.1)
      by_order Greater go = (all.0, go)

  pub ways_have : (ty : Ty) (cases : List Case) → Each (λ (c : Case). N (case_number (kind_of ty) c.value) × L c.to) cases → Each (λ (w : Way). N w.0 × L w.1) (ways ty cases)
  ways_have ty [] all = tt
  ways_have ty (c ∷ cs) all = insert_has (ways ty cs) (case_number (kind_of ty) c.value) c.to all.0.0 all.0.1 (ways_have ty cs all.1)
