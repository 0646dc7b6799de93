-- A segment by its index, where it may be read, with the stack behind the others.
use Rattle.std.proofs.Common.{◌≡◌, ℕ, ◌<◌, zero, suc, List, [], ◌∷◌, ◌++◌, length, None, refl, arith, slice_index_or}
use Rattle.x86_core.specs.declared.image.Segment.{Segment}
use Rattle.xom_memory.specs.Access.{where_readable, readable_at}

module _ (t : Segment) where
  pub whole_front : (ss : List Segment) (i : ℕ) (d : Segment) → i < length ss → readable_at (ss ++ t ∷ []) i ≡ where_readable (slice_index_or ss i d)
  whole_front [] i d h = absurd (omega arith)
  whole_front (x ∷ ss) zero d h = refl
  whole_front (x ∷ ss) (suc i) d h = whole_front ss i d (omega arith)

  pub whole_last : (ss : List Segment) (i : ℕ) → i ≡ length ss → readable_at (ss ++ t ∷ []) i ≡ where_readable t
  whole_last [] zero e = refl
  whole_last [] (suc i) e = absurd (omega arith)
  whole_last (x ∷ ss) zero e = absurd (omega arith)
  whole_last (x ∷ ss) (suc i) e = whole_last ss i (omega arith)

  pub whole_past : (ss : List Segment) (i : ℕ) → length ss < i → readable_at (ss ++ t ∷ []) i ≡ None
  whole_past [] zero h = absurd (omega arith)
  whole_past [] (suc i) h = refl
  whole_past (x ∷ ss) zero h = absurd (omega arith)
  whole_past (x ∷ ss) (suc i) h = whole_past ss i (omega arith)
