-- Registers that are taken to be in use in all of a function.
use Rattle.std.specs.Prelude.{◌≡◌, ℕ, ◌<◌, Bool, true, false, List, Option, Some, None, slice_get}
use Rattle.regalloc.specs.declared.range.Range.{Range}

abbrev pub range_where : Bool → Option Range
range_where true = Some (record { low = 0; high = 0 })
range_where false = None

-- those below a number that are marked, each once
pub record AreListed (seen : List Bool) (count : ℕ) (order : List ℕ) : Type 0 where
  pub marked : (j x : ℕ) → slice_get order j ≡ Some x → (x < count) × (slice_get seen x ≡ Some true)
  pub once : (j k x : ℕ) → slice_get order j ≡ Some x → slice_get order k ≡ Some x → j ≡ k
  pub whole : (x : ℕ) → x < count → slice_get seen x ≡ Some true → (j : ℕ) × (slice_get order j ≡ Some x)
