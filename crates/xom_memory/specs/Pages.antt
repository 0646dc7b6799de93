-- Bytes in pages of 4,096, the last page first: what pages hold, and what a write leaves.
use Rattle.std.specs.Prelude.{◌≡◌, ℕ, zero, suc, ◌+◌, ◌-◌, ◌*◌, ◌/◌, Bool, true, false, List, [], ◌∷◌, ◌++◌, length, take, drop, replicate, slice_index_or, Option, None, Some}
use Rattle.std.specs.Option.{is_some}
use Rattle.x86_core.specs.Data.{stack_start, stack_end}

-- as many zeros; never opened in a proof
unfoldable pub zeros : ℕ → List ℕ
zeros n = replicate n 0

-- bytes with others in the place of some, from an index on
abbrev pub put_at : List ℕ → ℕ → List ℕ → List ℕ
put_at bytes at new = take at bytes ++ (new ++ drop (at + length new) bytes)

-- a page's bytes: zeros where it isn't made
unfoldable pub page_bytes : Option (List ℕ) → List ℕ
page_bytes None = zeros 4096
page_bytes (Some bytes) = take 4096 (bytes ++ zeros 4096)

-- the page with an index, where it is made
abbrev pub page_at : List (Option (List ℕ)) → ℕ → Option (List ℕ)
page_at pages k = slice_index_or pages k None

abbrev pub is_made : List (Option (List ℕ)) → ℕ → Bool
is_made pages k = is_some (page_at pages k)

-- the bytes of n pages, of which the first in the list stands last; those behind the list aren't made
unfoldable pub laid : ℕ → List (Option (List ℕ)) → List ℕ
laid n [] = zeros (4096 * n)
laid zero (p ∷ ps) = []
laid (suc n) (p ∷ ps) = laid n ps ++ page_bytes p

-- how many pages the stack has
abbrev pub stack_pages : ℕ
stack_pages = (stack_end - stack_start) / 4096

-- the index in the list of the page that has the byte with an index
abbrev pub page_of : ℕ → ℕ → ℕ
page_of n at = n - 1 - at / 4096

-- bytes were put, or everything is as it was
abbrev pub PutOnce : Bool → ℕ → List ℕ → List ℕ → List ℕ → Type 0
PutOnce true at bytes old new = new ≡ put_at old at bytes
PutOnce false at bytes old new = new ≡ old
