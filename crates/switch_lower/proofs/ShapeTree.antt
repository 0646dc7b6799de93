-- The chunks of a compare tree: how many they are, which numbers they have, and what all of them have.
use Rattle.std.proofs.Common.{◌≡◌, ℕ, zero, suc, ◌+◌, ◌*◌, ◌^◌, ◌≤◌, ◌<◌, Bool, true, false, List, [], ◌∷◌, ◌++◌, length, take, drop, refl, ap, subst, arith, length-append}
use Rattle.std.specs.Prelude.{nat_le, if◌then◌else◌}
use Rattle.std.proofs.lemmas.Bool.{leb-true, leb-false}
use Rattle.std.proofs.lemmas.List.{length-take, length-drop}
use Rattle.std.proofs.lemmas.Nat.{pow_pos}
use Rattle.ir_core.specs.declared.instruction.Pred.{Pred}
use Rattle.ir_core.specs.declared.instruction.Pred.TheVariants.{Eq, Ult}
use Rattle.ir_sound.specs.WellTyped.{Each}
use Rattle.ir_sound.proofs.RowLaws.{Each_both, Each_take, Each_drop}
use Rattle.low_core.specs.declared.moves.Chunk.{Chunk}
use Rattle.switch_lower.specs.Ways.{Way}
use Rattle.switch_lower.specs.Fresh.{chunk_name}
use Rattle.switch_lower.specs.Tree.{Choice, compare_chunk, read_chunk, onward, tests, row, least, ways_within, size_within, tree}

-- chunks with the names of numbers that go up from one
abbrev pub Numbered : ℕ → ℕ → List Chunk → Type 0
Numbered padding at [] = Unit {0}
Numbered padding at (c ∷ cs) = (c.label ≡ chunk_name padding at) × Numbered padding (at + 1) cs

pub numbered_both : (padding at : ℕ) (xs ys : List Chunk) → Numbered padding at xs → Numbered padding (at + length xs) ys → Numbered padding at (xs ++ ys)
numbered_both padding at [] ys first second = subst (λ n. Numbered padding n ys) (let e : at + 0 ≡ at = omega arith in e) second
numbered_both padding at (x ∷ xs) ys first second =
    (first.0, numbered_both padding (at + 1) xs ys first.1 (subst (λ n. Numbered padding n ys) (let e : at + length (x ∷ xs) ≡ at + 1 + length xs = omega arith in e) second))

-- ways in two parts
pub front_length : (d : ℕ) (ws : List Way) → ways_within d < length ws → length (take (ways_within d) ws) ≡ ways_within d
front_length d ws more = let e = length-take (ways_within d) ws in omega arith

pub rest_length : (d : ℕ) (ws : List Way) → ways_within d < length ws → length (drop (ways_within d) ws) + ways_within d ≡ length ws
rest_length d ws more = let e = length-drop (ways_within d) ws in omega arith

module _ (s : Choice) where
  -- how many tests there are
  pub tests_length : (at : ℕ) (ws : List Way) → length (tests s at ws) ≡ length ws
  tests_length at [] = refl
  tests_length at (w ∷ ws) = ap (λ n. suc n) (tests_length (at + 1) ws)

  row_some : (at : ℕ) (ws : List Way) → 1 ≤ length (row s at ws)
  row_some at [] = omega arith
  row_some at (w ∷ ws) = omega arith

  -- the parts of a tree with more ways than one half can have
  abbrev pub left_half : ℕ → ℕ → List Way → List Chunk
  left_half d at ws = tree s d (at + 1) (take (ways_within d) ws)

  abbrev pub right_half : ℕ → ℕ → List Way → List Chunk
  right_half d at ws = tree s d (at + size_within d) (drop (ways_within d) ws)

  abbrev pub middle : ℕ → ℕ → List Way → Chunk
  middle d at ws = compare_chunk s at Ult (least (drop (ways_within d) ws)) (chunk_name s.padding (at + 1)) (chunk_name s.padding (at + size_within d))

  abbrev pub parted : Bool → ℕ → ℕ → List Way → List Chunk
  parted fits d at ws = if fits then tree s d at ws else (middle d at ws ∷ left_half d at ws ++ right_half d at ws)

  -- a tree has a chunk
  pub tree_some : (d at : ℕ) (ws : List Way) → 1 ≤ length (tree s d at ws)
  tree_some zero at ws = row_some at ws
  tree_some (suc d) at ws = by_test (nat_le (length ws) (ways_within d)) (tree_some d at ws)
    where
      by_test : (b : Bool) → 1 ≤ length (tree s d at ws) → 1 ≤ length (parted b d at ws)
      by_test true go = go
      by_test false go = omega arith

  -- and as many as it can with as many ways as it can
  pub tree_full : (d at : ℕ) (ws : List Way) → length ws ≡ ways_within d → 1 + length (tree s d at ws) ≡ size_within d
  tree_full zero at ws full = of_ways ws full
    where
      of_ways : (ws : List Way) → length ws ≡ 4 → 1 + length (row s at ws) ≡ 5
      of_ways [] e = absurd (omega arith)
      of_ways (w ∷ ws) e = let t = tests_length at (w ∷ ws) in omega arith
  tree_full (suc d) at ws full = by_test (nat_le (length ws) (ways_within d)) refl (λ e. tree_full d (at + 1) (take (ways_within d) ws) e) (λ e. tree_full d (at + size_within d) (drop (ways_within d) ws) e)
    where
      by_test : (b : Bool) → nat_le (length ws) (ways_within d) ≡ b
          → (length (take (ways_within d) ws) ≡ ways_within d → 1 + length (left_half d at ws) ≡ size_within d)
          → (length (drop (ways_within d) ws) ≡ ways_within d → 1 + length (right_half d at ws) ≡ size_within d)
          → 1 + length (parted b d at ws) ≡ size_within (suc d)
      by_test true e left right =
          let le = leb-true (length ws) (ways_within d) e in
          let p = pow_pos d in
          let q : 2 ^ suc d ≡ 2 * 2 ^ d = grind arith in
          absurd (omega arith)
      by_test false e left right =
          let more = leb-false (length ws) (ways_within d) e in
          let q : 2 ^ suc d ≡ 2 * 2 ^ d = grind arith in
          let r = rest_length d ws more in
          let a = left (front_length d ws more) in
          let b = right (omega arith) in
          let l = length-append (left_half d at ws) (right_half d at ws) in
          omega arith

  -- they have the numbers from that of the first on
  tests_numbered : (at : ℕ) (ws : List Way) → Numbered s.padding at (tests s at ws)
  tests_numbered at [] = tt
  tests_numbered at (w ∷ ws) = (refl, tests_numbered (at + 1) ws)

  row_numbered : (at : ℕ) (ws : List Way) → Numbered s.padding at (row s at ws)
  row_numbered at [] = (refl, tt)
  row_numbered at (w ∷ ws) = tests_numbered at (w ∷ ws)

  pub tree_numbered : (d at : ℕ) (ws : List Way) → Numbered s.padding at (tree s d at ws)
  tree_numbered zero at ws = row_numbered at ws
  tree_numbered (suc d) at ws =
      by_test (nat_le (length ws) (ways_within d)) refl (tree_numbered d at ws) (tree_numbered d (at + 1) (take (ways_within d) ws)) (tree_numbered d (at + size_within d) (drop (ways_within d) ws))
    where
      by_test : (b : Bool) → nat_le (length ws) (ways_within d) ≡ b → Numbered s.padding at (tree s d at ws) → Numbered s.padding (at + 1) (left_half d at ws) → Numbered s.padding (at + size_within d) (right_half d at ws) → Numbered s.padding at (parted b d at ws)
      by_test true e whole left right = whole
      by_test false e whole left right =
          let full = tree_full d (at + 1) (take (ways_within d) ws) (front_length d ws (leb-false (length ws) (ways_within d) e)) in
          let next : at + size_within d ≡ at + 1 + length (left_half d at ws) = omega arith in
          (refl, numbered_both s.padding (at + 1) (left_half d at ws) (right_half d at ws) left (subst (λ n. Numbered s.padding n (right_half d at ws)) next right))

-- what all chunks have, where numbers have N, and labels L
module _ (s : Choice) (Q : Chunk → Type 0) (N : ℕ → Type 0) (L : List ℕ → Type 0) (low high : ℕ) (nought : N 0) (default : L s.default)
    (new : (n : ℕ) → low ≤ n → n < high → L (chunk_name s.padding n))
    (compare : (at : ℕ) (pred : Pred) (number : ℕ) (taken other : List ℕ) → N number → L taken → L other → Q (compare_chunk s at pred number taken other))
    (read : (at : ℕ) → Q (read_chunk s at)) where
  abbrev pub WayHas : Way → Type 0
  WayHas w = N w.0 × L w.1

  next : (at : ℕ) (ws : List Way) → low ≤ at → at + length ws ≤ high → L (onward s at ws)
  next at [] le most = default
  next at (w ∷ ws) le most = new at le (omega arith)

  tests_have : (at : ℕ) (ws : List Way) → low ≤ at → at + length ws ≤ high → Each WayHas ws → Each Q (tests s at ws)
  tests_have at [] le most all = tt
  tests_have at (w ∷ ws) le most all =
      (compare at Eq w.0 w.1 (onward s (at + 1) ws) all.0.0 all.0.1 (next (at + 1) ws (omega arith) (omega arith)), tests_have (at + 1) ws (omega arith) (omega arith) all.1)

  row_have : (at : ℕ) (ws : List Way) → low ≤ at → at + length (row s at ws) ≤ high → Each WayHas ws → Each Q (row s at ws)
  row_have at [] le most all = (read at, tt)
  row_have at (w ∷ ws) le most all = let t = tests_length s at (w ∷ ws) in tests_have at (w ∷ ws) le (omega arith) all

  least_has : (ws : List Way) → Each WayHas ws → N (least ws)
  least_has [] all = nought
  least_has (w ∷ ws) all = all.0.0

  pub tree_have : (d at : ℕ) (ws : List Way) → low ≤ at → at + length (tree s d at ws) ≤ high → Each WayHas ws → Each Q (tree s d at ws)
  tree_have zero at ws le most all = row_have at ws le most all
  tree_have (suc d) at ws le most all =
      by_test (nat_le (length ws) (ways_within d)) refl most (λ m. tree_have d at ws le m all)
      (λ m. tree_have d (at + 1) (take (ways_within d) ws) (omega arith) m (Each_take WayHas (ways_within d) ws all))
      (λ m. tree_have d (at + size_within d) (drop (ways_within d) ws) (omega arith) m (Each_drop WayHas (ways_within d) ws all))
    where
      by_test : (b : Bool) → nat_le (length ws) (ways_within d) ≡ b → at + length (parted s b d at ws) ≤ high
          → (at + length (tree s d at ws) ≤ high → Each Q (tree s d at ws))
          → (at + 1 + length (left_half s d at ws) ≤ high → Each Q (left_half s d at ws))
          → (at + size_within d + length (right_half s d at ws) ≤ high → Each Q (right_half s d at ws))
          → Each Q (parted s b d at ws)
      by_test true e room whole left right = whole room
      by_test false e room whole left right =
          let full = tree_full s d (at + 1) (take (ways_within d) ws) (front_length d ws (leb-false (length ws) (ways_within d) e)) in
          let some = tree_some s d (at + size_within d) (drop (ways_within d) ws) in
          let l = length-append (left_half s d at ws) (right_half s d at ws) in
          let first : L (chunk_name s.padding (at + 1)) = new (at + 1) (omega arith) (omega arith) in
          let second : L (chunk_name s.padding (at + size_within d)) = new (at + size_within d) (omega arith) (omega arith) in (
            compare at Ult (least (drop (ways_within d) ws)) (chunk_name s.padding (at + 1)) (chunk_name s.padding (at + size_within d)) (least_has (drop (ways_within d) ws) (Each_drop WayHas (ways_within d) ws all)) first second,
            Each_both Q (left_half s d at ws) (right_half s d at ws) (left (omega arith)) (right (omega arith)),
          )
