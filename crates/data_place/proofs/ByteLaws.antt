-- The bytes of a global stand at its address, in the part in which it lies.
use Rattle.std.proofs.Common.{◌≡◌, ℕ, zero, suc, ◌+◌, ◌-◌, Bool, true, false, List, [], ◌∷◌, ◌++◌, length, take, Some, refl, ap, ◌∙◌, arith, length-append}
use Rattle.std.specs.Prelude.{slice_get, replicate, if◌then◌else◌}
use Rattle.ir_core.specs.Shapes.{rounded}
use Rattle.low_core.specs.Placing.{padded, bytes_in_part, part_bytes, part_start, ArePlaced}
use Rattle.low_core.specs.Plan.{Content}
use Rattle.data_place.proofs.PartLaws.{own_part}

-- in front of others, and behind them
in_front : (xs ys : List ℕ) (i b : ℕ) → slice_get xs i ≡ Some b → slice_get (xs ++ ys) i ≡ Some b
in_front [] ys i b e = cc
in_front (x ∷ xs) ys zero b e = e
in_front (x ∷ xs) ys (suc i) b e = in_front xs ys i b e

behind : (xs ys : List ℕ) (i : ℕ) → slice_get (xs ++ ys) (length xs + i) ≡ slice_get ys i
behind [] ys i = ap (slice_get ys) (let e : 0 + i ≡ i = omega arith in e)
behind (x ∷ xs) ys i =
    (let e : length (x ∷ xs) + i ≡ suc (length xs + i) = omega arith in ap (slice_get (x ∷ (xs ++ ys))) e) ∙ behind xs ys i

-- a byte of a global in the part in which it lies
in_part : (k : Bool) (cs : List Content) (g i b : ℕ) (c : Content) → c.constant ≡ k → slice_get cs g ≡ Some c → slice_get c.bytes i ≡ Some b
    → slice_get (part_bytes k cs) (length (part_bytes k (take g cs)) + i) ≡ Some b
in_part k [] g i b c own e f = cc
in_part k (d ∷ cs) zero i b c own e f =
    let same : d ≡ c = cc in
    let here : bytes_in_part k d ≡ padded c.bytes = ap (bytes_in_part k) same ∙ own_part k c own in
    let first : 0 + i ≡ i = omega arith in
    ap (slice_get (part_bytes k (d ∷ cs))) first ∙ in_front (bytes_in_part k d) (part_bytes k cs) i b
    (ap (λ (bs : List ℕ). slice_get bs i) here ∙ in_front c.bytes (replicate (rounded (length c.bytes) 16 - length c.bytes) 0) i b f)
in_part k (d ∷ cs) (suc g) i b c own e f =
    let long = length-append (bytes_in_part k d) (part_bytes k (take g cs)) in
    let place : length (part_bytes k (d ∷ take g cs)) + i ≡ length (bytes_in_part k d) + (length (part_bytes k (take g cs)) + i) = omega arith in
    ap (slice_get (part_bytes k (d ∷ cs))) place ∙ behind (bytes_in_part k d) (part_bytes k cs) (length (part_bytes k (take g cs)) + i) ∙ in_part k cs g i b c own e f

-- of placed globals
pub stands : (contents : List Content) (globals constants others : List ℕ) (g at i b : ℕ) (c : Content) → ArePlaced contents globals constants others
    → slice_get globals g ≡ Some at → slice_get contents g ≡ Some c → slice_get c.bytes i ≡ Some b
    → slice_get (if c.constant then constants else others) (at + i - part_start c.constant) ≡ Some b
stands contents globals constants others g at i b c placed address content byte =
    ap (λ (bs : List ℕ). slice_get bs (at + i - part_start c.constant)) (part c.constant) ∙ ap (slice_get (part_bytes c.constant contents)) place
    ∙ in_part c.constant contents g i b c refl content byte
  where
    part : (k : Bool) → (if k then constants else others) ≡ part_bytes k contents
    part true = placed.ro_bytes
    part false = placed.rw_bytes

    place : at + i - part_start c.constant ≡ length (part_bytes c.constant (take g contents)) + i
    place = let is = placed.addresses g at c address content in omega arith
