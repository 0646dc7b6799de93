-- How long parts of data are, with the gaps in them.
use Rattle.std.proofs.Common.{◌≡◌, ◌≢◌, ℕ, zero, suc, ◌+◌, ◌-◌, ◌%◌, ◌<◌, ◌≤◌, Bool, true, false, List, [], ◌∷◌, length, replicate, take, Some, refl, ap, ◌∙◌, arith, length-append}
use Rattle.std.specs.Prelude.{if◌then◌else◌, slice_get}
use Rattle.std.proofs.lemmas.List.{length-replicate}
use Rattle.ir_core.specs.Counts.{spaced}
use Rattle.ir_core.specs.Shapes.{rounded}
use Rattle.low_core.specs.Placing.{padded, bytes_in_part, part_bytes}
use Rattle.low_core.specs.Plan.{Content}
use Rattle.data_place.specs.declared.starts.Room.{Room}
use Rattle.data_place.specs.Starts.{room_in}

-- the gap up to a multiple of 16
pub gap_sixteen : (n : ℕ) → (16 - n % 16) % 16 ≡ rounded n 16 - n
gap_sixteen n = omega arith

-- a global in its own part, and in the other one
pub own_part : (k : Bool) (c : Content) → c.constant ≡ k → bytes_in_part k c ≡ padded c.bytes
own_part true c e = ap (λ b. if b then padded c.bytes else []) e
own_part false c e = ap (λ b. if b then [] else padded c.bytes) e

pub other_part : (k : Bool) (c : Content) → c.constant ≢ k → bytes_in_part k c ≡ []
other_part true c e = by c.constant e
  where
    by : (b : Bool) → b ≢ true → (if b then padded c.bytes else []) ≡ []
    by true f = absurd (f refl)
    by false f = refl
other_part false c e = by c.constant e
  where
    by : (b : Bool) → b ≢ false → (if b then [] else padded c.bytes) ≡ []
    by true f = refl
    by false f = absurd (f refl)

-- the room that a content takes
abbrev pub content_room : Content → Room
content_room c = record { constant = c.constant; size = length c.bytes }

-- bytes with the gap behind them
pub long_padded : (bytes : List ℕ) → length (padded bytes) ≡ spaced (length bytes)
long_padded bytes =
    let gap : ℕ = rounded (length bytes) 16 - length bytes in
    let both = length-append bytes (replicate gap 0) in
    let zeros = length-replicate {A = ℕ} gap 0 in
    omega arith

-- in a part
pub long_in_part : (k : Bool) (c : Content) → length (bytes_in_part k c) ≡ room_in k (content_room c)
long_in_part true c = by c.constant
  where
    by : (b : Bool) → length (if b then padded c.bytes else []) ≡ (if b then spaced (length c.bytes) else 0)
    by true = long_padded c.bytes
    by false = refl
long_in_part false c = by c.constant
  where
    by : (b : Bool) → length (if b then [] else padded c.bytes) ≡ (if b then 0 else spaced (length c.bytes))
    by true = refl
    by false = long_padded c.bytes

-- a part with one global in front
pub long_front : (k : Bool) (c : Content) (cs : List Content) → length (part_bytes k (c ∷ cs)) ≡ room_in k (content_room c) + length (part_bytes k cs)
long_front k c cs = length-append (bytes_in_part k c) (part_bytes k cs) ∙ ap (λ n. n + length (part_bytes k cs)) (long_in_part k c)

-- the room in both parts
pub room_both : (r : Room) → room_in true r + room_in false r ≡ spaced r.size
room_both r = by r.constant
  where
    by : (b : Bool) → (if b then spaced r.size else 0) + (if b then 0 else spaced r.size) ≡ spaced r.size
    by true = omega arith
    by false = omega arith

-- in the part in which a global lies
pub room_own : (r : Room) → room_in r.constant r ≡ spaced r.size
room_own r = by r.constant refl
  where
    by : (b : Bool) → r.constant ≡ b → room_in b r ≡ spaced r.size
    by true e = ap (λ b. if b then spaced r.size else 0) e
    by false e = ap (λ b. if b then 0 else spaced r.size) e

-- rooms are multiples of 16
room_whole : (k : Bool) (r : Room) → room_in k r % 16 ≡ 0
room_whole true r = by r.constant
  where
    by : (b : Bool) → (if b then spaced r.size else 0) % 16 ≡ 0
    by true = omega arith
    by false = refl
room_whole false r = by r.constant
  where
    by : (b : Bool) → (if b then 0 else spaced r.size) % 16 ≡ 0
    by true = refl
    by false = omega arith

-- so are parts
pub part_whole : (k : Bool) (cs : List Content) → length (part_bytes k cs) % 16 ≡ 0
part_whole k [] = refl
part_whole k (c ∷ cs) =
    let long = long_front k c cs in
    let here = room_whole k (content_room c) in
    let rest = part_whole k cs in
    omega arith

-- a global behind those in front of it lies in front of the end of its part
pub within : (k : Bool) (cs : List Content) (g : ℕ) (c : Content) → slice_get cs g ≡ Some c
    → length (part_bytes k (take g cs)) + room_in k (content_room c) ≤ length (part_bytes k cs)
within k [] g c e = cc
within k (d ∷ cs) zero c e =
    let long = long_front k d cs in
    let same : room_in k (content_room d) ≡ room_in k (content_room c) = ap (λ x. room_in k (content_room x)) (let i : d ≡ c = cc in i) in
    omega arith
within k (d ∷ cs) (suc g) c e =
    let long = long_front k d cs in
    let front = long_front k d (take g cs) in
    let rest = within k cs g c e in
    omega arith

-- and in front of each one behind it
pub before : (k : Bool) (cs : List Content) (g h : ℕ) (c : Content) → g < h → slice_get cs g ≡ Some c
    → length (part_bytes k (take g cs)) + room_in k (content_room c) ≤ length (part_bytes k (take h cs))
before k [] g h c l e = cc
before k (d ∷ cs) g zero c l e = absurd (omega arith)
before k (d ∷ cs) zero (suc h) c l e =
    let long = long_front k d (take h cs) in
    let same : room_in k (content_room d) ≡ room_in k (content_room c) = ap (λ x. room_in k (content_room x)) (let i : d ≡ c = cc in i) in
    omega arith
before k (d ∷ cs) (suc g) (suc h) c l e =
    let long = long_front k d (take h cs) in
    let front = long_front k d (take g cs) in
    let rest = before k cs g h c (omega arith) e in
    omega arith
