-- Where globals begin by their rooms, and that they are placed so.
use Rattle.std.proofs.Common.{◌≡◌, ℕ, zero, suc, ◌+◌, Bool, true, false, List, [], ◌∷◌, length, take, map, Some, refl, ap, sym, ◌∙◌, arith}
use Rattle.std.specs.Prelude.{slice_get}
use Rattle.low_core.specs.Placing.{part_bytes, part_start, ArePlaced}
use Rattle.low_core.specs.Plan.{Content}
use Rattle.data_place.specs.declared.starts.Room.{Room}
use Rattle.data_place.specs.Starts.{room_in, start_behind, starts_from}
use Rattle.data_place.proofs.PartLaws.{content_room, long_front}

-- a start for each room
pub starts_long : (constants others : ℕ) (rs : List Room) → length (starts_from constants others rs) ≡ length rs
starts_long constants others [] = refl
starts_long constants others (r ∷ rs) = ap suc (starts_long (constants + room_in true r) (others + room_in false r) rs)

-- a room for each content
rooms_long : (cs : List Content) → length (map content_room cs) ≡ length cs
rooms_long [] = refl
rooms_long (c ∷ cs) = ap suc (rooms_long cs)

-- a start is behind the bytes of the globals in front
start_at : (cs : List Content) (constants others g at : ℕ) (c : Content) → slice_get (starts_from constants others (map content_room cs)) g ≡ Some at → slice_get cs g ≡ Some c
    → at ≡ start_behind (constants + length (part_bytes true (take g cs))) (others + length (part_bytes false (take g cs))) c.constant
start_at [] constants others g at c e f = cc
start_at (d ∷ cs) constants others zero at c e f =
    let here : start_behind constants others d.constant ≡ at = cc in
    let same : d ≡ c = cc in
    let a : constants ≡ constants + 0 = omega arith in
    let b : others ≡ others + 0 = omega arith in
    sym here ∙ ap (λ (x : Content). start_behind constants others x.constant) same ∙ ap (λ n. start_behind n others c.constant) a ∙ ap (λ n. start_behind (constants + 0) n c.constant) b
start_at (d ∷ cs) constants others (suc g) at c e f =
    let constants2 : ℕ = constants + room_in true (content_room d) in
    let others2 : ℕ = others + room_in false (content_room d) in
    let long = long_front true d (take g cs) in
    let long2 = long_front false d (take g cs) in
    let a : constants2 + length (part_bytes true (take g cs)) ≡ constants + length (part_bytes true (d ∷ take g cs)) = omega arith in
    let b : others2 + length (part_bytes false (take g cs)) ≡ others + length (part_bytes false (d ∷ take g cs)) = omega arith in
    start_at cs constants2 others2 g at c e f
    ∙ ap (λ n. start_behind n (others2 + length (part_bytes false (take g cs))) c.constant) a
    ∙ ap (λ n. start_behind (constants + length (part_bytes true (d ∷ take g cs))) n c.constant) b

-- behind none, that is the address
address_is : (k : Bool) (cs : List Content) → start_behind (0 + length (part_bytes true cs)) (0 + length (part_bytes false cs)) k ≡ part_start k + length (part_bytes k cs)
address_is true cs = omega arith
address_is false cs = omega arith

-- contents whose rooms give these starts are placed
pub placed : (cs : List Content) (globals constants others : List ℕ) → globals ≡ starts_from 0 0 (map content_room cs) → constants ≡ part_bytes true cs → others ≡ part_bytes false cs → ArePlaced cs globals constants others
placed cs globals constants others starts_are ro_is rw_is = record {
  count = ap length starts_are ∙ starts_long 0 0 (map content_room cs) ∙ rooms_long cs;
  addresses = λ g at c e f. start_at cs 0 0 g at c (ap (λ (xs : List ℕ). slice_get xs g) (sym starts_are) ∙ e) f ∙ address_is c.constant (take g cs);
  ro_bytes = ro_is;
  rw_bytes = rw_is;
}
