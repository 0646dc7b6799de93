-- The pieces of an object: each byte of a function is in one of them, at an address and at a place.
use Rattle.std.proofs.Common.{◌≡◌, ℕ, zero, suc, ◌+◌, ◌-◌, ◌<◌, ◌≤◌, ◌⊎◌, inl, inr, true, false, List, [], ◌∷◌, ◌++◌, length, get_or, Some, None, if◌then◌else◌, refl, sym, ◌∙◌, ap, subst, arith}
use Rattle.std.specs.Prelude.{Bool, Option, slice_get, slice_index, nat_eq, nat_lt, nat_le}
use Rattle.std.proofs.lemmas.Bool.{and_right}
use Rattle.std.proofs.lemmas.Bool.Decides.{nat_tests}
use Rattle.obj_core.specs.declared.object.Func.{Func}
use Rattle.obj_core.specs.declared.object.CodeAt.{CodeAt}
use Rattle.obj_core.specs.declared.piece.Piece.{Piece}
use Rattle.obj_core.specs.Object.{Each}
use Rattle.obj_core.specs.Pieces.{pieces_between, pieces_of, pieces_from, piece_len}
use Rattle.obj_core.specs.Placement.{has_byte, address_from}
use Rattle.obj_core.specs.Runs.{end_of_runs, address_at, runs_from}
use Rattle.obj_core.proofs.Fronts.{front_of}

pub get_some : {T : Type 0} (xs : List T) (k : ℕ) (x : T) → k < length xs → x ≡ get_or xs k x → slice_get xs k ≡ Some x
get_some [] k x h e = absurd (omega arith)
get_some (y ∷ ys) zero x h e = ap Some (sym e)
get_some (y ∷ ys) (suc k) x h e = get_some ys k x (omega arith) e

pub get_none : {T : Type 0} (xs : List T) (k : ℕ) → length xs ≤ k → slice_get xs k ≡ None
get_none [] k h = refl
get_none (y ∷ ys) zero h = absurd (omega arith)
get_none (y ∷ ys) (suc k) h = get_none ys k (omega arith)

-- cuts between an offset and the end of a function, each behind the one before it
abbrev pub Rising : ℕ → List ℕ → ℕ → Type 0
Rising from [] end = from < end
Rising from (c ∷ cs) end = (from < c) × Rising c cs end

-- all functions are cut so
abbrev pub AllRising : List Func → Type 0
AllRising [] = Unit {0}
AllRising (f ∷ fs) = Rising 0 f.cuts (length f.bytes) × AllRising fs

-- an offset where a piece may end
abbrev pub IsEdge : List ℕ → ℕ → ℕ → Type 0
IsEdge [] end to = to ≡ end
IsEdge (c ∷ cs) end to = (to ≡ c) ⊎ IsEdge cs end to

-- a piece doesn't hold a byte
abbrev pub Apart : ℕ → ℕ → Piece → Type 0
Apart n off p = (p.function ≡ n → ⊥) ⊎ ((off < p.from) ⊎ (p.to ≤ off))

-- all pieces but that of a number don't
abbrev pub OthersApart : ℕ → ℕ → ℕ → List Piece → Type 0
OthersApart n off number [] = Unit {0}
OthersApart n off zero (p ∷ ps) = Each (Apart n off) ps
OthersApart n off (suc k) (p ∷ ps) = Apart n off p × OthersApart n off k ps

-- so one of another number doesn't
pub apart_each : (n off : ℕ) (ps : List Piece) → Each (Apart n off) ps → (j : ℕ) (p : Piece) → slice_get ps j ≡ Some p → Apart n off p
apart_each n off [] h j p e = absurd (cc)
apart_each n off (q ∷ ps) h zero p e = let same : q ≡ p = cc in subst (Apart n off) same h.0
apart_each n off (q ∷ ps) h (suc j) p e = apart_each n off ps h.1 j p e

pub apart_other : (n off number : ℕ) (ps : List Piece) → OthersApart n off number ps → (j : ℕ) (p : Piece) → slice_get ps j ≡ Some p → (j ≡ number → ⊥) → Apart n off p
apart_other n off number [] h j p e other = absurd (cc)
apart_other n off zero (q ∷ ps) h zero p e other = absurd (other refl)
apart_other n off zero (q ∷ ps) h (suc j) p e other = apart_each n off ps h j p e
apart_other n off (suc k) (q ∷ ps) h zero p e other = let same : q ≡ p = cc in subst (Apart n off) same h.0
apart_other n off (suc k) (q ∷ ps) h (suc j) p e other = apart_other n off k ps h.1 j p e (λ g. other (ap suc g))

-- the piece that holds a byte, which is at a place among the bytes of all, with the byte's address
pub record Holder (ps : List Piece) (edges : List ℕ) (end : ℕ) (n off at : ℕ) : Type 0 where
  pub number : ℕ
  pub piece : Piece
  pub there : slice_get ps number ≡ Some piece
  pub function : piece.function ≡ n
  pub from : piece.from ≤ off
  pub to : off < piece.to
  pub edge : IsEdge edges end piece.to
  pub last : piece.to ≤ end
  pub others : OthersApart n off number ps
  pub address : (places starts : List ℕ) (k : ℕ) → address_from places starts k ps (record { function = n; offset = off }) ≡ slice_index starts (slice_index places (k + number)) + (off - piece.from)
  pub run : (start : ℕ → ℕ) (k front : ℕ) → address_at (runs_from start k front ps) (front + at) ≡ start (k + number) + (off - piece.from)
  pub in_room : (start : ℕ → ℕ) (k front : ℕ) → front + at < end_of_runs (runs_from start k front ps)

-- the cuts of a function end behind any offset before them
pub rising_past : (from : ℕ) (cs : List ℕ) (end : ℕ) → Rising from cs end → from < end
rising_past from [] end h = h
rising_past from (c ∷ cs) end h = let x = rising_past c cs end h.1 in omega (arith, x, h.0)

number_same : (k : ℕ) → k ≡ k + 0
number_same k = omega arith

number_next : (k j : ℕ) → k + 1 + j ≡ k + suc j
number_next k j = omega arith

-- the address of a place in the first run
first_run : (start : ℕ → ℕ) (k front : ℕ) (p : Piece) (ps : List Piece) (at : ℕ) → at < piece_len p → address_at (runs_from start k front (p ∷ ps)) (front + at) ≡ start (k + 0) + at
first_run start k front p ps at lt =
    let here : nat_lt (front + at) (front + piece_len p) ≡ true = grind (arith, nat_tests) in
    let far : front + at - front ≡ at = omega arith in
    let none : k ≡ k + 0 = omega arith in
    ap (λ t. if t then start k + (front + at - front) else address_at (runs_from start (k + 1) (front + piece_len p) ps) (front + at)) here ∙
    ap (λ m. start k + m) far ∙ ap (λ j. start j + at) none

-- and behind it
later_run : (start : ℕ → ℕ) (k front : ℕ) (p : Piece) (ps : List Piece) (at : ℕ) → address_at (runs_from start k front (p ∷ ps)) (front + (piece_len p + at)) ≡ address_at (runs_from start (k + 1) (front + piece_len p) ps) (front + piece_len p + at)
later_run start k front p ps at =
    let past : nat_lt (front + (piece_len p + at)) (front + piece_len p) ≡ false = grind (arith, nat_tests) in
    let same : front + (piece_len p + at) ≡ front + piece_len p + at = omega arith in
    ap (λ t. if t then start k + (front + (piece_len p + at) - front) else address_at (runs_from start (k + 1) (front + piece_len p) ps) (front + (piece_len p + at))) past ∙
    ap (address_at (runs_from start (k + 1) (front + piece_len p) ps)) same

module _ (n off : ℕ) where
  -- the byte
  abbrev byte : CodeAt
  byte = record { function = n; offset = off }

  -- its address where the first piece holds it
  first_has : (places starts : List ℕ) (k : ℕ) (p : Piece) (ps : List Piece) → p.function ≡ n → p.from ≤ off → off < p.to → address_from places starts k (p ∷ ps) byte ≡ slice_index starts (slice_index places (k + 0)) + (off - p.from)
  first_has places starts k p ps e a b =
      let same : nat_eq p.function n ≡ true = grind (arith, nat_tests) in
      let low : nat_le p.from off ≡ true = grind (arith, nat_tests) in
      let high : nat_lt off p.to ≡ true = grind (arith, nat_tests) in
      let none : k ≡ k + 0 = omega arith in
      rw (same, low, high) (ap (λ j. slice_index starts (slice_index places j) + (off - p.from)) none)

  -- and where it ends before
  not_first : (places starts : List ℕ) (k : ℕ) (p : Piece) (ps : List Piece) → p.to ≤ off → address_from places starts k (p ∷ ps) byte ≡ address_from places starts (k + 1) ps byte
  not_first places starts k p ps le =
      let high : nat_lt off p.to ≡ false = grind (arith, nat_tests) in
      let none : has_byte p byte ≡ false = and_right (nat_eq p.function n) _ (and_right (nat_le p.from off) _ high) in
      rw none refl

  -- the first piece holds it
  held_first : (from to : ℕ) (edges : List ℕ) (end : ℕ) (rest : List Piece) → Each (Apart n off) rest → from ≤ off → off < to → IsEdge edges end to → to ≤ end → Holder (record { function = n; from = from; to = to } ∷ rest) edges end n off (off - from)
  held_first from to edges end rest apart a b edge last =
      let p : Piece = record { function = n; from = from; to = to } in
      let inside : off - from < piece_len p = omega arith in
      record {
        number = 0;
        piece = p;
        there = refl;
        function = refl;
        from = a;
        to = b;
        edge = edge;
        last = last;
        others = apart;
        address = λ places starts k. first_has places starts k p rest refl a b;
        run = λ start k front. first_run start k front p rest (off - from) inside;
        in_room = λ start k front. omega (arith, inside);
      }

  -- a later piece does
  held_later : (p : Piece) (rest : List Piece) (edges : List ℕ) (end at : ℕ) → p.to ≤ off → Holder rest edges end n off at → (c : ℕ) → Holder (p ∷ rest) (c ∷ edges) end n off (piece_len p + at)
  held_later p rest edges end at le x c = record {
    number = suc x.number;
    piece = x.piece;
    there = x.there;
    function = x.function;
    from = x.from;
    to = x.to;
    edge = inr x.edge;
    last = x.last;
    others = (inr (inr le), x.others);
    address = λ places starts k. not_first places starts k p rest le ∙ x.address places starts (k + 1) ∙ ap (λ j. slice_index starts (slice_index places j) + (off - x.piece.from)) (number_next k x.number);
    run = λ start k front. later_run start k front p rest at ∙ x.run start (k + 1) (front + piece_len p) ∙ ap (λ j. start j + (off - x.piece.from)) (number_next k x.number);
    in_room = λ start k front. let y = x.in_room start (k + 1) (front + piece_len p) in omega (arith, y);
  }

  -- the holder among the pieces of the function
  -- pieces behind the byte don't hold it
  behind_apart : (from : ℕ) (cs : List ℕ) (end : ℕ) (rest : List Piece) → Rising from cs end → off < from → Each (Apart n off) rest → Each (Apart n off) (pieces_between n from cs end ++ rest)
  behind_apart from [] end rest h lt apart = (inr (inl lt), apart)
  behind_apart from (c ∷ cs) end rest h lt apart = (inr (inl lt), behind_apart c cs end rest h.1 (omega (arith, lt, h.0)) apart)

  held_between : (from : ℕ) (cs : List ℕ) (end : ℕ) (rest : List Piece) → Rising from cs end → Each (Apart n off) rest → from ≤ off → off < end → Holder (pieces_between n from cs end ++ rest) cs end n off (off - from)
  held_between from [] end rest h apart a b = held_first from end [] end rest apart a b refl (omega arith)
  held_between from (c ∷ cs) end rest h apart a b = by_side (λ le. held_between c cs end rest h.1 apart le b) (nat_lt off c) refl
    where
      by_side : (c ≤ off → Holder (pieces_between n c cs end ++ rest) cs end n off (off - c)) → (t : Bool) → nat_lt off c ≡ t → Holder (pieces_between n from (c ∷ cs) end ++ rest) (c ∷ cs) end n off (off - from)
      by_side later true e =
          let lt : off < c = grind (arith, nat_tests) in
          let past = rising_past c cs end h.1 in
          held_first from c (c ∷ cs) end (pieces_between n c cs end ++ rest) (behind_apart c cs end rest h.1 lt apart) a lt (inl refl) (omega (arith, past))
      by_side later false e =
          let le : c ≤ off = grind (arith, nat_tests) in
          let split : c - from + (off - c) ≡ off - from = omega (arith, le, h.0) in
          subst (Holder (pieces_between n from (c ∷ cs) end ++ rest) (c ∷ cs) end n off) split
          (held_later (record { function = n; from = from; to = c }) (pieces_between n c cs end ++ rest) cs end (off - c) le (later le) c)

-- how many pieces a function has with these cuts
abbrev pub count : List ℕ → ℕ
count cs = suc (length cs)

-- pieces of another function don't hold the byte
skipped : (m : ℕ) (c : CodeAt) → nat_eq m c.function ≡ false → (places starts : List ℕ) (k from : ℕ) (cs : List ℕ) (end : ℕ) (rest : List Piece) → address_from places starts k (pieces_between m from cs end ++ rest) c ≡ address_from places starts (k + count cs) rest c
skipped m c e places starts k from [] end rest = rw e refl
skipped m c e places starts k from (d ∷ cs) end rest =
    let next : k + 1 + count cs ≡ k + count (d ∷ cs) = omega arith in
    rw e (skipped m c e places starts (k + 1) d cs end rest ∙ ap (λ j. address_from places starts j rest c) next)

-- they come before the others
behind_get : (m from : ℕ) (cs : List ℕ) (end : ℕ) (rest : List Piece) (k : ℕ) → slice_get (pieces_between m from cs end ++ rest) (count cs + k) ≡ slice_get rest k
behind_get m from [] end rest k =
    let one : count [] + k ≡ suc k = omega arith in
    ap (slice_get (pieces_between m from [] end ++ rest)) one
behind_get m from (d ∷ cs) end rest k =
    let one : count (d ∷ cs) + k ≡ suc (count cs + k) = omega arith in
    ap (slice_get (pieces_between m from (d ∷ cs) end ++ rest)) one ∙ behind_get m d cs end rest k

-- and so do their runs
behind_run : (m from : ℕ) (cs : List ℕ) (end : ℕ) (rest : List Piece) → Rising from cs end → (start : ℕ → ℕ) (k front at : ℕ) →
    address_at (runs_from start k front (pieces_between m from cs end ++ rest)) (front + (end - from + at)) ≡ address_at (runs_from start (k + count cs) (front + (end - from)) rest) (front + (end - from) + at)
behind_run m from [] end rest h start k front at = later_run start k front (record { function = m; from = from; to = end }) rest at
behind_run m from (c ∷ cs) end rest h start k front at =
    let past = rising_past c cs end h.1 in
    let split : end - from + at ≡ c - from + (end - c + at) = omega (arith, past, h.0) in
    let whole : front + (c - from) + (end - c) ≡ front + (end - from) = omega (arith, past, h.0) in
    let next : k + 1 + count cs ≡ k + count (c ∷ cs) = omega arith in
    ap (λ x. address_at (runs_from start k front (pieces_between m from (c ∷ cs) end ++ rest)) (front + x)) split ∙
    later_run start k front (record { function = m; from = from; to = c }) (pieces_between m c cs end ++ rest) (end - c + at) ∙
    behind_run m c cs end rest h.1 start (k + 1) (front + (c - from)) at ∙
    ap (λ x. address_at (runs_from start (k + 1 + count cs) x rest) (x + at)) whole ∙
    ap (λ j. address_at (runs_from start j (front + (end - from)) rest) (front + (end - from) + at)) next

-- nor is their room less
behind_room : (m from : ℕ) (cs : List ℕ) (end : ℕ) (rest : List Piece) → Rising from cs end → (start : ℕ → ℕ) (k front : ℕ) → end_of_runs (runs_from start (k + count cs) (front + (end - from)) rest) ≤ end_of_runs (runs_from start k front (pieces_between m from cs end ++ rest))
behind_room m from [] end rest h start k front = omega arith
behind_room m from (c ∷ cs) end rest h start k front =
    let past = rising_past c cs end h.1 in
    let whole : front + (c - from) + (end - c) ≡ front + (end - from) = omega (arith, past, h.0) in
    let next : k + 1 + count cs ≡ k + count (c ∷ cs) = omega arith in
    let x = behind_room m c cs end rest h.1 start (k + 1) (front + (c - from)) in
    let same : end_of_runs (runs_from start (k + 1 + count cs) (front + (c - from) + (end - c)) rest) ≡ end_of_runs (runs_from start (k + count (c ∷ cs)) (front + (end - from)) rest) = ap (λ j. end_of_runs (runs_from start j (front + (c - from) + (end - c)) rest)) next ∙ ap (λ y. end_of_runs (runs_from start (k + count (c ∷ cs)) y rest)) whole in
    omega (arith, x, same)

-- both of a whole function
behind_function : (m : ℕ) (f : Func) (rest : List Piece) → Rising 0 f.cuts (length f.bytes) → (start : ℕ → ℕ) (k front at : ℕ) →
    address_at (runs_from start k front (pieces_of m f ++ rest)) (front + (length f.bytes + at)) ≡ address_at (runs_from start (k + count f.cuts) (front + length f.bytes) rest) (front + length f.bytes + at)
behind_function m f rest h start k front at =
    let none : length f.bytes - 0 ≡ length f.bytes = omega arith in
    subst (λ l. address_at (runs_from start k front (pieces_of m f ++ rest)) (front + (l + at)) ≡ address_at (runs_from start (k + count f.cuts) (front + l) rest) (front + l + at)) none
    (behind_run m 0 f.cuts (length f.bytes) rest h start k front at)

room_of_function : (m : ℕ) (f : Func) (rest : List Piece) → Rising 0 f.cuts (length f.bytes) → (start : ℕ → ℕ) (k front : ℕ) → end_of_runs (runs_from start (k + count f.cuts) (front + length f.bytes) rest) ≤ end_of_runs (runs_from start k front (pieces_of m f ++ rest))
room_of_function m f rest h start k front =
    let none : length f.bytes - 0 ≡ length f.bytes = omega arith in
    subst (λ l. end_of_runs (runs_from start (k + count f.cuts) (front + l) rest) ≤ end_of_runs (runs_from start k front (pieces_of m f ++ rest))) none
    (behind_room m 0 f.cuts (length f.bytes) rest h start k front)

-- pieces of another function don't hold a byte
other_apart : (n off m from : ℕ) (cs : List ℕ) (end : ℕ) (rest : List Piece) → n < m → Each (Apart n off) rest → Each (Apart n off) (pieces_between m from cs end ++ rest)
other_apart n off m from [] end rest lt h = (inl (λ e. omega (arith, e, lt)), h)
other_apart n off m from (c ∷ cs) end rest lt h = (inl (λ e. omega (arith, e, lt)), other_apart n off m c cs end rest lt h)

later_apart : (n off m : ℕ) (fs : List Func) → n < m → Each (Apart n off) (pieces_from m fs)
later_apart n off m [] lt = tt
later_apart n off m (f ∷ fs) lt = other_apart n off m 0 f.cuts (length f.bytes) (pieces_from (m + 1) fs) lt (later_apart n off (m + 1) fs (omega (arith, lt)))

skip_apart : (n off m from : ℕ) (cs : List ℕ) (end : ℕ) (rest : List Piece) (k : ℕ) → m < n → OthersApart n off k rest → OthersApart n off (count cs + k) (pieces_between m from cs end ++ rest)
skip_apart n off m from [] end rest k lt h =
    let one : suc k ≡ count [] + k = omega arith in
    subst (λ j. OthersApart n off j (pieces_between m from [] end ++ rest)) one (inl (λ e. omega (arith, e, lt)), h)
skip_apart n off m from (c ∷ cs) end rest k lt h =
    let one : suc (count cs + k) ≡ count (c ∷ cs) + k = omega arith in
    subst (λ j. OthersApart n off j (pieces_between m from (c ∷ cs) end ++ rest)) one (inl (λ e. omega (arith, e, lt)), skip_apart n off m c cs end rest k lt h)

-- a piece lies inside its function
pub record Inside (fs : List Func) (m : ℕ) (p : Piece) : Type 0 where
  pub number : ℕ
  pub func : Func
  pub function : p.function ≡ m + number
  pub found : slice_get fs number ≡ Some func
  pub order : p.from ≤ p.to
  pub to : p.to ≤ length func.bytes

-- the next function's
inside_more : (g : Func) (fs : List Func) (m : ℕ) (p : Piece) → Inside fs (m + 1) p → Inside (g ∷ fs) m p
inside_more g fs m p x = record { number = suc x.number; func = x.func; function = let e : p.function ≡ m + 1 + x.number = x.function in omega (arith, e); found = x.found; order = x.order; to = x.to }

inside_between : (f : Func) (fs : List Func) (m from : ℕ) (cs : List ℕ) (rest : List Piece) → Rising from cs (length f.bytes) → ((j : ℕ) (p : Piece) → slice_get rest j ≡ Some p → Inside (f ∷ fs) m p) → (j : ℕ) (p : Piece) → slice_get (pieces_between m from cs (length f.bytes) ++ rest) j ≡ Some p → Inside (f ∷ fs) m p
inside_between f fs m from [] rest h more zero p e =
    let same : record { function = m; from = from; to = length f.bytes } ≡ p = cc in
    subst (Inside (f ∷ fs) m) same (record { number = 0; func = f; function = omega arith; found = refl; order = omega (arith, h); to = omega arith })
inside_between f fs m from [] rest h more (suc j) p e = more j p e
inside_between f fs m from (c ∷ cs) rest h more zero p e =
    let past = rising_past c cs (length f.bytes) h.1 in
    let same : record { function = m; from = from; to = c } ≡ p = cc in
    subst (Inside (f ∷ fs) m) same (record { number = 0; func = f; function = omega arith; found = refl; order = omega (arith, h.0); to = omega (arith, past) })
inside_between f fs m from (c ∷ cs) rest h more (suc j) p e = inside_between f fs m c cs rest h.1 more j p e

pub inside : (m : ℕ) (fs : List Func) → AllRising fs → (j : ℕ) (p : Piece) → slice_get (pieces_from m fs) j ≡ Some p → Inside fs m p
inside m [] h j p e = absurd (cc)
inside m (f ∷ fs) h j p e = inside_between f fs m 0 f.cuts (pieces_from (m + 1) fs) h.0 (λ i q k. inside_more f fs m q (inside (m + 1) fs h.1 i q k)) j p e

-- the holder among the pieces of all functions
pub holder : (m : ℕ) (fs : List Func) (n : ℕ) (f : Func) (off : ℕ) → AllRising fs → slice_get fs n ≡ Some f → off < length f.bytes → Holder (pieces_from m fs) f.cuts (length f.bytes) (m + n) off (front_of fs n + off)
holder m [] n f off h e lt = absurd (cc)
holder m (g ∷ fs) zero f off h e lt =
    let same : g ≡ f = cc in
    let number : m ≡ m + 0 = omega arith in
    let none : off - 0 ≡ off = omega arith in
    let at : off ≡ 0 + off = omega arith in
    subst (λ x. Holder (pieces_of m g ++ pieces_from (m + 1) fs) f.cuts (length f.bytes) (m + 0) off x) at
    (subst (λ j. Holder (pieces_of m g ++ pieces_from (m + 1) fs) f.cuts (length f.bytes) j off off) number
    (subst (λ (x : Func). off < length x.bytes → Holder (pieces_of m g ++ pieces_from (m + 1) fs) x.cuts (length x.bytes) m off off) same
    (λ within. subst (Holder (pieces_of m g ++ pieces_from (m + 1) fs) g.cuts (length g.bytes) m off) none (held_between m off 0 g.cuts (length g.bytes) (pieces_from (m + 1) fs) h.0 (later_apart m off (m + 1) fs (omega arith)) (omega arith) within)) lt))
holder m (g ∷ fs) (suc n) f off h e lt =
    let x = holder (m + 1) fs n f off h.1 e lt in
    let number : m + 1 + n ≡ m + suc n = omega arith in
    let other : nat_eq m (m + 1 + n) ≡ false = grind (arith, nat_tests) in
    let far : length g.bytes + (front_of fs n + off) ≡ length g.bytes + front_of fs n + off = omega arith in
    subst (λ j. Holder (pieces_of m g ++ pieces_from (m + 1) fs) f.cuts (length f.bytes) j off (length g.bytes + front_of fs n + off)) number
    (subst (Holder (pieces_of m g ++ pieces_from (m + 1) fs) f.cuts (length f.bytes) (m + 1 + n) off) far (record {
      number = count g.cuts + x.number;
      piece = x.piece;
      there = behind_get m 0 g.cuts (length g.bytes) (pieces_from (m + 1) fs) x.number ∙ x.there;
      function = x.function;
      from = x.from;
      to = x.to;
      edge = x.edge;
      last = x.last;
      others = skip_apart (m + 1 + n) off m 0 g.cuts (length g.bytes) (pieces_from (m + 1) fs) x.number (omega arith) x.others;
      address = λ places starts k.
          skipped m (record { function = m + 1 + n; offset = off }) other places starts k 0 g.cuts (length g.bytes) (pieces_from (m + 1) fs) ∙
          x.address places starts (k + count g.cuts) ∙
          ap (λ j. slice_index starts (slice_index places j) + (off - x.piece.from)) (sum_again k (count g.cuts) x.number);
      run = λ start k front.
          behind_function m g (pieces_from (m + 1) fs) h.0 start k front (front_of fs n + off) ∙
          x.run start (k + count g.cuts) (front + length g.bytes) ∙
          ap (λ j. start j + (off - x.piece.from)) (sum_again k (count g.cuts) x.number);
      in_room = λ start k front.
          let y = x.in_room start (k + count g.cuts) (front + length g.bytes) in
          let z = room_of_function m g (pieces_from (m + 1) fs) h.0 start k front in
          omega (arith, y, z);
    }))
  where
    sum_again : (a b c : ℕ) → a + b + c ≡ a + (b + c)
    sum_again a b c = omega arith

-- behind the end of a function none of its pieces holds a byte
none_held : (n off : ℕ) (places starts : List ℕ) (k from : ℕ) (cs : List ℕ) (end : ℕ) (rest : List Piece) → Rising from cs end → end ≤ off → address_from places starts k (pieces_between n from cs end ++ rest) (record { function = n; offset = off }) ≡ address_from places starts (k + count cs) rest (record { function = n; offset = off })
none_held n off places starts k from [] end rest h le = not_first n off places starts k (record { function = n; from = from; to = end }) rest le
none_held n off places starts k from (c ∷ cs) end rest h le =
    let past = rising_past c cs end h.1 in
    let next : k + 1 + count cs ≡ k + count (c ∷ cs) = omega arith in
    not_first n off places starts k (record { function = n; from = from; to = c }) (pieces_between n c cs end ++ rest) (omega (arith, past, le)) ∙
    none_held n off places starts (k + 1) c cs end rest h.1 le ∙
    ap (λ j. address_from places starts j rest (record { function = n; offset = off })) next

-- no later function holds it
earlier : (c : CodeAt) (places starts : List ℕ) (k m : ℕ) (fs : List Func) → c.function < m → address_from places starts k (pieces_from m fs) c ≡ 0
earlier c places starts k m [] lt = refl
earlier c places starts k m (f ∷ fs) lt =
    let other : nat_eq m c.function ≡ false = grind (arith, nat_tests) in
    skipped m c other places starts k 0 f.cuts (length f.bytes) (pieces_from (m + 1) fs) ∙ earlier c places starts (k + count f.cuts) (m + 1) fs (omega arith)

-- a byte that no function has
pub nowhere : (off : ℕ) (places starts : List ℕ) (k m : ℕ) (fs : List Func) (n : ℕ) → AllRising fs → ((f : Func) → slice_get fs n ≡ Some f → length f.bytes ≤ off) → address_from places starts k (pieces_from m fs) (record { function = m + n; offset = off }) ≡ 0
nowhere off places starts k m [] n h none = refl
nowhere off places starts k m (f ∷ fs) zero h none =
    let same : m + 0 ≡ m = omega arith in
    rw same (none_held m off places starts k 0 f.cuts (length f.bytes) (pieces_from (m + 1) fs) h.0 (none f refl) ∙
    earlier (record { function = m; offset = off }) places starts (k + count f.cuts) (m + 1) fs (omega arith))
nowhere off places starts k m (f ∷ fs) (suc n) h none =
    let number : m + 1 + n ≡ m + suc n = omega arith in
    let other : nat_eq m (m + suc n) ≡ false = grind (arith, nat_tests) in
    skipped m (record { function = m + suc n; offset = off }) other places starts k 0 f.cuts (length f.bytes) (pieces_from (m + 1) fs) ∙
    ap (λ j. address_from places starts (k + count f.cuts) (pieces_from (m + 1) fs) (record { function = j; offset = off })) (sym number) ∙
    nowhere off places starts (k + count f.cuts) (m + 1) fs n h.1 none
