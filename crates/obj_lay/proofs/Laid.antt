-- Code whose first functions have their displacements.
use Rattle.std.proofs.Common.{◌≡◌, ℕ, zero, suc, ◌+◌, ◌-◌, ◌<◌, ◌≤◌, Bool, true, false, List, [], ◌∷◌, ◌++◌, length, drop, get_or, Option, Some, None, if◌then◌else◌, refl, sym, ◌∙◌, ap, subst, arith, length-append}
use Rattle.std.specs.Prelude.{nat_eq, nat_lt, slice_get, slice_index, slice_set, option_map, ℤ}
use Rattle.std.proofs.Math.Logic.{∥∥₁_elim}
use Rattle.std.proofs.Math.Bridge.{le_prop}
use Rattle.std.proofs.Props.{props}
use Rattle.std.proofs.lemmas.Bool.Decides.{nat_tests}
use Rattle.std.proofs.lemmas.List.{length-take, length-drop, length-map}
use Rattle.std.proofs.lemmas.Option.{slice_get_within, slice_get_read, slice_get-get_or, slice_get-map}
use Rattle.rd_draw.specs.Draw.{keystream_word}
use Rattle.rd_draw.proofs.Permuted.{shuffled_below, shuffled_apart}
use Rattle.x86_core.specs.declared.instr.Instr.{Instr}
use Rattle.x86_core.specs.declared.instr.Instr.TheVariants.{Jcc, Jmp}
use Rattle.x86_core.specs.Arithmetic.{moved}
use Rattle.x86_core.specs.Encoding.{encoding}
use Rattle.obj_core.specs.declared.object.Object.{Object}
use Rattle.obj_core.specs.declared.object.Func.{Func}
use Rattle.obj_core.specs.declared.object.Link.{Link}
use Rattle.obj_core.specs.declared.object.CodeAt.{CodeAt}
use Rattle.obj_core.specs.declared.code.CodePlan.{CodePlan}
use Rattle.obj_core.specs.declared.piece.Piece.{Piece}
use Rattle.obj_core.specs.declared.run.Run.{Run}
use Rattle.obj_core.specs.Slots.{positions}
use Rattle.obj_core.specs.Pieces.{pieces, piece_len}
use Rattle.obj_core.specs.Disassembly.{Found, found, found_from, instrs_in, size_of, spelled}
use Rattle.obj_core.specs.WellFormed.{IsWellFormed, displacement, end_of}
use Rattle.obj_core.specs.Placement.{order, order_purpose, gap_purpose, index_in, code_base, piece_in, or_no_piece, pieces_in, row, starts, address}
use Rattle.obj_core.specs.Runs.{address_at, end_of_runs}
use Rattle.obj_core.specs.Plans.{piece_start, piece_runs, planned, IsPlan}
use Rattle.obj_core.specs.Layout.{Way, way_of, ways_of, branch_ways, link_ways, led, behind, filled_by, filled_in, bytes_by, bytes_in, piece_bytes, code_from, code_bytes}
use Rattle.obj_core.proofs.Inside.{disassembly_at, all_inside}
use Rattle.obj_core.proofs.Orders.{IsListed, shuffled_stands, inverse_index}
use Rattle.obj_core.proofs.Fronts.{code_len, front_of, front_next, front_small}
use Rattle.obj_core.proofs.Pieces.{Apart, apart_other, Holder, holder, inside}
use Rattle.obj_core.proofs.Cuts.{all_rising}
use Rattle.obj_core.proofs.Looked.{planned_is, planned_there}
use Rattle.obj_core.proofs.Totals.{order_as_many}
use Rattle.obj_lay.specs.Putting.{put_ways}
use Rattle.obj_lay.proofs.Instructions.{instrs_known}
use Rattle.obj_lay.proofs.Filling.{changed, code_same, one_changes, AllWithin, put_all}
use Rattle.obj_lay.proofs.Lengths.{led_long}
use Rattle.obj_lay.proofs.hidden.Standing.{starts_low}

-- functions of which the first have their displacements
abbrev pub progress : Object → ℕ → ℕ → ℕ → List ℕ
progress o seed n m = if nat_lt m n then filled_in (address o seed) (positions o) o.functions m else bytes_in o.functions m

-- their code
unfoldable pub written : Object → ℕ → ℕ → List ℕ
written o seed n = code_from (progress o seed n) (code_base seed) (starts o seed) (row o seed)

-- none of them
pub written_first : (plan : CodePlan) (o : Object) (seed : ℕ) → IsPlan plan o seed → code_from (bytes_in o.functions) plan.base plan.starts (pieces_in plan.pieces plan.order) ≡ written o seed 0
unfolding written
written_first plan o seed is =
    ap (λ b. code_from (bytes_in o.functions) b plan.starts (pieces_in plan.pieces plan.order)) is.base ∙
    ap (λ ss. code_from (bytes_in o.functions) (code_base seed) ss (pieces_in plan.pieces plan.order)) is.starts_are ∙
    ap (λ ps. code_from (bytes_in o.functions) (code_base seed) (starts o seed) (pieces_in ps plan.order)) is.pieces_are ∙
    ap (λ ks. code_from (bytes_in o.functions) (code_base seed) (starts o seed) (pieces_in (pieces o) ks)) is.order_is ∙
    code_same (bytes_in o.functions) (progress o seed 0) (λ m. none m) (code_base seed) (starts o seed) (row o seed)
  where
    none : (m : ℕ) → bytes_in o.functions m ≡ progress o seed 0 m
    none m = let test : nat_lt m 0 ≡ false = grind (arith, nat_tests) in sym (ap (λ t. if t then filled_in (address o seed) (positions o) o.functions m else bytes_in o.functions m) test)

-- all of them
pub written_last : (o : Object) (seed n : ℕ) → length o.functions ≤ n → written o seed n ≡ code_bytes o seed
unfolding written code_bytes
written_last o seed n le = code_same (progress o seed n) (filled_in (address o seed) (positions o) o.functions) all (code_base seed) (starts o seed) (row o seed)
  where
    past : (fs : List Func) (m : ℕ) → length fs ≤ m → slice_get fs m ≡ None
    past [] m h = refl
    past (f ∷ fs) zero h = absurd (omega arith)
    past (f ∷ fs) (suc m) h = past fs m (omega arith)

    by_test : (m : ℕ) (t : Bool) → nat_lt m n ≡ t → (if t then filled_in (address o seed) (positions o) o.functions m else bytes_in o.functions m) ≡ filled_in (address o seed) (positions o) o.functions m
    by_test m true e = refl
    by_test m false e =
        let none = past o.functions m (let h : n ≤ m = grind (arith, nat_tests) in omega (arith, h, le)) in
        ap bytes_by none ∙ sym (ap (filled_by (address o seed) (positions o) m) none)

    all : (m : ℕ) → progress o seed n m ≡ filled_in (address o seed) (positions o) o.functions m
    all m = by_test m (nat_lt m n) refl

-- ways by equal addresses
module _ (c d : CodeAt → ℕ) (same : (x : CodeAt) → c x ≡ d x) (n : ℕ) (f : Func) where
  way_same : (x : Found) (by : Option ℤ) → way_of c n f x by ≡ way_of d n f x by
  way_same x None = refl
  way_same x (Some by) = ap (λ a. if nat_lt (moved (end_of x) by) (length f.bytes) then record { at = end_of x - 4; to = a } ∷ [] else []) (same (record { function = n; offset = moved (end_of x) by }))

  ways_same : (xs : List Found) → ways_of c n f xs ≡ ways_of d n f xs
  ways_same [] = refl
  ways_same (x ∷ xs) = ap (λ ws. ws ++ ways_of c n f xs) (way_same x (displacement x.instr)) ∙ ap (λ ws. way_of d n f x (displacement x.instr) ++ ws) (ways_same xs)

  pub branches_same : (cuts : List ℕ) → branch_ways c n f cuts ≡ branch_ways d n f cuts
  branches_same [] = refl
  branches_same (k ∷ ks) = ways_same (instrs_in f.bytes)

-- ways inside a function
within_both : (size : ℕ) (vs ws : List Way) → AllWithin size vs → AllWithin size ws → AllWithin size (vs ++ ws)
within_both size [] ws h k = k
within_both size (v ∷ vs) ws h k = (h.0, within_both size vs ws h.1 k)

links_within : (size : ℕ) (at : List ℕ) (ls : List Link) → ((k : ℕ) (d : Link) → k < length ls → (get_or ls k d).at + 4 ≤ size) → AllWithin size (link_ways at ls)
links_within size at [] h = tt
links_within size at (l ∷ ls) h = (h 0 l (omega arith), links_within size at ls (λ k d lt. h (suc k) d (omega (arith, lt))))

-- a branch has its four bytes
branch_long : (i : Instr) (by : ℤ) → displacement i ≡ Some by → 4 ≤ size_of i
branch_long (Jcc c by) x e = omega arith
branch_long (Jmp by) x e = omega arith
branch_long i x e = absurd (cc)

module _ (code : CodeAt → ℕ) (n : ℕ) (f : Func) where
  way_within : (x : Found) (by : Option ℤ) → displacement x.instr ≡ by → end_of x ≤ length f.bytes → AllWithin (length f.bytes) (way_of code n f x by)
  way_within x None e le = tt
  way_within x (Some by) e le = by_test (nat_lt (moved (end_of x) by) (length f.bytes))
    where
      four : end_of x - 4 + 4 ≤ length f.bytes
      four = let size = branch_long x.instr by e in omega (arith, size, le)

      by_test : (t : Bool) → AllWithin (length f.bytes) (if t then record { at = end_of x - 4; to = code (record { function = n; offset = moved (end_of x) by }) } ∷ [] else [])
      by_test true = (four, tt)
      by_test false = tt

  ways_within : (at : ℕ) (is : List Instr) → at + length (spelled is) ≤ length f.bytes → AllWithin (length f.bytes) (ways_of code n f (found_from at is))
  ways_within at [] le = tt
  ways_within at (i ∷ is) le =
      let long = length-append (encoding i) (spelled is) in
      within_both (length f.bytes) (way_of code n f (record { at = at; instr = i }) (displacement i)) (ways_of code n f (found_from (at + size_of i) is))
      (way_within (record { at = at; instr = i }) (displacement i) refl (omega (arith, long, le)))
      (ways_within (at + size_of i) is (omega (arith, long, le)))

  branches_within : (is : List Instr) → instrs_in f.bytes ≡ found is → length (spelled is) ≡ length f.bytes → (cuts : List ℕ) → AllWithin (length f.bytes) (branch_ways code n f cuts)
  branches_within is e long [] = tt
  branches_within is e long (k ∷ ks) = subst (λ xs. AllWithin (length f.bytes) (ways_of code n f xs)) (sym e) (ways_within 0 is (omega (arith, long)))

module _ (o : Object) (w : IsWellFormed o) (seed n : ℕ) (f : Func) (there : slice_get o.functions n ≡ Some f) where
  -- the words that are drawn for gaps
  abbrev pub words : ℕ → ℕ
  words = keystream_word seed gap_purpose 0

  -- a piece of its number stands once in the row
  pub row_has : (j : ℕ) (p : Piece) → slice_get (pieces o) j ≡ Some p → IsListed (order o seed) j → slice_get (row o seed) (index_in (order o seed) j) ≡ Some p
  unfolding piece_in
  row_has j p e x =
      slice_get-map (piece_in (pieces o)) (order o seed) (index_in (order o seed) j) ∙
      ap (option_map (piece_in (pieces o))) (slice_get-get_or (order o seed) (index_in (order o seed) j) 0 x.within ∙ ap Some x.there) ∙
      ap (λ y. Some (or_no_piece y)) e

  pub listed : (j : ℕ) → j < length (pieces o) → IsListed (order o seed) j
  unfolding order
  listed j lt = shuffled_stands (keystream_word seed order_purpose 0) (length (pieces o)) j lt

  -- where another piece stands
  pub record Placed (q : ℕ) (r : Piece) : Type 0 where
    pub number : ℕ
    pub is : slice_get (pieces o) number ≡ Some r
    pub at : slice_index (order o seed) q ≡ number
    pub within : q < length (order o seed)

  pub placed : (q : ℕ) (r : Piece) → slice_get (row o seed) q ≡ Some r → Placed q r
  unfolding piece_in order
  placed q r e =
      let inside_row : q < length (row o seed) = slice_get_within (row o seed) q r e in
      let long : length (row o seed) ≡ length (order o seed) = length-map (order o seed) (piece_in (pieces o)) in
      let count = order_as_many o seed in
      let lt : q < length (order o seed) = omega (arith, inside_row, long) in
      let j = slice_index (order o seed) q in
      let below : j < length (pieces o) = shuffled_below (keystream_word seed order_purpose 0) (length (pieces o)) q 0 lt in
      let got : slice_get (row o seed) q ≡ Some (or_no_piece (slice_get (pieces o) j)) = slice_get-map (piece_in (pieces o)) (order o seed) q ∙ ap (option_map (piece_in (pieces o))) (slice_get-get_or (order o seed) q 0 lt) in
      let same : or_no_piece (slice_get (pieces o) j) ≡ r = cc in
      record { number = j; is = get_there (pieces o) j below ∙ ap Some (sym (ap or_no_piece (get_there (pieces o) j below)) ∙ same); at = refl; within = lt }
    where
      get_there : (ps : List Piece) (k : ℕ) → k < length ps → slice_get ps k ≡ Some (get_or ps k (record { function = 0; from = 0; to = 0 }))
      get_there [] k h = absurd (omega (arith, h))
      get_there (y ∷ ys) zero h = refl
      get_there (y ∷ ys) (suc k) h = get_there ys k (omega (arith, h))

  pub one_place : (p q : ℕ) → p < length (order o seed) → q < length (order o seed) → slice_index (order o seed) p ≡ slice_index (order o seed) q → p ≡ q
  unfolding order
  one_place p q = shuffled_apart (keystream_word seed order_purpose 0) (length (pieces o)) p q

  -- a byte of the function in its piece
  abbrev pub has : (k : ℕ) → k < length f.bytes → Holder (pieces o) f.cuts (length f.bytes) (0 + n) k (front_of o.functions n + k)
  has k lt = holder 0 o.functions n f k (all_rising o w) there lt

  -- the code with other bytes of the function
  abbrev code : List ℕ → List ℕ
  code bytes = code_from (changed (progress o seed n) n bytes) (code_base seed) (starts o seed) (row o seed)

  -- the pieces of a function whose bytes are as many lie inside
  part_long : (bytes : List ℕ) → length bytes ≡ length f.bytes → (j : ℕ) (r : Piece) → slice_get (row o seed) j ≡ Some r → length (piece_bytes (changed (progress o seed n) n bytes) r) ≡ piece_len r
  part_long bytes long j r e =
      let p = placed j r e in
      let x = inside 0 o.functions (all_rising o w) p.number r p.is in
      let function : r.function ≡ x.number = let y : r.function ≡ 0 + x.number = x.function in omega (arith, y) in
      let size : length (changed (progress o seed n) n bytes r.function) ≡ length x.func.bytes = ap (λ m. length (changed (progress o seed n) n bytes m)) function ∙ long_of x.number x.func x.found in
      let first = length-take (piece_len r) (drop r.from (changed (progress o seed n) n bytes r.function)) in
      let rest = length-drop r.from (changed (progress o seed n) n bytes r.function) in
      let to : r.to ≤ length x.func.bytes = x.to in
      omega (arith, size, first, rest, to)
    where
      by_lt : (m : ℕ) (g : Func) → slice_get o.functions m ≡ Some g → (t : Bool) → length (if t then filled_in (address o seed) (positions o) o.functions m else bytes_in o.functions m) ≡ length g.bytes
      by_lt m g h true = ap (λ x. length (filled_by (address o seed) (positions o) m x)) h ∙ led_long (behind (address o seed) m) (branch_ways (address o seed) m g g.cuts ++ link_ways (positions o) g.links) g.bytes
      by_lt m g h false = ap (λ x. length (bytes_by x)) h

      by_eq : (m : ℕ) (g : Func) → slice_get o.functions m ≡ Some g → (t : Bool) → nat_eq m n ≡ t → length (if t then bytes else progress o seed n m) ≡ length g.bytes
      by_eq m g h true same = let e : m ≡ n = grind (arith, nat_tests) in let both : f ≡ g = cc in long ∙ ap (λ (y : Func). length y.bytes) both
      by_eq m g h false other = by_lt m g h (nat_lt m n)

      long_of : (m : ℕ) (g : Func) → slice_get o.functions m ≡ Some g → length (changed (progress o seed n) n bytes m) ≡ length g.bytes
      long_of m g h = by_eq m g h (nat_eq m n) refl

  -- a byte that is put at its address
  one : (bytes : List ℕ) (k x : ℕ) → length bytes ≡ length f.bytes → k < length f.bytes → slice_set (code bytes) (address_at (piece_runs o seed) (front_of o.functions n + k) - code_base seed) x ≡ code (slice_set bytes k x)
  unfolding piece_runs starts
  one bytes k x long lt =
      let h = has k lt in
      let number : 0 + n ≡ n = omega arith in
      let none : 0 + (front_of o.functions n + k) ≡ front_of o.functions n + k = omega arith in
      let first : 0 + h.number ≡ h.number = omega arith in
      let below = slice_get_within (pieces o) h.number h.piece h.there in
      let many = order_as_many o seed in
      let l = listed h.number below in
      let q = index_in (order o seed) h.number in
      let start : piece_start o seed h.number ≡ slice_index (starts o seed) q = ap (slice_index (starts o seed)) (inverse_index (order o seed) h.number (omega (arith, below, many))) in
      let low = starts_low words 1 (code_base seed) (row o seed) q h.piece (row_has h.number h.piece h.there l) in
      let address_is : address_at (piece_runs o seed) (front_of o.functions n + k) ≡ slice_index (starts o seed) q + (k - h.piece.from) =
      ap (address_at (piece_runs o seed)) (sym none) ∙ h.run (piece_start o seed) 0 0 ∙ ap (λ j. piece_start o seed j + (k - h.piece.from)) first ∙ ap (λ a. a + (k - h.piece.from)) start in
      let far : slice_index (starts o seed) q + (k - h.piece.from) - code_base seed ≡ slice_index (starts o seed) q - code_base seed + (k - h.piece.from) = omega (arith, low) in
      ap (λ a. slice_set (code bytes) (a - code_base seed) x) address_is ∙
      ap (λ a. slice_set (code bytes) a x) far ∙
      one_changes (progress o seed n) n k x bytes words 1 (code_base seed) (row o seed) q h.piece (row_has h.number h.piece h.there l) (h.function ∙ number) h.from h.to
      (λ j r e other. let p = placed j r e in subst (λ m. Apart m k r) number (apart_other (0 + n) k h.number (pieces o) h.others p.number r p.is (λ g. other (one_place j q p.within l.within (p.at ∙ g ∙ sym l.there)))))
      (part_long bytes long)

  -- the address behind four bytes
  ends : (at : ℕ) → at + 4 ≤ length f.bytes → address_at (piece_runs o seed) (front_of o.functions n + at + 3) + 1 ≡ behind (address o seed) n at
  ends at le =
      let same : front_of o.functions n + at + 3 ≡ front_of o.functions n + (at + 3) = omega arith in
      ap (λ a. address_at (piece_runs o seed) a + 1) same ∙ ap (λ a. a + 1) (planned_there o seed (all_rising o w) n (at + 3) f there (omega (arith, le)))

  -- all ways of the function
  abbrev ways : List Way
  ways = branch_ways (address o seed) n f f.cuts ++ link_ways (positions o) f.links

  all_within : AllWithin (length f.bytes) ways
  all_within =
      let x = disassembly_at o.functions w.disassemblies w.disassembled n f there in
      within_both (length f.bytes) (branch_ways (address o seed) n f f.cuts) (link_ways (positions o) f.links)
      (branches_within (address o seed) n f x.instrs (instrs_known f.bytes x.instrs x.is_disassembly) (ap length x.is_disassembly.whole) f.cuts)
      (links_within (length f.bytes) (positions o) f.links (all_inside o ∣ w ∣₁ n f there))

  -- before them, and behind
  before : written o seed n ≡ code f.bytes
  unfolding written
  before = code_same (progress o seed n) (changed (progress o seed n) n f.bytes) each (code_base seed) (starts o seed) (row o seed)
    where
      here : (m : ℕ) → m ≡ n → progress o seed n m ≡ f.bytes
      here m e =
          let test : nat_lt m n ≡ false = grind (arith, nat_tests) in
          ap (λ t. if t then filled_in (address o seed) (positions o) o.functions m else bytes_in o.functions m) test ∙
          ap (λ i. bytes_by (slice_get o.functions i)) e ∙ ap bytes_by there

      by_test : (m : ℕ) (t : Bool) → nat_eq m n ≡ t → progress o seed n m ≡ (if t then f.bytes else progress o seed n m)
      by_test m true e = here m (let same : m ≡ n = grind (arith, nat_tests) in same)
      by_test m false e = refl

      each : (m : ℕ) → progress o seed n m ≡ changed (progress o seed n) n f.bytes m
      each m = by_test m (nat_eq m n) refl

  after : code (led (behind (address o seed) n) ways f.bytes) ≡ written o seed (n + 1)
  unfolding written
  after = code_same (changed (progress o seed n) n (led (behind (address o seed) n) ways f.bytes)) (progress o seed (n + 1)) each (code_base seed) (starts o seed) (row o seed)
    where
      by_lt : ℕ → Bool → List ℕ
      by_lt m t = if t then filled_in (address o seed) (positions o) o.functions m else bytes_in o.functions m

      here : (m : ℕ) → m ≡ n → led (behind (address o seed) n) ways f.bytes ≡ progress o seed (n + 1) m
      here m e =
          let test : nat_lt m (n + 1) ≡ true = grind (arith, nat_tests) in
          sym (ap (by_lt m) test ∙ ap (λ i. filled_by (address o seed) (positions o) i (slice_get o.functions i)) e ∙ ap (filled_by (address o seed) (positions o) n) there)

      by_order : (m : ℕ) → (m ≡ n → ⊥) → nat_lt m n ≡ nat_lt m (n + 1)
      by_order m other = grind (arith, nat_tests)

      by_test : (m : ℕ) (t : Bool) → nat_eq m n ≡ t → (if t then led (behind (address o seed) n) ways f.bytes else progress o seed n m) ≡ progress o seed (n + 1) m
      by_test m true e = here m (let same : m ≡ n = grind (arith, nat_tests) in same)
      by_test m false e = ap (by_lt m) (by_order m (λ g. let same : nat_eq m n ≡ true = grind (arith, nat_tests) in absurd (cc)))

      each : (m : ℕ) → changed (progress o seed n) n (led (behind (address o seed) n) ways f.bytes) m ≡ progress o seed (n + 1) m
      each m = by_test m (nat_eq m n) refl

  -- the function's displacements are put
  pub one_written : put_ways (piece_runs o seed) (code_base seed) (front_of o.functions n) ways (written o seed n) ≡ written o seed (n + 1)
  one_written =
      ap (put_ways (piece_runs o seed) (code_base seed) (front_of o.functions n) ways) before ∙
      put_all (piece_runs o seed) (code_base seed) (front_of o.functions n) code (length f.bytes) (behind (address o seed) n) one ends f.bytes ways refl all_within ∙
      after

  -- the function has room
  pub room_is : front_of o.functions n + length f.bytes ≤ end_of_runs (piece_runs o seed)
  unfolding piece_runs
  room_is =
      let x = disassembly_at o.functions w.disassemblies w.disassembled n f there in
      let some : 1 ≤ length f.bytes = x.some in
      let last = (has (length f.bytes - 1) (omega (arith, some))).in_room (piece_start o seed) 0 0 in
      omega (arith, last, some)

-- what is asked of a builder for a function, and what it has then
pub record Ready (plan : CodePlan) (o : Object) (seed n : ℕ) (f : Func) (at : List ℕ) (base : ℕ) (runs : List Run) (bytes : List ℕ) (front : ℕ) : Type 0 where
  pub small : front + length f.bytes ≤ 67108864
  pub room_left : front + length f.bytes ≤ end_of_runs runs
  pub next : front + length f.bytes ≡ front_of o.functions (n + 1)
  pub after : put_ways runs base front (branch_ways (planned plan) n f f.cuts ++ link_ways at f.links) bytes ≡ written o seed (n + 1)

pub ready : (plan : CodePlan) (o : Object) (seed n : ℕ) (f : Func) (at : List ℕ) (base : ℕ) (runs : List Run) (bytes : List ℕ) (front : ℕ) → IsPlan plan o seed → slice_get o.functions n ≡ Some f → code_len o.functions ≤ 67108864
    → at ≡ positions o → base ≡ code_base seed → runs ≡ piece_runs o seed → bytes ≡ written o seed n → front ≡ front_of o.functions n → Ready plan o seed n f at base runs bytes front
ready plan o seed n f at base runs bytes front is there little at_is base_is runs_are bytes_are front_is =
    let known = is.well_formed in
    let reach = front_small o.functions n f there in
    let one : n + 1 ≡ suc n = omega arith in
    let room_there : front_of o.functions n + length f.bytes ≤ end_of_runs (piece_runs o seed) = ∥∥₁_elim known le_prop (λ w. room_is o w seed n f there) in
    let put : put_ways (piece_runs o seed) (code_base seed) (front_of o.functions n) (branch_ways (address o seed) n f f.cuts ++ link_ways (positions o) f.links) (written o seed n) ≡ written o seed (n + 1) = ∥∥₁_elim known (hlevel props) (λ w. one_written o w seed n f there) in
    subst (λ a. Ready plan o seed n f a base runs bytes front) (sym at_is)
    (subst (λ b. Ready plan o seed n f (positions o) b runs bytes front) (sym base_is)
    (subst (λ rs. Ready plan o seed n f (positions o) (code_base seed) rs bytes front) (sym runs_are)
    (subst (λ bs. Ready plan o seed n f (positions o) (code_base seed) (piece_runs o seed) bs front) (sym bytes_are)
    (subst (λ k. Ready plan o seed n f (positions o) (code_base seed) (piece_runs o seed) (written o seed n) k) (sym front_is)
    (record {
      small = omega (arith, reach, little);
      room_left = room_there;
      next = sym (ap (front_of o.functions) one ∙ front_next o.functions n f there);
      after =
          ap (λ ws. put_ways (piece_runs o seed) (code_base seed) (front_of o.functions n) (ws ++ link_ways (positions o) f.links) (written o seed n)) (branches_same (planned plan) (address o seed) (λ c. planned_is plan c o seed is) n f f.cuts) ∙ put;
    })))))

-- a function by its number
pub numbered : (fs gs : List Func) (n : ℕ) (f : Func) → gs ≡ fs → n < length gs → f ≡ get_or gs n f → slice_get fs n ≡ Some f
numbered fs gs n f e lt is = subst (λ hs. slice_get hs n ≡ Some f) e (slice_get_read gs (length gs) n f refl lt is)
