-- Runs, looked up by place and by number.
use Rattle.std.proofs.Common.{◌≡◌, ℕ, zero, suc, ◌+◌, ◌-◌, ◌<◌, ◌≤◌, true, false, List, [], ◌∷◌, ◌++◌, drop, append-nil, length, get_or, refl, sym, ◌∙◌, ap, subst, leb, leb-true, if◌then◌else◌, arith}
use Rattle.std.specs.Prelude.{Bool, Option, Some, None, slice_get, slice_index, nat_lt}
use Rattle.std.specs.List.Sorted.{IsNonDecreasingBy, IsPartitionPoint}
use Rattle.std.proofs.Math.Seq.{drop-length}
use Rattle.std.proofs.Math.Logic.{∥∥₁_elim}
use Rattle.std.proofs.Props.{props}
use Rattle.std.proofs.lemmas.Option.{slice_get_within}
use Rattle.std.proofs.lemmas.Bool.{lt-ltb, leb-false}
use Rattle.std.proofs.lemmas.Bool.Decides.{nat_tests}
use Rattle.obj_core.specs.declared.object.Object.{Object}
use Rattle.obj_core.specs.declared.object.Func.{Func}
use Rattle.obj_core.specs.declared.object.CodeAt.{CodeAt}
use Rattle.obj_core.specs.declared.run.Run.{Run}
use Rattle.obj_core.specs.declared.code.CodePlan.{CodePlan}
use Rattle.obj_core.specs.declared.piece.Piece.{Piece}
use Rattle.obj_core.specs.Pieces.{pieces, piece_len}
use Rattle.obj_core.specs.Placement.{address, address_from, inverse, order, starts}
use Rattle.obj_core.specs.Runs.{end_of_runs, address_at, runs_from}
use Rattle.obj_core.specs.Plans.{piece_start, piece_runs, fronts, planned, IsPlan}
use Rattle.obj_core.proofs.Fronts.{front_of, front_next, fronts_get, fronts_past}
use Rattle.obj_core.proofs.Pieces.{AllRising, holder, nowhere}
use Rattle.obj_core.proofs.Cuts.{all_rising}

-- where a run ends
abbrev pub end_of_run : Run → ℕ
end_of_run r = r.end

-- runs of pieces end where they begin or later
from_front : (g : ℕ → ℕ) (k front : ℕ) (ps : List Piece) (j : ℕ) (d : Run) → j < length (runs_from g k front ps) → front ≤ end_of_run (get_or (runs_from g k front ps) j d)
from_front g k front [] j d lt = absurd (omega (arith, lt))
from_front g k front (p ∷ ps) zero d lt = omega arith
from_front g k front (p ∷ ps) (suc j) d lt =
    let x = from_front g (k + 1) (front + piece_len p) ps j d (omega (arith, lt)) in
    omega (arith, x)

-- and one behind the other
pub runs_rise : (g : ℕ → ℕ) (k front : ℕ) (ps : List Piece) → IsNonDecreasingBy end_of_run (runs_from g k front ps)
runs_rise g k front [] i j d le lt = absurd (omega (arith, lt))
runs_rise g k front (p ∷ ps) zero zero d le lt = omega arith
runs_rise g k front (p ∷ ps) zero (suc j) d le lt = from_front g (k + 1) (front + piece_len p) ps j d (omega (arith, lt))
runs_rise g k front (p ∷ ps) (suc i) zero d le lt = absurd (omega (arith, le))
runs_rise g k front (p ∷ ps) (suc i) (suc j) d le lt = runs_rise g (k + 1) (front + piece_len p) ps i j d (omega (arith, le)) (omega (arith, lt))

-- a single run is one behind the other
pub one_rises : (r : Run) → IsNonDecreasingBy end_of_run (r ∷ [])
one_rises r zero zero d le lt = omega arith
one_rises r zero (suc j) d le lt = absurd (omega (arith, lt))
one_rises r (suc i) j d le lt = absurd (omega (arith, le, lt))

-- the run that holds a place is the first that ends behind it
pub run_found : (rs : List Run) (at k : ℕ) (d : Run) → ((j : ℕ) → j < k → end_of_run (get_or rs j d) ≤ at) → k < length rs → (p : ℕ) → at ≤ p → p < end_of_run (get_or rs k d)
    → address_at rs p ≡ (get_or rs k d).start + (p - (get_or rs k d).front)
run_found [] at k d before lt p le here = absurd (omega (arith, lt))
run_found (r ∷ rs) at zero d before lt p le here = ap (λ t. if t then r.start + (p - r.front) else address_at rs p) (lt-ltb p r.end here)
run_found (r ∷ rs) at (suc k) d before lt p le here =
    let first : r.end ≤ at = before 0 (omega arith) in
    let test : nat_lt p r.end ≡ false = grind (arith, nat_tests) in
    ap (λ t. if t then r.start + (p - r.front) else address_at rs p) test ∙
    run_found rs at k d (λ j h. before (suc j) (omega (arith, h))) (omega (arith, lt)) p le here

-- below the room there is such a run
pub run_there : (rs : List Run) (at k : ℕ) (d : Run) → at < end_of_runs rs → k ≤ length rs → ((j : ℕ) → j < k → end_of_run (get_or rs j d) ≤ at) → k < length rs
run_there [] at k d lt le before = absurd (omega (arith, lt))
run_there (r ∷ rs) at zero d lt le before = omega arith
run_there (r ∷ rs) at (suc k) d lt le before =
    let first : r.end ≤ at = before 0 (omega arith) in
    let more : at < end_of_runs rs = omega (arith, first, lt) in
    let x = run_there rs at k d more (omega (arith, le)) (λ j h. before (suc j) (omega (arith, h))) in
    omega (arith, x)

-- what a search for a place finds
pub record Located (rs ys : List Run) (at k : ℕ) (d : Run) : Type 0 where
  pub within : k < length ys
  pub ahead : at < end_of_run (get_or ys k d)
  pub addresses : (p : ℕ) → at ≤ p → p < end_of_run (get_or ys k d) → address_at rs p ≡ (get_or ys k d).start + (p - (get_or ys k d).front)

located_here : (rs : List Run) (at k : ℕ) (d : Run) → at < end_of_runs rs → k ≤ length rs → IsPartitionPoint (λ (r : Run). leb r.end at ≡ true) (λ (r : Run). leb r.end at ≡ false) rs k → Located rs rs at k d
located_here rs at k d lt le point =
    let before : (j : ℕ) → j < k → end_of_run (get_or rs j d) ≤ at = λ j h. leb-true _ _ (point.0 j d (omega arith) h) in
    let within : k < length rs = run_there rs at k d lt le before in
    record {
      within = within;
      ahead = leb-false _ _ (point.1 k d (omega arith) within);
      addresses = run_found rs at k d before within;
    }

pub located : (rs xs ys : List Run) (at k : ℕ) (d : Run) → xs ≡ rs → ys ≡ rs → at < end_of_runs rs → k ≤ length xs → IsPartitionPoint (λ (r : Run). leb r.end at ≡ true) (λ (r : Run). leb r.end at ≡ false) xs k → Located rs ys at k d
located rs xs ys at k d e f lt le point =
    subst (λ zs. Located rs zs at k d) (sym f)
    (located_here rs at k d lt (subst (λ zs. k ≤ length zs) e le) (subst (λ zs. IsPartitionPoint (λ (r : Run). leb r.end at ≡ true) (λ (r : Run). leb r.end at ≡ false) zs k) e point))

-- the address of a place by a run that may not be there
abbrev pub by_run : Option Run → ℕ → ℕ
by_run None at = 0
by_run (Some r) at = r.start + (at - r.front)

-- the first run that ends behind a place gives its address
pub address_looked : (rs : List Run) (at k : ℕ) → ((j : ℕ) (d : Run) → j < k → end_of_run (get_or rs j d) ≤ at) → ((r : Run) → slice_get rs k ≡ Some r → at < r.end) → address_at rs at ≡ by_run (slice_get rs k) at
address_looked [] at k before here = refl
address_looked (r ∷ rs) at zero before here = ap (λ t. if t then r.start + (at - r.front) else address_at rs at) (lt-ltb at r.end (here r refl))
address_looked (r ∷ rs) at (suc k) before here =
    let first : r.end ≤ at = before 0 r (omega arith) in
    let test : nat_lt at r.end ≡ false = grind (arith, nat_tests) in
    ap (λ t. if t then r.start + (at - r.front) else address_at rs at) test ∙
    address_looked rs at k (λ j d h. before (suc j) d (omega (arith, h))) here

-- what a search for a place that may not be there finds
pub record Sought (rs : List Run) (at k : ℕ) : Type 0 where
  pub ahead : (r : Run) → slice_get rs k ≡ Some r → at < r.end
  pub address : address_at rs at ≡ by_run (slice_get rs k) at

pub sought : (rs xs : List Run) (at k : ℕ) → xs ≡ rs → IsNonDecreasingBy end_of_run rs → k ≤ length xs → IsPartitionPoint (λ (r : Run). leb r.end at ≡ true) (λ (r : Run). leb r.end at ≡ false) xs k → Sought rs at k
sought rs xs at k e rising le point =
    let here : IsPartitionPoint (λ (r : Run). leb r.end at ≡ true) (λ (r : Run). leb r.end at ≡ false) rs k = subst (λ zs. IsPartitionPoint (λ (r : Run). leb r.end at ≡ true) (λ (r : Run). leb r.end at ≡ false) zs k) e point in
    let long : k ≤ length rs = subst (λ zs. k ≤ length zs) e le in
    let ahead : (r : Run) → slice_get rs k ≡ Some r → at < r.end =
    λ r h. let within = slice_get_within rs k r h in leb-false _ _ (subst (λ x. leb (end_of_run x) at ≡ false) (get_is rs k r h) (here.1 k r (omega arith) within)) in
    record { ahead = ahead; address = address_looked rs at k (λ j d h. leb-true _ _ (here.0 j d (omega (arith, long, h)) h)) ahead }
  where
    get_is : (ys : List Run) (j : ℕ) (r : Run) → slice_get ys j ≡ Some r → get_or ys j r ≡ r
    get_is [] j r h = refl
    get_is (y ∷ ys) zero r h = cc
    get_is (y ∷ ys) (suc j) r h = get_is ys j r h

-- past the end nothing is
get_past : (fs : List Func) (n : ℕ) → slice_get fs n ≡ None → length fs ≤ n
get_past [] n e = omega arith
get_past (f ∷ fs) zero e = absurd (cc)
get_past (f ∷ fs) (suc n) e = let x = get_past fs n e in omega (arith, x)

-- the address of a byte by the front of its function and that of the next
abbrev by_fronts : Object → ℕ → ℕ → ℕ → ℕ → ℕ
by_fronts o seed front next off = if nat_lt (front + off) next then address_at (piece_runs o seed) (front + off) else 0

module _ (o : Object) (seed : ℕ) (rising : AllRising o.functions) where
  -- the address that a plan gives a byte that a function has
  pub planned_there : (n off : ℕ) (f : Func) → slice_get o.functions n ≡ Some f → off < length f.bytes → address_at (piece_runs o seed) (front_of o.functions n + off) ≡ address o seed (record { function = n; offset = off })
  unfolding address piece_runs
  planned_there n off f e lt =
      let x = holder 0 o.functions n f off rising e lt in
      let none : 0 + (front_of o.functions n + off) ≡ front_of o.functions n + off = omega arith in
      let number : 0 + n ≡ n = omega arith in
      ap (address_at (runs_from (piece_start o seed) 0 0 (pieces o))) (sym none) ∙
      x.run (piece_start o seed) 0 0 ∙
      sym (ap (λ m. address_from (inverse (order o seed)) (starts o seed) 0 (pieces o) (record { function = m; offset = off })) (sym number) ∙ x.address (inverse (order o seed)) (starts o seed) 0)

  -- and the one that it gives a byte that there is not
  not_there : (n off : ℕ) → ((f : Func) → slice_get o.functions n ≡ Some f → length f.bytes ≤ off) → address o seed (record { function = n; offset = off }) ≡ 0
  unfolding address
  not_there n off none =
      let number : 0 + n ≡ n = omega arith in
      ap (λ m. address_from (inverse (order o seed)) (starts o seed) 0 (pieces o) (record { function = m; offset = off })) (sym number) ∙
      nowhere off (inverse (order o seed)) (starts o seed) 0 0 o.functions n rising none

  by_function : (n off : ℕ) (x : Option Func) → slice_get o.functions n ≡ x → by_fronts o seed (slice_index (fronts o.functions) n) (slice_index (fronts o.functions) (n + 1)) off ≡ address o seed (record { function = n; offset = off })
  by_function n off None e =
      let past = get_past o.functions n e in
      let next : slice_index (fronts o.functions) (n + 1) ≡ 0 = fronts_past o.functions (n + 1) 0 (omega (arith, past)) in
      let test : nat_lt (slice_index (fronts o.functions) n + off) 0 ≡ false = grind (arith, nat_tests) in
      ap (λ m. by_fronts o seed (slice_index (fronts o.functions) n) m off) next ∙
      ap (λ t. if t then address_at (piece_runs o seed) (slice_index (fronts o.functions) n + off) else 0) test ∙
      sym (not_there n off (λ f h. let no : None ≡ Some f = sym e ∙ h in absurd (cc)))
  by_function n off (Some f) e =
      let within = slice_get_within o.functions n f e in
      let more : n + 1 ≡ suc n = omega arith in
      let front : slice_index (fronts o.functions) n ≡ front_of o.functions n = fronts_get o.functions n 0 (omega (arith, within)) ∙ omega arith in
      let next : slice_index (fronts o.functions) (n + 1) ≡ front_of o.functions n + length f.bytes = ap (slice_index (fronts o.functions)) more ∙ fronts_get o.functions (suc n) 0 (omega (arith, within)) ∙ (let y = front_next o.functions n f e in omega (arith, y)) in
      ap (λ m. by_fronts o seed m (slice_index (fronts o.functions) (n + 1)) off) front ∙
      ap (λ m. by_fronts o seed (front_of o.functions n) m off) next ∙
      by_side (nat_lt (front_of o.functions n + off) (front_of o.functions n + length f.bytes)) refl
    where
      by_side : (t : Bool) → nat_lt (front_of o.functions n + off) (front_of o.functions n + length f.bytes) ≡ t → (if t then address_at (piece_runs o seed) (front_of o.functions n + off) else 0) ≡ address o seed (record { function = n; offset = off })
      by_side true h = let lt : off < length f.bytes = grind (arith, nat_tests) in planned_there n off f e lt
      by_side false h = let le : length f.bytes ≤ off = grind (arith, nat_tests) in sym (not_there n off (λ g k. let same : f ≡ g = cc in subst (λ (x : Func). length x.bytes ≤ off) same le))

-- the address that a plan gives a byte is the layout's
pub planned_is : (plan : CodePlan) (c : CodeAt) (o : Object) (seed : ℕ) → IsPlan plan o seed → planned plan c ≡ address o seed c
planned_is plan c o seed is =
    ap (λ rs. if nat_lt (slice_index plan.fronts c.function + c.offset) (slice_index plan.fronts (c.function + 1)) then address_at rs (slice_index plan.fronts c.function + c.offset) else 0) is.runs ∙
    ap (λ fs. by_fronts o seed (slice_index fs c.function) (slice_index fs (c.function + 1)) c.offset) is.fronts_are ∙
    ∥∥₁_elim is.well_formed (hlevel props) (λ w. by_function o seed (all_rising o w) c.function c.offset (slice_get o.functions c.function) refl)

-- so the runs that are made rise, once no piece is left
pub all_rise : (g : ℕ → ℕ) (all : List Run) (front i : ℕ) (fs : List Piece) → length fs ≡ i → all ++ runs_from g i front (drop i fs) ≡ runs_from g 0 0 fs → IsNonDecreasingBy end_of_run all
all_rise g all front i fs long whole =
    let none : drop i fs ≡ [] = ap (λ k. drop k fs) (sym long) ∙ drop-length fs in
    let same : runs_from g 0 0 fs ≡ all = sym whole ∙ ap (λ gs. all ++ runs_from g i front gs) none ∙ append-nil all in
    subst (IsNonDecreasingBy end_of_run) same (runs_rise g 0 0 fs)
