-- An object that is put together of a program's functions suits the program.
use Rattle.std.proofs.Common.{◌≡◌, ◌≢◌, ℕ, zero, suc, ◌+◌, ◌<◌, List, [], ◌∷◌, length, map, Some, slice_get, refl, ap, sym, subst, inl, inr, ◌∙◌, arith}
use Rattle.std.specs.List.{All}
use Rattle.std.proofs.lemmas.List.Elements.{All-head, All-tail}
use Rattle.x86_core.specs.declared.reg.Reg.{Reg}
use Rattle.low_core.specs.declared.sel.Home.{Home}
use Rattle.low_core.specs.declared.sel.Home.TheVariants as home
use Rattle.low_core.specs.declared.sel.SelFun.{SelFun}
use Rattle.low_core.specs.declared.sel.Sel.{Sel}
use Rattle.low_core.specs.SelParts.{reads_of, assigns_of, end_reads, leads_to}
use Rattle.low_core.specs.SelParts as parts
use Rattle.low_core.specs.SelShaped.{IsAnyBelow, IsOpShaped, IsBlockShaped, IsFunShaped}
use Rattle.low_core.specs.SelWeights.{words_passed}
use Rattle.frame_rows.specs.declared.spot.Spot.TheVariants.{Frame}
use Rattle.frame_rows.specs.Bodies.{or_lowest, spot_of}
use Rattle.frame_rows.specs.Ties.{Differ}
use Rattle.frame_lower.specs.Alive.{Allotted}
use Rattle.frame_lower.specs.Frames.{spot, spots}
use Rattle.frame_lower.specs.Given.{IsInFrame}
use Rattle.frame_lower.specs.Planned.{HasOwn}

-- registers live as long as they are the function's
abbrev pub live_all : SelFun → ℕ → ℕ → ℕ → Type 0
live_all f k n x = x < f.registers

module _ (names : List Reg) (passed : ℕ) where
  -- the word of a register
  word_at : (homes : List Home) → All IsInFrame homes → (x : ℕ) → x < length homes → (k : ℕ) × (slice_get homes x ≡ Some (home.Frame k)) × (or_lowest (slice_get (map (spot names passed) homes) x) ≡ Frame (passed + k))
  word_at [] all x below = absurd (omega (arith, below))
  word_at (home.Color c ∷ hs) all x below = absurd (All-head IsInFrame (home.Color c) hs all)
  word_at (home.Frame k ∷ hs) all zero below = (k, refl, refl)
  word_at (home.Frame k ∷ hs) all (suc x) below = word_at hs (All-tail IsInFrame (home.Frame k) hs all) x (omega (arith, below))

module _ (names : List Reg) (f : SelFun) (homes : List Home) (own : HasOwn f homes) where
  -- two registers live apart
  pub differ : (x y : ℕ) → x < f.registers → y < f.registers → x ≢ y → Differ (spot_of (spots names f homes) x) (spot_of (spots names f homes) y)
  differ x y low high other =
      let long = own.long in
      let a = word_at names (words_passed f) homes own.in_frame x (omega (arith, low, long)) in
      let b = word_at names (words_passed f) homes own.in_frame y (omega (arith, high, long)) in
      subst (λ h. Differ h (spot_of (spots names f homes) y)) (sym a.2)
      (subst (Differ (Frame (words_passed f + a.0))) (sym b.2)
      (λ e. other (own.apart x y (home.Frame a.0) a.1 (b.1 ∙ ap (λ k. Some (home.Frame k)) (let z : b.0 ≡ a.0 = omega (arith, e) in z)))))

  -- and apart from the words that are passed
  pub behind_passed : (x j : ℕ) → x < f.registers → j < words_passed f → Differ (spot_of (spots names f homes) x) (Frame j)
  behind_passed x j low inside =
      let long = own.long in
      let a = word_at names (words_passed f) homes own.in_frame x (omega (arith, low, long)) in
      subst (λ h. Differ h (Frame j)) (sym a.2) (λ e. omega (arith, e, inside))

-- one of some numbers that are all below another one
one_below : (most x : ℕ) (ns : List ℕ) → All (λ n. n < most) ns → parts.IsOneOf x ns → x < most
one_below most x [] all is = absurd is
one_below most x (n ∷ ns) all is = elim is [
  | inl same ↦ let low = All-head (λ k. k < most) n ns all in omega (arith, same, low)
  | inr other ↦ one_below most x ns (All-tail (λ k. k < most) n ns all) other
]

-- what is all of a list at a number is all there
pub all_there : {X : Type 0} (P : X → Type 0) (xs : List X) (k : ℕ) (x : X) → All P xs → slice_get xs k ≡ Some x → P x
all_there P [] k x all there = absurd cc
all_there P (y ∷ xs) zero x all there = let same : y ≡ x = cc in subst P same (All-head P y xs all)
all_there P (y ∷ xs) (suc k) x all there = all_there P xs k x (All-tail P y xs all) there

-- so everything that lives keeps its word
pub allotted : (sel : Sel) (names : List Reg) (f : SelFun) (homes : List Home) → IsFunShaped sel f → HasOwn f homes → Allotted f (spot_of (spots names f homes)) (live_all f)
allotted sel names f homes shaped own = record {
  ops = λ k n b op is_block there.
      let s = all_there (IsOpShaped sel f) b.ops n op (all_there (IsBlockShaped sel f) f.blocks k b shaped.blocks is_block).ops there in
      record {
        reads = λ x is. one_below f.registers x (reads_of op) s.reads is;
        stays = λ x lives other. lives;
        apart = λ x r is lives other. differ names f homes own x r lives (subst (IsAnyBelow f.registers) is s.assigns) other;
      };
  end_reads = λ k n x b is_block none is. one_below f.registers x (end_reads b.end) (all_there (IsBlockShaped sel f) f.blocks k b shaped.blocks is_block).end_reads is;
  edges = λ k n d x b is_block none is lives. lives;
  params = λ x y is its other. differ names f homes own x y (one_below f.registers x f.params shaped.params is) (one_below f.registers y f.params shaped.params its) other;
}
