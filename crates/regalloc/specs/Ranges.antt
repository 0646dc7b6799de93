-- Homes of registers that have ranges.
use Rattle.std.specs.Prelude.{◌≡◌, ◌≢◌, ℕ, ◌+◌, ◌^◌, ◌<◌, ◌≤◌, List, length, Option, Some, slice_get, All}
use Rattle.low_core.specs.declared.sel.Home.{Home}
use Rattle.low_core.specs.declared.sel.Home.TheVariants.{Color, Frame}
use Rattle.low_core.specs.SelShaped.{AreApart}
use Rattle.regalloc.specs.declared.range.Range.{Range}

-- each register has the place of the frame of its own number
abbrev pub AreFrames : List Home → Type 0
AreFrames hs = (x : ℕ) → x < length hs → slice_get hs x ≡ Some (Frame x)

abbrev pub AreOwnFrames : List Home → Type 0
AreOwnFrames hs = (x k : ℕ) → slice_get hs x ≡ Some (Frame k) → k ≡ x

-- a register's range
abbrev pub HasRange : List (Option Range) → ℕ → Range → Type 0
HasRange rs x a = slice_get rs x ≡ Some (Some a)

abbrev pub IsRanged : List (Option Range) → ℕ → Type 0
IsRanged rs x = (a : Range) × HasRange rs x a

abbrev pub AreRanges : List (Option Range) → Type 0
AreRanges rs = (x : ℕ) (a : Range) → HasRange rs x a → (a.low ≤ a.high) × (a.high + 1 < 2 ^ 32)

-- a position lies in a register's range
pub record Covers (rs : List (Option Range)) (p x : ℕ) : Type 0 where
  pub range : Range
  pub has : HasRange rs x range
  pub from_low : range.low ≤ p
  pub to_high : p ≤ range.high

-- registers that have one home have no position in common
abbrev pub AreSeparate : List (Option Range) → List Home → Type 0
AreSeparate rs hs = (x y p : ℕ) (h : Home) → x ≢ y → slice_get hs x ≡ Some h → slice_get hs y ≡ Some h → Covers rs p x → Covers rs p y → ⊥

-- the registers that have ranges, in an order in which these begin
pub record IsOrder (rs : List (Option Range)) (order : List ℕ) : Type 0 where
  pub within : (j x : ℕ) → slice_get order j ≡ Some x → x < length rs
  pub apart : (j k x : ℕ) → slice_get order j ≡ Some x → slice_get order k ≡ Some x → j ≡ k
  pub sorted : (j k x y : ℕ) (a b : Range) → j ≤ k → slice_get order j ≡ Some x → slice_get order k ≡ Some y → HasRange rs x a → HasRange rs y b → a.low ≤ b.low
  pub ranged : (j x : ℕ) → slice_get order j ≡ Some x → IsRanged rs x
  pub whole : (x : ℕ) (a : Range) → HasRange rs x a → (j : ℕ) × (slice_get order j ≡ Some x)

-- colours are the numbers below some number, none left out
pub record AreGapless (Occurs : ℕ → Type 0) (hs : List Home) : Type 0 where
  pub number : ℕ
  pub few : number ≤ 5
  pub below : (x c : ℕ) → slice_get hs x ≡ Some (Color c) → c < number
  pub used : (c : ℕ) → c < number → (x : ℕ) × (Occurs x × (slice_get hs x ≡ Some (Color c)))

-- six different registers
pub record AreSix (P : ℕ → Type 0) : Type 0 where
  pub six : List ℕ
  pub long : length six ≡ 6
  pub apart : AreApart six
  pub all : All P six

-- a register that has a range and a place of the frame is one of six at some position
abbrev pub AreCrowded : List (Option Range) → List Home → Type 0
AreCrowded rs hs = (x k : ℕ) (a : Range) → HasRange rs x a → slice_get hs x ≡ Some (Frame k) → AreSix (Covers rs a.low)
