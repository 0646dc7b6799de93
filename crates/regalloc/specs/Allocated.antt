-- What is said of the homes of a program's registers.
use Rattle.std.specs.Prelude.{◌≡◌, ◌≢◌, ℕ, ◌<◌, List, length, Some, slice_get}
use Rattle.low_core.specs.declared.sel.Home.{Home}
use Rattle.low_core.specs.declared.sel.Home.TheVariants.{Frame}
use Rattle.low_core.specs.declared.sel.SelFun.{SelFun}
use Rattle.low_core.specs.Liveness.{InRange}
use Rattle.regalloc.specs.Occurs.{Occurs}
use Rattle.regalloc.specs.Ranges.{AreGapless}

-- each function with the homes of its registers
abbrev pub Each : (SelFun → List Home → Type 0) → List SelFun → List (List Home) → Type 0
Each P fs homes = (k : ℕ) (f : SelFun) (hs : List Home) → slice_get fs k ≡ Some f → slice_get homes k ≡ Some hs → P f hs

-- as many homes as registers
abbrev pub HasAll : SelFun → List Home → Type 0
HasAll f hs = length hs ≡ f.registers

-- registers whose ranges have a position in common have different homes
abbrev pub AreApartIn : SelFun → List Home → Type 0
AreApartIn f hs = (x y p : ℕ) (h g : Home) → x ≢ y → InRange f x p → InRange f y p → slice_get hs x ≡ Some h → slice_get hs y ≡ Some g → h ≢ g

-- the colours of the registers that occur are the numbers below some number, which is at most five
abbrev pub AreColorsOf : SelFun → List Home → Type 0
AreColorsOf f hs = AreGapless (Occurs f) hs

-- the number of a place of the frame is below that of registers
abbrev pub AreFramesOf : SelFun → List Home → Type 0
AreFramesOf f hs = (x k : ℕ) → slice_get hs x ≡ Some (Frame k) → k < f.registers
