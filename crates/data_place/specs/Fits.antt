-- What holds of a plan whose globals lie as data is placed, and whose functions have the addresses of slots.
use Rattle.std.specs.Prelude.{◌≡◌, ◌≢◌, ℕ, ◌+◌, ◌<◌, ◌^◌, List, length}
use Rattle.low_core.specs.declared.sel.Sel.{Sel}
use Rattle.low_core.specs.Plan.{Plan, Content, Lies, IsTaken, IsOffStack}
use Rattle.obj_core.specs.declared.address.SlotAddr.{SlotAddr}

-- the address of a slot that an object can have
abbrev pub IsSlotOfFew : SlotAddr → Type 0
IsSlotOfFew a = a.position < 2 ^ 20

-- globals and functions are at addresses of their own, off the stack and not at 0
pub record DataFits (sel : Sel) (contents : List Content) (plan : Plan) : Type 0 where
  pub globals : length plan.globals ≡ length contents
  pub globals_below : (g at : ℕ) (c : Content) → Lies plan contents g at c → at + length c.bytes < 2 ^ 64
  pub globals_apart : (g h at at2 i j : ℕ) (c d : Content) → Lies plan contents g at c → Lies plan contents h at2 d → g ≢ h →
      i < length c.bytes → j < length d.bytes → at + i ≢ at2 + j
  pub globals_off : (g at i : ℕ) (c : Content) → Lies plan contents g at c → i < length c.bytes → (at + i ≢ 0) × IsOffStack (at + i)
  pub functions_below : (f at : ℕ) → IsTaken sel plan f at → at < 2 ^ 64
  pub functions_off : (f at : ℕ) → IsTaken sel plan f at → (at ≢ 0) × IsOffStack at
  pub functions_beside : (f g at at2 i : ℕ) (c : Content) → IsTaken sel plan f at → Lies plan contents g at2 c → i < length c.bytes → at ≢ at2 + i
