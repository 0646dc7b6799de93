-- Registers saved on the stack: rows that push them, and rows that take them back.
use Rattle.std.specs.Prelude.{◌≡◌, ◌≢◌, ℕ, ◌+◌, ◌*◌, ◌^◌, ◌<◌, ◌≤◌, ◌⊎◌, true, List, [], ◌∷◌, ◌++◌, length}
use Rattle.rd_num.specs.Number.{le_bytes, le_number}
use Rattle.x86_core.specs.declared.reg.Reg.{Reg}
use Rattle.x86_core.specs.declared.reg.Reg.TheVariants.{Rsp}
use Rattle.x86_core.specs.declared.instr.Instr.{Instr}
use Rattle.x86_core.specs.declared.instr.Instr.TheVariants.{Push, Pop}
use Rattle.x86_core.specs.declared.image.Segment.{Segment}
use Rattle.x86_core.specs.Registers.{word, with_word}
use Rattle.x86_core.specs.Memory.{reads, writes, one_covers}
use Rattle.x86_rows.specs.Addresses.{byte_at, range_at, AreDisjoint, SameShape}
use Rattle.x86_rows.specs.Straight.{Core, Through, exec}

-- addresses of which each range may be read and written
pub record IsStack (low high : ℕ) (ss : List Segment) : Type 0 where
  pub disjoint : AreDisjoint ss
  pub below : high < 2 ^ 64
  pub readable : (p n : ℕ) → low ≤ p → p + n ≤ high → 1 ≤ n → one_covers reads ss p n ≡ true
  pub writable : (p n : ℕ) → low ≤ p → p + n ≤ high → 1 ≤ n → one_covers writes ss p n ≡ true

-- the last of the registers is pushed first, so that the first one has the lowest address
abbrev pub push_row : List Reg → List Instr
push_row [] = []
push_row (r ∷ rs) = push_row rs ++ Push r ∷ []

abbrev pub pop_row : List Reg → List Instr
pop_row [] = []
pop_row (r ∷ rs) = Pop r ∷ pop_row rs

-- none of them is rsp
abbrev pub SpareRsp : List Reg → Type 0
SpareRsp [] = Unit {0}
SpareRsp (r ∷ rs) = (r ≢ Rsp) × SpareRsp rs

-- one of them
abbrev pub IsOneOf : Reg → List Reg → Type 0
IsOneOf r [] = ⊥
IsOneOf r (s ∷ rs) = (r ≡ s) ⊎ IsOneOf r rs

-- each register's word stands in eight bytes, one behind the other from an address on
abbrev pub AreSaved : List Segment → List Reg → ℕ → List ℕ → Type 0
AreSaved ss [] p regs = Unit {0}
AreSaved ss (r ∷ rs) p regs = (range_at ss p 8 ≡ le_bytes 8 (word regs r)) × AreSaved ss rs (p + 8) regs

-- what the pushes leave: the words from an address on, every other byte as it was, and that address in rsp
pub record Saves (rs : List Reg) (c : Core) (p : ℕ) : Type 0 where
  pub segments : List Segment
  pub gives : exec (push_row rs) c ≡ Through (record c { regs = with_word c.regs Rsp p; segments = segments })
  pub shape : SameShape c.segments segments
  pub saved : AreSaved segments rs p c.regs
  pub outside : (q : ℕ) → (q < p) ⊎ (p + 8 * length rs ≤ q) → byte_at segments q ≡ byte_at c.segments q

-- registers after the pops of what stands from an address on
abbrev pub restored : List Segment → List Reg → ℕ → List ℕ → List ℕ
restored ss [] p regs = regs
restored ss (r ∷ rs) p regs = restored ss rs (p + 8) (with_word (with_word regs Rsp (p + 8)) r (le_number (range_at ss p 8)))
