-- What ties a function's registers and the flat memory to the words and segments of the machine, between operations.
use Rattle.std.specs.Prelude.{◌≡◌, ◌≢◌, ℕ, ◌+◌, ◌*◌, ◌^◌, ◌<◌, ◌≤◌, Bool, true, false, List, Option, Some, Ok}
use Rattle.rd_num.specs.Number.{le_bytes}
use Rattle.x86_core.specs.declared.image.Segment.{Segment}
use Rattle.x86_core.specs.declared.reg.Reg.{Reg}
use Rattle.x86_core.specs.declared.reg.Reg.TheVariants.{Rax, Rcx, Rdx, Rbx, Rbp, Rsi, Rdi, R8, R9, R10, R11, R12, R13, R14}
use Rattle.x86_core.specs.Memory.{reads, writes, one_covers}
use Rattle.x86_rows.specs.Addresses.{byte_at, range_at, AreDisjoint}
use Rattle.low_core.specs.Flat.{Flat, is_inside, is_writable}
use Rattle.low_core.specs.SelState.{word_in}
use Rattle.frame_rows.specs.declared.spot.Spot.{Spot}
use Rattle.frame_rows.specs.declared.spot.Spot.TheVariants.{Own, Frame}
use Rattle.frame_rows.specs.Words.{Words, held_in}

-- the five processor registers that are homes
abbrev pub is_home : Reg → Bool
is_home Rbx = true
is_home Rbp = true
is_home R12 = true
is_home R13 = true
is_home R14 = true
is_home r = false

-- the nine that rows and calls may change, but for rsp and the depth in r15
abbrev pub is_scratch : Reg → Bool
is_scratch Rax = true
is_scratch Rcx = true
is_scratch Rdx = true
is_scratch Rsi = true
is_scratch Rdi = true
is_scratch R8 = true
is_scratch R9 = true
is_scratch R10 = true
is_scratch R11 = true
is_scratch r = false

-- a home in a frame of so many words
abbrev pub IsHome : ℕ → Spot → Type 0
IsHome words (Own r) = is_home r ≡ true
IsHome words (Frame k) = k < words

-- two homes
abbrev pub Differ : Spot → Spot → Type 0
Differ (Own r) (Own s) = r ≢ s
Differ (Own r) (Frame k) = Unit {0}
Differ (Frame k) (Own r) = Unit {0}
Differ (Frame k) (Frame j) = k ≢ j

-- the word that a home has
abbrev pub Keeps : Words → List Segment → Spot → ℕ → Type 0
Keeps w ss (Own r) n = held_in w r ≡ n
Keeps w ss (Frame k) n = range_at ss (w.rsp + 8 * k) 8 ≡ le_bytes 8 n

-- the words of a frame from an address on may be read and written
pub record Room (base words : ℕ) (ss : List Segment) : Type 0 where
  pub disjoint : AreDisjoint ss
  pub below : base + 8 * words < 2 ^ 64
  pub readable : (k : ℕ) → k < words → one_covers reads ss (base + 8 * k) 8 ≡ true
  pub writable : (k : ℕ) → k < words → one_covers writes ss (base + 8 * k) 8 ≡ true

-- the segments have each byte of the flat memory that is told, beside the words of the frame
pub record Contains (base words : ℕ) (flat : Flat) (ss : List Segment) : Type 0 where
  pub told : (p b : ℕ) → is_inside p 1 flat.spans ≡ true → flat.bytes p ≡ Some b → (byte_at ss p ≡ b) × (b < 256)
  pub readable : (p n : ℕ) → is_inside p n flat.spans ≡ true → 1 ≤ n → one_covers reads ss p n ≡ true
  pub writable : (p n : ℕ) → is_writable p n flat.spans ≡ true → 1 ≤ n → one_covers writes ss p n ≡ true
  pub beside : (p : ℕ) → is_inside p 1 flat.spans ≡ true → base ≤ p → p < base + 8 * words → ⊥

-- each live register that was assigned has its word in its home
pub record Tied (homes : ℕ → Spot) (base words : ℕ) (live : ℕ → Type 0) (registers : List (Option ℕ)) (flat : Flat) (w : Words) (ss : List Segment) : Type 0 where
  pub room : Room base words ss
  pub at_base : w.rsp ≡ base
  pub spots : (x : ℕ) → IsHome words (homes x)
  pub kept : (x n : ℕ) → live x → word_in registers x ≡ Ok n → Keeps w ss (homes x) n
  pub small : (x n : ℕ) → word_in registers x ≡ Ok n → n < 2 ^ 64
  pub memory : Contains base words flat ss
