-- Displacements between addresses, as numbers and as bytes.
use Rattle.std.proofs.Common.{◌≡◌, ℕ, suc, ◌+◌, ◌-◌, ◌*◌, ◌/◌, ◌%◌, ◌^◌, ◌<◌, ◌≤◌, Bool, true, false, [], ◌∷◌, if◌then◌else◌, refl, ◌∙◌, ap, arith}
use Rattle.std.specs.Prelude.{nat_le, ℤ, pos, negsuc}
use Rattle.std.proofs.lemmas.Bool.{leb-true, leb-false}
use Rattle.rd_num.specs.Number.{le_bytes}
use Rattle.x86_core.specs.Arithmetic.{moved}
use Rattle.x86_core.specs.Encoding.{number32, IsNumber32}
use Rattle.obj_core.specs.Placement.{displacement_bytes}

-- the way from an address to another
abbrev pub between : ℕ → ℕ → ℤ
between to from = if nat_le from to then pos (to - from) else negsuc (from - to - 1)

-- it leads there
pub between_leads : (to from : ℕ) → to < 2 ^ 64 → from < 2 ^ 64 → moved (from % 2 ^ 64) (between to from) ≡ to
between_leads to from a b = grind arith

-- it fits where the addresses are near
pub between_fits : (to from : ℕ) → to < from + 2 ^ 31 → from ≤ to + 2 ^ 31 → IsNumber32 (between to from)
between_fits to from a b = grind arith

-- four bytes of a number don't see what is above them
byte_same : (n m : ℕ) → (n + 256 * m) % 256 ≡ n % 256
byte_same n m = omega arith

-- nor do four
four_above : (n m : ℕ) → le_bytes 4 (n + 4294967296 * m) ≡ le_bytes 4 n
four_above n m =
    let a : n + 4294967296 * m ≡ n + 256 * (16777216 * m) = omega arith in
    let b : (n + 256 * (16777216 * m)) / 256 ≡ n / 256 + 256 * (65536 * m) = omega arith in
    let c : (n / 256 + 256 * (65536 * m)) / 256 ≡ n / 256 / 256 + 256 * (256 * m) = omega arith in
    let d : (n / 256 / 256 + 256 * (256 * m)) / 256 ≡ n / 256 / 256 / 256 + 256 * m = omega arith in
    ap (le_bytes 4) a ∙
    ap (λ x. x ∷ le_bytes 3 ((n + 256 * (16777216 * m)) / 256)) (byte_same n (16777216 * m)) ∙
    ap (λ y. n % 256 ∷ le_bytes 3 y) b ∙
    ap (λ x. n % 256 ∷ x ∷ le_bytes 2 ((n / 256 + 256 * (65536 * m)) / 256)) (byte_same (n / 256) (65536 * m)) ∙
    ap (λ y. n % 256 ∷ n / 256 % 256 ∷ le_bytes 2 y) c ∙
    ap (λ x. n % 256 ∷ n / 256 % 256 ∷ x ∷ le_bytes 1 ((n / 256 / 256 + 256 * (256 * m)) / 256)) (byte_same (n / 256 / 256) (256 * m)) ∙
    ap (λ y. n % 256 ∷ n / 256 % 256 ∷ n / 256 / 256 % 256 ∷ le_bytes 1 y) d ∙
    ap (λ x. n % 256 ∷ n / 256 % 256 ∷ n / 256 / 256 % 256 ∷ x ∷ []) (byte_same (n / 256 / 256 / 256) m)

-- the four bytes of a displacement are those of the way
by_order : (to from : ℕ) (t : Bool) → nat_le from to ≡ t → from < 2 ^ 63 → to < 2 ^ 63 → from ≤ to + 2 ^ 31 → le_bytes 4 ((to + 2 ^ 64 - from) % 2 ^ 64) ≡ number32 (if t then pos (to - from) else negsuc (from - to - 1))
by_order to from true e a b c =
    let le = leb-true from to e in
    let same : (to + 2 ^ 64 - from) % 2 ^ 64 ≡ to - from = omega arith in
    ap (le_bytes 4) same
by_order to from false e a b c =
    let lt = leb-false from to e in
    let same : (to + 2 ^ 64 - from) % 2 ^ 64 ≡ (2 ^ 32 - suc (from - to - 1)) + 4294967296 * 4294967295 = omega arith in
    ap (le_bytes 4) same ∙ four_above (2 ^ 32 - suc (from - to - 1)) 4294967295

-- and so for any two near addresses
pub displacement_between : (to from : ℕ) → from < 2 ^ 63 → to < 2 ^ 63 → from ≤ to + 2 ^ 31 → displacement_bytes to from ≡ number32 (between to from)
displacement_between to from a b c = by_order to from (nat_le from to) refl a b c

-- a branch within a function leads as far in a layout
pub local_leads : (a e : ℕ) (by : ℤ) → IsNumber32 by → a + e < 2 ^ 40 → moved e by < 2 ^ 32 → moved ((a + e) % 2 ^ 64) by ≡ a + moved e by
local_leads a e (pos n) h small low = omega (arith, h, small)
local_leads a e (negsuc n) h small low = omega (arith, h, small, low)
