-- Calls with numbers, from 1, and which of them fail.
use Rattle.std.specs.Prelude.{ℕ, ◌≡◌, ◌+◌, ◌-◌, ◌^◌, ◌==◌, min, Bool, true, false, List, Result, Ok, Err}
use Rattle.std.specs.List.{list_any}
use Rattle.rd_io.specs.declared.FileFail.{FileFail}
use Rattle.rd_io.specs.declared.FileFail.TheVariants as file
use Rattle.rd_io.specs.declared.PutFail.{PutFail}
use Rattle.rd_io.specs.declared.PutFail.TheVariants as put

-- one more, as far as 2^64 - 1
abbrev pub one_more : ℕ → ℕ
one_more n = min (n + 1) (2 ^ 64 - 1)

-- the call after so many calls is among those that fail
abbrev pub is_failing : List ℕ → ℕ → Bool
is_failing fails calls = list_any (λ n. n == one_more calls) fails

-- a call that takes fails exactly where it must
abbrev pub TakeFails : {T E : Type 0} → Bool → Result T E → Type 0
TakeFails must (Ok x) = must ≡ false
TakeFails must (Err e) = must ≡ true

-- the same for a call that puts
abbrev pub PutFails : {T : Type 0} → Bool → Result T PutFail → Type 0
PutFails must (Ok x) = must ≡ false
PutFails must (Err put.Failed) = must ≡ true
PutFails must (Err put.NoMemory) = must ≡ false

-- the same for a call that reads a file, which may want memory in any case
abbrev pub ReadFails : {T : Type 0} → Bool → Result T FileFail → Type 0
ReadFails must (Ok x) = must ≡ false
ReadFails must (Err file.Failed) = must ≡ true
ReadFails must (Err file.TooLong) = must ≡ false
ReadFails must (Err file.NoMemory) = Unit {0}
