-- When a count of faults changes, and what else a failed read changes.
use Rattle.std.specs.Prelude.{ℕ, ◌≡◌, ◌+◌, ◌-◌, ◌^◌, ◌≤◌, min, List, Result, Ok, Err}
use Rattle.rd_io.specs.declared.FileFail.{FileFail}
use Rattle.rd_io.specs.declared.FileFail.TheVariants as file
use Rattle.rd_io.specs.declared.PutFail.{PutFail}
use Rattle.rd_io.specs.declared.PutFail.TheVariants as put
use Rattle.rd_io.specs.Told.{FilesTold}

-- the count went up, or stands at the end of its type
abbrev pub Rose : ℕ → ℕ → Type 0
Rose before now = min (before + 1) (2 ^ 64 - 1) ≤ now

-- a failed call raises the count, and every other leaves it
abbrev pub Caused : {T E : Type 0} → ℕ → ℕ → Result T E → Type 0
Caused before now (Ok x) = now ≡ before
Caused before now (Err e) = Rose before now × (before ≤ now)

-- the same for a call that may want memory
abbrev pub PutCaused : {T : Type 0} → ℕ → ℕ → Result T PutFail → Type 0
PutCaused before now (Ok x) = now ≡ before
PutCaused before now (Err put.Failed) = Rose before now × (before ≤ now)
PutCaused before now (Err put.NoMemory) = now ≡ before

-- a file of this name could not be read: the fault is counted, its name is kept, and no content is another
pub record Loses (old new : FilesTold) (name : List ℕ) : Type 0 where
  pub rose : Rose old.faults new.faults
  pub lost : new.lost ≡ name
  pub held : new.held ≡ old.held

-- a failed read loses the file, and every other leaves all that is told
abbrev pub FileCaused : {T : Type 0} → FilesTold → FilesTold → List ℕ → Result T FileFail → Type 0
FileCaused old new name (Ok x) = new ≡ old
FileCaused old new name (Err file.Failed) = Loses old new name
FileCaused old new name (Err file.TooLong) = new ≡ old
FileCaused old new name (Err file.NoMemory) = new ≡ old
