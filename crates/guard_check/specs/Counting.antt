-- How many instructions of a guard are the last ones of a row.
use Rattle.std.specs.Prelude.{ℕ, ◌+◌, ◌&&◌, nat_lt, if◌then◌else◌, List, [], ◌∷◌}
use Rattle.x86_core.specs.declared.instr.Instr.{Instr}
use Rattle.x86_core.specs.declared.instr.Instr.TheVariants.{Ud2}
use Rattle.guard_check.specs.Guard.{guard, is_same}
use Rattle.guard_check.specs.Checking.{nth_of}

-- with one instruction more
abbrev pub next_of : ℕ → ℕ → Instr → ℕ
next_of slots count i =
    if nat_lt count 10 && is_same (nth_of Ud2 (guard slots) count) i then count + 1 else
    (if is_same (nth_of Ud2 (guard slots) 0) i then 1 else 0)

-- behind a row, the nearest instruction first
abbrev pub count_of : ℕ → List Instr → ℕ
count_of slots [] = 0
count_of slots (i ∷ behind) = next_of slots (count_of slots behind) i
