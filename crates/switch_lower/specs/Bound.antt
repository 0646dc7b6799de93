-- How many steps a step of a program with switches becomes at most.
use Rattle.std.specs.Prelude.{ℕ, zero, suc, ◌+◌, ◌*◌, List, length, map, nat_le, if◌then◌else◌}
use Rattle.ir_core.specs.declared.instruction.Term.{Term}
use Rattle.ir_core.specs.declared.instruction.Term.TheVariants.{Switch}
use Rattle.low_core.specs.declared.moves.Chunk.{Chunk}
use Rattle.low_core.specs.declared.moves.Body.{Body}
use Rattle.ir_core.specs.Counts.{greatest}
use Rattle.switch_lower.specs.Tree.{ways_within}

-- the cases of an end
abbrev pub cases_at : Term → ℕ
cases_at (Switch ty a default cases) = length cases
cases_at other = 0

-- the most cases of a switch
abbrev pub most_cases : List Body → ℕ
most_cases bodies = greatest (map (λ (b : Body). greatest (map (λ (c : Chunk). cases_at c.end) b.chunks)) bodies)

-- the least depth, up to one that serves, of a tree with so many ways: the logarithm of a fourth of them
abbrev pub depth_within : ℕ → ℕ → ℕ
depth_within zero count = 0
depth_within (suc d) count = if nat_le count (ways_within d) then depth_within d count else suc d

abbrev pub depth_for : ℕ → ℕ
depth_for count = depth_within count count

-- to the tree, and two steps for each comparison: one at each depth, and four in a row
abbrev pub most_steps : List Body → ℕ
most_steps bodies = 9 + 2 * depth_for (most_cases bodies)
