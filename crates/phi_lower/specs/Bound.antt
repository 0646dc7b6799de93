-- How many steps a step of a module becomes at most.
use Rattle.std.specs.Prelude.{ℕ, ◌+◌, ◌*◌, length, map}
use Rattle.ir_core.specs.declared.module.Block.{Block}
use Rattle.ir_core.specs.declared.module.Function.{Function}
use Rattle.ir_core.specs.declared.module.Module.{Module}
use Rattle.ir_core.specs.Counts.{greatest}
use Rattle.phi_lower.specs.Lowered.{phis_of}

-- the most phis of a block
abbrev pub most_phis : Module → ℕ
most_phis m = greatest (map (λ (f : Function). greatest (map (λ (b : Block). length (phis_of b.insts)) f.blocks)) m.functions)

-- an edge: to its chunk, two moves for each phi, and on to the block
abbrev pub most_steps : Module → ℕ
most_steps m = 2 + 2 * most_phis m
