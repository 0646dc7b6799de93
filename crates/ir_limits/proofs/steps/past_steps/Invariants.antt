-- the first of what is left is that of all
use Rattle.std.proofs.Common.{◌≡◌, drop, map}
use Rattle.ir_core.specs.declared.limit.TheConstants.{MAX_INSTRUCTIONS}
use Rattle.ir_core.specs.declared.module.Function.{Function}
use Rattle.ir_core.specs.Counts.{told, steps_in}
use Rattle.ir_limits.specs.Past.{first_past}
use Rattle.ir_limits.proofs.steps.past_steps.Given as goal

abbrev pub invariant-loop-f : goal.invariant-loop-f
invariant-loop-f l = first_past MAX_INSTRUCTIONS (map (λ (f : Function). told (steps_in f.blocks)) (drop l.f-index l.functions)) ≡ first_past MAX_INSTRUCTIONS (map (λ (f : Function). told (steps_in f.blocks)) l.functions)
