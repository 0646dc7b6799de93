-- the sum so far
use Rattle.std.proofs.Common.{◌≡◌, take}
use Rattle.std.specs.List.{sum_by}
use Rattle.ir_core.specs.declared.module.Function.{Function}
use Rattle.ir_core.specs.Counts.{told, steps_in}
use Rattle.ir_limits.proofs.steps.total.Given as goal

abbrev pub invariant-loop-f : goal.invariant-loop-f
invariant-loop-f l = l.sum ≡ told (sum_by (λ (f : Function). steps_in f.blocks) (take l.f-index l.whole.functions))
