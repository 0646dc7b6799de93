-- the most so far, and those to come
use Rattle.std.proofs.Common.{◌≡◌, ◌<◌, ◌^◌, drop, map, max}
use Rattle.ir_core.specs.declared.module.Param.{Param}
use Rattle.ir_core.specs.Counts.{greatest}
use Rattle.switch_lower.specs.Fresh.{zeros_of}
use Rattle.switch_lower.proofs.fresh.zeros_of_params.Given as goal

abbrev pub invariant-loop-p : goal.invariant-loop-p
invariant-loop-p l = record { within : l.most < 2 ^ 63; rest : max l.most (greatest (map zeros_of (map (λ (p : Param). p.name) (drop l.p-index l.params)))) ≡ greatest (map zeros_of (map (λ (p : Param). p.name) l.params)) }
