-- the mentions so far
use Rattle.std.proofs.Common.{◌≡◌, ◌++◌, map, take}
use Rattle.ir_core.specs.declared.module.Param.{Param}
use Rattle.ir_core.specs.Mentions.{OfType}
use Rattle.ir_names.proofs.mention.Mentions.add_params.Given as goal

abbrev pub invariant-loop-p : goal.invariant-loop-p
invariant-loop-p l = l.self ≡ l.initial.self ++ map (λ (p : Param). OfType p.ty) (take l.p-index l.params)
