-- the parameters so far
use Rattle.std.proofs.Common.{◌≡◌, map, take}
use Rattle.ir_core.specs.declared.module.Param.{Param}
use Rattle.ir_core.specs.Kinds.{kind_of}
use Rattle.ir_program.proofs.program.parameter_kinds.Given as goal

abbrev pub invariant-loop-p : goal.invariant-loop-p
invariant-loop-p l = l.kinds ≡ map (λ (p : Param). kind_of p.ty) (take l.p-index l.params)
