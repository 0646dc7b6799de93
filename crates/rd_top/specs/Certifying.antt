-- What `certify` tells of a well-formed object.
use Rattle.obj_core.specs.declared.object.Object.{Object}
use Rattle.guard_check.specs.Checking.{violation_of}
use Rattle.guard_check.specs.Form.{HasGuardForm, IsFirstUnguarded}
use Rattle.guard_check.specs.Straight.{NeverStrays}
use Rattle.rd_top.specs.declared.answer.Answer.{Answer}
use Rattle.rd_top.specs.declared.answer.Answer.TheVariants.{Guarded, Unguarded}

-- all four rules of guards hold, and no run strays, for every input and every list of steps and writes
pub record IsGuarded (o : Object) : Type 0 where
  pub form : HasGuardForm o
  pub straight : NeverStrays o

-- that the object is guarded; or the first rule that fails, where it fails first
abbrev pub Certified : Object → Answer → Type 0
Certified o Guarded = IsGuarded o
Certified o (Unguarded fault) = IsFirstUnguarded o (violation_of fault)
Certified o other = ⊥
