-- An object that the checker of guards took.
use Rattle.std.proofs.Common.{◌≡◌, subst}
use Rattle.obj_core.specs.declared.checked.Checked.{Checked}
use Rattle.guard_check.specs.Form.{HasGuardForm}
use Rattle.guard_check.specs.Straight.{NeverStrays}
use Rattle.rd_top.specs.Certifying.{IsGuarded}

pub guarded_so : (o kept : Checked) → HasGuardForm o.object → kept ≡ o → NeverStrays kept.object → IsGuarded o.object
guarded_so o kept form same straight = record { form = form; straight = subst (λ (c : Checked). NeverStrays c.object) same straight }
