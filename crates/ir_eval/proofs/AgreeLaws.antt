-- The program of a valid module agrees with it.
use Rattle.ir_core.specs.declared.module.Module.{Module}
use Rattle.ir_core.specs.Refusals.{IsValid}
use Rattle.ir_sound.proofs.ValidTyped.{valid_typed}
use Rattle.ir_run.specs.Agreement.{Agrees}
use Rattle.ir_globals.proofs.SmallLaws.{valid_small}
use Rattle.ir_eval.proofs.BlockLaws.{typed_agrees}

-- since it is typed and small
pub valid_agrees : (m : Module) → IsValid m → Agrees m
valid_agrees m valid = typed_agrees m (valid_typed m valid) (valid_small m valid)
