use Rattle.std.proofs.Common.{[], ◌∙◌, ap}
use Rattle.ir_core.specs.declared.module.Function.{Function}
use Rattle.ir_core.specs.Definitions.{repeated, local_names}
use Rattle.ir_program.proofs.program.bodies.Goals as goal

pub make_body-requires : goal.make_body-requires
make_body-requires c = ap (λ (f : Function). repeated [] (local_names f)) c.f-item.is ∙ c.requires c.loop-f.f-index c.f-item.result c.loop-f-test.true
