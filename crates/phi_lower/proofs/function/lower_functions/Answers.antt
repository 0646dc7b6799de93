use Rattle.phi_lower.proofs.Known.{labels_at}
use Rattle.phi_lower.proofs.function.lower_functions.Goals as goal

pub lower_function-requires : goal.lower_function-requires
lower_function-requires c = labels_at c.args.m.now c.as_slice-f-items.result.now c.loop-f.f-index c.f-item.result c.requires c.as_slice-f-items.ensures c.loop-f-test.true c.f-item.is
