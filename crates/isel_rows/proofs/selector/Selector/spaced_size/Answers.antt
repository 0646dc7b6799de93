use Rattle.std.proofs.Common.{ap}
use Rattle.ir_core.specs.declared.size.Extent.{Extent}
use Rattle.isel_rows.proofs.AllocaLaws.{by_size}
use Rattle.isel_rows.proofs.selector.Selector.spaced_size.Goals as goal

pub returns : goal.returns
returns c =
    by_size c.args.self.now.context.now.types c.args.ty.now c.args.count c.extent.result.size c.spaced_bytes.result
    (ap (λ (e : Extent). e.size) c.extent.ensures) c.spaced_bytes.ensures.value c.spaced_bytes.ensures.within
