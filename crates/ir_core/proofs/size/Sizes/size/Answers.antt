use Rattle.std.proofs.Common.{◌∙◌, ap}
use Rattle.ir_core.specs.declared.size.Extent.{Extent}
use Rattle.ir_core.specs.Counts.{size_count}
use Rattle.ir_core.proofs.RowLaws.{size_over}
use Rattle.ir_core.proofs.size.Sizes.size.Goals as goal

pub returns : goal.returns
returns c =
    ap (λ (e : Extent). e.size) c.extent_over.ensures
    ∙ size_over c.self.inside.names c.as_slice.result.now c.self.inside.types.now c.args.ty.now c.self.invariant.0 (c.as_slice.ensures ∙ c.self.invariant.1)
    ∙ ap (λ types. size_count types c.args.ty.now) c.self.view_is
