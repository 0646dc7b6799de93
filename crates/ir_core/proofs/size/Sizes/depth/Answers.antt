use Rattle.std.proofs.Common.{◌∙◌, ap}
use Rattle.ir_core.specs.declared.size.Extent.{Extent}
use Rattle.ir_core.specs.Counts.{depth_of}
use Rattle.ir_core.proofs.RowLaws.{depth_over}
use Rattle.ir_core.proofs.size.Sizes.depth.Goals as goal

pub returns : goal.returns
returns c =
    ap (λ (e : Extent). e.depth) c.extent_over.ensures
    ∙ depth_over c.self.inside.names c.as_slice.result.now c.self.inside.types.now c.args.ty.now c.self.invariant.0 (c.as_slice.ensures ∙ c.self.invariant.1)
    ∙ ap (λ types. depth_of types c.args.ty.now) c.self.view_is
