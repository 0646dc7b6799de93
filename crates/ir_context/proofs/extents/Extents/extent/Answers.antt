use Rattle.std.proofs.Common.{◌∙◌, ap}
use Rattle.ir_core.specs.Sizes.{extent_in, names_in}
use Rattle.ir_context.specs.Extents.{extent_of}
use Rattle.ir_context.proofs.extents.Extents.extent.Goals as goal

pub returns : goal.returns
returns c =
    c.extent_over.ensures
    ∙ ap (λ ns. extent_in ns c.as_slice.result.now c.args.ty.now) c.self.invariant.0
    ∙ ap (λ rs. extent_in (names_in c.self.inside.types.now) rs c.args.ty.now) (c.as_slice.ensures ∙ c.self.invariant.1)
    ∙ ap (λ types. extent_of types c.args.ty.now) c.self.view_is
