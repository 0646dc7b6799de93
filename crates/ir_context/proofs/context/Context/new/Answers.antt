use Rattle.std.proofs.Common.{◌∙◌, ap, map}
use Rattle.ir_core.specs.declared.module.Function.{Function}
use Rattle.ir_core.specs.declared.module.GlobalVar.{GlobalVar}
use Rattle.ir_context.proofs.context.Context.new.Goals as goal

pub invariant_of-result : goal.invariant_of-result
invariant_of-result c = (
  c.in_ok-extents.ensures,
  c.in_ok-variables.ensures ∙ ap (map (λ (g : GlobalVar). g.name)) c.as_slice.ensures,
  c.in_ok-functions.ensures ∙ ap (map (λ (f : Function). f.name)) c.as_slice-2.ensures,
  c.requires.few,
)
