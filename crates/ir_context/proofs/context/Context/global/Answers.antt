use Rattle.std.proofs.Common.{◌∙◌, ap, sym}
use Rattle.ir_core.specs.declared.module.GlobalVar.{GlobalVar}
use Rattle.ir_core.specs.declared.module.Module.{Module}
use Rattle.ir_core.specs.Names.{same_name, number_where}
use Rattle.ir_core.specs.Operands.{global_number}
use Rattle.ir_core.proofs.LookupLaws.{number-names}
use Rattle.ir_context.proofs.context.Context.global.Goals as goal

pub returns : goal.returns
returns c =
    c.number.ensures ∙ ap (number_where (λ n. same_name n c.args.name.now)) c.self.invariant.1
    ∙ sym (number-names (λ (g : GlobalVar). g.name) c.self.inside.whole.now.globals c.args.name.now) ∙ ap (λ (m : Module). global_number m c.args.name.now) c.self.view_is
