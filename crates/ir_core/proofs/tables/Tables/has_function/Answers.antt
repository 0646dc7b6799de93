use Rattle.std.proofs.Common.{◌∙◌, ap, sym}
use Rattle.std.specs.Prelude.{is_some}
use Rattle.ir_core.specs.declared.module.Function.{Function}
use Rattle.ir_core.specs.declared.module.Module.{Module}
use Rattle.ir_core.specs.Names.{same_name, number_where}
use Rattle.ir_core.specs.Operands.{function_number}
use Rattle.ir_core.proofs.LookupLaws.{number-names}
use Rattle.ir_core.proofs.tables.Tables.has_function.Goals as goal

pub returns : goal.returns
returns c =
    c.is_some.ensures
    ∙ ap is_some (c.number.ensures ∙ ap (number_where (λ n. same_name n c.args.name.now)) c.self.invariant.3 ∙ sym (number-names (λ (g : Function). g.name) c.self.inside.whole.now.functions c.args.name.now) ∙ ap (λ (m : Module). function_number m c.args.name.now) c.self.view_is)
