use Rattle.std.proofs.Common.{◌∙◌, ap, sym, Some, arith}
use Rattle.ir_core.specs.declared.module.Function.{Function}
use Rattle.ir_core.specs.declared.module.Module.{Module}
use Rattle.ir_core.specs.Names.{same_name, number_where}
use Rattle.ir_core.specs.Operands.{function_number}
use Rattle.ir_core.proofs.LookupLaws.{number-names}
use Rattle.ir_context.proofs.NumberLaws.{named_below}
use Rattle.ir_context.proofs.context.Context.function.Goals as goal

pub small_number-requires : goal.small_number-requires
small_number-requires c =
    let below = named_below (λ (f : Function). f.name) c.self.inside.whole.now.functions c.self.inside.functions c.args.name.now c.in-Some.k c.self.invariant.2 (sym (sym c.in-Some.is ∙ c.number.ensures)) in
    let few = c.self.invariant.3 in
    omega arith

pub returns-in-Some : goal.returns-in-Some
returns-in-Some c =
    ap Some c.small_number.ensures ∙ sym c.in-Some.is ∙ c.number.ensures ∙ ap (number_where (λ n. same_name n c.args.name.now)) c.self.invariant.2
    ∙ sym (number-names (λ (f : Function). f.name) c.self.inside.whole.now.functions c.args.name.now) ∙ ap (λ (m : Module). function_number m c.args.name.now) c.self.view_is

pub returns-in-None : goal.returns-in-None
returns-in-None c =
    sym c.in-None.is ∙ c.number.ensures ∙ ap (number_where (λ n. same_name n c.args.name.now)) c.self.invariant.2
    ∙ sym (number-names (λ (f : Function). f.name) c.self.inside.whole.now.functions c.args.name.now) ∙ ap (λ (m : Module). function_number m c.args.name.now) c.self.view_is
