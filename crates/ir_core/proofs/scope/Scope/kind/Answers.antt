use Rattle.std.proofs.Common.{◌∙◌, ap, sym, Some, None}
use Rattle.ir_core.specs.declared.module.Function.{Function}
use Rattle.ir_core.specs.Valid.{locals_of, env_of}
use Rattle.ir_core.proofs.LocalLaws.{kind_looked_up}
use Rattle.ir_core.proofs.scope.Scope.kind.Goals as goal

pub returns-in-Some : goal.returns-in-Some
returns-in-Some c =
    c.copied.ensures ∙ c.get.ensures.value
    ∙ kind_looked_up (locals_of c.self.inside.function.now) c.self.inside.locals.names c.self.inside.locals.kinds c.args.name.now (Some c.in-Some.k) c.self.invariant.0 c.self.invariant.1 (sym c.in-Some.is ∙ c.number.ensures)
    ∙ ap (λ (f : Function). env_of f c.args.name.now) c.self.view_is

pub returns-in-None : goal.returns-in-None
returns-in-None c =
    kind_looked_up (locals_of c.self.inside.function.now) c.self.inside.locals.names c.self.inside.locals.kinds c.args.name.now None c.self.invariant.0 c.self.invariant.1 (sym c.in-None.is ∙ c.number.ensures)
    ∙ ap (λ (f : Function). env_of f c.args.name.now) c.self.view_is
