use Rattle.std.proofs.Common.{refl, ap, ◌%◌}
use Rattle.x86_core.specs.declared.image.MachOutcome.TheVariants.{Ended}
use Rattle.xom_machine.specs.declared.context.Context.{Context}
use Rattle.xom_machine.specs.Whole.{over}
use Rattle.xom_machine.proofs.Served.{by_request}
use Rattle.xom_machine.proofs.context.Context.system_call.Goals as goal

pub returns-in-Exits-clause-ran : goal.returns-in-Exits-clause-ran
returns-in-Exits-clause-ran g c = by_request _ _ _ _ _ _ _ c.in-Exits.ensures.value (ap (λ n. over (record c.args.self.now { outcome = Ended (n % 256) }) c.args.memory.now) c.get.ensures) (λ left printed taken. refl)

pub returns-in-Idles-clause-ran : goal.returns-in-Idles-clause-ran
returns-in-Idles-clause-ran g c = by_request _ _ _ _ _ _ _ c.in-Idles.ensures.value (ap (λ (x : Context). over x c.args.memory.now) c.answer.ensures) (λ left printed taken. refl)

pub returns-in-Prints-clause-charged : goal.returns-in-Prints-clause-charged
returns-in-Prints-clause-charged g c = c.print.ensures.charged (g.I.Source.told c.args.input.now)

pub returns-in-Takes-clause-charged : goal.returns-in-Takes-clause-charged
returns-in-Takes-clause-charged g c = c.take.ensures.charged (g.O.Sink.told c.args.sink.now)

pub returns-in-Unknown-clause-ran : goal.returns-in-Unknown-clause-ran
returns-in-Unknown-clause-ran g c = by_request _ _ _ _ _ _ _ c.in-Unknown.ensures.value refl (λ left printed taken. refl)
