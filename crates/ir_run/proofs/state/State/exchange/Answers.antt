use Rattle.std.proofs.Common.{subst, sym}
use Rattle.ir_run.specs.declared.state.Asked.{Asked}
use Rattle.ir_run.specs.Runs.{Exchanged}
use Rattle.ir_run.proofs.state.State.exchange.Goals as goal

pub returns-in-Print-clause-exchanged : goal.returns-in-Print-clause-exchanged
returns-in-Print-clause-exchanged g c =
    subst (λ (a : Asked). Exchanged c.args.self.now a c.args.self.now (g.I.Source.told c.args.input.now) (g.I.Source.told c.args.input.now) (g.O.Sink.told c.args.sink.now) (g.O.Sink.told c.put.new.sink) c.put.result)
    (sym c.in-Print.is) (c.put.ensures.put (g.I.Source.told c.args.input.now) c.args.self.now)

pub returns-in-Print-clause-charged : goal.returns-in-Print-clause-charged
returns-in-Print-clause-charged g c = c.put.ensures.charged (g.I.Source.told c.args.input.now)

pub returns-in-Take-clause-exchanged : goal.returns-in-Take-clause-exchanged
returns-in-Take-clause-exchanged g c =
    subst (λ (a : Asked). Exchanged c.args.self.now a c.take.new.self (g.I.Source.told c.args.input.now) (g.I.Source.told c.take.new.input) (g.O.Sink.told c.args.sink.now) (g.O.Sink.told c.args.sink.now) c.take.result)
    (sym c.in-Take.is) (c.take.ensures.took (g.O.Sink.told c.args.sink.now))

pub returns-in-Take-clause-charged : goal.returns-in-Take-clause-charged
returns-in-Take-clause-charged g c = c.take.ensures.charged (g.O.Sink.told c.args.sink.now)
