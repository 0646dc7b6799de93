use Rattle.std.proofs.Common.{Option, Result, sym, subst}
use Rattle.rd_io.specs.declared.RunFault.{RunFault}
use Rattle.ir_run.specs.declared.state.State.{State}
use Rattle.ir_run.specs.Starts.{Starts}
use Rattle.ir_eval.specs.declared.outcome.IrOutcome.{IrOutcome}
use Rattle.ir_eval.specs.Evaluated.{Evaluated}
use Rattle.ir_eval.proofs.RunLaws.{ran_evaluated, cut_evaluated, wanting_evaluated}
use Rattle.ir_eval.proofs.evaluate.evaluate.Goals as goal

pub returns-in-Ok-clause-evaluated : goal.returns-in-Ok-clause-evaluated
returns-in-Ok-clause-evaluated g c m valid is first =
    subst (λ (r : Result IrOutcome RunFault). Evaluated m c.args.steps (g.I.Source.told c.args.input.now) (g.I.Source.told c.run.new.input)
    (g.O.Sink.told c.args.sink.now) (g.O.Sink.told c.run.new.sink) r) (sym c.outcome_of.ensures)
    (ran_evaluated c.args.program.now c.args.memory c.in-Ok-Some.state c.args.steps (g.I.Source.told c.args.input.now) (g.I.Source.told c.run.new.input)
    (g.O.Sink.told c.args.sink.now) (g.O.Sink.told c.run.new.sink) c.in-Ok.stop
    (subst (λ (o : Option State). Starts c.args.program.now c.args.memory o) c.in-Ok-Some.field-0-is c.in-Ok-Some.ensures) c.in-Ok.ensures.ran m valid is first)

pub returns-in-Ok-Some-clause-evaluated : goal.returns-in-Ok-Some-clause-evaluated
returns-in-Ok-Some-clause-evaluated g c =
    cut_evaluated c.args.program.now c.args.memory c.in-Ok-Some.state c.args.steps (g.I.Source.told c.args.input.now) (g.I.Source.told c.run.new.input)
    (g.O.Sink.told c.args.sink.now) (g.O.Sink.told c.run.new.sink) c.in-Err-run.e
    (subst (λ (o : Option State). Starts c.args.program.now c.args.memory o) c.in-Ok-Some.field-0-is c.in-Ok-Some.ensures) c.in-Err-run.ensures.ran

pub returns-in-Ok-None-clause-evaluated : goal.returns-in-Ok-None-clause-evaluated
returns-in-Ok-None-clause-evaluated g c m valid is first = wanting_evaluated m c.args.steps (g.I.Source.told c.args.input.now) (g.O.Sink.told c.args.sink.now)

pub returns-clause-evaluated : goal.returns-clause-evaluated
returns-clause-evaluated g c m valid is first = wanting_evaluated m c.args.steps (g.I.Source.told c.args.input.now) (g.O.Sink.told c.args.sink.now)
