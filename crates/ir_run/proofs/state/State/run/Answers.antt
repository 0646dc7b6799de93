use Rattle.std.proofs.Common.{◌≡◌, ℕ, Option, None, Ok, refl, subst, ◌∙◌, arith}
use Rattle.ir_core.specs.declared.stop.Stop.{Stop}
use Rattle.ir_run.specs.Runs.{Stepped, Ran}
use Rattle.ir_run.proofs.Runs.{followed_none, followed_more, ran_all, ran_stop, ran_cut}
use Rattle.ir_run.proofs.state.State.run.Goals as goal

pub steps-init : goal.steps-init
steps-init g c = record {
  followed = followed_none c.args.program.now c.args.self.now (g.I.Source.told c.args.input.now) (g.O.Sink.told c.args.sink.now);
  source = refl;
  sink = refl;
}

pub returns-in-Ok-Some-clause-ran : goal.returns-in-Ok-Some-clause-ran
returns-in-Ok-Some-clause-ran g c =
    ran_stop c.args.program.now c.args.self.now c.steps.self c.step.new.self c.steps.counter c.args.n
    (g.I.Source.told c.args.input.now) (g.I.Source.told c.steps.input) (g.I.Source.told c.step.new.input)
    (g.O.Sink.told c.args.sink.now) (g.O.Sink.told c.steps.sink) (g.O.Sink.told c.step.new.sink) c.in-Ok-Some.stop (omega arith) c.steps.invariant.followed
    (subst (λ (o : Option Stop). Stepped c.args.program.now c.steps.self c.step.new.self
    (g.I.Source.told c.steps.input) (g.I.Source.told c.step.new.input) (g.O.Sink.told c.steps.sink) (g.O.Sink.told c.step.new.sink) (Ok o))
    c.in-Ok-Some.field-0-is c.in-Ok-Some.ensures.stepped)

pub returns-in-Err-clause-ran : goal.returns-in-Err-clause-ran
returns-in-Err-clause-ran g c =
    ran_cut c.args.program.now c.args.self.now c.steps.self c.step.new.self c.steps.counter c.args.n
    (g.I.Source.told c.args.input.now) (g.I.Source.told c.steps.input) (g.I.Source.told c.step.new.input)
    (g.O.Sink.told c.args.sink.now) (g.O.Sink.told c.steps.sink) (g.O.Sink.told c.step.new.sink) c.in-Err.e (omega arith) c.steps.invariant.followed c.in-Err.ensures.stepped

pub steps-preserved : goal.steps-preserved
steps-preserved g c = record {
  followed = followed_more c.args.program.now c.args.self.now c.steps.self c.step.new.self c.steps.counter
      (g.I.Source.told c.args.input.now) (g.I.Source.told c.steps.input) (g.I.Source.told c.step.new.input)
      (g.O.Sink.told c.args.sink.now) (g.O.Sink.told c.steps.sink) (g.O.Sink.told c.step.new.sink) c.steps.invariant.followed
      (subst (λ (o : Option Stop). Stepped c.args.program.now c.steps.self c.step.new.self
      (g.I.Source.told c.steps.input) (g.I.Source.told c.step.new.input) (g.O.Sink.told c.steps.sink) (g.O.Sink.told c.step.new.sink) (Ok o))
      c.in-Ok-None.field-0-is c.in-Ok-None.ensures.stepped);
  source = c.in-Ok-None.ensures.charged.0 ∙ c.steps.invariant.source;
  sink = c.in-Ok-None.ensures.charged.1 ∙ c.steps.invariant.sink;
}

pub returns-clause-ran : goal.returns-clause-ran
returns-clause-ran g c =
    let all : c.steps.counter ≡ c.args.n = omega arith in
    subst (λ (k : ℕ). Ran c.args.program.now c.args.self.now k (g.I.Source.told c.args.input.now) (g.I.Source.told c.steps.input)
    (g.O.Sink.told c.args.sink.now) (g.O.Sink.told c.steps.sink) (Ok None)) all
    (ran_all c.args.program.now c.args.self.now c.steps.self c.steps.counter
    (g.I.Source.told c.args.input.now) (g.I.Source.told c.steps.input) (g.O.Sink.told c.args.sink.now) (g.O.Sink.told c.steps.sink) c.steps.invariant.followed)
