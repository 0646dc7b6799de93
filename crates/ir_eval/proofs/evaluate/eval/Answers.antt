use Rattle.ir_eval.proofs.RunLaws.{kept_evaluated, wanting_evaluated}
use Rattle.ir_eval.proofs.evaluate.eval.Goals as goal

pub returns-in-Ok-clause-evaluated : goal.returns-in-Ok-clause-evaluated
returns-in-Ok-clause-evaluated g c =
    kept_evaluated c.module.result.now c.args.valid.now.kept c.in-Ok.field-0.program c.in-Ok.field-0.memory c.args.steps (g.I.Source.told c.args.input.now) (g.I.Source.told c.evaluate.new.input)
    (g.O.Sink.told c.args.sink.now) (g.O.Sink.told c.evaluate.new.sink) c.evaluate.result c.module.ensures.valid c.module.ensures.value
    c.in-Ok.ensures.program c.in-Ok.ensures.memory c.evaluate.ensures.evaluated

pub returns-in-Err-clause-evaluated : goal.returns-in-Err-clause-evaluated
returns-in-Err-clause-evaluated g c =
    wanting_evaluated c.args.valid.now.kept c.args.steps (g.I.Source.told c.args.input.now) (g.O.Sink.told c.args.sink.now)
