use Rattle.ir_eval.specs.declared.outcome.IrOutcome.{IrOutcome}
use Rattle.rd_top.proofs.Evaluated.{stands, cut_off}
use Rattle.rd_top.proofs.meaning.ValidProgram.run.Goals as goal

pub returns-in-Ok-clause-streams : goal.returns-in-Ok-clause-streams
returns-in-Ok-clause-streams g c =
    stands c.args.self.now.kept c.args.steps (g.I.Source.told c.args.input.now) (g.I.Source.told c.eval.new.input)
    (g.O.Sink.told c.args.out.now) (g.O.Sink.told c.eval.new.sink) c.in-Ok.outcome c.outcome_of.result c.outcome_of.ensures c.in-Ok.ensures.evaluated

pub returns-in-Err-clause-streams : goal.returns-in-Err-clause-streams
returns-in-Err-clause-streams g c =
    cut_off c.args.self.now.kept c.args.steps (g.I.Source.told c.args.input.now) (g.I.Source.told c.eval.new.input)
    (g.O.Sink.told c.args.out.now) (g.O.Sink.told c.eval.new.sink) IrOutcome c.in-Err.fault c.in-Err.ensures.charged c.in-Err.ensures.evaluated
