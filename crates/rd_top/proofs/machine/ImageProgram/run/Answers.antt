use Rattle.std.proofs.Common.{◌∙◌, sym, ap}
use Rattle.x86_core.specs.declared.image.MachOutcome.{MachOutcome}
use Rattle.xom_machine.specs.Standing.{ending_of}
use Rattle.rd_top.proofs.Runs.{ran, cut_run}
use Rattle.rd_top.proofs.machine.ImageProgram.run.Goals as goal

pub returns-in-Ok-run-clause-streams : goal.returns-in-Ok-run-clause-streams
returns-in-Ok-run-clause-streams g c =
    ran c.args.self.now c.args.steps c.in-Ok.machine c.run.new.self c.in-Ok.ensures (g.I.Source.told c.args.input.now) (g.I.Source.told c.run.new.input)
    (g.O.Sink.told c.args.out.now) (g.O.Sink.told c.run.new.sink) c.outcome_of.result (ap ending_of (sym c.in-Ok-run.ensures.outcome) ∙ c.outcome_of.ensures) c.in-Ok-run.ensures.did

pub returns-clause-streams : goal.returns-clause-streams
returns-clause-streams g c =
    cut_run c.args.self.now c.args.steps c.in-Ok.machine c.run.new.self c.in-Ok.ensures (g.I.Source.told c.args.input.now) (g.I.Source.told c.run.new.input)
    (g.O.Sink.told c.args.out.now) (g.O.Sink.told c.run.new.sink) MachOutcome c.in-Err-run.fault c.in-Err-run.ensures.charged c.in-Err-run.ensures.cut
