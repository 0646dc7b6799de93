use Rattle.std.proofs.Common.{refl}
use Rattle.x86_core.specs.declared.image.MachOutcome.{MachOutcome}
use Rattle.rd_io.specs.Held.{count_told}
use Rattle.rd_top.specs.Machines.{shown_after}
use Rattle.rd_top.proofs.Runs.{none_taken, cut_report, seen_then, stopped_behind}
use Rattle.rd_top.proofs.report.seen_after.Goals as goal

pub returns-in-Err-clause-reported : goal.returns-in-Err-clause-reported
returns-in-Err-clause-reported g c = none_taken c.args.image.now c.args.steps (g.I.Source.told c.args.input.now)

pub returns-in-Err-run-clause-reported : goal.returns-in-Err-run-clause-reported
returns-in-Err-run-clause-reported g c =
    cut_report c.args.image.now c.args.steps c.in-Ok.machine c.run.new.self c.in-Ok.ensures (g.I.Source.told c.args.input.now) (g.I.Source.told c.run.new.input)
    (count_told c.new-sink.result.count) (count_told c.run.new.sink.count) MachOutcome c.in-Err-run.fault (shown_after c.args.image.now c.args.steps) refl c.in-Err-run.ensures.charged c.in-Err-run.ensures.cut

pub returns-in-Ok-show_text-clause-reported : goal.returns-in-Ok-show_text-clause-reported
returns-in-Ok-show_text-clause-reported g c =
    seen_then c.args.image.now c.args.steps c.in-Ok.machine c.run.new.self c.in-Ok.ensures (g.I.Source.told c.args.input.now) (g.I.Source.told c.run.new.input)
    (count_told c.new-sink.result.count) (count_told c.run.new.sink.count) c.in-Ok-show_text.text c.in-Ok-run.ensures.did c.in-Ok-show_text.ensures

pub returns-clause-reported : goal.returns-clause-reported
returns-clause-reported g c =
    stopped_behind c.args.image.now c.args.steps c.in-Ok.machine c.run.new.self c.in-Ok.ensures (g.I.Source.told c.args.input.now) (g.I.Source.told c.run.new.input)
    (count_told c.new-sink.result.count) (count_told c.run.new.sink.count) c.in-Ok-run.ensures.did
