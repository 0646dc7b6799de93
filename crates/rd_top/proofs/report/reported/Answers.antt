use Rattle.watch_script.specs.declared.report.Report.{Report}
use Rattle.rd_top.proofs.Watched.{reported_text, not_reported, all_taken}
use Rattle.rd_top.proofs.report.reported.Goals as goal

pub returns-in-Err-clause-reported : goal.returns-in-Err-clause-reported
returns-in-Err-clause-reported g c =
    not_reported c.args.image.now c.args.script.now.events (g.I.Source.told c.args.input.now) (g.I.Source.told c.watch.new.input) Report c.in-Err.fault c.in-Err.ensures.charged c.in-Err.ensures.answers

pub returns-in-Ok-report_text-clause-reported : goal.returns-in-Ok-report_text-clause-reported
returns-in-Ok-report_text-clause-reported g c =
    reported_text c.args.image.now c.args.script.now.events (g.I.Source.told c.args.input.now) (g.I.Source.told c.watch.new.input) c.in-Ok.report c.in-Ok-report_text.text c.in-Ok-report_text.ensures c.in-Ok.ensures.answers

pub returns-clause-reported : goal.returns-clause-reported
returns-clause-reported g c =
    all_taken c.args.image.now c.args.script.now.events (g.I.Source.told c.args.input.now) (g.I.Source.told c.watch.new.input) c.in-Ok.report c.in-Ok.ensures.answers
