use Rattle.std.proofs.Common.{inr, subst, ◌∙◌}
use Rattle.watch_script.specs.Events.{last_after}
use Rattle.rd_top.specs.Files.{IsFileOf}
use Rattle.rd_top.specs.Kinds.{script_file}
use Rattle.rd_top.specs.Machines.{watched_course, report_on}
use Rattle.rd_top.proofs.commands.watch_file.Goals as goal

-- the files tell the same before and behind the first read
pub returns-clause-means : goal.returns-clause-means
returns-clause-means g c =
    inr (
      c.in-Ok.image,
      (
        c.in-Ok.ensures.taken,
        inr (
          c.in-Ok-read_file.script,
          (
            subst (λ f. IsFileOf script_file (f.held c.args.script.now) c.in-Ok-read_file.script) c.in-Ok.ensures.same c.in-Ok-read_file.ensures.taken,
            c.put_report.ensures.reports (watched_course c.in-Ok.image c.in-Ok-read_file.script.events) (last_after 0 c.in-Ok-read_file.script.events) (report_on c.in-Ok.image c.in-Ok-read_file.script.events)
                (g.I.Source.told c.args.input.now) (g.I.Source.told c.reported.new.input) c.reported.ensures.reported,
          ),
        ),
      ),
    )

pub returns-clause-keeps : goal.returns-clause-keeps
returns-clause-keeps g c = record {
  files = λ _. c.in-Ok-read_file.ensures.same ∙ c.in-Ok.ensures.same;
  input = c.put_report.ensures.input _ _ c.reported.ensures.charged;
  out = c.put_report.ensures.out;
}
