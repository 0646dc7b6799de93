use Rattle.std.proofs.Common.{inr}
use Rattle.rd_top.specs.Machines.{machine_course, shown_after}
use Rattle.rd_top.proofs.commands.show_file.Goals as goal

pub returns-clause-means : goal.returns-clause-means
returns-clause-means g c =
    inr (
      c.in-Ok.image,
      (
        c.in-Ok.ensures.taken,
        c.put_report.ensures.reports (machine_course c.in-Ok.image) c.args.steps (shown_after c.in-Ok.image c.args.steps)
            (g.I.Source.told c.args.input.now) (g.I.Source.told c.seen_after.new.input) c.seen_after.ensures.reported,
      ),
    )

pub returns-clause-keeps : goal.returns-clause-keeps
returns-clause-keeps g c = record {
  files = λ _. c.in-Ok.ensures.same;
  input = c.put_report.ensures.input _ _ c.seen_after.ensures.charged;
  out = c.put_report.ensures.out;
}
