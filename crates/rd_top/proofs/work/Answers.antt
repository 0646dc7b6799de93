use Rattle.std.proofs.Common.{refl}
use Rattle.rd_top.specs.World.{world}
use Rattle.rd_top.proofs.ByCommand.{means_as, within_as}
use Rattle.rd_top.proofs.work.Goals as goal

pub returns-in-Compile-clause-means : goal.returns-in-Compile-clause-means
returns-in-Compile-clause-means g c =
    means_as c.args.command _ (world (g.F.Files.told c.args.files.now) (g.I.Source.told c.args.input.now) (g.O.Sink.told c.args.out.now))
    (world (g.F.Files.told c.compile_file.new.files) (g.I.Source.told c.args.input.now) (g.O.Sink.told c.compile_file.new.out)) c.compile_file.result c.in-Compile.is (c.compile_file.ensures.means, refl)

pub returns-in-Build-clause-means : goal.returns-in-Build-clause-means
returns-in-Build-clause-means g c =
    means_as c.args.command _ (world (g.F.Files.told c.args.files.now) (g.I.Source.told c.args.input.now) (g.O.Sink.told c.args.out.now))
    (world (g.F.Files.told c.build_file.new.files) (g.I.Source.told c.args.input.now) (g.O.Sink.told c.build_file.new.out)) c.build_file.result c.in-Build.is (c.build_file.ensures.means, refl)

pub returns-in-Lay-clause-means : goal.returns-in-Lay-clause-means
returns-in-Lay-clause-means g c =
    means_as c.args.command _ (world (g.F.Files.told c.args.files.now) (g.I.Source.told c.args.input.now) (g.O.Sink.told c.args.out.now))
    (world (g.F.Files.told c.lay_file.new.files) (g.I.Source.told c.args.input.now) (g.O.Sink.told c.lay_file.new.out)) c.lay_file.result c.in-Lay.is (c.lay_file.ensures.means, refl)

pub returns-in-Run-clause-means : goal.returns-in-Run-clause-means
returns-in-Run-clause-means g c =
    means_as c.args.command _ (world (g.F.Files.told c.args.files.now) (g.I.Source.told c.args.input.now) (g.O.Sink.told c.args.out.now))
    (world (g.F.Files.told c.run_file.new.files) (g.I.Source.told c.run_file.new.input) (g.O.Sink.told c.run_file.new.out)) c.run_file.result c.in-Run.is c.run_file.ensures.means

pub returns-in-Show-clause-means : goal.returns-in-Show-clause-means
returns-in-Show-clause-means g c =
    means_as c.args.command _ (world (g.F.Files.told c.args.files.now) (g.I.Source.told c.args.input.now) (g.O.Sink.told c.args.out.now))
    (world (g.F.Files.told c.show_file.new.files) (g.I.Source.told c.show_file.new.input) (g.O.Sink.told c.show_file.new.out)) c.show_file.result c.in-Show.is c.show_file.ensures.means

pub returns-in-Eval-clause-means : goal.returns-in-Eval-clause-means
returns-in-Eval-clause-means g c =
    means_as c.args.command _ (world (g.F.Files.told c.args.files.now) (g.I.Source.told c.args.input.now) (g.O.Sink.told c.args.out.now))
    (world (g.F.Files.told c.eval_file.new.files) (g.I.Source.told c.eval_file.new.input) (g.O.Sink.told c.eval_file.new.out)) c.eval_file.result c.in-Eval.is c.eval_file.ensures.means

pub returns-in-Watch-clause-means : goal.returns-in-Watch-clause-means
returns-in-Watch-clause-means g c =
    means_as c.args.command _ (world (g.F.Files.told c.args.files.now) (g.I.Source.told c.args.input.now) (g.O.Sink.told c.args.out.now))
    (world (g.F.Files.told c.watch_file.new.files) (g.I.Source.told c.watch_file.new.input) (g.O.Sink.told c.watch_file.new.out)) c.watch_file.result c.in-Watch.is c.watch_file.ensures.means

pub returns-in-Gen-clause-means : goal.returns-in-Gen-clause-means
returns-in-Gen-clause-means g c =
    means_as c.args.command _ (world (g.F.Files.told c.args.files.now) (g.I.Source.told c.args.input.now) (g.O.Sink.told c.args.out.now))
    (world (g.F.Files.told c.args.files.now) (g.I.Source.told c.args.input.now) (g.O.Sink.told c.gen_text.new.out)) c.gen_text.result c.in-Gen.is (c.gen_text.ensures.means, refl, refl)
