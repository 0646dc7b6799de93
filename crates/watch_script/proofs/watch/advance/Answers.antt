use Rattle.std.proofs.Common.{None, Some, refl}
use Rattle.x86_core.specs.declared.image.MachOutcome.{MachOutcome}
use Rattle.xom_machine.specs.Standing.{streams}
use Rattle.rd_io.specs.Held.{count_told}
use Rattle.watch_script.proofs.Watches.{cut, no_output}
use Rattle.watch_script.proofs.watch.advance.Goals as goal

pub returns-in-Err-clause-halted : goal.returns-in-Err-clause-halted
returns-in-Err-clause-halted g c =
    cut c.args.steps c.args.machine.now c.run.new.self (streams (g.I.Source.told c.args.input.now).left None (Some c.args.sink.now.count)) (streams (g.I.Source.told c.run.new.input).left None (Some c.run.new.sink.count)) c.in-Err.fault
    (no_output MachOutcome (g.I.Source.told c.args.input.now) (g.I.Source.told c.run.new.input) (count_told c.args.sink.now.count) (count_told c.run.new.sink.count) c.in-Err.fault refl c.in-Err.ensures.charged) c.in-Err.ensures.cut
