-- the steps so far are those of the meaning, and no call has failed
use Rattle.std.proofs.Common.{◌≡◌}
use Rattle.ir_run.specs.Runs.{Followed}
use Rattle.ir_run.proofs.state.State.run.Given as goal

abbrev pub invariant-steps : goal.invariant-steps
invariant-steps g l = record {
  followed : Followed l.program l.fn.self l.counter l.self (g.I.Source.told l.fn.input) (g.I.Source.told l.input) (g.O.Sink.told l.fn.sink) (g.O.Sink.told l.sink);
  source : (g.I.Source.told l.input).faults ≡ (g.I.Source.told l.fn.input).faults;
  sink : (g.O.Sink.told l.sink).faults ≡ (g.O.Sink.told l.fn.sink).faults;
}
