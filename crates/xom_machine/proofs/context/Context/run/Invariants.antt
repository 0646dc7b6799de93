use Rattle.std.proofs.Common.{◌≡◌, ◌-◌, ◌≤◌}
use Rattle.xom_machine.specs.Whole.{over}
use Rattle.xom_machine.specs.Standing.{streams_told}
use Rattle.xom_machine.specs.Calls.{Took}
use Rattle.xom_machine.proofs.context.Context.run.Given as goal

-- the steps so far are those of the definition, and no call has failed
abbrev pub invariant-loop-after : goal.invariant-loop-after
invariant-loop-after g l = record {
  left : l.left ≤ l.n;
  took : Took (l.n - l.left) (over l.fn.self l.fn.memory) (over l.self l.memory)
      (streams_told (g.I.Source.told l.fn.input) (g.O.Sink.told l.fn.sink))
      (streams_told (g.I.Source.told l.input) (g.O.Sink.told l.sink));
  source : (g.I.Source.told l.input).faults ≡ (g.I.Source.told l.fn.input).faults;
  sink : (g.O.Sink.told l.sink).faults ≡ (g.O.Sink.told l.fn.sink).faults;
}

abbrev pub decreases-loop-after : goal.decreases-loop-after
decreases-loop-after g l = l.left
