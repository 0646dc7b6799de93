use Rattle.std.proofs.Common.{◌≡◌}
use Rattle.xom_machine.specs.Whole.{over}
use Rattle.xom_machine.specs.Silent.{Silently}
use Rattle.xom_machine.proofs.context.Context.sprint.Given as goal

abbrev pub invariant-loop-i : goal.invariant-loop-i
invariant-loop-i l = record {
  silent : Silently l.i (over l.fn.self l.fn.memory) (over l.self l.memory);
  same : l.i ≡ 0 → over l.self l.memory ≡ over l.fn.self l.fn.memory;
}
