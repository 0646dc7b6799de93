use Rattle.watch_script.proofs.Scripts.{SoFar}
use Rattle.watch_script.proofs.parse.parse_script.Given as goal

-- the lines so far are those of the events
abbrev pub invariant-loop-count : goal.invariant-loop-count
invariant-loop-count l = SoFar l.bytes l.rest l.events l.least l.count
