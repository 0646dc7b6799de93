use Rattle.std.proofs.Common.{◌∙◌}
use Rattle.xom_memory.specs.Access.{lent}
use Rattle.watch_script.proofs.Lines.{one_segment_more, no_segment_more}
use Rattle.watch_script.proofs.memory.put_memory.Goals.{in-Some+in_ok-put_segment, in_default}
use Rattle.watch_script.proofs.memory.put_memory.Goals as goal

pub loop-i-preserved : goal.loop-i-preserved
loop-i-preserved c = elim c.match-readable.branch [
  | in-Some+in_ok-put_segment w ↦
      one_segment_more c.args.memory.now c.loop-i.i (lent w.in-Some.segment) c.loop-i.text c.match-readable.text _ w.in-Some.ensures (w.text-is ∙ w.in_ok-put_segment.ensures) c.loop-i.invariant
  | in_default w ↦ no_segment_more c.args.memory.now c.loop-i.i c.loop-i.text c.match-readable.text _ w.in_default.ensures w.text-is c.loop-i.invariant
]
