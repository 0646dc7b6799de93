-- the names of the mentions so far
use Rattle.std.proofs.Common.{take}
use Rattle.ir_names.specs.Outer.{Uses}
use Rattle.ir_names.specs.Seen.{all_seen}
use Rattle.ir_names.proofs.external.note_mentions.Given as goal

abbrev pub invariant-loop-mention : goal.invariant-loop-mention
invariant-loop-mention l = Uses l.initial.names l.names (all_seen (take l.mention-index l.mentions))
