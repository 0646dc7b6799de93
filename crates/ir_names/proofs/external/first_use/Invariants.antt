-- the first name of what is left is that of all
use Rattle.std.proofs.Common.{◌≡◌, drop}
use Rattle.ir_names.specs.Seen.{all_seen}
use Rattle.ir_names.specs.Outer.{wrong_among}
use Rattle.ir_names.specs.Firsts.{first_name}
use Rattle.ir_names.proofs.external.first_use.Given as goal

abbrev pub invariant-loop-mention : goal.invariant-loop-mention
invariant-loop-mention l = first_name (wrong_among l.tables (all_seen (drop l.mention-index l.mentions))) ≡ first_name (wrong_among l.tables (all_seen l.mentions))
