use Rattle.std.proofs.Common.{ℕ, rules}
use Rattle.std.specs.Prelude.{slice_index}
use Rattle.obj_core.proofs.Looked.{all_rise}
use Rattle.obj_core.proofs.code.runs_of.Goals as goal

pub new-requires : goal.new-requires
new-requires c = all_rise (λ (n : ℕ). slice_index c.args.starts.now (slice_index c.args.places.now n)) c.loop-i.all c.loop-i.front c.loop-i.i c.args.pieces.now (search rules) c.loop-i.invariant.runs
