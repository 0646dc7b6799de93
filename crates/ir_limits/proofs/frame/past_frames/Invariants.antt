-- the first of what is left is that of all
use Rattle.std.proofs.Common.{◌≡◌, drop, map}
use Rattle.ir_core.specs.declared.limit.TheConstants.{MAX_FRAME}
use Rattle.ir_core.specs.Counts.{frame_count}
use Rattle.ir_limits.specs.Past.{first_past}
use Rattle.ir_limits.proofs.frame.past_frames.Given as goal

abbrev pub invariant-loop-f : goal.invariant-loop-f
invariant-loop-f l = first_past MAX_FRAME (map (frame_count l.sizes) (drop l.f-index l.functions)) ≡ first_past MAX_FRAME (map (frame_count l.sizes) l.functions)
