use Rattle.std.proofs.Common.{arith}
use Rattle.frame_lower.proofs.lower.pointed.Goals as goal

pub overflow_add-count : goal.overflow_add-count
overflow_add-count c =
    let few = c.loop-is_taken.invariant.1 in
    let all = c.requires in
    omega arith
