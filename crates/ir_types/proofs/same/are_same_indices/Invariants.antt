-- what is left decides
use Rattle.std.proofs.Common.{◌≡◌, drop}
use Rattle.ir_core.specs.Valid.{all_two, same_index}
use Rattle.ir_types.proofs.same.are_same_indices.Given as goal

abbrev pub invariant-loop-i : goal.invariant-loop-i
invariant-loop-i l = all_two same_index (drop l.i l.a) (drop l.i l.b) ≡ all_two same_index l.a l.b
