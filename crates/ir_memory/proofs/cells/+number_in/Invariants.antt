-- the row gets shorter
use Rattle.std.proofs.Common.{length}
use Rattle.ir_memory.proofs.cells.+number_in.Given as goal

abbrev pub decreases-number_in : goal.decreases-number_in
decreases-number_in l = length l.cells.now
