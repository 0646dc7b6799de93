-- the names so far are new
use Rattle.std.proofs.Common.{take, None}
use Rattle.ir_names.specs.Firsts.{insts_names, Adds}
use Rattle.ir_names.proofs.doubled.add_results.Given as goal

abbrev pub invariant-loop-i : goal.invariant-loop-i
invariant-loop-i l = Adds l.initial.names l.names (insts_names (take l.i-index l.insts)) None
