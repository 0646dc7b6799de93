-- the objects so far
use Rattle.std.proofs.Common.{◌≡◌, map, take}
use Rattle.ir_globals.specs.Told.{told_object}
use Rattle.ir_globals.proofs.first.first_memory.Given as goal

abbrev pub invariant-loop-g : goal.invariant-loop-g
invariant-loop-g l = l.memory ≡ map (told_object l.context) (take l.g-index l.whole.globals)
