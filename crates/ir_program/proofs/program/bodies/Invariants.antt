-- the functions so far
use Rattle.std.proofs.Common.{◌≡◌, map, take}
use Rattle.ir_program.specs.Programs.{body_of}
use Rattle.ir_program.proofs.program.bodies.Given as goal

abbrev pub invariant-loop-f : goal.invariant-loop-f
invariant-loop-f l = l.bodies ≡ map (body_of l.context) (take l.f-index l.functions)
