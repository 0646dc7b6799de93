use Rattle.std.proofs.Common.{◌≡◌, drop}
use Rattle.xom_memory.specs.Codes.{lasting_code}
use Rattle.xom_memory.proofs.memory.lasting.Given as goal

abbrev pub invariant-loop-part : goal.invariant-loop-part
invariant-loop-part l = lasting_code l.parts l.at ≡ lasting_code (drop l.part-index l.parts) l.at
