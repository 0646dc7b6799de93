use Rattle.std.proofs.Common.{◌≡◌, ◌++◌, take}
use Rattle.obj_assemble.proofs.copies.add_copies.Given as goal

abbrev pub invariant-loop-f : goal.invariant-loop-f
invariant-loop-f l = l.all ≡ l.fn.all ++ take l.f-index l.from
