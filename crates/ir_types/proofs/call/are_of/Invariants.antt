-- what is left decides
use Rattle.std.proofs.Common.{◌≡◌, drop, map}
use Rattle.ir_core.specs.Kinds.{kind_of}
use Rattle.ir_core.specs.Calls.{same_kinds}
use Rattle.ir_types.proofs.call.are_of.Given as goal

abbrev pub invariant-loop-i : goal.invariant-loop-i
invariant-loop-i l = same_kinds (map kind_of (drop l.i l.types)) (drop l.i l.kinds) ≡ same_kinds (map kind_of l.types) l.kinds
