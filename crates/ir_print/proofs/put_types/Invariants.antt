use Rattle.std.proofs.Common.{◌≡◌, ◌++◌, take, flat_map}
use Rattle.ir_print.specs.Canonical.{named_type_text}
use Rattle.ir_print.proofs.put_types.Given as goal

abbrev pub invariant-loop-named : goal.invariant-loop-named
invariant-loop-named l = l.text ≡ l.fn.text ++ flat_map named_type_text (take l.named-index l.named-items)
