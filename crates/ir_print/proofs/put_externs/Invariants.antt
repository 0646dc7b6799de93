use Rattle.std.proofs.Common.{◌≡◌, ◌++◌, take, flat_map}
use Rattle.ir_print.specs.Canonical.{extern_text}
use Rattle.ir_print.proofs.put_externs.Given as goal

abbrev pub invariant-loop-declared : goal.invariant-loop-declared
invariant-loop-declared l = l.text ≡ l.fn.text ++ flat_map extern_text (take l.declared-index l.declared-items)
