use Rattle.std.proofs.Common.{◌≡◌, ◌++◌, take, flat_map}
use Rattle.ir_print.specs.Canonical.{global_line}
use Rattle.ir_print.proofs.put_globals.Given as goal

abbrev pub invariant-loop-variable : goal.invariant-loop-variable
invariant-loop-variable l = l.text ≡ l.fn.text ++ flat_map global_line (take l.variable-index l.variable-items)
