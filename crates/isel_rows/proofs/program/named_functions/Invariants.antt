use Rattle.std.proofs.Common.{◌≡◌, map, take}
use Rattle.std.specs.List.{list_any}
use Rattle.ir_core.specs.declared.module.Function.{Function}
use Rattle.ir_core.specs.Names.{same_name}
use Rattle.isel_rows.proofs.program.named_functions.Given as goal

abbrev pub invariant-loop-f : goal.invariant-loop-f
invariant-loop-f l = l.all ≡ map (λ (f : Function). list_any (same_name f.name) l.names) (take l.f-index l.functions)
