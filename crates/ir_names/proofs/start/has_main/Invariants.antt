-- the function of that name among those that are left is that among all
use Rattle.std.proofs.Common.{◌≡◌, drop}
use Rattle.std.specs.Prelude.{codes}
use Rattle.ir_core.specs.declared.module.Function.{Function}
use Rattle.ir_core.specs.Names.{same_name, first_where}
use Rattle.ir_core.specs.Refusals.{main_of}
use Rattle.ir_names.proofs.start.has_main.Given as goal

abbrev pub invariant-loop-f : goal.invariant-loop-f
invariant-loop-f l = first_where (λ (f : Function). same_name f.name (codes "main")) (drop l.f-index l.tables.functions) ≡ main_of l.tables
