-- what is left decides
use Rattle.std.proofs.Common.{◌≡◌, drop}
use Rattle.std.specs.List.{list_all}
use Rattle.ir_core.specs.declared.instruction.Entry.{Entry}
use Rattle.ir_core.specs.Names.{same_name, first_where}
use Rattle.ir_core.specs.Valid.{agrees_with, entries_agree}
use Rattle.ir_types.proofs.phi.do_agree.Given as goal

abbrev pub invariant-loop-e : goal.invariant-loop-e
invariant-loop-e l = list_all (λ (e : Entry). agrees_with e (first_where (λ (g : Entry). same_name g.from e.from) l.entries)) (drop l.e-index l.entries) ≡ entries_agree l.entries
