-- what is left decides
use Rattle.std.proofs.Common.{◌≡◌, drop}
use Rattle.std.specs.List.{list_all}
use Rattle.ir_core.specs.declared.instruction.Entry.{Entry}
use Rattle.ir_core.specs.Definitions.{is_among}
use Rattle.ir_types.proofs.phi.are_for.Given as goal

abbrev pub invariant-loop-e : goal.invariant-loop-e
invariant-loop-e l = list_all (λ (e : Entry). is_among l.row e.from) (drop l.e-index l.entries) ≡ list_all (λ (e : Entry). is_among l.row e.from) l.entries
