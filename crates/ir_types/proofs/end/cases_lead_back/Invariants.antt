-- what is left decides
use Rattle.std.proofs.Common.{◌≡◌, drop, map}
use Rattle.std.specs.List.{list_any}
use Rattle.ir_core.specs.declared.instruction.Case.{Case}
use Rattle.ir_core.specs.Valid.{is_entry}
use Rattle.ir_types.proofs.end.cases_lead_back.Given as goal

abbrev pub invariant-loop-c : goal.invariant-loop-c
invariant-loop-c l = list_any (is_entry l.blocks) (map (λ (c : Case). c.to) (drop l.c-index l.cases)) ≡ list_any (is_entry l.blocks) (map (λ (c : Case). c.to) l.cases)
