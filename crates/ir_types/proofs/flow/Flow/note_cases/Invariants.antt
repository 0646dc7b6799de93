-- the edges so far
use Rattle.std.proofs.Common.{◌≡◌, map, take}
use Rattle.ir_core.specs.declared.instruction.Case.{Case}
use Rattle.ir_core.specs.Definitions.{label_names}
use Rattle.ir_types.specs.Flow.{edges_to, noted_all}
use Rattle.ir_types.proofs.flow.Flow.note_cases.Given as goal

abbrev pub invariant-loop-c : goal.invariant-loop-c
invariant-loop-c l = l.self.rows.items ≡ noted_all (label_names l.scope) l.initial.self.rows.items (edges_to l.from (map (λ (c : Case). c.to) (take l.c-index l.cases)))
