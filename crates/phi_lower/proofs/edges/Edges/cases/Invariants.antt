-- the cases so far
use Rattle.std.proofs.Common.{◌≡◌, map, take}
use Rattle.ir_core.specs.declared.instruction.Case.{Case}
use Rattle.phi_lower.specs.Lowered.{case_to, first_on_way}
use Rattle.phi_lower.proofs.edges.Edges.cases.Given as goal

abbrev pub invariant-loop-c : goal.invariant-loop-c
invariant-loop-c l = l.all ≡ map (λ (c : Case). case_to c (first_on_way l.self l.from c.to)) (take l.c-index l.cases)
