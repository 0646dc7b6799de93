-- the labels so far
use Rattle.std.proofs.Common.{◌≡◌, map, take}
use Rattle.std.specs.Prelude.{fold}
use Rattle.ir_core.specs.declared.instruction.Case.{Case}
use Rattle.phi_lower.specs.Lowered.{with_name}
use Rattle.phi_lower.proofs.edges.add_cases.Given as goal

abbrev pub invariant-loop-c : goal.invariant-loop-c
invariant-loop-c l = l.names ≡ fold with_name l.initial.names (map (λ (c : Case). c.to) (take l.c-index l.cases))
