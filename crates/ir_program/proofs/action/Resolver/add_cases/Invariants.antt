-- the cases so far
use Rattle.std.proofs.Common.{◌≡◌, map, fold, take}
use Rattle.ir_core.specs.declared.instruction.Case.{Case}
use Rattle.ir_program.specs.Exits.{with_new, edge_to}
use Rattle.ir_program.proofs.action.Resolver.add_cases.Given as goal

abbrev pub invariant-loop-c : goal.invariant-loop-c
invariant-loop-c l = record {
  labels : l.labels ≡ fold with_new l.initial.labels (map (λ (c : Case). c.to) (take l.c-index l.cases));
  edges : l.edges ≡ map (edge_to l.self.context.now l.self.names.now l.way.from.now l.way.scope.now.blocks) l.labels;
}
