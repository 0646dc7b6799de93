-- what is left repeats what all do
use Rattle.std.proofs.Common.{◌≡◌, [], drop, map}
use Rattle.ir_core.specs.declared.instruction.Case.{Case}
use Rattle.ir_core.specs.Valid.{case_number, none_repeats}
use Rattle.ir_types.proofs.end.all_differ.Given as goal

abbrev pub invariant-loop-c : goal.invariant-loop-c
invariant-loop-c l = none_repeats l.numbers.keys (map (λ (c : Case). case_number l.kind c.value) (drop l.c-index l.cases)) ≡ none_repeats [] (map (λ (c : Case). case_number l.kind c.value) l.cases)
