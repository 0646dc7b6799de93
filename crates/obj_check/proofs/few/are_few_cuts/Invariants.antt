use Rattle.std.proofs.Common.{◌≡◌, ◌+◌, ◌≤◌, length, sum, map, drop}
use Rattle.obj_core.specs.declared.object.Func.{Func as Function}
use Rattle.obj_check.proofs.few.are_few_cuts.Given as goal

-- what is left of the bound, and the functions that are left
abbrev pub invariant-loop-function : goal.invariant-loop-function
invariant-loop-function l = record {
  small : l.left ≤ l.most;
  rest : sum (map (λ (f : Function). length f.cuts) l.functions) + l.left ≡ l.most + sum (map (λ (f : Function). length f.cuts) (drop l.function-index l.functions));
}
