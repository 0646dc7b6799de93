use Rattle.std.proofs.Common.{◌≡◌, ◌+◌, ◌≤◌, length, sum, map, drop}
use Rattle.obj_core.specs.declared.object.Func.{Func as Function}
use Rattle.obj_check.proofs.few.is_little_code.Given as goal

-- what is left of the bound, and the functions that are left
abbrev pub invariant-loop-function : goal.invariant-loop-function
invariant-loop-function l = record {
  small : l.left ≤ 67108864;
  rest : sum (map (λ (f : Function). length f.bytes) l.functions) + l.left ≡ 67108864 + sum (map (λ (f : Function). length f.bytes) (drop l.function-index l.functions));
}
