use Rattle.std.proofs.Common.{◌≡◌, ◌+◌, ◌≤◌, ◌++◌, length, drop}
use Rattle.std.specs.List.{sum_by}
use Rattle.obj_core.specs.declared.object.Func.{Func}
use Rattle.obj_core.specs.Plans.{fronts, fronts_from}
use Rattle.obj_core.proofs.code.fronts_of.Given as goal

-- the fronts so far, with those of the functions that are left, are all
abbrev pub invariant-loop-function : goal.invariant-loop-function
invariant-loop-function l = record {
  small : l.front + sum_by (λ (f : Func). length f.bytes) (drop l.function-index l.functions) ≤ 67108864;
  fronts : l.all ++ fronts_from l.front (drop l.function-index l.functions) ≡ fronts l.functions;
}
