use Rattle.std.proofs.Common.{◌≡◌, None, length, drop, replicate}
use Rattle.obj_core.specs.declared.object.Func.{Func}
use Rattle.obj_core.specs.Object.{Each}
use Rattle.obj_assemble.specs.Linked.{IsLinkTo}
use Rattle.obj_assemble.specs.Noted.{all_noted}
use Rattle.obj_assemble.proofs.ends.ends_of.Given as goal

-- the functions that are left are still to be noted
abbrev pub invariant-loop-n : goal.invariant-loop-n
invariant-loop-n l = record {
  rest : all_noted l.n (drop l.n l.functions) l.ends ≡ all_noted 0 l.functions (replicate l.slots None);
  inside : Each (λ (f : Func). Each (IsLinkTo l.slots) f.links) (drop l.n l.functions);
  same : length l.ends ≡ l.slots;
}
