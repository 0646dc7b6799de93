use Rattle.std.proofs.Common.{◌≡◌, length, drop}
use Rattle.obj_core.specs.Object.{Each}
use Rattle.obj_assemble.specs.Linked.{IsLinkTo}
use Rattle.obj_assemble.specs.Noted.{noted}
use Rattle.obj_assemble.proofs.ends.note.Given as goal

-- the links that are left are still to be noted
abbrev pub invariant-loop-l : goal.invariant-loop-l
invariant-loop-l l = record {
  rest : noted l.function (drop l.l-index l.links) l.ends ≡ noted l.function l.links l.fn.ends;
  inside : Each (IsLinkTo (length l.fn.ends)) (drop l.l-index l.links);
  same : length l.ends ≡ length l.fn.ends;
}
