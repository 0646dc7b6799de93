use Rattle.std.proofs.Common.{take}
use Rattle.obj_core.specs.Object.{Each, IsLink}
use Rattle.obj_check.proofs.known.links_known.Given as goal

-- those so far
abbrev pub invariant-loop-link : goal.invariant-loop-link
invariant-loop-link l = Each IsLink (take l.link-index l.links)
