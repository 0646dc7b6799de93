use Rattle.std.proofs.Common.{◌≡◌, ◌++◌, drop}
use Rattle.obj_core.specs.Object.{links_bytes}
use Rattle.obj_file.proofs.write.put_links.Given as goal

-- the bytes so far, and those of the links that are left, are the whole
abbrev pub invariant-loop-link : goal.invariant-loop-link
invariant-loop-link l = l.out ++ links_bytes (drop l.link-index l.links) ≡ l.fn.out ++ links_bytes l.links
