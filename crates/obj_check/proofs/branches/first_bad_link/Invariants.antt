use Rattle.std.proofs.Common.{◌≡◌, None, drop}
use Rattle.obj_core.specs.Disassembly.{found, disassembly_of}
use Rattle.obj_core.specs.WellFormed.{bad_links}
use Rattle.obj_check.specs.Least.{least_with}
use Rattle.obj_check.proofs.branches.first_bad_link.Given as goal

abbrev pub invariant-loop-link : goal.invariant-loop-link
invariant-loop-link l =
    least_with l.least (bad_links l.before (found (disassembly_of l.function.bytes)) l.slots (drop l.link-index l.links)) ≡
    least_with None (bad_links None (found (disassembly_of l.function.bytes)) l.slots l.links)
