use Rattle.obj_core.specs.Object.{IsLink, links_bytes}
use Rattle.obj_file.proofs.Rows.{RowRead}
use Rattle.obj_file.proofs.function.read_links.Given as goal

-- the links so far
abbrev pub invariant-loop : goal.invariant-loop
invariant-loop l = RowRead IsLink links_bytes l.bytes l.at l.end l.counter l.links
