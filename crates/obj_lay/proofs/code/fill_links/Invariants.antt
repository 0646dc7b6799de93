use Rattle.std.proofs.Common.{◌≡◌, drop}
use Rattle.obj_core.specs.Layout.{link_ways}
use Rattle.obj_lay.specs.Putting.{put_ways}
use Rattle.obj_lay.proofs.code.fill_links.Given as goal

-- the links that are left give the whole
abbrev pub invariant-loop-link : goal.invariant-loop-link
invariant-loop-link l = record {
  same_start : l.builder.start ≡ l.fn.builder.start;
  same_runs : l.builder.runs ≡ l.fn.builder.runs;
  left : put_ways l.builder.runs l.builder.start l.front (link_ways l.positions (drop l.link-index l.function.links)) l.builder.bytes ≡ put_ways l.fn.builder.runs l.fn.builder.start l.front (link_ways l.positions l.function.links) l.fn.builder.bytes;
}
