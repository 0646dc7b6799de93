use Rattle.std.proofs.Common.{◌+◌}
use Rattle.obj_core.specs.Object.{IsLink, link_bytes, links_bytes}
use Rattle.obj_file.specs.Texts.{IsLinkText, Times, Fault}
use Rattle.obj_file.proofs.Primitive.{at_exit}
use Rattle.obj_file.proofs.Rows.{row_fault, row_more, links_row}
use Rattle.obj_file.proofs.Limits.{good_link}
use Rattle.obj_file.proofs.Parts.{link_text}
use Rattle.obj_file.proofs.function.read_links.Goals as goal

pub returns-in_err-link-clause-fault : goal.returns-in_err-link-clause-fault
returns-in_err-link-clause-fault c =
    let bytes = c.args.bytes.now in
    at_exit _ _ (Fault (Times IsLinkText c.args.count) bytes c.args.at) c.from_residual.ensures.1
    (row_fault IsLink link_bytes links_bytes IsLinkText links_row bytes c.args.at c.loop.end c.loop.counter c.args.count c.loop.links _ good_link link_text c.loop.invariant c.loop-test.true c.in_err-link.ensures.fault)

pub loop-preserved : goal.loop-preserved
loop-preserved c =
    row_more IsLink link_bytes links_bytes links_row c.args.bytes.now c.args.at c.loop.end (c.loop.end + 8) c.loop.counter c.loop.links c.in_ok-link.link c.add.new.self
    c.loop.invariant c.in_ok-link.ensures.link c.in_ok-link.ensures.read c.in_ok-add.ensures.put
