use Rattle.std.proofs.Common.{◌∙◌, ap, sym, map}
use Rattle.ir_types.specs.Fitting.{part_in}
use Rattle.ir_types.specs.Standing.{stood}
use Rattle.ir_types.proofs.LeadLaws.{lead_step, lead_stop, lead_end, leads-all}
use Rattle.ir_types.proofs.parts.lead_on.Goals as goal

pub returns-in-None : goal.returns-in-None
returns-in-None g c =
    lead_stop c.args.tables.now.types c.loop-index.at.names c.loop-index.at.ty.now g.T.Index.known_of c.args.rest.now c.loop-index.index-index c.index-item.result c.loop-index-test.true c.index-item.is _ c.loop-index.invariant (c.in-None.ensures ∙ ap (λ k. part_in c.args.tables.now.types k c.loop-index.at.names c.loop-index.at.ty.now) c.known.ensures)
    ∙ sym (leads-all c.args.tables.now.types c.args.ty.now (map g.T.Index.known_of c.args.rest.now))

pub loop-index-preserved : goal.loop-index-preserved
loop-index-preserved g c =
    lead_step c.args.tables.now.types c.loop-index.at.names c.loop-index.at.ty.now g.T.Index.known_of c.args.rest.now c.loop-index.index-index c.index-item.result c.loop-index-test.true c.index-item.is _ c.loop-index.invariant (stood c.in-Some.next) (c.in-Some.ensures ∙ ap (λ k. part_in c.args.tables.now.types k c.loop-index.at.names c.loop-index.at.ty.now) c.known.ensures)

pub returns : goal.returns
returns g c = lead_end c.args.tables.now.types c.loop-index.at.names c.loop-index.at.ty.now c.args.ty.now g.T.Index.known_of c.args.rest.now c.loop-index.index-index c.loop-index-test.false c.loop-index.invariant
