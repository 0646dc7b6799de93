use Rattle.std.proofs.Common.{◌∙◌, sym, ap}
use Rattle.obj_core.specs.declared.code.CodeBuilder.{CodeBuilder}
use Rattle.obj_core.specs.Layout.{branch_ways, link_ways}
use Rattle.obj_core.specs.Plans.{planned}
use Rattle.obj_lay.specs.Putting.{put_ways}
use Rattle.obj_lay.proofs.Put.{put_both}
use Rattle.obj_lay.proofs.code.fill_function.Goals as goal

pub returns : goal.returns
returns c =
    let b = c.args.builder.now in
    let f = c.args.function.now in
    let links = link_ways c.args.positions.now f.links in
    c.fill_links.ensures ∙
    ap (λ (x : CodeBuilder). record { start = x.start; runs = x.runs; bytes = put_ways x.runs x.start c.args.front links x.bytes }) c.fill_cut.ensures ∙
    ap (λ bs. record { start = b.start; runs = b.runs; bytes = bs }) (sym (put_both b.runs b.start c.args.front (branch_ways (planned c.args.plan.now) c.args.number f f.cuts) links b.bytes))
