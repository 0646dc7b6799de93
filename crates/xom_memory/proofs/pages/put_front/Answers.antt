use Rattle.std.proofs.Common.{◌≡◌, ◌-◌, ◌/◌, arith, length, take}
use Rattle.std.proofs.lemmas.List.{length-take-le}
use Rattle.xom_memory.proofs.Laid.{put_laid, made_within}
use Rattle.xom_memory.proofs.pages.put_front.Goals as goal

pub returns-clause-put : goal.returns-clause-put
returns-clause-put c =
    let size : length (take c.min-size.result c.args.bytes.now) ≡ c.min-size.result = length-take-le c.min-size.result c.args.bytes.now (omega arith) in
    put_laid c.args.pages.now c.args.count c.args.from c.put_page.new.page c.index-pages-k.result (take c.min-size.result c.args.bytes.now) (omega arith) (omega arith)
    (made_within c.args.pages.now (c.args.count - 1 - c.args.from / 4096) c.requires.made) (omega arith)
    c.put_page.ensures.put
