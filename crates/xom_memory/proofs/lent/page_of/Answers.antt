use Rattle.std.proofs.Common.{◌*◌, arith}
use Rattle.xom_memory.proofs.Cut.{cut_page}
use Rattle.xom_memory.proofs.lent.page_of.Goals as goal

pub returns : goal.returns
returns c = cut_page c.args.bytes.now (4096 * c.args.i) c.min-count.result (omega arith)
