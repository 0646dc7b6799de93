use Rattle.std.proofs.Common.{◌∙◌, arith}
use Rattle.xom_memory.proofs.Laid.{same_laid, one_more_made}
use Rattle.xom_memory.proofs.pages.make_all.Goals as goal

pub loop-k-preserved : goal.loop-k-preserved
loop-k-preserved c = record {
  same = λ n. same_laid c.loop-k.pages n c.loop-k.k c.make.new.page c.index-pages-k.result (omega arith) c.make.ensures.same ∙ c.loop-k.invariant.same n;
  made = one_more_made c.loop-k.pages c.loop-k.k c.args.low c.make.new.page (omega arith) c.in_ok-make.ensures.made c.loop-k.invariant.made;
}
