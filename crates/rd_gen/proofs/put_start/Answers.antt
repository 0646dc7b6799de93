use Rattle.std.proofs.lemmas.Result.{on_ok_weaker}
use Rattle.rd_gen.proofs.Callers.{start_put}
use Rattle.rd_gen.proofs.put_start.Goals as goal

pub returns : goal.returns
returns c =
    on_ok_weaker c.put_numbered-2.result (λ e. start_put c.args.text.now c.put_numbered.new.text c.put_numbered-2.new.text c.args.i c.factor_of.result c.factor_of.ensures c.in_ok-put_numbered.ensures e) c.put_numbered-2.ensures
