use Rattle.std.proofs.Common.{refl}
use Rattle.std.proofs.lemmas.Result.{on_ok_weaker}
use Rattle.rd_gen.proofs.Callers.{call_put}
use Rattle.rd_gen.proofs.put_call.Goals as goal

pub returns : goal.returns
returns c =
    on_ok_weaker c.append.result (λ e. call_put c.args.text.now c.put_numbered.new.text c.put_numbered-2.new.text c.append.new.self c.args.i c.summand_of.result _ c.summand_of.ensures refl c.in_ok-put_numbered.ensures c.in_ok-put_numbered-2.ensures e) c.append.ensures.put
