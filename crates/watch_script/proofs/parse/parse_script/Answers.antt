use Rattle.std.proofs.Common.{arith}
use Rattle.std.proofs.lemmas.Grind.{common_steps}
use Rattle.watch_script.proofs.Scripts.{one_more, bad_line}
use Rattle.watch_script.proofs.parse.parse_script.Goals as goal

pub returns-in-Ok-None : goal.returns-in-Ok-None
returns-in-Ok-None c = bad_line c.args.bytes.now c.loop-count.rest.now c.loop-count.events c.loop-count.least c.loop-count.count c.loop-count.invariant (λ e. grind (arith, common_steps, e)) (omega arith) (rw c.in-Ok-None.field-0-is at c.in-Ok-None.ensures)

pub loop-count-preserved : goal.loop-count-preserved
loop-count-preserved c = one_more c.args.bytes.now c.loop-count.rest.now c.loop-count.events c.add.new.self c.loop-count.least c.loop-count.count c.in-Ok-Some.event c.in-Ok-Some.behind.now c.loop-count.invariant (rw c.in-Ok-Some.field-0-is at c.in-Ok-Some.ensures) c.in-Ok.ensures.put c.after-least.result c.after-least.ensures
