use Rattle.std.proofs.Common.{◌<◌, ◌≤◌, sym, subst}
use Rattle.watch_script.proofs.Spelling.{no_line, no_event, too_early, is_next}
use Rattle.watch_script.proofs.line.next_event.Goals as goal

pub returns-in_default : goal.returns-in_default
returns-in_default c = no_line c.args.least c.args.bytes.now c.in_default.ensures

pub returns-in-Ok-None : goal.returns-in-Ok-None
returns-in-Ok-None c = no_event c.args.least c.args.bytes.now c.in-Some.line.now c.in-Some.rest.now c.in-Some.ensures (sym (rw c.in-Ok-None.field-0-is at c.in-Ok-None.ensures))

pub returns-then-after-least : goal.returns-then-after-least
returns-then-after-least c = too_early c.args.least c.args.bytes.now c.in-Some.line.now c.in-Some.rest.now c.in-Ok-Some.event c.in-Some.ensures (sym (rw c.in-Ok-Some.field-0-is at c.in-Ok-Some.ensures)) (subst (λ n. n < c.args.least) c.after.ensures c.if-after-least.true)

pub returns-else-after-least : goal.returns-else-after-least
returns-else-after-least c = is_next c.args.least c.args.bytes.now c.in-Some.line.now c.in-Some.rest.now c.in-Ok-Some.event c.in-Some.ensures (sym (rw c.in-Ok-Some.field-0-is at c.in-Ok-Some.ensures)) (subst (λ n. c.args.least ≤ n) c.after.ensures c.if-after-least.false)
