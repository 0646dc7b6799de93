use Rattle.std.proofs.Common.{◌++◌, ◌-◌, ◌+◌, ◌∙◌, ap}
use Rattle.std.specs.List.{flat_map, range_with_len}
use Rattle.rd_gen.specs.Workload.{caller_text}
use Rattle.rd_gen.proofs.Callers.{next_put}
use Rattle.rd_gen.proofs.put_callers.Goals as goal

pub loop-i-preserved : goal.loop-i-preserved
loop-i-preserved c =
    ap (λ t. t ++ flat_map caller_text (range_with_len (c.loop-i.i + 1) (c.args.number - (c.loop-i.i + 1)))) c.in_ok-put_caller.ensures ∙
    next_put caller_text c.loop-i.text _ c.loop-i.i c.args.number c.loop-i-test.true c.loop-i.invariant
