use Rattle.std.proofs.Common.{◌∙◌, map, refl}
use Rattle.ir_core.specs.declared.limit.Limit.{Limit}
use Rattle.ir_core.specs.declared.limit.TheConstants.{MAX_NESTING, MAX_SIZE}
use Rattle.ir_core.specs.Mentions.{written_types}
use Rattle.ir_core.specs.Counts.{depth_of, size_count}
use Rattle.ir_core.specs.Refusals.{past}
use Rattle.ir_limits.proofs.PastLaws.{past-depth, past-bytes}
use Rattle.ir_limits.proofs.OverLaws.{one_limit, limits_joined}
use Rattle.ir_limits.proofs.first_of_types.Goals as goal

pub returns : goal.returns
returns c =
    let m = c.args.whole.now in
    limits_joined (past Limit.Nesting MAX_NESTING (map (depth_of m.types) (written_types m))) (past Limit.Size MAX_SIZE (map (size_count m.types) (written_types m)))
    c.of_limit.result c.of_limit-2.result c.or.result c.or.ensures
    (one_limit Limit.Nesting MAX_NESTING (map (depth_of m.types) (written_types m)) c.of_limit.result c.past_module.result c.of_limit.ensures (c.past_module.ensures ∙ past-depth _ m refl c.requires))
    (one_limit Limit.Size MAX_SIZE (map (size_count m.types) (written_types m)) c.of_limit-2.result c.past_module-2.result c.of_limit-2.ensures (c.past_module-2.ensures ∙ past-bytes _ m refl c.requires))
