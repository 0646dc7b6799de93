use Rattle.std.proofs.Common.{ℕ, Option, None, ap, ◌∙◌}
use Rattle.obj_core.specs.Disassembly.{found, disassembly_of}
use Rattle.obj_core.specs.WellFormed.{bad_links, bad_branches}
use Rattle.obj_check.specs.Least.{least_with}
use Rattle.obj_check.proofs.Tables.{least_append}
use Rattle.obj_check.proofs.branches.first_bad_branch.Goals as goal

pub returns : goal.returns
returns c =
    let all = found (disassembly_of c.args.function.now.bytes) in
    let links = c.args.function.now.links in
    c.first_bad_goal.ensures ∙
    ap (λ (o : Option ℕ). least_with o (bad_branches links all all)) c.first_bad_link-least.ensures ∙
    least_append None (bad_links None all c.args.slots links) (bad_branches links all all)
