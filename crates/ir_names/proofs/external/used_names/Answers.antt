use Rattle.std.proofs.Common.{[], ◌∙◌, subst}
use Rattle.std.specs.List.{flat_map}
use Rattle.ir_core.specs.Mentions.{of_function, outside_functions, mentions}
use Rattle.ir_names.specs.Outer.{Uses}
use Rattle.ir_names.proofs.UseLaws.{uses_more}
use Rattle.ir_names.proofs.external.used_names.Goals as goal

pub returns : goal.returns
returns c =
    let w = c.args.whole.now in
    subst (λ a. Uses a c.note_functions.new.names (mentions w)) c.new-names.ensures
    (uses_more c.new-names.result c.note_mentions.new.names c.note_functions.new.names (outside_functions w) (flat_map of_function w.functions)
    (subst (λ ms. Uses c.new-names.result c.note_mentions.new.names ms) (c.as_slice.ensures ∙ c.in_ok-mentions.ensures) c.in_ok-note_mentions.ensures)
    (subst (λ fs. Uses c.note_mentions.new.names c.note_functions.new.names (flat_map of_function fs)) c.as_slice-2.ensures c.in_ok-note_functions.ensures))
