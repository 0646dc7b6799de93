use Rattle.std.proofs.Common.{◌++◌, ◌∙◌, ap}
use Rattle.slot_plan.specs.Slots.{jumps_from}
use Rattle.slot_plan.proofs.Bounds.{before_calls}
use Rattle.slot_plan.proofs.all_slots.Goals as goal

pub add_functions-requires-clause-few : goal.add_functions-requires-clause-few
add_functions-requires-clause-few c =
    before_calls c.args.sel.now c.requires c.new-slots.result c.add.new.self c.add_jumps.new.slots _ c.new-slots.ensures c.in_ok-add.ensures.put
    (c.in_ok-add_jumps.ensures ∙ ap (λ ts. c.add.new.self ++ jumps_from 0 ts) c.as_slice.ensures) c.as_slice-2.result.now c.as_slice-2.ensures
