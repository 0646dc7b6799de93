use Rattle.std.proofs.Common.{◌≡◌, ◌<◌, ◌^◌, length, arith, ap, ◌∙◌}
use Rattle.rd_draw.specs.Draw.{shuffled, keystream_word}
use Rattle.slot_plan.proofs.Bounds.{few_here, enough_here, small_here}
use Rattle.slot_plan.proofs.plan.Goals as goal

pub overflow_cast-len : goal.overflow_cast-len
overflow_cast-len c =
    let few : length c.in_ok-slots.slots < 2 ^ 20 = few_here c.args.sel.now c.requires c.in_ok-slots.slots c.in_ok-slots.ensures in
    let is : c.len.result ≡ length c.in_ok-slots.slots = c.len.ensures in
    omega (arith, few, is)

pub pointers-requires-clause-enough : goal.pointers-requires-clause-enough
pointers-requires-clause-enough c =
    enough_here c.args.sel.now c.requires c.in_ok-slots.slots c.in_ok-slots.ensures (keystream_word c.args.slot_seed 2 0) c.in_ok-positions.positions c.as_slice.result.now
    (c.in_ok-positions.ensures ∙ ap (λ n. shuffled (keystream_word c.args.slot_seed 2 0) n) c.len.ensures) c.as_slice.ensures c.as_slice-2.result.now c.as_slice-2.ensures

pub pointers-requires-clause-small : goal.pointers-requires-clause-small
pointers-requires-clause-small c =
    small_here c.args.sel.now c.requires c.in_ok-slots.slots c.in_ok-slots.ensures (keystream_word c.args.slot_seed 2 0) c.in_ok-positions.positions c.as_slice.result.now
    (c.in_ok-positions.ensures ∙ ap (λ n. shuffled (keystream_word c.args.slot_seed 2 0) n) c.len.ensures) c.as_slice.ensures
