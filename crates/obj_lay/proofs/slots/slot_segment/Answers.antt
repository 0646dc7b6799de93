use Rattle.std.proofs.Common.{◌≡◌, ◌<◌, ◌≤◌, [], ◌∷◌, length, ◌∙◌, sym, ap, rules, arith}
use Rattle.std.specs.Prelude.{slice_index, slice_index_or}
use Rattle.x86_core.specs.Data.{segment}
use Rattle.obj_core.specs.declared.object.Slot.{Slot}
use Rattle.obj_core.specs.declared.code.CodeBuilder.{CodeBuilder}
use Rattle.obj_core.specs.Slots.{slot_base}
use Rattle.obj_core.specs.Placement.{inverse}
use Rattle.obj_core.specs.Runs.{slot_run}
use Rattle.obj_core.specs.Plans.{planned}
use Rattle.obj_core.specs.Layout.{trampolines}
use Rattle.obj_lay.proofs.Slotting.{ready, slots_first, slots_last}
use Rattle.obj_lay.proofs.slots.slot_segment.Goals as goal

pub loop-i-init : goal.loop-i-init
loop-i-init c = record {
  start = search rules;
  runs = search rules;
  bytes = ap (λ (b : CodeBuilder). b.bytes) c.in_ok-builder.ensures ∙ slots_first c.args.o.now.object (planned c.args.plan.now) c.args.positions.now c.as_slice-slots.result.now c.requires.positions;
}

pub bounds-positions-i : goal.bounds-positions-i
bounds-positions-i c =
    let r = ready c.args.o.now.object (planned c.args.plan.now) c.args.positions.now c.as_slice-slots.result.now c.loop-i.builder.bytes c.loop-i.i (slice_index_or c.as_slice-slots.result.now c.loop-i.i (Slot.Entry 0)) c.requires.positions (search rules) (search rules) (search rules) c.loop-i.invariant.bytes in
    r.bound

pub overflow_mul-positions : goal.overflow_mul-positions
overflow_mul-positions c =
    let r = ready c.args.o.now.object (planned c.args.plan.now) c.args.positions.now c.as_slice-slots.result.now c.loop-i.builder.bytes c.loop-i.i (slice_index_or c.as_slice-slots.result.now c.loop-i.i (Slot.Entry 0)) c.requires.positions (search rules) (search rules) (search rules) c.loop-i.invariant.bytes in
    let few : length c.as_slice-slots.result.now ≤ 1048576 = search rules in
    let low : slice_index c.args.positions.now c.loop-i.i < length c.as_slice-slots.result.now = r.position in
    search (rules, low, few)

pub put_slot-requires-clause-runs : goal.put_slot-requires-clause-runs
put_slot-requires-clause-runs c =
    let r = ready c.args.o.now.object (planned c.args.plan.now) c.args.positions.now c.as_slice-slots.result.now c.loop-i.builder.bytes c.loop-i.i (slice_index_or c.as_slice-slots.result.now c.loop-i.i (Slot.Entry 0)) c.requires.positions (search rules) (search rules) (search rules) c.loop-i.invariant.bytes in
    c.loop-i.invariant.runs ∙ ap (λ n. slot_run n ∷ []) (sym r.size)

pub put_slot-requires-clause-small : goal.put_slot-requires-clause-small
put_slot-requires-clause-small c =
    let r = ready c.args.o.now.object (planned c.args.plan.now) c.args.positions.now c.as_slice-slots.result.now c.loop-i.builder.bytes c.loop-i.i (slice_index_or c.as_slice-slots.result.now c.loop-i.i (Slot.Entry 0)) c.requires.positions (search rules) (search rules) (search rules) c.loop-i.invariant.bytes in
    let few : length c.as_slice-slots.result.now ≤ 1048576 = search rules in
    omega (arith, r.size, few)

pub put_slot-requires-clause-inside : goal.put_slot-requires-clause-inside
put_slot-requires-clause-inside c =
    let r = ready c.args.o.now.object (planned c.args.plan.now) c.args.positions.now c.as_slice-slots.result.now c.loop-i.builder.bytes c.loop-i.i (slice_index_or c.as_slice-slots.result.now c.loop-i.i (Slot.Entry 0)) c.requires.positions (search rules) (search rules) (search rules) c.loop-i.invariant.bytes in
    omega (arith, r.size, r.position)

pub put_slot-requires-clause-blank : goal.put_slot-requires-clause-blank
put_slot-requires-clause-blank c =
    let r = ready c.args.o.now.object (planned c.args.plan.now) c.args.positions.now c.as_slice-slots.result.now c.loop-i.builder.bytes c.loop-i.i (slice_index_or c.as_slice-slots.result.now c.loop-i.i (Slot.Entry 0)) c.requires.positions (search rules) (search rules) (search rules) c.loop-i.invariant.bytes in
    r.blank

pub loop-i-preserved : goal.loop-i-preserved
loop-i-preserved c =
    let r = ready c.args.o.now.object (planned c.args.plan.now) c.args.positions.now c.as_slice-slots.result.now c.loop-i.builder.bytes c.loop-i.i (slice_index_or c.as_slice-slots.result.now c.loop-i.i (Slot.Entry 0)) c.requires.positions (search rules) (search rules) (search rules) c.loop-i.invariant.bytes in
    record {
      start = ap (λ (b : CodeBuilder). b.start) c.put_slot.ensures ∙ c.loop-i.invariant.start;
      runs = ap (λ (b : CodeBuilder). b.runs) c.put_slot.ensures ∙ c.loop-i.invariant.runs;
      bytes = ap (λ (b : CodeBuilder). b.bytes) c.put_slot.ensures ∙ r.after;
    }

pub returns : goal.returns
returns c =
    let bytes : c.loop-i.builder.bytes ≡ trampolines (planned c.args.plan.now) c.args.positions.now c.args.o.now.object.slots (inverse c.args.positions.now) =
    c.loop-i.invariant.bytes ∙ slots_last (planned c.args.plan.now) c.args.positions.now c.as_slice-slots.result.now c.args.o.now.object.slots c.loop-i.i (search rules) (search rules) in
    c.finish.ensures ∙ ap (λ n. segment n c.loop-i.builder.bytes 1) c.loop-i.invariant.start ∙ ap (λ bs. segment slot_base bs 1) bytes
