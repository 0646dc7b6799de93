use Rattle.std.proofs.Common.{◌≡◌, ◌+◌, ◌≤◌, length, ◌∙◌, sym, ap, rules}
use Rattle.x86_core.specs.Data.{segment}
use Rattle.obj_core.specs.declared.code.CodeBuilder.{CodeBuilder}
use Rattle.obj_core.specs.Placement.{code_base}
use Rattle.obj_core.proofs.Fronts.{front_first}
use Rattle.obj_core.proofs.Inside.{all_inside}
use Rattle.obj_core.specs.Layout.{code_bytes}
use Rattle.obj_lay.proofs.Laid.{numbered, ready, written_first, written_last}
use Rattle.obj_lay.proofs.code.code_of.Goals as goal

pub loop-i-init : goal.loop-i-init
loop-i-init c = record {
  start = ap (λ (b : CodeBuilder). b.start) c.in_ok-builder.ensures ∙ c.in_ok-plan.ensures.base;
  runs = ap (λ (b : CodeBuilder). b.runs) c.in_ok-builder.ensures ∙ c.in_ok-plan.ensures.runs;
  front = sym (front_first c.args.o.now.object.functions);
  bytes = ap (λ (b : CodeBuilder). b.bytes) c.in_ok-builder.ensures ∙ written_first c.in_ok-plan.plan c.args.o.now.object c.args.layout_seed c.in_ok-plan.ensures;
}

pub fill_function-requires-clause-small : goal.fill_function-requires-clause-small
fill_function-requires-clause-small c =
    let there = numbered c.args.o.now.object.functions c.as_slice-functions.result.now c.loop-i.i c.index-functions-i.result (search rules) (search rules) (search rules) in
    let r = ready c.in_ok-plan.plan c.args.o.now.object c.args.layout_seed c.loop-i.i c.index-functions-i.result c.args.positions.now c.loop-i.builder.start c.loop-i.builder.runs c.loop-i.builder.bytes c.loop-i.front c.in_ok-plan.ensures there c.requires.little c.requires.positions c.loop-i.invariant.start c.loop-i.invariant.runs c.loop-i.invariant.bytes c.loop-i.invariant.front in
    r.small

pub fill_function-requires-clause-room : goal.fill_function-requires-clause-room
fill_function-requires-clause-room c =
    let there = numbered c.args.o.now.object.functions c.as_slice-functions.result.now c.loop-i.i c.index-functions-i.result (search rules) (search rules) (search rules) in
    let r = ready c.in_ok-plan.plan c.args.o.now.object c.args.layout_seed c.loop-i.i c.index-functions-i.result c.args.positions.now c.loop-i.builder.start c.loop-i.builder.runs c.loop-i.builder.bytes c.loop-i.front c.in_ok-plan.ensures there c.requires.little c.requires.positions c.loop-i.invariant.start c.loop-i.invariant.runs c.loop-i.invariant.bytes c.loop-i.invariant.front in
    r.room_left

pub fill_function-requires-clause-links : goal.fill_function-requires-clause-links
fill_function-requires-clause-links c =
    let there = numbered c.args.o.now.object.functions c.as_slice-functions.result.now c.loop-i.i c.index-functions-i.result (search rules) (search rules) (search rules) in
    all_inside c.args.o.now.object c.args.o.now.well_formed c.loop-i.i c.index-functions-i.result there

pub overflow_add-front : goal.overflow_add-front
overflow_add-front c =
    let there = numbered c.args.o.now.object.functions c.as_slice-functions.result.now c.loop-i.i c.index-functions-i.result (search rules) (search rules) (search rules) in
    let r = ready c.in_ok-plan.plan c.args.o.now.object c.args.layout_seed c.loop-i.i c.index-functions-i.result c.args.positions.now c.loop-i.builder.start c.loop-i.builder.runs c.loop-i.builder.bytes c.loop-i.front c.in_ok-plan.ensures there c.requires.little c.requires.positions c.loop-i.invariant.start c.loop-i.invariant.runs c.loop-i.invariant.bytes c.loop-i.invariant.front in
    let small : c.loop-i.front + length c.index-functions-i.result.bytes ≤ 67108864 = r.small in
    search (rules, small)

pub loop-i-preserved : goal.loop-i-preserved
loop-i-preserved c =
    let there = numbered c.args.o.now.object.functions c.as_slice-functions.result.now c.loop-i.i c.index-functions-i.result (search rules) (search rules) (search rules) in
    let r = ready c.in_ok-plan.plan c.args.o.now.object c.args.layout_seed c.loop-i.i c.index-functions-i.result c.args.positions.now c.loop-i.builder.start c.loop-i.builder.runs c.loop-i.builder.bytes c.loop-i.front c.in_ok-plan.ensures there c.requires.little c.requires.positions c.loop-i.invariant.start c.loop-i.invariant.runs c.loop-i.invariant.bytes c.loop-i.invariant.front in
    record {
      start = ap (λ (b : CodeBuilder). b.start) c.fill_function.ensures ∙ c.loop-i.invariant.start;
      runs = ap (λ (b : CodeBuilder). b.runs) c.fill_function.ensures ∙ c.loop-i.invariant.runs;
      front = search (rules, r.next);
      bytes = ap (λ (b : CodeBuilder). b.bytes) c.fill_function.ensures ∙ r.after;
    }

pub returns-clause-segment : goal.returns-clause-segment
returns-clause-segment c =
    let bytes : c.loop-i.builder.bytes ≡ code_bytes c.args.o.now.object c.args.layout_seed = c.loop-i.invariant.bytes ∙ written_last c.args.o.now.object c.args.layout_seed c.loop-i.i (search rules) in
    c.finish.ensures ∙ ap (λ n. segment n c.loop-i.builder.bytes 1) c.loop-i.invariant.start ∙ ap (λ bs. segment (code_base c.args.layout_seed) bs 1) bytes
