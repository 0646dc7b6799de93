use Rattle.std.proofs.Common.{◌≡◌, ◌+◌, suc, map, ap, ◌∙◌, arith}
use Rattle.std.proofs.lemmas.List.Elements.{All-same}
use Rattle.low_core.specs.declared.sel.SelFun.{SelFun}
use Rattle.obj_rows.specs.Assembled.{most_cuts, with_first_cuts}
use Rattle.slot_plan.specs.Slots.{takens}
use Rattle.slot_plan.proofs.Bounds.{takens_few}
use Rattle.frame_lower.specs.Given.{IsSmall, calls_of_functions}
use Rattle.frame_lower.specs.Functions.{Choices, slot_number}
use Rattle.frame_lower.proofs.Programs.{lowered_is, all_small, functions_calls_few}
use Rattle.frame_lower.proofs.lower.lower.Goals as goal

pub overflow_add-first : goal.overflow_add-first
overflow_add-first c =
    let sel = c.args.sel.now in
    let few = takens_few sel.taken in
    let told = c.requires.shaped.told in
    let functions = c.requires.shaped.few in
    let same : takens c.as_slice-4.result.now ≡ takens sel.taken = ap takens c.as_slice-4.ensures in
    omega arith

pub functions-requires-clause-small : goal.functions-requires-clause-small
functions-requires-clause-small c =
    let sel = c.args.sel.now in
    let weighs = c.requires.shaped.weighs in
    All-same (λ (f : SelFun). IsSmall f) c.as_slice-7.result.now sel.functions c.as_slice-7.ensures (all_small sel sel.functions c.requires.shaped.functions (omega arith))

pub functions-requires-clause-slots : goal.functions-requires-clause-slots
functions-requires-clause-slots c =
    let sel = c.args.sel.now in
    let few = takens_few sel.taken in
    let told = c.requires.shaped.told in
    let functions = c.requires.shaped.few in
    let weighs = c.requires.shaped.weighs in
    let calls = functions_calls_few sel.functions in
    let same : takens c.as_slice-4.result.now ≡ takens sel.taken = ap takens c.as_slice-4.ensures in
    let all : calls_of_functions c.as_slice-7.result.now ≡ calls_of_functions sel.functions = ap calls_of_functions c.as_slice-7.ensures in
    omega arith

pub returns : goal.returns
returns c =
    let choices : Choices = record { homes = c.args.homes.now.homes; reg_seed = c.args.reg_seed; names = c.args.names.now; placing = c.args.placing.now; slots = c.args.slots.now } in
    let one : c.pointed-first.result + 1 ≡ suc (takens c.args.sel.now.taken) = (let p = c.pointed-first.ensures in let same : takens c.as_slice-4.result.now ≡ takens c.args.sel.now.taken = ap takens c.as_slice-4.ensures in omega (arith, p, same)) in
    record {
      is = c.in_ok-all.ensures
          ∙ ap (with_first_cuts most_cuts) (lowered_is choices c.args.sel.now c.as_slice-2.result.now c.as_slice-3.result.now c.as_slice-5.result.now c.as_slice-6.result.now (c.pointed-first.result + 1) c.as_slice-7.result.now
          c.as_slice-2.ensures (c.as_slice-3.ensures ∙ c.in_ok-functions.ensures ∙ ap (map slot_number) c.as_slice.ensures) c.as_slice-5.ensures c.as_slice-6.ensures one c.as_slice-7.ensures);
    }
