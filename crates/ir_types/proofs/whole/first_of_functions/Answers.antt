use Rattle.std.proofs.Common.{◌≡◌, ◌<◌, [], ◌∙◌, ap, sym, length, get_or, subst}
use Rattle.ir_core.specs.declared.module.Function.{Function}
use Rattle.ir_core.specs.declared.module.Module.{Module}
use Rattle.ir_core.specs.Built.{function_built}
use Rattle.ir_core.specs.Definitions.{repeated, local_names}
use Rattle.ir_core.specs.Valid.{faults_in_function}
use Rattle.ir_core.proofs.Distinct.{locals_of_functions, locals_at}
use Rattle.ir_types.proofs.BuiltLaws.{built_at, module_parts}
use Rattle.ir_types.proofs.FirstLaws.{first_found, first_passed}
use Rattle.ir_types.proofs.whole.first_of_functions.Goals as goal

pub first_in_function-requires-clause-built : goal.first_in_function-requires-clause-built
first_in_function-requires-clause-built c =
    let fs = c.args.tables.now.functions in
    let same : c.as_slice-f-items.result.now ≡ fs = c.as_slice-f-items.ensures ∙ ap (λ (m : Module). m.functions) c.whole-whole.ensures in
    let inside : c.loop-k.k < length fs = subst (λ xs. c.loop-k.k < length xs) same c.loop-k-test.true in
    let item : c.f-item.result ≡ get_or fs c.loop-k.k c.f-item.result = c.f-item.is ∙ ap (λ xs. get_or xs c.loop-k.k c.f-item.result) same in
    built_at function_built fs (module_parts c.args.tables.now c.requires.built).2 c.loop-k.k c.f-item.result inside item

pub first_in_function-requires-clause-apart : goal.first_in_function-requires-clause-apart
first_in_function-requires-clause-apart c =
    let fs = c.args.tables.now.functions in
    let same : c.as_slice-f-items.result.now ≡ fs = c.as_slice-f-items.ensures ∙ ap (λ (m : Module). m.functions) c.whole-whole.ensures in
    let inside : c.loop-k.k < length fs = subst (λ xs. c.loop-k.k < length xs) same c.loop-k-test.true in
    let item : c.f-item.result ≡ get_or fs c.loop-k.k c.f-item.result = c.f-item.is ∙ ap (λ xs. get_or xs c.loop-k.k c.f-item.result) same in
    ap (λ (f : Function). repeated [] (local_names f)) item ∙ locals_at fs (locals_of_functions c.args.tables.now c.requires.apart) c.loop-k.k c.f-item.result inside

pub returns-in-Some : goal.returns-in-Some
returns-in-Some c =
    let fs = c.args.tables.now.functions in
    let same : c.as_slice-f-items.result.now ≡ fs = c.as_slice-f-items.ensures ∙ ap (λ (m : Module). m.functions) c.whole-whole.ensures in
    let inside : c.loop-k.k < length fs = subst (λ xs. c.loop-k.k < length xs) same c.loop-k-test.true in
    let item : c.f-item.result ≡ get_or fs c.loop-k.k c.f-item.result = c.f-item.is ∙ ap (λ xs. get_or xs c.loop-k.k c.f-item.result) same in
    first_found (faults_in_function c.args.tables.now) fs c.loop-k.k c.f-item.result inside item _ c.loop-k.invariant c.in-Some.spot (sym c.in-Some.is ∙ c.in_ok-spot.ensures)

pub loop-k-preserved : goal.loop-k-preserved
loop-k-preserved c =
    let fs = c.args.tables.now.functions in
    let same : c.as_slice-f-items.result.now ≡ fs = c.as_slice-f-items.ensures ∙ ap (λ (m : Module). m.functions) c.whole-whole.ensures in
    let inside : c.loop-k.k < length fs = subst (λ xs. c.loop-k.k < length xs) same c.loop-k-test.true in
    let item : c.f-item.result ≡ get_or fs c.loop-k.k c.f-item.result = c.f-item.is ∙ ap (λ xs. get_or xs c.loop-k.k c.f-item.result) same in
    first_passed (faults_in_function c.args.tables.now) fs c.loop-k.k c.f-item.result inside item _ c.loop-k.invariant (sym c.in-None.is ∙ c.in_ok-spot.ensures)
