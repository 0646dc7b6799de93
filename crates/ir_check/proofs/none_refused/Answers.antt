use Rattle.std.proofs.Common.{◌≡◌, ◌∙◌, [], None, ap, sym, map, subst}
use Rattle.ir_core.specs.declared.module.Module.{Module}
use Rattle.ir_core.specs.Definitions.{doubled}
use Rattle.ir_core.specs.Refusals.{Doubled, Unknown, External, unknown, external, without_main, first_fault}
use Rattle.ir_check.specs.declared.CheckFault.TheVariants.{NoMemory}
use Rattle.ir_check.specs.Answers.{refusal_of, first_of, IsFirst}
use Rattle.ir_check.proofs.FirstLaws.{mapped_none, decides_exit}
use Rattle.ir_check.proofs.RefusalLaws.{at_doubled, at_unknown, at_limit, at_external, at_main, at_types}
use Rattle.ir_check.proofs.none_refused.Goals as goal

pub returns-in_err-none_doubled : goal.returns-in_err-none_doubled
returns-in_err-none_doubled c =
    decides_exit (first_fault c.args.whole.now) c.from_residual.result c.in_err-none_doubled.field-0.0 c.from_residual.ensures.1
    (at_doubled c.args.whole.now (refusal_of c.in_err-none_doubled.field-0.0) c.in_err-none_doubled.ensures)

pub new-requires : goal.new-requires
new-requires c = mapped_none Doubled (doubled c.args.whole.now) c.in_ok-none_doubled.ensures

pub none_unknown-requires : goal.none_unknown-requires
none_unknown-requires c = ap doubled c.in_ok-tables.ensures ∙ mapped_none Doubled (doubled c.args.whole.now) c.in_ok-none_doubled.ensures

pub none_limited-requires : goal.none_limited-requires
none_limited-requires c = mapped_none Doubled (doubled c.args.whole.now) c.in_ok-none_doubled.ensures

pub returns-in_err-tables : goal.returns-in_err-tables
returns-in_err-tables c = decides_exit (first_fault c.args.whole.now) c.from_residual-in_err-tables.result NoMemory c.from_residual-in_err-tables.ensures.1 tt

pub returns-in_err-none_unknown : goal.returns-in_err-none_unknown
returns-in_err-none_unknown c =
    let o = refusal_of c.in_err-none_unknown.field-0.0 in
    decides_exit (first_fault c.args.whole.now) c.from_residual-in_err-none_unknown.result c.in_err-none_unknown.field-0.0 c.from_residual-in_err-none_unknown.ensures.1
    (at_unknown c.args.whole.now c.in_ok-none_doubled.ensures o
    (subst (λ (w : Module). IsFirst (first_of (map Unknown (unknown w))) o) c.in_ok-tables.ensures c.in_err-none_unknown.ensures))

pub returns-in_err-none_limited : goal.returns-in_err-none_limited
returns-in_err-none_limited c =
    let known = ap (λ (w : Module). first_of (map Unknown (unknown w))) (sym c.in_ok-tables.ensures) ∙ c.in_ok-none_unknown.ensures in
    decides_exit (first_fault c.args.whole.now) c.from_residual-in_err-none_limited.result c.in_err-none_limited.field-0.0 c.from_residual-in_err-none_limited.ensures.1
    (at_limit c.args.whole.now c.in_ok-none_doubled.ensures known (refusal_of c.in_err-none_limited.field-0.0) c.in_err-none_limited.ensures)

pub returns-in_err-none_external : goal.returns-in_err-none_external
returns-in_err-none_external c =
    let o = refusal_of c.in_err-none_external.field-0.0 in
    let known = ap (λ (w : Module). first_of (map Unknown (unknown w))) (sym c.in_ok-tables.ensures) ∙ c.in_ok-none_unknown.ensures in
    decides_exit (first_fault c.args.whole.now) c.from_residual-in_err-none_external.result c.in_err-none_external.field-0.0 c.from_residual-in_err-none_external.ensures.1
    (at_external c.args.whole.now c.in_ok-none_doubled.ensures known c.in_ok-none_limited.ensures o
    (subst (λ (w : Module). IsFirst (first_of (map External (external w))) o) c.in_ok-tables.ensures c.in_err-none_external.ensures))

pub returns-in_err-with_main : goal.returns-in_err-with_main
returns-in_err-with_main c =
    let o = refusal_of c.in_err-with_main.field-0.0 in
    let known = ap (λ (w : Module). first_of (map Unknown (unknown w))) (sym c.in_ok-tables.ensures) ∙ c.in_ok-none_unknown.ensures in
    let used = ap (λ (w : Module). first_of (map External (external w))) (sym c.in_ok-tables.ensures) ∙ c.in_ok-none_external.ensures in
    decides_exit (first_fault c.args.whole.now) c.from_residual-in_err-with_main.result c.in_err-with_main.field-0.0 c.from_residual-in_err-with_main.ensures.1
    (at_main c.args.whole.now c.in_ok-none_doubled.ensures known c.in_ok-none_limited.ensures used o
    (subst (λ (w : Module). IsFirst (first_of (without_main w)) o) c.in_ok-tables.ensures c.in_err-with_main.ensures))

pub all_typed-requires-clause-apart : goal.all_typed-requires-clause-apart
all_typed-requires-clause-apart c = mapped_none Doubled (doubled c.args.whole.now) c.in_ok-none_doubled.ensures

pub returns : goal.returns
returns c =
    let known = ap (λ (w : Module). first_of (map Unknown (unknown w))) (sym c.in_ok-tables.ensures) ∙ c.in_ok-none_unknown.ensures in
    let used = ap (λ (w : Module). first_of (map External (external w))) (sym c.in_ok-tables.ensures) ∙ c.in_ok-none_external.ensures in
    let there = ap (λ (w : Module). first_of (without_main w)) (sym c.in_ok-tables.ensures) ∙ c.in_ok-with_main.ensures in
    at_types c.args.whole.now c.in_ok-none_doubled.ensures known c.in_ok-none_limited.ensures used there c.all_typed.result c.all_typed.ensures
