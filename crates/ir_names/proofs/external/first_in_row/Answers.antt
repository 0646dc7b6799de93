use Rattle.std.proofs.Common.{refl, sym, ◌∙◌}
use Rattle.std.specs.List.{flat_map}
use Rattle.ir_names.specs.Outer.{wrong_in_function}
use Rattle.ir_names.proofs.FirstLaws.{first_found, first_passed}
use Rattle.ir_names.proofs.external.first_in_row.Goals as goal

pub returns-in-Some : goal.returns-in-Some
returns-in-Some c =
    first_found (flat_map (wrong_in_function c.args.tables.now)) (wrong_in_function c.args.tables.now) (λ x xs. refl) c.args.functions.now c.loop-f.f-index c.f-item.result c.loop-f-test.true c.f-item.is _ c.loop-f.invariant c.in-Some.marked (sym c.in-Some.is ∙ c.in_ok-marked.ensures)

pub loop-f-preserved : goal.loop-f-preserved
loop-f-preserved c =
    first_passed (flat_map (wrong_in_function c.args.tables.now)) (wrong_in_function c.args.tables.now) (λ x xs. refl) c.args.functions.now c.loop-f.f-index c.f-item.result c.loop-f-test.true c.f-item.is _ c.loop-f.invariant (sym c.in-None.is ∙ c.in_ok-marked.ensures)
