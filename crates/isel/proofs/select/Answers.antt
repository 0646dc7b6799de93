use Rattle.std.proofs.Common.{◌≡◌, ◌≤◌, All, length, sym, subst}
use Rattle.behavior.specs.Preserves.{Preserves, ReachesWithin}
use Rattle.low_core.specs.declared.sel.Sel.{Sel}
use Rattle.low_core.specs.declared.sel.SelFun.{SelFun}
use Rattle.low_core.specs.Contents.{data_bytes}
use Rattle.low_core.specs.Plain.{plain, moves_run}
use Rattle.low_core.specs.Plan.{NamesOneOf, Plan, PlanFits}
use Rattle.low_core.specs.SelParts.{ops_of}
use Rattle.low_core.specs.SelRun.{sel_run}
use Rattle.low_core.specs.SelShaped.{IsSel}
use Rattle.low_core.specs.SelWeights.{sel_weight, sel_returns_of, calls_by_address_of}
use Rattle.low_core.specs.Shaped.{returns_of, local_calls_of}
use Rattle.low_core.specs.Weights.{weight}
use Rattle.isel.specs.Bound.{longest}
use Rattle.isel.proofs.Selection as laws
use Rattle.isel.proofs.ShapeResult as shape
use Rattle.isel.proofs.select.Goals as goal

pub returns-clause-shaped : goal.returns-clause-shaped
returns-clause-shaped c = subst IsSel (sym c.in_ok-sel.ensures) (shape.selected_shaped c.args.lean.now c.requires)

pub returns-clause-keeps : goal.returns-clause-keeps
returns-clause-keeps c =
    let lean = c.args.lean.now in
    let base = lean.base.now in
    subst (λ (s : Sel). (plan : Plan) → PlanFits s (data_bytes base plan) plan → Preserves (moves_run base lean.bodies) (sel_run s plan (data_bytes base plan))) (sym c.in_ok-sel.ensures)
    (laws.keeps lean c.requires (shape.selected_shaped lean c.requires))

pub returns-clause-within : goal.returns-clause-within
returns-clause-within c =
    let lean = c.args.lean.now in
    let base = lean.base.now in
    subst (λ (s : Sel). (plan : Plan) → PlanFits s (data_bytes base plan) plan → ReachesWithin 0 (longest s) (moves_run base lean.bodies) (sel_run s plan (data_bytes base plan))) (sym c.in_ok-sel.ensures)
    (laws.keeps_within lean c.requires (shape.selected_shaped lean c.requires))

pub returns-clause-weighs : goal.returns-clause-weighs
returns-clause-weighs c =
    let lean = c.args.lean.now in
    subst (λ (s : Sel). sel_weight s ≤ weight (plain lean.base.now lean.bodies)) (sym c.in_ok-sel.ensures) (shape.selected_weighs lean c.requires)

pub returns-clause-returns : goal.returns-clause-returns
returns-clause-returns c =
    let lean = c.args.lean.now in
    subst (λ (s : Sel). sel_returns_of s ≤ returns_of (plain lean.base.now lean.bodies)) (sym c.in_ok-sel.ensures) (shape.selected_returns lean c.requires)

pub returns-clause-calls : goal.returns-clause-calls
returns-clause-calls c =
    let lean = c.args.lean.now in
    subst (λ (s : Sel). calls_by_address_of s ≤ local_calls_of (plain lean.base.now lean.bodies)) (sym c.in_ok-sel.ensures) (shape.selected_calls lean c.requires)

pub returns-clause-functions : goal.returns-clause-functions
returns-clause-functions c =
    let lean = c.args.lean.now in
    subst (λ (s : Sel). length s.functions ≡ length lean.base.now.functions) (sym c.in_ok-sel.ensures) (shape.selected_functions lean c.requires)

pub returns-clause-names : goal.returns-clause-names
returns-clause-names c =
    let lean = c.args.lean.now in
    subst (λ (s : Sel). All (λ (f : SelFun). All (NamesOneOf (length lean.base.now.globals)) (ops_of f)) s.functions) (sym c.in_ok-sel.ensures) (shape.selected_names lean c.requires)
