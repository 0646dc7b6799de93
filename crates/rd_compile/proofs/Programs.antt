-- The passes down to the program of registers, one after another.
use Rattle.std.proofs.Common.{◌≡◌, ◌+◌, ◌*◌, List, length, ap, subst, ◌∙◌, arith}
use Rattle.std.specs.List.{All}
use Rattle.behavior.specs.Preserves.{Preserves, ReachesWithin}
use Rattle.behavior.proofs.Laws.{preserves_trans, reaches_within_trans}
use Rattle.ir_core.specs.declared.module.Module.{Module}
use Rattle.ir_core.specs.Run.{source_run}
use Rattle.low_core.specs.declared.moves.Body.{Body}
use Rattle.low_core.specs.declared.sel.SelFun.{SelFun}
use Rattle.low_core.specs.declared.sel.Sel.{Sel}
use Rattle.low_core.specs.Contents.{data_bytes}
use Rattle.low_core.specs.Plain.{moves_run}
use Rattle.low_core.specs.Plan.{Plan, PlanFits, NamesOneOf}
use Rattle.low_core.specs.SelParts.{ops_of}
use Rattle.low_core.specs.SelRun.{sel_run}
use Rattle.phi_lower.specs.Bound.{most_steps as phi_steps}
use Rattle.phi_lower.specs.Lowered.{bodies_without_phis}
use Rattle.switch_lower.specs.Bodies.{bodies_without_switches}
use Rattle.switch_lower.specs.Bound.{most_steps as switch_steps}
use Rattle.isel_rows.specs.Selected.{selected}
use Rattle.isel.specs.Bound.{longest}
use Rattle.rd_compile.specs.Program.{program_of, program_steps}

module _ (m low lean : Module) (bodies straight : List Body) (sel : Sel) (low_is : low ≡ m) (bodies_are : bodies ≡ bodies_without_phis m) (lean_is : lean ≡ low) (straight_are : straight ≡ bodies_without_switches low bodies)
    (sel_is : sel ≡ selected lean straight) where
  same : lean ≡ m
  same = lean_is ∙ low_is

  pub program_is : sel ≡ program_of m
  program_is =
      sel_is ∙ ap (λ b. selected b straight) same
      ∙ ap (selected m) (straight_are ∙ ap (λ b. bodies_without_switches b bodies) low_is ∙ ap (bodies_without_switches m) bodies_are)

  pub program_names : All (λ (f : SelFun). All (NamesOneOf (length lean.globals)) (ops_of f)) sel.functions → All (λ (f : SelFun). All (NamesOneOf (length m.globals)) (ops_of f)) sel.functions
  program_names names = subst (λ (b : Module). All (λ (f : SelFun). All (NamesOneOf (length b.globals)) (ops_of f)) sel.functions) same names

  pub program_keeps : Preserves (source_run m) (moves_run low bodies) → Preserves (moves_run low bodies) (moves_run lean straight) →
      ((plan : Plan) → PlanFits sel (data_bytes lean plan) plan → Preserves (moves_run lean straight) (sel_run sel plan (data_bytes lean plan))) →
      (plan : Plan) → PlanFits sel (data_bytes m plan) plan → Preserves (source_run m) (sel_run sel plan (data_bytes m plan))
  program_keeps one two three plan fits =
      let last : Preserves (moves_run lean straight) (sel_run sel plan (data_bytes m plan)) =
      subst (λ (b : Module). (p : Plan) → PlanFits sel (data_bytes b p) p → Preserves (moves_run lean straight) (sel_run sel p (data_bytes b p))) same three plan fits in
      preserves_trans (source_run m) (moves_run low bodies) (sel_run sel plan (data_bytes m plan)) one
      (preserves_trans (moves_run low bodies) (moves_run lean straight) (sel_run sel plan (data_bytes m plan)) two last)

  pub program_within : ReachesWithin 0 (phi_steps m) (source_run m) (moves_run low bodies) → ReachesWithin 0 (switch_steps bodies) (moves_run low bodies) (moves_run lean straight) →
      ((plan : Plan) → PlanFits sel (data_bytes lean plan) plan → ReachesWithin 0 (longest sel) (moves_run lean straight) (sel_run sel plan (data_bytes lean plan))) →
      (plan : Plan) → PlanFits sel (data_bytes m plan) plan → ReachesWithin 0 (program_steps m) (source_run m) (sel_run sel plan (data_bytes m plan))
  program_within one two three plan fits =
      let last : ReachesWithin 0 (longest sel) (moves_run lean straight) (sel_run sel plan (data_bytes m plan)) =
      subst (λ (b : Module). (p : Plan) → PlanFits sel (data_bytes b p) p → ReachesWithin 0 (longest sel) (moves_run lean straight) (sel_run sel p (data_bytes b p))) same three plan fits in
      let none : 0 + switch_steps bodies * 0 ≡ 0 = omega arith in
      let none_more : 0 + longest sel * 0 ≡ 0 = omega arith in
      let front : ReachesWithin 0 (switch_steps bodies * phi_steps m) (source_run m) (moves_run lean straight) =
      subst (λ b. ReachesWithin b (switch_steps bodies * phi_steps m) (source_run m) (moves_run lean straight)) none
      (reaches_within_trans (source_run m) (moves_run low bodies) (moves_run lean straight) 0 (phi_steps m) 0 (switch_steps bodies) one two) in
      let whole : ReachesWithin 0 (longest sel * (switch_steps bodies * phi_steps m)) (source_run m) (sel_run sel plan (data_bytes m plan)) =
      subst (λ b. ReachesWithin b (longest sel * (switch_steps bodies * phi_steps m)) (source_run m) (sel_run sel plan (data_bytes m plan))) none_more
      (reaches_within_trans (source_run m) (moves_run lean straight) (sel_run sel plan (data_bytes m plan)) 0 (switch_steps bodies * phi_steps m) 0 (longest sel) front last) in
      let cost : longest sel * (switch_steps bodies * phi_steps m) ≡ program_steps m =
      ap (λ s. longest s * (switch_steps bodies * phi_steps m)) program_is ∙ ap (λ bs. longest (program_of m) * (switch_steps bs * phi_steps m)) bodies_are in
      subst (λ n. ReachesWithin 0 n (source_run m) (sel_run sel plan (data_bytes m plan))) cost whole
