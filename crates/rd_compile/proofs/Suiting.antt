-- The object of a program of registers suits it, and is well formed.
use Rattle.std.proofs.Common.{◌≡◌, ℕ, ◌+◌, ◌*◌, ◌≤◌, List, length, sym, subst, ◌∙◌}
use Rattle.std.specs.List.{All}
use Rattle.behavior.specs.Moment.{Behavior}
use Rattle.behavior.specs.Preserves.{Preserves, ReachesWithin}
use Rattle.behavior.proofs.Laws.{preserves_trans, reaches_within_trans}
use Rattle.ir_core.specs.declared.TheConstants.{MAX_CALLS}
use Rattle.ir_core.specs.declared.module.Module.{Module}
use Rattle.ir_core.specs.Globals.{first_objects, global_object}
use Rattle.ir_sound.proofs.RowLaws.{length_map}
use Rattle.x86_core.specs.Data.{stack_end, data_segments}
use Rattle.low_core.specs.declared.sel.SelFun.{SelFun}
use Rattle.low_core.specs.declared.sel.Sel.{Sel}
use Rattle.low_core.specs.Contents.{addresses_of, content_of, data_bytes}
use Rattle.low_core.specs.Placing.{ArePlaced}
use Rattle.low_core.specs.Plan.{Plan, Content, PlanFits, NamesOneOf, global_spans, first_bytes}
use Rattle.low_core.specs.SelRun.{sel_run}
use Rattle.low_core.specs.SelParts.{ops_of}
use Rattle.low_core.specs.SelShaped.{IsSel}
use Rattle.obj_core.specs.declared.object.Object.{Object}
use Rattle.obj_core.specs.Object.{Each, IsByte, IsObject}
use Rattle.obj_core.specs.SymbolicMachine.{symbolic_behavior}
use Rattle.obj_core.specs.WellFormed.{most_data, IsWellFormed}
use Rattle.obj_rows.specs.Routines.{AreRoutines}
use Rattle.obj_rows.specs.Standing.{first_core}
use Rattle.frame_rows.specs.Ties.{Contains}
use Rattle.rt_routines.specs.Code.{routines_of}
use Rattle.rt_routines.proofs.Planned.{are_sound}
use Rattle.rt_routines.proofs.Standing.{are_routines}
use Rattle.frame_lower.specs.Functions.{Choices, lowered}
use Rattle.frame_lower.specs.Given.{AreChosen}
use Rattle.frame_lower.specs.Meaning.{most_steps}
use Rattle.frame_lower.specs.Planned.{plan_of}
use Rattle.frame_lower.specs.Suits.{Suits}
use Rattle.frame_lower.proofs.LinkedOnce.{lowered_long}
use Rattle.frame_lower.proofs.Suiting.{by, live, suits}
use Rattle.frame_lower.proofs.Meaning.{means, means_within}
use Rattle.frame_lower.proofs.WellFormed.{well_formed}
use Rattle.obj_check.specs.Ranges.{AreNumbers}
use Rattle.rd_compile.specs.Passed.{choices_of, IsObjectOf}
use Rattle.rd_compile.proofs.Choosing.{are_chosen}
use Rattle.rd_compile.proofs.Containing.{contains}
use Rattle.rd_compile.proofs.Counting.{few_data, is_object}
use Rattle.rd_compile.proofs.Fitting.{fits}
use Rattle.rd_compile.proofs.OwnHomes.{homes_own, homes_placed}

module _ (m : Module) (sel : Sel) (slot_seed reg_seed : ℕ) (o : Object) (shaped : IsSel sel) (is : IsObjectOf m sel slot_seed reg_seed o) where
  abbrev pub choices : Choices
  choices = choices_of sel reg_seed is.slots is.placing

  abbrev pub contents : List Content
  contents = data_bytes m (plan_of choices sel)

  pub placed : ArePlaced contents is.placing.globals is.placing.ro is.placing.rw
  placed = is.holds

  pub chosen : AreChosen choices sel slot_seed
  chosen = are_chosen sel slot_seed reg_seed is.slots is.placing contents shaped is.plan placed is.few

  few : length o.ro + length o.rw ≤ most_data
  few = few_data choices sel slot_seed chosen o is.assembled is.few

  pub object_well_formed : AreNumbers o → IsWellFormed o
  object_well_formed known =
      well_formed choices sel slot_seed chosen (routines_of is.slots) o is.assembled (are_sound sel shaped slot_seed is.slots is.plan) (is_object choices sel slot_seed chosen o is.assembled is.few known) few

  -- a plan that fits
  pub plan_fits : All (λ (f : SelFun). All (NamesOneOf (length contents)) (ops_of f)) sel.functions → PlanFits sel contents (plan_of choices sel)
  plan_fits named = fits choices sel slot_seed contents shaped is.plan placed is.few (homes_placed sel.functions) named

  -- its data is there at first
  pub data_held : IsObject o → Contains stack_end 0 (record { spans = global_spans is.placing.globals contents; bytes = first_bytes is.placing.globals contents }) (first_core o).segments
  data_held object =
      subst (λ ro. Contains stack_end 0 (record { spans = global_spans is.placing.globals contents; bytes = first_bytes is.placing.globals contents }) (data_segments ro o.rw)) (sym is.assembled.ro)
      (subst (λ rw. Contains stack_end 0 (record { spans = global_spans is.placing.globals contents; bytes = first_bytes is.placing.globals contents }) (data_segments is.placing.ro rw)) (sym is.assembled.rw)
      (contains contents is.placing.globals is.placing.ro is.placing.rw placed is.few (subst (Each IsByte) is.assembled.ro object.ro) (subst (Each IsByte) is.assembled.rw object.rw)))

  pub routines_there : AreRoutines o (length sel.functions) sel.main MAX_CALLS
  routines_there = are_routines sel shaped slot_seed is.slots is.plan (lowered choices sel) (lowered_long choices sel) is.placing reg_seed o is.assembled few

  -- so it suits the program
  pub object_suits : All (λ (f : SelFun). All (NamesOneOf (length contents)) (ops_of f)) sel.functions → IsObject o →
      Suits o sel (plan_of choices sel) contents (by choices sel slot_seed chosen (homes_own sel.functions)) (live choices sel slot_seed chosen (homes_own sel.functions))
  object_suits named object =
      suits choices sel slot_seed chosen (homes_own sel.functions) (routines_of is.slots) o is.assembled contents (plan_fits named) routines_there few (data_held object)

  -- a global for each content
  contents_long : length contents ≡ length m.globals
  contents_long = length_map (content_of (addresses_of (plan_of choices sel))) (first_objects m) ∙ length_map (global_object m) m.globals

  -- and shows what the program shows, where the program names globals of the module alone
  module _ (names : All (λ (f : SelFun). All (NamesOneOf (length m.globals)) (ops_of f)) sel.functions) (known : AreNumbers o) where
    named : All (λ (f : SelFun). All (NamesOneOf (length contents)) (ops_of f)) sel.functions
    named = subst (λ n. All (λ (f : SelFun). All (NamesOneOf n) (ops_of f)) sel.functions) (sym contents_long) names

    object : IsObject o
    object = is_object choices sel slot_seed chosen o is.assembled is.few known

    pub object_means : (A : Behavior) → ((plan : Plan) → PlanFits sel (data_bytes m plan) plan → Preserves A (sel_run sel plan (data_bytes m plan))) → Preserves A (symbolic_behavior o)
    object_means A keeps =
        preserves_trans A (sel_run sel (plan_of choices sel) contents) (symbolic_behavior o) (keeps (plan_of choices sel) (plan_fits named))
        (means choices sel slot_seed (routines_of is.slots) o contents chosen (homes_own sel.functions) is.assembled (plan_fits named) routines_there few (data_held object) object)

    pub object_within : (A : Behavior) (begin cost : ℕ) → ((plan : Plan) → PlanFits sel (data_bytes m plan) plan → ReachesWithin begin cost A (sel_run sel plan (data_bytes m plan))) →
        ReachesWithin (most_steps + most_steps * begin) (most_steps * cost) A (symbolic_behavior o)
    object_within A begin cost within =
        reaches_within_trans A (sel_run sel (plan_of choices sel) contents) (symbolic_behavior o) begin cost most_steps most_steps (within (plan_of choices sel) (plan_fits named))
        (means_within choices sel slot_seed (routines_of is.slots) o contents chosen (homes_own sel.functions) is.assembled (plan_fits named) routines_there few (data_held object) object)
