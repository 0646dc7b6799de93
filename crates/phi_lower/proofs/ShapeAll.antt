-- A program without phis keeps the rules of programs of moves.
use Rattle.std.proofs.Common.{◌≡◌, ℕ, ◌+◌, ◌≤◌, List, [], ◌∷◌, ◌++◌, ◌&&◌, map, Option, None, sym, subst}
use Rattle.std.proofs.Props.{props}
use Rattle.std.proofs.lemmas.Bool.{and_parts}
use Rattle.std.proofs.Math.Logic.{∥∥₁_elim}
use Rattle.std.specs.List.{flat_map, enumerate_from}
use Rattle.ir_core.specs.declared.limit.Spot.{Spot}
use Rattle.ir_core.specs.declared.module.Extern.{Extern}
use Rattle.ir_core.specs.declared.module.Function.{Function}
use Rattle.ir_core.specs.declared.module.GlobalVar.{GlobalVar}
use Rattle.ir_core.specs.declared.module.Module.{Module}
use Rattle.ir_core.specs.Counts.{frame_count}
use Rattle.ir_core.specs.Definitions.{block_names, param_names}
use Rattle.ir_core.specs.Refusals.{Fault, IsValid}
use Rattle.ir_core.specs.Valid.{init_fits, declaration_fits, unless, faults_in_function}
use Rattle.ir_core.specs.declared.limit.TheConstants.{MAX_FRAME}
use Rattle.ir_core.proofs.Distinct.{repeated_split}
use Rattle.ir_sound.specs.WellTyped.{Each}
use Rattle.ir_sound.proofs.NoFaults.{both_empty, unrefused}
use Rattle.ir_sound.proofs.ValidTyped.{valid_typed}
use Rattle.low_core.specs.declared.moves.Body.{Body}
use Rattle.low_core.specs.Shaped.{IsFunctionShaped, IsModuleShaped, AreShaped}
use Rattle.low_core.specs.Weights.{low_own}
use Rattle.phi_lower.specs.Lowered.{bodies_without_phis}
use Rattle.ir_core.specs.Built.{built_all, named_built, global_built, extern_built, function_built}
use Rattle.phi_lower.proofs.Same.{all_built}
use Rattle.phi_lower.proofs.Turns.{lowered, without_phis}
use Rattle.phi_lower.proofs.Keeps.{plain_is}
use Rattle.phi_lower.proofs.BodyLaws.{bodies_made, bodies_each}
use Rattle.phi_lower.proofs.ShapeLimits.{all_of, limits_kept}
use Rattle.phi_lower.proofs.ShapeBase.{shaped_types, shaped_symbols, shaped_few, shaped_main, shaped_globals, shaped_declared, shaped_weighs}
use Rattle.phi_lower.proofs.ShapeMentions.{shaped_nested, shaped_sized, shaped_outside}
use Rattle.phi_lower.proofs.ShapeCounts.{shaped_passed, shaped_room}
use Rattle.phi_lower.proofs.ShapeBuilt.{IsFine, functions_fine}
use Rattle.phi_lower.proofs.ShapeLabels.{shaped_labels}
use Rattle.phi_lower.proofs.ShapeKnown.{shaped_known}
use Rattle.phi_lower.proofs.ShapeFits.{function_rules, shaped_fits}

-- a function
function_shaped : (m : Module) (number : ℕ) (f : Function) → IsFine f → frame_count m.types f ≤ MAX_FRAME → faults_in_function m (number, f) ≡ [] → IsFunctionShaped low_own (without_phis m) (lowered f)
function_shaped m number f fine frame none =
    let rules = function_rules m number f none in
    record {
      typed = rules.own;
      fits = shaped_fits m f fine rules;
      labels = shaped_labels f fine;
      params = (repeated_split [] (param_names f) (flat_map block_names f.blocks) fine.single).0;
      room = shaped_room m f frame;
    }

functions_shaped : (m : Module) (k : ℕ) (fs : List Function) → Each IsFine fs → Each (λ (f : Function). frame_count m.types f ≤ MAX_FRAME) fs → flat_map (faults_in_function m) (enumerate_from k fs) ≡ [] → Each (IsFunctionShaped low_own (without_phis m)) (map lowered fs)
functions_shaped m k [] fine frames none = tt
functions_shaped m k (f ∷ fs) fine frames none =
    let p = both_empty (faults_in_function m (k, f)) (flat_map (faults_in_function m) (enumerate_from (k + 1) fs)) none in
    (function_shaped m k f fine.0 frames.0 p.0, functions_shaped m (k + 1) fs fine.1 frames.1 p.1)

abbrev outer_faults : Module → List Spot
outer_faults m =
    flat_map (λ (p : ℕ × GlobalVar). unless (init_fits m p.1.init p.1.ty) (Spot.Global p.0)) (enumerate_from 0 m.globals)
    ++ flat_map (λ (p : ℕ × Extern). unless (declaration_fits p.1) (Spot.Extern p.0)) (enumerate_from 0 m.externs)

pub module_shaped : (m : Module) → IsValid m → IsModuleShaped low_own (without_phis m)
module_shaped m valid =
    let u = unrefused m valid.accepted in
    let faults = both_empty (outer_faults m) (flat_map (faults_in_function m) (enumerate_from 0 m.functions)) u.typed in
    record {
      types_apart = shaped_types m valid;
      symbols_apart = shaped_symbols m valid;
      known = shaped_known m valid;
      nested = shaped_nested m valid;
      sized = shaped_sized m valid;
      few = shaped_few m valid;
      passed = shaped_passed m valid;
      outside = shaped_outside m valid;
      main = shaped_main m valid;
      globals = shaped_globals m valid;
      types_built = all_built named_built m.types (and_parts (built_all named_built m.types) (built_all global_built m.globals) (and_parts (built_all named_built m.types && built_all global_built m.globals) (built_all extern_built m.externs && built_all function_built m.functions) valid.built).0).0;
      inits_built = (valid_typed m valid).inits;
      declared = shaped_declared m valid;
      functions = all_of (IsFunctionShaped low_own (without_phis m)) (map lowered m.functions) (functions_shaped m 0 m.functions (functions_fine m valid) (limits_kept m u.limited).frames faults.1);
      weighs = shaped_weighs m valid;
    }

-- the bodies of a valid module
pub bodies_shaped : (m : Module) → IsValid m → AreShaped low_own m (bodies_without_phis m)
bodies_shaped m valid = record {
  one_each = bodies_each m;
  made_of_moves = bodies_made m (valid_typed m valid).functions;
  shaped = subst (IsModuleShaped low_own) (sym (plain_is m)) (module_shaped m valid);
}

-- no refusal is no refusal in one way
no_fault : (o : Option Fault) → IsProp (o ≡ None)
no_fault = hlevel props

-- so are those of one that is known to be valid and no more
pub known_shaped : (base : Module) (bodies : List Body) → ∥ IsValid base ∥₁ → bodies ≡ bodies_without_phis base → AreShaped low_own base bodies
known_shaped base bodies known are = subst (AreShaped low_own base) (sym are) (bodies_shaped base (∥∥₁_elim known (hlevel (props, no_fault)) (λ valid. valid)))
