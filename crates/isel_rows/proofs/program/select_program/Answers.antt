use Rattle.std.proofs.Common.{◌≡◌, ◌++◌, [], map, length, ap, sym, subst, ◌∙◌, refl, arith}
use Rattle.std.specs.List.{All, flat_map, list_any}
use Rattle.ir_core.specs.declared.limit.TheConstants.{MAX_FUNCTIONS}
use Rattle.std.specs.Prelude.{codes}
use Rattle.ir_core.specs.declared.module.Function.{Function}
use Rattle.ir_core.specs.declared.module.Module.{Module}
use Rattle.ir_core.specs.Operands.{function_number}
use Rattle.isel_rows.specs.Variables.{number_or_first}
use Rattle.ir_core.specs.Definitions.{repeated}
use Rattle.ir_core.specs.Names.{same_name}
use Rattle.ir_context.proofs.Apart.{globals_differ, functions_differ}
use Rattle.low_core.specs.declared.moves.Body.{Body}
use Rattle.low_core.specs.declared.moves.Chunk.{Chunk}
use Rattle.low_core.specs.Plain.{with_bodies, plain}
use Rattle.low_core.specs.Weights.{lean_own}
use Rattle.isel_rows.specs.Functions.{function_selected}
use Rattle.isel_rows.specs.Symbols.{body_symbols, global_symbols}
use Rattle.isel_rows.proofs.ProgramLaws.{labels_of_bodies, names_of_functions, length_of_bodies, taken_are, whole_program}
use Rattle.isel_rows.proofs.program.select_program.Goals as goal

pub new-requires-clause-globals : goal.new-requires-clause-globals
new-requires-clause-globals c = globals_differ (plain c.args.lean.now.base.now c.args.lean.now.bodies) c.requires.shaped.shaped.symbols_apart

pub new-requires-clause-functions : goal.new-requires-clause-functions
new-requires-clause-functions c =
    let base = c.args.lean.now.base.now in
    let bodies = c.args.lean.now.bodies in
    ap (repeated []) (sym (names_of_functions base.functions bodies c.requires.shaped.one_each)) ∙ functions_differ (plain base bodies) c.requires.shaped.shaped.symbols_apart

pub new-requires-clause-few : goal.new-requires-clause-few
new-requires-clause-few c =
    let base = c.args.lean.now.base.now in
    let bodies = c.args.lean.now.bodies in
    let few = c.requires.shaped.shaped.few in
    let same : length (with_bodies base.functions bodies) ≡ length base.functions = length_of_bodies base.functions bodies c.requires.shaped.one_each in
    let most : MAX_FUNCTIONS ≡ 4096 = refl in
    omega arith

pub select_functions-requires-clause-labels : goal.select_functions-requires-clause-labels
select_functions-requires-clause-labels c =
    let base = c.args.lean.now.base.now in
    let bodies = c.args.lean.now.bodies in
    subst (All (λ (b : Body). repeated [] (map (λ (x : Chunk). x.label) b.chunks) ≡ [])) (sym c.as_slice-bodies.ensures)
    (labels_of_bodies lean_own (plain base bodies) base.functions bodies c.requires.shaped.one_each c.requires.shaped.shaped.functions)

pub returns : goal.returns
returns c =
    let base = c.args.lean.now.base.now in
    let bodies = c.args.lean.now.bodies in
    let slice = c.as_slice-bodies.result.now in
    let used = flat_map global_symbols base.globals ++ flat_map body_symbols slice in
    whole_program base bodies c.requires.shaped.one_each c.in_ok-functions.functions c.in_ok-main.main c.in_ok-taken.taken
    (c.in_ok-functions.ensures ∙ ap (λ (m : Module). map (function_selected m) (with_bodies c.as_slice-2.result.now slice)) c.in_ok-context.ensures
    ∙ ap (λ fs. map (function_selected base) (with_bodies fs slice)) c.as_slice-2.ensures ∙ ap (λ bs. map (function_selected base) (with_bodies base.functions bs)) c.as_slice-bodies.ensures)
    (c.in_ok-main.ensures ∙ ap (λ (m : Module). number_or_first (function_number m (codes "main"))) c.in_ok-context.ensures)
    (c.in_ok-taken.ensures ∙ ap (map (λ (f : Function). list_any (same_name f.name) c.in_ok-names.names)) c.as_slice.ensures
    ∙ taken_are base bodies c.in_ok-names.names used c.requires.shaped.one_each c.in_ok-names.ensures (ap (λ bs. flat_map global_symbols base.globals ++ flat_map body_symbols bs) c.as_slice-bodies.ensures))
