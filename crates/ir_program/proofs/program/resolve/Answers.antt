use Rattle.std.proofs.Common.{◌≡◌, [], sym, subst, All}
use Rattle.ir_core.specs.declared.module.Function.{Function}
use Rattle.ir_core.specs.Definitions.{repeated, local_names}
use Rattle.ir_core.proofs.Distinct.{types_differ, variables_differ, functions_differ, locals_of_functions, locals_at}
use Rattle.ir_program.proofs.program.resolve.Goals as goal

pub new-requires-clause-types : goal.new-requires-clause-types
new-requires-clause-types c = types_differ c.args.whole.now c.requires.distinct

pub new-requires-clause-globals : goal.new-requires-clause-globals
new-requires-clause-globals c = variables_differ c.args.whole.now c.requires.distinct

pub new-requires-clause-functions : goal.new-requires-clause-functions
new-requires-clause-functions c = functions_differ c.args.whole.now c.requires.distinct

pub bodies-requires : goal.bodies-requires
bodies-requires c =
    subst (All (λ (f : Function). repeated [] (local_names f) ≡ [])) (sym c.as_slice.ensures)
    (λ k f inside. locals_at c.args.whole.now.functions (locals_of_functions c.args.whole.now c.requires.distinct) k f inside)
