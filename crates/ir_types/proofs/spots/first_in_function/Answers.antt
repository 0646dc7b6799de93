use Rattle.std.proofs.Common.{◌∙◌, ap}
use Rattle.ir_core.specs.declared.module.Function.{Function}
use Rattle.ir_core.specs.Built.{blocks_built}
use Rattle.ir_types.proofs.BuiltLaws.{function_blocks}
use Rattle.ir_types.proofs.spots.first_in_function.Goals as goal

pub first_block-requires-clause-built : goal.first_block-requires-clause-built
first_block-requires-clause-built c = ap (λ (f : Function). blocks_built f.blocks) c.in_ok-scope.ensures ∙ function_blocks c.args.f.now c.requires.built
