use Rattle.std.proofs.Common.{ap, subst}
use Rattle.std.specs.Option.{option_copied}
use Rattle.ir_core.specs.Definitions.{block_names}
use Rattle.ir_names.specs.Firsts.{Adds}
use Rattle.ir_names.proofs.AddLaws.{loop_found, loop_passed}
use Rattle.ir_names.proofs.doubled.add_blocks.Goals as goal

pub returns-in-Some : goal.returns-in-Some
returns-in-Some c =
    loop_found block_names c.args.blocks.now c.loop-b.b-index c.b-item.result c.loop-b-test.true c.b-item.is c.args.names.now c.loop-b.names c.add_block.new.names c.loop-b.invariant c.in-Some.name.now
    (subst (λ r. Adds c.loop-b.names c.add_block.new.names (block_names c.b-item.result) r) (ap option_copied c.in-Some.is) c.in_ok-name.ensures)

pub loop-b-preserved : goal.loop-b-preserved
loop-b-preserved c =
    loop_passed block_names c.args.blocks.now c.loop-b.b-index c.b-item.result c.loop-b-test.true c.b-item.is c.args.names.now c.loop-b.names c.add_block.new.names c.loop-b.invariant
    (subst (λ r. Adds c.loop-b.names c.add_block.new.names (block_names c.b-item.result) r) (ap option_copied c.in-None.is) c.in_ok-name.ensures)
