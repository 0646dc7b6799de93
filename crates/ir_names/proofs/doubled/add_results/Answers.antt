use Rattle.std.proofs.Common.{ap, subst}
use Rattle.std.specs.Option.{option_copied}
use Rattle.ir_core.specs.declared.instruction.Inst.{Inst}
use Rattle.ir_core.specs.Definitions.{result_names}
use Rattle.ir_names.specs.Firsts.{Adds}
use Rattle.ir_names.proofs.AddLaws.{loop_found, loop_passed}
use Rattle.ir_names.proofs.doubled.add_results.Goals as goal

pub returns-in-Some : goal.returns-in-Some
returns-in-Some c =
    loop_found (λ (i : Inst). result_names i.result) c.args.insts.now c.loop-i.i-index c.i-item.result c.loop-i-test.true c.i-item.is c.args.names.now c.loop-i.names c.add_result.new.names c.loop-i.invariant c.in-Some.name.now
    (subst (λ r. Adds c.loop-i.names c.add_result.new.names ((λ (i : Inst). result_names i.result) c.i-item.result) r) (ap option_copied c.in-Some.is) c.in_ok-name.ensures)

pub loop-i-preserved : goal.loop-i-preserved
loop-i-preserved c =
    loop_passed (λ (i : Inst). result_names i.result) c.args.insts.now c.loop-i.i-index c.i-item.result c.loop-i-test.true c.i-item.is c.args.names.now c.loop-i.names c.add_result.new.names c.loop-i.invariant
    (subst (λ r. Adds c.loop-i.names c.add_result.new.names ((λ (i : Inst). result_names i.result) c.i-item.result) r) (ap option_copied c.in-None.is) c.in_ok-name.ensures)
