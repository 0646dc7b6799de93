use Rattle.std.proofs.Common.{◌∙◌, sym}
use Rattle.ir_core.specs.declared.instruction.Entry.{Entry}
use Rattle.ir_core.specs.Names.{same_name, first_where}
use Rattle.ir_core.specs.Valid.{agrees_with}
use Rattle.ir_types.proofs.RowLaws.{all_passed, all_failed}
use Rattle.ir_types.proofs.phi.do_agree.Goals as goal

pub returns-then-not-agrees_in : goal.returns-then-not-agrees_in
returns-then-not-agrees_in c = all_failed (λ (e : Entry). agrees_with e (first_where (λ (g : Entry). same_name g.from e.from) c.args.entries.now)) c.args.entries.now c.loop-e.e-index c.e-item.result c.loop-e-test.true c.e-item.is (sym c.agrees_in.ensures ∙ c.if-not-agrees_in.true) ∙ c.loop-e.invariant

pub loop-e-preserved : goal.loop-e-preserved
loop-e-preserved c = all_passed (λ (e : Entry). agrees_with e (first_where (λ (g : Entry). same_name g.from e.from) c.args.entries.now)) c.args.entries.now c.loop-e.e-index c.e-item.result c.loop-e-test.true c.e-item.is (sym c.agrees_in.ensures ∙ c.if-not-agrees_in.false) ∙ c.loop-e.invariant
