use Rattle.std.proofs.Common.{◌∙◌, sym}
use Rattle.ir_names.proofs.AddLaws.{function_found, function_passed}
use Rattle.ir_names.proofs.doubled.first_of_functions.Goals as goal

pub returns-in-Some : goal.returns-in-Some
returns-in-Some c = function_found c.loop-f.names c.args.functions.now c.loop-f.f-index c.f-item.result c.loop-f-test.true c.f-item.is _ c.loop-f.invariant c.in-Some.marked (sym c.in-Some.is ∙ c.in_ok-marked.ensures.first)

pub loop-f-preserved : goal.loop-f-preserved
loop-f-preserved c = function_passed c.loop-f.names c.args.functions.now c.loop-f.f-index c.f-item.result c.loop-f-test.true c.f-item.is _ c.loop-f.invariant c.add_function.new.names (sym c.in-None.is ∙ c.in_ok-marked.ensures.first) (c.in_ok-marked.ensures.added c.in-None.is)
