use Rattle.obj_core.specs.Object.{functions_bytes}
use Rattle.obj_file.specs.Spellings.{function_in, IsFuncIn}
use Rattle.obj_file.specs.Texts.{IsFunctionText, Times, Fault}
use Rattle.obj_file.proofs.Primitive.{at_exit}
use Rattle.obj_file.proofs.Rows.{row_fault, row_more, functions_row}
use Rattle.obj_file.proofs.Limits.{good_function}
use Rattle.obj_file.proofs.Parts.{function_text}
use Rattle.obj_file.proofs.read.read_functions.Goals as goal

pub returns-in_err-function-clause-fault : goal.returns-in_err-function-clause-fault
returns-in_err-function-clause-fault c =
    let bytes = c.args.bytes.now in
    at_exit _ _ (Fault (Times (IsFunctionText c.args.format) c.args.count) bytes c.args.at) c.from_residual.ensures.1
    (row_fault (IsFuncIn c.args.format) (function_in c.args.format) (functions_bytes (function_in c.args.format)) (IsFunctionText c.args.format) (functions_row (function_in c.args.format)) bytes c.args.at c.loop.end c.loop.counter c.args.count c.loop.functions _ (good_function c.args.format) (function_text c.args.format) c.loop.invariant c.loop-test.true c.in_err-function.ensures.fault)

pub loop-preserved : goal.loop-preserved
loop-preserved c =
    row_more (IsFuncIn c.args.format) (function_in c.args.format) (functions_bytes (function_in c.args.format)) (functions_row (function_in c.args.format)) c.args.bytes.now c.args.at c.loop.end c.in_ok-function.function.end c.loop.counter c.loop.functions c.in_ok-function.function.value c.add.new.self
    c.loop.invariant c.in_ok-function.ensures.function c.in_ok-function.ensures.read c.in_ok-add.ensures.put
