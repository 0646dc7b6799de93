use Rattle.obj_core.specs.Object.{functions_bytes}
use Rattle.obj_file.specs.Spellings.{function_in, IsFuncIn}
use Rattle.obj_file.proofs.Rows.{RowRead}
use Rattle.obj_file.proofs.read.read_functions.Given as goal

-- the functions so far
abbrev pub invariant-loop : goal.invariant-loop
invariant-loop l = RowRead (IsFuncIn l.format) (functions_bytes (function_in l.format)) l.bytes l.at l.end l.counter l.functions
