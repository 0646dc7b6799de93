use Rattle.std.proofs.Common.{◌≡◌, ◌++◌, drop}
use Rattle.obj_core.specs.Object.{Each, function_bytes, functions_bytes}
use Rattle.obj_file.specs.Fits.{FunctionFits}
use Rattle.obj_file.proofs.write.put_functions.Given as goal

-- the bytes so far, and those of the functions that are left, are the whole
abbrev pub invariant-loop-function : goal.invariant-loop-function
invariant-loop-function l = (l.out ++ functions_bytes function_bytes (drop l.function-index l.functions) ≡ l.fn.out ++ functions_bytes function_bytes l.functions) × Each FunctionFits (drop l.function-index l.functions)
