use Rattle.std.proofs.Common.{◌≡◌, ◌++◌, map, drop}
use Rattle.low_core.specs.Plain.{with_bodies}
use Rattle.isel_rows.specs.Functions.{function_selected}
use Rattle.isel_rows.proofs.program.select_functions.Given as goal

abbrev pub invariant-loop-k : goal.invariant-loop-k
invariant-loop-k l =
    l.all ++ map (function_selected l.fn.context) (with_bodies (drop l.k l.functions) (drop l.k l.bodies)) ≡ map (function_selected l.fn.context) (with_bodies l.functions l.bodies)
