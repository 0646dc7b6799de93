use Rattle.std.proofs.Common.{◌≡◌, ◌+◌, ◌++◌, drop}
use Rattle.obj_rows.specs.Assembled.{with_first_cuts}
use Rattle.frame_lower.specs.Functions.{functions_with}
use Rattle.frame_lower.specs.Given.{calls_of_functions}
use Rattle.frame_lower.proofs.program.Shared.functions.Given as goal

-- what is left to add is the functions that are left, with the slots that are left
abbrev pub invariant-loop-n : goal.invariant-loop-n
invariant-loop-n l =
    (l.all ++ with_first_cuts l.left (functions_with l.fn.self.globals.now l.fn.self.functions.now l.fn.self.reg_seed l.fn.names l.fn.homes l.n l.slot (drop l.n l.functions))
    ≡ with_first_cuts l.fn.most (functions_with l.fn.self.globals.now l.fn.self.functions.now l.fn.self.reg_seed l.fn.names l.fn.homes 0 l.fn.first l.functions))
    × (l.slot + calls_of_functions (drop l.n l.functions) ≡ l.fn.first + calls_of_functions l.functions)
