-- What arguments and callees give in a run.
use Rattle.std.specs.Prelude.{List, [], ◌∷◌, Option, Ok}
use Rattle.ir_core.specs.declared.memory.Value.{Value}
use Rattle.ir_core.specs.Stops.{Answer, and_then}
use Rattle.ir_core.specs.Calls.{Target}
use Rattle.ir_core.specs.Calls as target
use Rattle.ir_context.specs.Reads.{origin_value}
use Rattle.ir_program.specs.declared.action.Argument.{Argument}
use Rattle.ir_program.specs.declared.action.Callee.{Callee}
use Rattle.ir_program.specs.declared.action.Callee.TheVariants.{Outside, Inside}

-- arguments, the first one read first
abbrev pub argument_values : List (Option Value) → List Argument → Answer (List Value)
argument_values registers [] = Ok []
argument_values registers (a ∷ as') = and_then (origin_value registers a.origin) (λ v. and_then (argument_values registers as') (λ vs. Ok (v ∷ vs)))

-- what is called
abbrev pub callee_target : List (Option Value) → Callee → Answer Target
callee_target registers (Outside outer) = Ok (target.Outside outer)
callee_target registers (Inside origin) = and_then (origin_value registers origin) (λ v. Ok (target.Inside v))
