-- What the innermost call does next, with registers in place of locals.
use Rattle.std.specs.Prelude.{ℕ, ◌+◌, ◌-◌, ◌%◌, List, [], ◌∷◌, ◌++◌, Bool, ◌&&◌, nat_eq, nat_le, length, map, replicate, slice_get, Option, Some, None, Ok, Err, if◌then◌else◌}
use Rattle.rd_num.specs.declared.width.Width.TheVariants.{W32}
use Rattle.ir_core.specs.declared.TheConstants.{MAX_CALLS}
use Rattle.ir_core.specs.declared.memory.Value.{Value}
use Rattle.ir_core.specs.declared.memory.Value.TheVariants.{Num, At, Fun}
use Rattle.ir_core.specs.declared.memory.Reason.TheVariants.{Callee as CalleeReason}
use Rattle.ir_core.specs.Stops.{Ended, Trap, Depth, Left, Answer, and_then, found_or, Malformed}
use Rattle.ir_core.specs.declared.kind.Kind.{Kind}
use Rattle.ir_core.specs.Kinds.{same_kind}
use Rattle.ir_core.specs.Memory.{Memory, load_at, store_at, with_alloca, copied, filled, without}
use Rattle.ir_core.specs.declared.outer.Outer.{Outer}
use Rattle.ir_core.specs.declared.outer.Outer.TheVariants.{Putchar, Getchar, Exit, Memcpy, Memset, TrapNow, Lifetime}
use Rattle.ir_core.specs.Calls.{same_kinds, last_result, Target}
use Rattle.ir_core.specs.Calls as target
use Rattle.ir_core.specs.Step.{binary_value, compared_value, cast_value, selected}
use Rattle.ir_context.specs.Registers.{with_register}
use Rattle.ir_context.specs.declared.origin.Origin.{Origin}
use Rattle.ir_program.specs.declared.action.Action.{Action}
use Rattle.ir_program.specs.declared.action.Action.TheVariants as does
use Rattle.ir_program.specs.declared.action.Argument.{Argument}
use Rattle.ir_program.specs.declared.action.Task.{Task}
use Rattle.ir_program.specs.declared.exit.Move.{Move}
use Rattle.ir_program.specs.declared.exit.Edge.{Edge}
use Rattle.ir_program.specs.declared.exit.Arm.{Arm}
use Rattle.ir_program.specs.declared.exit.Exit.{Exit as BlockExit}
use Rattle.ir_program.specs.declared.exit.Exit.TheVariants as ends
use Rattle.ir_program.specs.declared.program.Stretch.{Stretch}
use Rattle.ir_program.specs.declared.program.Body.{Body}
use Rattle.ir_program.specs.declared.program.Program.{Program}
use Rattle.ir_context.specs.Reads.{origin_value, moved_along}
use Rattle.ir_program.specs.Reads.{argument_values, callee_target}
use Rattle.ir_run.specs.declared.state.Frame.{Frame}
use Rattle.ir_run.specs.declared.state.State.{State}
use Rattle.ir_run.specs.declared.state.Asked.{Asked}
use Rattle.ir_run.specs.declared.state.Asked.TheVariants.{Nothing, Print, Take}

-- a state, and what is asked of the outside before it is reached
pub record Turned : Type 0 where
  pub state : State
  pub asked : Asked

abbrev pub turned : State → Asked → Turned
turned s asked = record { state = s; asked = asked }

-- the value of an action that gives one and changes nothing else
abbrev pub action_value : Memory → List (Option Value) → Action → Answer Value
action_value objects registers (does.Binary op kind a b) =
    and_then (origin_value registers a) (λ x. and_then (origin_value registers b) (λ y. binary_value op kind x y))
action_value objects registers (does.Compare pred kind a b) =
    and_then (origin_value registers a) (λ x. and_then (origin_value registers b) (λ y. compared_value objects pred kind x y))
action_value objects registers (does.Cast op from to a) = and_then (origin_value registers a) (λ x. cast_value op from to x)
action_value objects registers (does.Select condition a b) =
    and_then (origin_value registers condition) (λ c. and_then (origin_value registers a) (λ x. and_then (origin_value registers b) (λ y. selected c x y)))
action_value objects registers (does.Freeze a) = origin_value registers a
action_value objects registers (does.Load kind p) = and_then (origin_value registers p) (λ x. load_at objects kind x)
action_value objects registers (does.Move base path) = moved_along registers base path
action_value objects registers other = Err Malformed

-- the innermost call once a register was given a value
abbrev pub with_given : Option ℕ → Value → Frame → Frame
with_given into v f = record f { registers = with_register into v f.registers }

-- an instruction that gives a value
abbrev pub gives : State → Option ℕ → Value → State
gives s into v = record s { frame = with_given into v s.frame }

-- one that makes an object
abbrev pub allocates : State → Option ℕ → ℕ → State
allocates s into size = record {
  frame = record s.frame { registers = with_register into (At (length s.memory) 0) s.frame.registers; objects = length s.memory ∷ s.frame.objects };
  callers = s.callers;
  memory = with_alloca s.memory size;
}

-- one that changes memory
abbrev pub changes : State → Answer Memory → Answer Turned
changes s objects = and_then objects (λ changed. Ok (turned (record s { memory = changed }) Nothing))

-- a byte is printed, and given back as a number
abbrev pub print_turn : State → Option ℕ → ℕ → Answer Turned
print_turn s into n = Ok (turned (gives s into (Num W32 (n % 256))) (Print (n % 256)))

-- a fill with what is a byte
abbrev pub fill_turn : State → Value → ℕ → ℕ → Answer Turned
fill_turn s to byte count = if nat_le 256 byte then Err Malformed else changes s (filled s.memory to byte count)

-- a call of a function outside of the module
abbrev pub outer_turn : State → Option ℕ → Outer → List Value → Answer Turned
outer_turn s into Putchar (Num w n ∷ []) = print_turn s into n
outer_turn s into Getchar [] = Ok (turned s (Take into))
outer_turn s into Exit (Num w n ∷ []) = Err (Ended (n % 256))
outer_turn s into Memcpy (to ∷ from ∷ Num w count ∷ volatile ∷ []) = changes s (copied s.memory to from count)
outer_turn s into Memset (to ∷ Num v byte ∷ Num w count ∷ volatile ∷ []) = fill_turn s to byte count
outer_turn s into TrapNow arguments = Err Trap
outer_turn s into Lifetime arguments = Ok (turned s Nothing)
outer_turn s into outer arguments = Err Malformed

-- the function has the result and parameter kinds of the call
abbrev pub is_entered_as : Body → Kind → List Kind → Bool
is_entered_as body ret kinds = same_kind body.result ret && same_kinds body.parameters kinds

-- a call of a function of the module at its start
abbrev pub entered : Body → ℕ → State → Option ℕ → List Value → State
entered body number s into values = record {
  frame = record { function = number; block = 0; next = 0; registers = map Some values ++ replicate (body.registers - length values) None; objects = []; into = into };
  callers = s.frame ∷ s.callers;
  memory = s.memory;
}

-- the kinds of arguments
abbrev pub kinds_in : List Argument → List Kind
kinds_in arguments = map (λ (a : Argument). a.kind) arguments

-- the tests of a call of a function in their order: its kinds, and whether there is room for one more call
abbrev pub body_turn : Body → ℕ → State → Kind → List Kind → List Value → Option ℕ → Answer Turned
body_turn body number s ret kinds values into =
    if is_entered_as body ret kinds
    then (if nat_le MAX_CALLS (length s.callers + 1) then Err Depth else Ok (turned (entered body number s into values) Nothing))
    else Err (Left CalleeReason)

-- a call of a value
abbrev pub enter_turn : Program → State → Kind → List Kind → List Value → Option ℕ → Value → Answer Turned
enter_turn p s ret kinds values into (Fun number) =
    and_then (found_or Malformed (slice_get p.bodies number)) (λ body. body_turn body number s ret kinds values into)
enter_turn p s ret kinds values into other = Err (Left CalleeReason)

-- a call of what the callee is
abbrev pub target_turn : Program → State → Kind → List Kind → List Value → Option ℕ → Target → Answer Turned
target_turn p s ret kinds values into (target.Outside outer) = outer_turn s into outer values
target_turn p s ret kinds values into (target.Inside callee) = enter_turn p s ret kinds values into callee

-- a value is stored
abbrev pub store_turn : State → Origin → Origin → Answer Turned
store_turn s a b = and_then (origin_value s.frame.registers a) (λ x. and_then (origin_value s.frame.registers b) (λ y. changes s (store_at s.memory x y)))

-- a value is given to a register
abbrev pub value_turn : State → Option ℕ → Action → Answer Turned
value_turn s into action = and_then (action_value s.memory s.frame.registers action) (λ v. Ok (turned (gives s into v) Nothing))

-- one instruction of the innermost call, which stands past it already
abbrev pub action_turn : Program → State → Option ℕ → Action → Answer Turned
action_turn p s into (does.Alloca size) = Ok (turned (allocates s into size) Nothing)
action_turn p s into (does.Store a b) = store_turn s a b
action_turn p s into (does.Call ret callee arguments) =
    and_then (callee_target s.frame.registers callee) (λ t. and_then (argument_values s.frame.registers arguments) (λ values.
    target_turn p s ret (kinds_in arguments) values into t))
action_turn p s into action = value_turn s into action

-- a caller once it goes on with a result
abbrev pub resumed : Frame → Option ℕ → Option Value → Frame
resumed g into (Some v) = with_given into v g
resumed g into None = g

-- the innermost call is gone, with its objects dead
abbrev pub returned : State → Frame → List Frame → Option Value → State
returned s g gs result = record { frame = resumed g s.frame.into result; callers = gs; memory = without s.memory s.frame.objects }

-- a return to the callers
abbrev pub return_turn : State → List Frame → Option Value → Answer Turned
return_turn s [] result = Err (last_result result)
return_turn s (g ∷ gs) result = Ok (turned (returned s g gs result) Nothing)

-- what phis take along an edge, all of it read at once
abbrev pub move_values : List (Option Value) → List Move → Answer (List Value)
move_values registers [] = Ok []
move_values registers (m ∷ ms) = and_then (origin_value registers m.origin) (λ v. and_then (move_values registers ms) (λ vs. Ok (v ∷ vs)))

-- registers once phis were given these values
abbrev pub with_moves : List Move → List Value → List (Option Value) → List (Option Value)
with_moves (m ∷ ms) (v ∷ vs) registers = with_register m.into v (with_moves ms vs registers)
with_moves [] vs registers = registers
with_moves (m ∷ ms) [] registers = registers

-- in the block to which an edge leads
abbrev pub arrived : State → Edge → List Value → State
arrived s edge values = record s { frame = record s.frame { block = edge.block; next = edge.next; registers = with_moves edge.moves values s.frame.registers } }

-- along an edge
abbrev pub edge_turn : State → Edge → Answer Turned
edge_turn s edge = and_then (move_values s.frame.registers edge.moves) (λ values. Ok (turned (arrived s edge values) Nothing))

-- along the edge of a number
abbrev pub goes_along : State → List Edge → ℕ → Answer Turned
goes_along s edges number = and_then (found_or Malformed (slice_get edges number)) (edge_turn s)

-- one of two numbers, by a truth value
abbrev pub edge_if : Value → ℕ → ℕ → Answer ℕ
edge_if (Num w n) taken other = Ok (if nat_eq n 0 then other else taken)
edge_if condition taken other = Err Malformed

-- whether two values are one number
abbrev pub same_number : Value → Value → Answer Bool
same_number (Num u a) (Num w b) = Ok (nat_eq a b)
same_number x y = Err Malformed

-- the edge of the first arm that is the number, or the default
abbrev pub arm_chosen : Value → ℕ → List Arm → Answer ℕ
arm_chosen v default [] = Ok default
arm_chosen v default (a ∷ as') =
    and_then (and_then (origin_value [] a.value) (λ x. same_number x v)) (λ same. if same then Ok a.edge else arm_chosen v default as')

-- the end of a block
abbrev pub exit_turn : State → List Edge → BlockExit → Answer Turned
exit_turn s edges ends.Return = return_turn s s.callers None
exit_turn s edges (ends.Give a) = and_then (origin_value s.frame.registers a) (λ v. return_turn s s.callers (Some v))
exit_turn s edges (ends.Jump edge) = goes_along s edges edge
exit_turn s edges (ends.Branch condition taken other) =
    and_then (origin_value s.frame.registers condition) (λ c. and_then (edge_if c taken other) (goes_along s edges))
exit_turn s edges (ends.Switch a default arms) =
    and_then (origin_value s.frame.registers a) (λ v. and_then (arm_chosen v default arms) (goes_along s edges))
exit_turn s edges ends.Unreachable = Err Trap

-- the innermost call past its instruction
abbrev pub passed : State → State
passed s = record s { frame = record s.frame { next = s.frame.next + 1 } }

-- an instruction, or the end past the last one
abbrev pub task_turn : Program → State → Stretch → Option Task → Answer Turned
task_turn p s b (Some t) = action_turn p (passed s) t.into t.action
task_turn p s b None = exit_turn s b.edges b.exit

-- what the innermost call does next
abbrev pub next_turn : Program → State → Answer Turned
next_turn p s =
    and_then (found_or Malformed (slice_get p.bodies s.frame.function)) (λ body.
    and_then (found_or Malformed (slice_get body.stretches s.frame.block)) (λ b. task_turn p s b (slice_get b.tasks s.frame.next)))
