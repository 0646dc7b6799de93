-- One step of a module: an instruction, or a terminator with the phis of the edge that it takes.
use Rattle.std.specs.Prelude.{ℕ, ◌+◌, ◌*◌, List, [], ◌∷◌, nat_eq, length, map, slice_get, Option, Some, None, Ok, Err, if◌then◌else◌}
use Rattle.rd_num.specs.declared.width.Width.TheVariants.{W1}
use Rattle.behavior.specs.Ending.{if_going}
use Rattle.ir_core.specs.declared.instruction.BinOp.{BinOp}
use Rattle.ir_core.specs.declared.instruction.Pred.{Pred}
use Rattle.ir_core.specs.declared.instruction.CastOp.{CastOp}
use Rattle.ir_core.specs.declared.instruction.Op.{Op}
use Rattle.ir_core.specs.declared.instruction.Op.TheVariants.{Bin, Compare, Cast, Select, Freeze, Alloca, Load, Store, Gep, Phi, Call}
use Rattle.ir_core.specs.declared.instruction.Arg.{Arg}
use Rattle.ir_core.specs.declared.instruction.Entry.{Entry}
use Rattle.ir_core.specs.declared.instruction.Case.{Case}
use Rattle.ir_core.specs.declared.instruction.Inst.{Inst}
use Rattle.ir_core.specs.declared.instruction.Term.{Term}
use Rattle.ir_core.specs.declared.instruction.Term.TheVariants.{Ret, RetValue, Br, BrIf, Switch, Unreachable}
use Rattle.ir_core.specs.declared.module.Block.{Block}
use Rattle.ir_core.specs.declared.module.Function.{Function}
use Rattle.ir_core.specs.declared.module.Module.{Module}
use Rattle.ir_core.specs.declared.memory.Value.{Value}
use Rattle.ir_core.specs.declared.memory.Value.TheVariants.{Num, At}
use Rattle.ir_core.specs.Names.{same_name, number_where, first_where}
use Rattle.ir_core.specs.Stops.{Trap, Answer, and_then, found_or, Malformed}
use Rattle.ir_core.specs.Kinds.{Kind, Number, Pointer, kind_of, truth}
use Rattle.ir_core.specs.Arithmetic.{binary, compared, cast}
use Rattle.ir_core.specs.Shapes.{shape_of}
use Rattle.ir_core.specs.Memory.{Memory, load_at, store_at, with_alloca}
use Rattle.ir_core.specs.Pointers.{pointers_compared, moved_pointer}
use Rattle.ir_core.specs.State.{Local, Frame, State, Nothing, Turn, turned, with_local}
use Rattle.ir_core.specs.Operands.{value_of, values_of, index_words, bytes_to}
use Rattle.ir_core.specs.Calls.{target_of, call_turn, return_turn}

-- two values of a kind by an operation
abbrev pub binary_value : BinOp → Kind → Value → Value → Answer Value
binary_value op (Number w) (Num u a) (Num v b) = and_then (binary op w a b) (λ n. Ok (Num w n))
binary_value op kind a b = Err Malformed

-- two values of a kind compared
abbrev pub compared_value : Memory → Pred → Kind → Value → Value → Answer Value
compared_value objects pred (Number w) (Num u a) (Num v b) = Ok (truth (compared pred w a b))
compared_value objects pred Pointer a b = and_then (pointers_compared pred objects a b) (λ holds. Ok (truth holds))
compared_value objects pred kind a b = Err Malformed

-- a value as one of another width
abbrev pub cast_value : CastOp → Kind → Kind → Value → Answer Value
cast_value op (Number from) (Number to) (Num v n) = Ok (Num to (cast op from to n))
cast_value op from to v = Err Malformed

-- one of two values, by a truth value
abbrev pub selected : Value → Value → Value → Answer Value
selected (Num w n) taken other = Ok (if nat_eq n 0 then other else taken)
selected condition taken other = Err Malformed

-- the value of an instruction that gives one and changes nothing else
abbrev pub result_of : Module → Memory → List Local → Op → Answer Value
result_of m objects locals (Bin op ty a b) = and_then (value_of m locals (kind_of ty) a) (λ x. and_then (value_of m locals (kind_of ty) b) (λ y. binary_value op (kind_of ty) x y))
result_of m objects locals (Compare pred ty a b) = and_then (value_of m locals (kind_of ty) a) (λ x. and_then (value_of m locals (kind_of ty) b) (λ y. compared_value objects pred (kind_of ty) x y))
result_of m objects locals (Cast op from a to) = and_then (value_of m locals (kind_of from) a) (λ x. cast_value op (kind_of from) (kind_of to) x)
result_of m objects locals (Select condition ty a ty2 b) =
    and_then (value_of m locals (Number W1) condition) (λ c. and_then (value_of m locals (kind_of ty) a) (λ x. and_then (value_of m locals (kind_of ty2) b) (λ y. selected c x y)))
result_of m objects locals (Freeze ty a) = value_of m locals (kind_of ty) a
result_of m objects locals (Load ty p) = and_then (value_of m locals Pointer p) (λ x. load_at objects (kind_of ty) x)
result_of m objects locals (Gep ty p indices) =
    and_then (value_of m locals Pointer p) (λ x. and_then (values_of m locals indices) (λ is. and_then (index_words is) (λ ns. and_then (bytes_to m ty ns) (λ by. moved_pointer by x))))
result_of m objects locals other = Err Malformed

-- the call once the instruction is done
abbrev pub past : Frame → Frame
past f = record f { next = f.next + 1 }

-- the instruction gives a value to its local
abbrev pub gives : State → Frame → List Frame → Option (List ℕ) → Value → Answer Turn
gives s f callers into v = Ok (record { frames = record f { next = f.next + 1; locals = with_local into v f.locals } ∷ callers; objects = s.objects; exchange = Nothing })

-- the new object is one of the call's
abbrev pub gives_alloca : State → Frame → List Frame → Option (List ℕ) → ℕ → Answer Turn
gives_alloca s f callers into size = Ok (record {
  frames = record f { next = f.next + 1; locals = with_local into (At (length s.objects) 0) f.locals; objects = length s.objects ∷ f.objects } ∷ callers;
  objects = with_alloca s.objects size;
  exchange = Nothing;
})

-- the instruction changes memory
abbrev pub stores : State → Frame → List Frame → Answer Memory → Answer Turn
stores s f callers objects = and_then objects (λ changed. Ok (record { frames = past f ∷ callers; objects = changed; exchange = Nothing }))

-- one instruction of the innermost call
abbrev pub instruction_turn : Module → List ℕ → State → Frame → List Frame → Option (List ℕ) → Op → Answer Turn
instruction_turn m input s f callers into (Alloca ty count) = gives_alloca s f callers into (count * (shape_of m.types ty).size)
instruction_turn m input s f callers into (Store ty a p) =
    and_then (value_of m f.locals (kind_of ty) a) (λ x. and_then (value_of m f.locals Pointer p) (λ y. stores s f callers (store_at s.objects x y)))
instruction_turn m input s f callers into (Call ret callee arguments) =
    and_then (target_of m f.locals callee) (λ target. and_then (values_of m f.locals arguments) (λ values.
    call_turn m input s (past f ∷ callers) (kind_of ret) (map (λ (a : Arg). kind_of a.ty) arguments) values into target))
instruction_turn m input s f callers into op = and_then (result_of m s.objects f.locals op) (λ v. gives s f callers into v)

-- a phi of a block: the local that it gives, and its entries
pub record Choice : Type 0 where
  pub into : Option (List ℕ)
  pub kind : Kind
  pub entries : List Entry

-- an instruction in front of others: only a phi goes on with their phis
abbrev pub choices_with : Option (List ℕ) → Op → List Choice → List Choice
choices_with into (Phi ty entries) others = record { into = into; kind = kind_of ty; entries = entries } ∷ others
choices_with into op others = []

-- the phis with which a block begins
abbrev pub choices_of : List Inst → List Choice
choices_of [] = []
choices_of (i ∷ is) = choices_with i.result i.op (choices_of is)

-- the first entry of the block from which the edge comes
abbrev pub chosen : Module → List Local → List ℕ → Choice → Answer Value
chosen m locals from c = and_then (found_or Malformed (first_where (λ (e : Entry). same_name e.from from) c.entries)) (λ e. value_of m locals c.kind e.value)

-- all phis read at once: none sees what another gives
abbrev pub given_at_once : Module → List Local → List ℕ → List Choice → Answer (List Local)
given_at_once m locals from [] = Ok locals
given_at_once m locals from (c ∷ cs) = and_then (chosen m locals from c) (λ v. and_then (given_at_once m locals from cs) (λ more. Ok (with_local c.into v more)))

-- to the first instruction past the phis of a block
abbrev pub in_block : Module → State → Frame → List Frame → List ℕ → ℕ → Block → Answer Turn
in_block m s f callers from number b =
    and_then (given_at_once m f.locals from (choices_of b.insts)) (λ locals.
    Ok (record { frames = record f { block = number; next = length (choices_of b.insts); locals = locals } ∷ callers; objects = s.objects; exchange = Nothing }))

-- along the edge to a label
abbrev pub goes_to : Module → State → Frame → List Frame → Function → List ℕ → List ℕ → Answer Turn
goes_to m s f callers fn from label =
    and_then (found_or Malformed (number_where (λ (b : Block). same_name b.label label) fn.blocks)) (λ number.
    and_then (found_or Malformed (slice_get fn.blocks number)) (λ b. in_block m s f callers from number b))

-- one of two labels, by a truth value
abbrev pub if_true : Value → List ℕ → List ℕ → Answer (List ℕ)
if_true (Num w n) taken other = Ok (if nat_eq n 0 then other else taken)
if_true condition taken other = Err Malformed

-- a label where two numbers are equal, and otherwise what other cases give
abbrev pub to_if_equal : Value → Value → List ℕ → Answer (List ℕ) → Answer (List ℕ)
to_if_equal (Num u a) (Num w b) to others = if nat_eq a b then Ok to else others
to_if_equal x y to others = Err Malformed

-- the label of the first case that is the number, or the default
abbrev pub switched : Module → Value → List ℕ → List Case → Answer (List ℕ)
switched m v default [] = Ok default
switched m v default (c ∷ cs) = and_then (value_of m [] (kind_of c.ty) c.value) (λ x. to_if_equal x v c.to (switched m v default cs))

-- the end of a block
abbrev pub terminator_turn : Module → State → Frame → List Frame → Function → List ℕ → Term → Answer Turn
terminator_turn m s f callers fn from Ret = return_turn s f callers None
terminator_turn m s f callers fn from (RetValue ty a) = and_then (value_of m f.locals (kind_of ty) a) (λ v. return_turn s f callers (Some v))
terminator_turn m s f callers fn from (Br to) = goes_to m s f callers fn from to
terminator_turn m s f callers fn from (BrIf condition taken other) =
    and_then (value_of m f.locals (Number W1) condition) (λ c. and_then (if_true c taken other) (λ to. goes_to m s f callers fn from to))
terminator_turn m s f callers fn from (Switch ty a default cases) =
    and_then (value_of m f.locals (kind_of ty) a) (λ v. and_then (switched m v default cases) (λ to. goes_to m s f callers fn from to))
terminator_turn m s f callers fn from Unreachable = Err Trap

-- an instruction, or the terminator past the last one
abbrev pub turn_at : Module → List ℕ → State → Frame → List Frame → Function → Block → Option Inst → Answer Turn
turn_at m input s f callers fn b (Some i) = instruction_turn m input s f callers i.result i.op
turn_at m input s f callers fn b None = terminator_turn m s f callers fn b.label b.end

-- what the innermost call does next
abbrev pub turn_of : Module → List ℕ → State → List Frame → Answer Turn
turn_of m input s [] = Err Malformed
turn_of m input s (f ∷ callers) =
    and_then (found_or Malformed (slice_get m.functions f.function)) (λ fn.
    and_then (found_or Malformed (slice_get fn.blocks f.block)) (λ b. turn_at m input s f callers fn b (slice_get b.insts f.next)))

-- a run that has stopped stays as it is
unfoldable pub source_step : Module → List ℕ → State → State
source_step m input s = if_going s.ending (turned s (turn_of m input s s.frames)) s
