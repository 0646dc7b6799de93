-- Calls and returns, and the functions that stand outside of a module.
use Rattle.std.specs.Prelude.{ℕ, ◌-◌, ◌%◌, ◌^◌, List, [], ◌∷◌, Bool, true, false, ◌&&◌, nat_le, length, map, slice_get, codes, Option, Some, None, Ok, Err, if◌then◌else◌}
pub use Rattle.ir_core.specs.declared.outer.Outer.{Outer}
pub use Rattle.ir_core.specs.declared.outer.Outer.TheVariants.{Putchar, Getchar, Exit, Memcpy, Memset, TrapNow, Lifetime, NoOuter}
use Rattle.rd_num.specs.declared.width.Width.TheVariants.{W32}
use Rattle.ir_core.specs.declared.TheConstants.{MAX_CALLS}
use Rattle.ir_core.specs.declared.operand.Operand.{Operand}
use Rattle.ir_core.specs.declared.operand.Operand.TheVariants.{Local as LocalName, Global}
use Rattle.ir_core.specs.declared.module.Function.{Function}
use Rattle.ir_core.specs.declared.module.Param.{Param}
use Rattle.ir_core.specs.declared.module.Module.{Module}
use Rattle.ir_core.specs.declared.memory.Value.{Value}
use Rattle.ir_core.specs.declared.memory.Value.TheVariants.{Num, Fun}
use Rattle.ir_core.specs.declared.memory.Reason.TheVariants.{Callee}
use Rattle.ir_core.specs.Names.{same_name}
use Rattle.ir_core.specs.Stops.{Stop, Ended, Trap, Depth, Left, Answer, and_then, found_or, Malformed}
use Rattle.ir_core.specs.Kinds.{Kind, same_kind, kind_of}
use Rattle.ir_core.specs.Memory.{Memory, copied, filled, without}
use Rattle.ir_core.specs.State.{Local, Frame, State, Exchange, Nothing, Print, Take, Turn, with_local}
use Rattle.ir_core.specs.Operands.{local_value, function_number}

-- the function of that name
abbrev pub outer_of : List ℕ → Outer
outer_of name =
    if same_name name (codes "putchar") then Putchar
    else (if same_name name (codes "getchar") then Getchar
    else (if same_name name (codes "exit") then Exit
    else (if same_name name (codes "llvm.memcpy.p0.p0.i64") then Memcpy
    else (if same_name name (codes "llvm.memset.p0.i64") then Memset
    else (if same_name name (codes "llvm.trap") then TrapNow
    else (if same_name name (codes "llvm.lifetime.start.p0") then Lifetime
    else (if same_name name (codes "llvm.lifetime.end.p0") then Lifetime
    else NoOuter)))))))

-- what a call goes to: a function outside of the module, or what a value or a function's name says
pub data Target : Type 0 where
  Outside : (outer : Outer) → Target
  Inside : (callee : Value) → Target

-- a function of the module comes before one outside of it
abbrev pub target_named : List ℕ → Option ℕ → Target
target_named name (Some f) = Inside (Fun f)
target_named name None = Outside (outer_of name)

-- what the callee of a call is
abbrev pub target_of : Module → List Local → Operand → Answer Target
target_of m locals (LocalName name) = and_then (local_value locals name) (λ v. Ok (Inside v))
target_of m locals (Global name) = Ok (target_named name (function_number m name))
target_of m locals other = Err Malformed

-- as many, and each the same
abbrev pub same_kinds : List Kind → List Kind → Bool
same_kinds [] [] = true
same_kinds (j ∷ js) (k ∷ ks) = same_kind j k && same_kinds js ks
same_kinds [] (k ∷ ks) = false
same_kinds (j ∷ js) [] = false

-- the function has the result and parameter types of the call
abbrev pub is_called_as : Function → Kind → List Kind → Bool
is_called_as f ret arguments = same_kind (kind_of f.ret) ret && same_kinds (map (λ (p : Param). kind_of p.ty) f.params) arguments

-- parameters have the values of the arguments; every other local of the function has none
abbrev pub bound : List Param → List Value → List Local
bound (p ∷ ps) (v ∷ vs) = record { name = p.name; value = v } ∷ bound ps vs
bound [] vs = []
bound (p ∷ ps) [] = []

-- a call of a function at its start
abbrev pub first_frame : ℕ → Function → List Value → Option (List ℕ) → Frame
first_frame number f arguments into = record { function = number; block = 0; next = 0; locals = bound f.params arguments; objects = []; into = into }

-- the tests of a call in their order: the callee is a function, it has the call's types, and there is room for one more call
abbrev pub entry_turn : Module → State → List Frame → Kind → List Kind → List Value → Option (List ℕ) → Value → Answer Turn
entry_turn m s callers ret kinds arguments into (Fun number) =
    and_then (found_or Malformed (slice_get m.functions number)) (λ f.
    if is_called_as f ret kinds
    then (if nat_le MAX_CALLS (length s.frames) then Err Depth else Ok (record { frames = first_frame number f arguments into ∷ callers; objects = s.objects; exchange = Nothing }))
    else Err (Left Callee))
entry_turn m s callers ret kinds arguments into other = Err (Left Callee)

-- the callers once the innermost of them goes on with a result
abbrev pub resumed : List Frame → Option (List ℕ) → Option Value → List Frame
resumed [] into result = []
resumed (g ∷ gs) into (Some v) = record g { locals = with_local into v g.locals } ∷ gs
resumed (g ∷ gs) into None = g ∷ gs

-- the call with which the run began ends it with the low 8 bits of its result
abbrev pub last_result : Option Value → Stop
last_result (Some (Num w n)) = Ended (n % 256)
last_result (Some other) = Malformed
last_result None = Malformed

-- a return to the caller; the objects of the call's allocas are dead then
abbrev pub return_turn : State → Frame → List Frame → Option Value → Answer Turn
return_turn s f [] result = Err (last_result result)
return_turn s f (g ∷ gs) result = Ok (record { frames = resumed (g ∷ gs) f.into result; objects = without s.objects f.objects; exchange = Nothing })

-- the callers go on with a result, memory as it is
abbrev pub goes_on : State → List Frame → Option (List ℕ) → Exchange → Option Value → Answer Turn
goes_on s frames into exchange result = Ok (record { frames = resumed frames into result; objects = s.objects; exchange = exchange })

-- the byte is given as a number; at the end of the input nothing is taken and the result is -1
abbrev pub read_byte : State → List Frame → Option (List ℕ) → Option ℕ → Answer Turn
read_byte s frames into (Some byte) = goes_on s frames into Take (Some (Num W32 byte))
read_byte s frames into None = goes_on s frames into Nothing (Some (Num W32 (2 ^ 32 - 1)))

-- the callers go on, with other objects in memory
abbrev pub with_memory : List Frame → Answer Memory → Answer Turn
with_memory frames objects = and_then objects (λ m. Ok (record { frames = frames; objects = m; exchange = Nothing }))

-- a call of an outside function is one step
abbrev pub outer_turn : List ℕ → State → List Frame → Option (List ℕ) → Outer → List Value → Answer Turn
outer_turn input s frames into Putchar (Num w n ∷ []) = goes_on s frames into (Print (n % 256)) (Some (Num W32 (n % 256)))
outer_turn input s frames into Getchar [] = read_byte s frames into (slice_get input s.taken)
outer_turn input s frames into Exit (Num w n ∷ []) = Err (Ended (n % 256))
outer_turn input s frames into Memcpy (to ∷ from ∷ Num w count ∷ volatile ∷ []) = with_memory frames (copied s.objects to from count)
outer_turn input s frames into Memset (to ∷ Num v byte ∷ Num w count ∷ volatile ∷ []) = with_memory frames (filled s.objects to byte count)
outer_turn input s frames into TrapNow arguments = Err Trap
outer_turn input s frames into Lifetime arguments = goes_on s frames into Nothing None
outer_turn input s frames into outer arguments = Err Malformed

-- a call of what the callee is
abbrev pub call_turn : Module → List ℕ → State → List Frame → Kind → List Kind → List Value → Option (List ℕ) → Target → Answer Turn
call_turn m input s callers ret kinds arguments into (Outside outer) = outer_turn input s callers into outer arguments
call_turn m input s callers ret kinds arguments into (Inside callee) = entry_turn m s callers ret kinds arguments into callee
