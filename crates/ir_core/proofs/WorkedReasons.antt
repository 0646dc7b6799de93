-- Each of the ten reasons for which a run is left, computed, with the nearest run that isn't left.
use Rattle.std.proofs.Common.{◌≡◌, ℕ, Bool, true, false, List, [], ◌∷◌, refl}
use Rattle.std.specs.Prelude.{codes}
use denote.Hole.Carrier.{out}
use Rattle.behavior.specs.Ending.{Ended}
use Rattle.ir_core.specs.declared.ty.Ty.{Ty, out-Ty}
use Rattle.ir_core.specs.declared.operand.Operand.{Operand}
use Rattle.ir_core.specs.declared.init.Init.{Init}
use Rattle.ir_core.specs.declared.instruction.BinOp.{BinOp}
use Rattle.ir_core.specs.declared.instruction.Pred.{Pred}
use Rattle.ir_core.specs.declared.instruction.CastOp.{CastOp}
use Rattle.ir_core.specs.declared.instruction.Op.{Op}
use Rattle.ir_core.specs.declared.instruction.Inst.{Inst}
use Rattle.ir_core.specs.declared.instruction.Term.{Term}
use Rattle.ir_core.specs.declared.module.Module.{Module}
use Rattle.ir_core.specs.declared.memory.Reason.TheVariants.{Bounds, Dead, Constant, Unset, Mixed, Order, Equal, Callee, Overlap, Gep}
use Rattle.ir_core.specs.Step.{source_step}
use Rattle.ir_core.specs.Run.{source_start, source_run}
use Rattle.ir_core.proofs.Types.{shape-int}
use Rattle.ir_core.proofs.Inits.{init-value}
use Rattle.ir_core.proofs.WorkedWords.{i1, i8, i16, i32, i64, local, int, minus, named, gives, does, calls, runs, block, function, module_of, declared_as, arg, program, straight, left, shown}

-- four bytes are made, and so many are loaded so far on
abbrev loads : Operand → Ty → Operand → Module
loads at ty offset = program [] [] (
    gives (codes "p") (Op.Alloca i8 4)
    ∷ does (Op.Store i32 (int 1) (local (codes "p")))
    ∷ gives (codes "q") (Op.Gep i8 at (arg i64 offset ∷ []))
    ∷ gives (codes "x") (Op.Load ty (local (codes "q")))
    ∷ []) (int 7)

-- the last byte of four
load_of_last : source_run (loads (local (codes "p")) i8 (int 3)) [] 9 ≡ shown [] 0 (Ended 7)
unfolding source_run source_start source_step out-Ty out
load_of_last = simp shape-int

-- the byte past it
load_past_end : source_run (loads (local (codes "p")) i8 (int 4)) [] 9 ≡ shown [] 0 (left Bounds)
unfolding source_run source_start source_step out-Ty out
load_past_end = simp shape-int

-- two bytes of which one is past the end
load_across_end : source_run (loads (local (codes "p")) i16 (int 3)) [] 9 ≡ shown [] 0 (left Bounds)
unfolding source_run source_start source_step out-Ty out
load_across_end = simp shape-int

-- a byte in front of the first
load_before_start : source_run (loads (local (codes "p")) i8 (minus 0)) [] 9 ≡ shown [] 0 (left Bounds)
unfolding source_run source_start source_step out-Ty out
load_before_start = simp shape-int

-- null is no place
load_of_null : source_run (loads Operand.Null i8 (int 0)) [] 9 ≡ shown [] 0 (left Bounds)
unfolding source_run source_start source_step out-Ty out
load_of_null = simp shape-int

-- nor is a function
load_of_function : source_run (loads (named (codes "main")) i8 (int 0)) [] 9 ≡ shown [] 0 (left Bounds)
unfolding source_run source_start source_step out-Ty out
load_of_function = simp shape-int

-- null moved by nothing is null, and moved by one byte it is left
null_moved : source_run (loads Operand.Null i8 (int 1)) [] 9 ≡ shown [] 0 (left Gep)
unfolding source_run source_start source_step out-Ty out
null_moved = simp shape-int

-- so is a function
function_moved : source_run (loads (named (codes "main")) i8 (minus 0)) [] 9 ≡ shown [] 0 (left Gep)
unfolding source_run source_start source_step out-Ty out
function_moved = simp shape-int

-- the place of a call's alloca, once the call has returned; it is loaded as a type or stored to
abbrev outlives : Inst → Module
outlives use_of = module_of [] (
    record { name = codes "f"; ret = Ty.Ptr; params = []; blocks = block (codes "0") (gives (codes "p") (Op.Alloca i8 1) ∷ []) (Term.RetValue Ty.Ptr (local (codes "p"))) ∷ [] }
    ∷ straight (calls (codes "p") Ty.Ptr (codes "f") [] ∷ use_of ∷ []) (int 7)
    ∷ [])

-- a dead object is told before its bounds
load_of_dead : source_run (outlives (gives (codes "x") (Op.Load i64 (local (codes "p"))))) [] 9 ≡ shown [] 0 (left Dead)
unfolding source_run source_start source_step out-Ty out
load_of_dead = refl

-- a store to it
store_to_dead : source_run (outlives (does (Op.Store i8 (int 1) (local (codes "p"))))) [] 9 ≡ shown [] 0 (left Dead)
unfolding source_run source_start source_step out-Ty out
store_to_dead = refl

-- a dead object and null can't be told apart
dead_and_null : source_run (outlives (gives (codes "q") (Op.Compare Pred.Eq Ty.Ptr (local (codes "p")) Operand.Null))) [] 9 ≡ shown [] 0 (left Equal)
unfolding source_run source_start source_step out-Ty out
dead_and_null = refl

-- but places of one object are in their order, whether it is live or dead
dead_in_order : source_run (outlives (gives (codes "q") (Op.Compare Pred.Ule Ty.Ptr (local (codes "p")) (local (codes "p"))))) [] 9 ≡ shown [] 0 (Ended 7)
unfolding source_run source_start source_step out-Ty out
dead_in_order = simp shape-int

-- a global of one byte, which is constant or not, to which a type is stored
abbrev keeps : Bool → Ty → Module
keeps constant ty = program (record { name = codes "g"; constant = constant; ty = i8; init = Init.Value (int 3) } ∷ []) [] (
    does (Op.Store ty (int 5) (named (codes "g")))
    ∷ gives (codes "x") (Op.Load i8 (named (codes "g")))
    ∷ gives (codes "y") (Op.Cast CastOp.Zext i8 (local (codes "x")) i32)
    ∷ []) (local (codes "y"))

-- a variable is stored to
store_to_variable : source_run (keeps false i8) [] 9 ≡ shown [] 0 (Ended 5)
unfolding source_run source_start source_step out-Ty out
store_to_variable = simp (init-value, shape-int)

-- a constant isn't
store_to_constant : source_run (keeps true i8) [] 9 ≡ shown [] 0 (left Constant)
unfolding source_run source_start source_step out-Ty out
store_to_constant = simp (init-value, shape-int)

-- its bounds are told first
store_past_constant : source_run (keeps true i16) [] 9 ≡ shown [] 0 (left Bounds)
unfolding source_run source_start source_step out-Ty out
store_past_constant = simp (init-value, shape-int)

-- an instruction of which one operand has no value
abbrev reads_unset : Inst → Module
reads_unset use_of = module_of [] (function (codes "main") [] (
    block (codes "e") [] (Term.BrIf (Operand.Bool false) (codes "a") (codes "b"))
    ∷ block (codes "a") (gives (codes "u") (Op.Freeze i32 (int 0)) ∷ []) (Term.Br (codes "b"))
    ∷ block (codes "b") (use_of ∷ []) (Term.RetValue i32 (int 7))
    ∷ []) ∷ [])

-- it is told before a division by zero
unset_before_divide : source_run (reads_unset (gives (codes "x") (Op.Bin BinOp.Udiv i32 (local (codes "u")) (int 0)))) [] 9 ≡ shown [] 0 (left Unset)
unfolding source_run source_start source_step out-Ty out
unset_before_divide = refl

-- and before the bounds of a store
unset_before_bounds : source_run (reads_unset (does (Op.Store i32 (local (codes "u")) Operand.Null))) [] 9 ≡ shown [] 0 (left Unset)
unfolding source_run source_start source_step out-Ty out
unset_before_bounds = refl

-- also where the value isn't selected
unset_not_selected : source_run (reads_unset (gives (codes "x") (Op.Select (Operand.Bool true) i32 (int 1) i32 (local (codes "u"))))) [] 9 ≡ shown [] 0 (left Unset)
unfolding source_run source_start source_step out-Ty out
unset_not_selected = refl

-- an i64 or a pointer is stored, and so much of it is loaded as another type
abbrev recasts : Ty → Operand → Operand → Ty → Module
recasts stored value offset loaded = program [] [] (
    gives (codes "p") (Op.Alloca i64 2)
    ∷ does (Op.Store i64 (int 0) (local (codes "p")))
    ∷ gives (codes "h") (Op.Gep i8 (local (codes "p")) (arg i64 (int 8) ∷ []))
    ∷ does (Op.Store stored value (local (codes "h")))
    ∷ gives (codes "q") (Op.Gep i8 (local (codes "p")) (arg i64 offset ∷ []))
    ∷ gives (codes "x") (Op.Load loaded (local (codes "q")))
    ∷ []) (int 7)

-- a pointer's pieces are no number
number_of_pieces : source_run (recasts Ty.Ptr (local (codes "p")) (int 8) i8) [] 9 ≡ shown [] 0 (left Mixed)
unfolding source_run source_start source_step out-Ty out
number_of_pieces = simp shape-int

-- the pieces of a pointer from the second on are no pointer
pointer_cut : source_run (recasts Ty.Ptr (local (codes "p")) (int 7) Ty.Ptr) [] 9 ≡ shown [] 0 (left Mixed)
unfolding source_run source_start source_step out-Ty out
pointer_cut = simp shape-int

-- nor is a number that isn't zero
pointer_of_number : source_run (recasts i64 (int 1) (int 8) Ty.Ptr) [] 9 ≡ shown [] 0 (left Mixed)
unfolding source_run source_start source_step out-Ty out
pointer_of_number = simp shape-int

-- eight zero bytes are null
null_of_zeros : source_run (recasts i64 (int 0) (int 8) Ty.Ptr) [] 9 ≡ shown [] 0 (Ended 7)
unfolding source_run source_start source_step out-Ty out
null_of_zeros = simp shape-int

-- and null is stored as eight zero bytes
zeros_of_null : source_run (recasts Ty.Ptr Operand.Null (int 8) i64) [] 9 ≡ shown [] 0 (Ended 7)
unfolding source_run source_start source_step out-Ty out
zeros_of_null = simp shape-int

-- two variables of two bytes whose places so far on are compared; the run ends with the answer
abbrev relates : Pred → List ℕ → Operand → List ℕ → Operand → Module
relates pred a d b e = program [] [] (
    gives (codes "a") (Op.Alloca i8 2)
    ∷ gives (codes "b") (Op.Alloca i8 2)
    ∷ gives (codes "p") (Op.Gep i8 (local a) (arg i64 d ∷ []))
    ∷ gives (codes "q") (Op.Gep i8 (local b) (arg i64 e ∷ []))
    ∷ gives (codes "t") (Op.Compare pred Ty.Ptr (local (codes "p")) (local (codes "q")))
    ∷ gives (codes "z") (Op.Cast CastOp.Zext i1 (local (codes "t")) i32)
    ∷ []) (local (codes "z"))

-- places of one object are in the order of their offsets, also at its end
in_order : source_run (relates Pred.Ult (codes "a") (int 1) (codes "a") (int 2)) [] 9 ≡ shown [] 0 (Ended 1)
unfolding source_run source_start source_step out-Ty out
in_order = simp shape-int

-- the other way round
out_of_order : source_run (relates Pred.Ult (codes "a") (int 2) (codes "a") (int 1)) [] 9 ≡ shown [] 0 (Ended 0)
unfolding source_run source_start source_step out-Ty out
out_of_order = simp shape-int

-- past the end there is no order
order_past_end : source_run (relates Pred.Ult (codes "a") (int 1) (codes "a") (int 3)) [] 9 ≡ shown [] 0 (left Order)
unfolding source_run source_start source_step out-Ty out
order_past_end = simp shape-int

-- nor between objects
order_of_objects : source_run (relates Pred.Uge (codes "a") (int 0) (codes "b") (int 0)) [] 9 ≡ shown [] 0 (left Order)
unfolding source_run source_start source_step out-Ty out
order_of_objects = simp shape-int

-- a place is at most itself
at_most_itself : source_run (relates Pred.Ule (codes "a") (int 1) (codes "a") (int 1)) [] 9 ≡ shown [] 0 (Ended 1)
unfolding source_run source_start source_step out-Ty out
at_most_itself = simp shape-int

-- and not at most one in front of it
not_at_most : source_run (relates Pred.Ule (codes "a") (int 1) (codes "a") (int 0)) [] 9 ≡ shown [] 0 (Ended 0)
unfolding source_run source_start source_step out-Ty out
not_at_most = simp shape-int

-- it is not above itself
not_above_itself : source_run (relates Pred.Ugt (codes "a") (int 1) (codes "a") (int 1)) [] 9 ≡ shown [] 0 (Ended 0)
unfolding source_run source_start source_step out-Ty out
not_above_itself = simp shape-int

-- but above one in front of it
above : source_run (relates Pred.Ugt (codes "a") (int 1) (codes "a") (int 0)) [] 9 ≡ shown [] 0 (Ended 1)
unfolding source_run source_start source_step out-Ty out
above = simp shape-int

-- it is at least itself
at_least_itself : source_run (relates Pred.Uge (codes "a") (int 1) (codes "a") (int 1)) [] 9 ≡ shown [] 0 (Ended 1)
unfolding source_run source_start source_step out-Ty out
at_least_itself = simp shape-int

-- and not at least one behind it
not_at_least : source_run (relates Pred.Uge (codes "a") (int 1) (codes "a") (int 2)) [] 9 ≡ shown [] 0 (Ended 0)
unfolding source_run source_start source_step out-Ty out
not_at_least = simp shape-int

-- with signs there is no order
no_signed_less : source_run (relates Pred.Slt (codes "a") (int 0) (codes "a") (int 1)) [] 9 ≡ shown [] 0 (left Order)
unfolding source_run source_start source_step out-Ty out
no_signed_less = simp shape-int

-- none of the four
no_signed_at_most : source_run (relates Pred.Sle (codes "a") (int 0) (codes "a") (int 0)) [] 9 ≡ shown [] 0 (left Order)
unfolding source_run source_start source_step out-Ty out
no_signed_at_most = simp shape-int

-- not this
no_signed_greater : source_run (relates Pred.Sgt (codes "a") (int 1) (codes "a") (int 0)) [] 9 ≡ shown [] 0 (left Order)
unfolding source_run source_start source_step out-Ty out
no_signed_greater = simp shape-int

-- nor this
no_signed_at_least : source_run (relates Pred.Sge (codes "a") (int 0) (codes "a") (int 0)) [] 9 ≡ shown [] 0 (left Order)
unfolding source_run source_start source_step out-Ty out
no_signed_at_least = simp shape-int

-- places inside of two objects differ
equal_of_objects : source_run (relates Pred.Eq (codes "a") (int 1) (codes "b") (int 1)) [] 9 ≡ shown [] 0 (Ended 0)
unfolding source_run source_start source_step out-Ty out
equal_of_objects = simp shape-int

-- two places of one object are the same where their offsets are, wherever these are
equal_past_end : source_run (relates Pred.Ne (codes "a") (int 9) (codes "a") (int 9)) [] 9 ≡ shown [] 0 (Ended 0)
unfolding source_run source_start source_step out-Ty out
equal_past_end = simp shape-int

-- the end of one object and a place inside of another
equal_at_end : source_run (relates Pred.Ne (codes "a") (int 2) (codes "b") (int 1)) [] 9 ≡ shown [] 0 (left Equal)
unfolding source_run source_start source_step out-Ty out
equal_at_end = simp shape-int

-- two pointers that need no object are compared
abbrev compares : Pred → Operand → Operand → Module
compares pred a b = program [] [] (
    gives (codes "t") (Op.Compare pred Ty.Ptr a b)
    ∷ gives (codes "z") (Op.Cast CastOp.Zext i1 (local (codes "t")) i32)
    ∷ []) (local (codes "z"))

-- null is null
nulls_equal : source_run (compares Pred.Eq Operand.Null Operand.Undef) [] 9 ≡ shown [] 0 (Ended 1)
unfolding source_run source_start source_step out-Ty out
nulls_equal = refl

-- a function is itself
functions_equal : source_run (compares Pred.Eq (named (codes "main")) (named (codes "main"))) [] 9 ≡ shown [] 0 (Ended 1)
unfolding source_run source_start source_step out-Ty out
functions_equal = refl

-- and isn't null
function_and_null : source_run (compares Pred.Ne (named (codes "main")) Operand.Null) [] 9 ≡ shown [] 0 (Ended 1)
unfolding source_run source_start source_step out-Ty out
function_and_null = refl

-- no order without an object
order_of_nulls : source_run (compares Pred.Ule Operand.Null Operand.Null) [] 9 ≡ shown [] 0 (left Order)
unfolding source_run source_start source_step out-Ty out
order_of_nulls = refl

-- a call through null
abbrev through_null : Module
through_null = program [] [] (
    gives (codes "p") (Op.Freeze Ty.Ptr Operand.Null)
    ∷ gives (codes "r") (Op.Call i32 (local (codes "p")) [])
    ∷ []) (local (codes "r"))

-- null is no function
null_is_no_callee : source_run through_null [] 9 ≡ shown [] 0 (left Callee)
unfolding source_run source_start source_step out-Ty out
null_is_no_callee = refl

-- two bytes are copied so far on and so far from the start of four; only the first two were set
abbrev shifts : Operand → Operand → Operand → Module
shifts to from count = program [] (declared_as (codes "llvm.memcpy.p0.p0.i64") Ty.Void (Ty.Ptr ∷ Ty.Ptr ∷ i64 ∷ i1 ∷ []) ∷ []) (
    gives (codes "p") (Op.Alloca i8 4)
    ∷ does (Op.Store i16 (int 513) (local (codes "p")))
    ∷ gives (codes "a") (Op.Gep i8 (local (codes "p")) (arg i64 to ∷ []))
    ∷ gives (codes "b") (Op.Gep i8 (local (codes "p")) (arg i64 from ∷ []))
    ∷ runs (codes "llvm.memcpy.p0.p0.i64") (arg Ty.Ptr (local (codes "a")) ∷ arg Ty.Ptr (local (codes "b")) ∷ arg i64 count ∷ arg i1 (Operand.Bool false) ∷ [])
    ∷ gives (codes "x") (Op.Load i8 (local (codes "a")))
    ∷ gives (codes "z") (Op.Cast CastOp.Zext i8 (local (codes "x")) i32)
    ∷ []) (local (codes "z"))

-- ranges that touch
copy_beside : source_run (shifts (int 2) (int 0) (int 2)) [] 9 ≡ shown [] 0 (Ended 1)
unfolding source_run source_start source_step out-Ty out
copy_beside = simp shape-int

-- the same range
copy_onto_itself : source_run (shifts (int 1) (int 1) (int 2)) [] 9 ≡ shown [] 0 (Ended 2)
unfolding source_run source_start source_step out-Ty out
copy_onto_itself = simp shape-int

-- ranges that share a byte
copy_across : source_run (shifts (int 1) (int 0) (int 2)) [] 9 ≡ shown [] 0 (left Overlap)
unfolding source_run source_start source_step out-Ty out
copy_across = simp shape-int

-- unset bytes are copied, and left at the load
copy_of_unset : source_run (shifts (int 0) (int 2) (int 2)) [] 9 ≡ shown [] 0 (left Unset)
unfolding source_run source_start source_step out-Ty out
copy_of_unset = simp shape-int

-- nothing is copied to anywhere
copy_of_nothing : source_run (shifts (int 0) (int 9) (int 0)) [] 9 ≡ shown [] 0 (Ended 1)
unfolding source_run source_start source_step out-Ty out
copy_of_nothing = simp shape-int

-- bounds are told before ranges that share bytes
copy_past_end : source_run (shifts (int 3) (int 2) (int 2)) [] 9 ≡ shown [] 0 (left Bounds)
unfolding source_run source_start source_step out-Ty out
copy_past_end = simp shape-int
