-- Each outside function, a struct's padding, and a switch at both ends of 64 bits, computed.
use Rattle.std.proofs.Common.{◌≡◌, false, List, [], ◌∷◌, refl, map}
use Rattle.std.specs.Prelude.{codes, replicate}
use denote.Hole.Carrier.{out}
use Rattle.behavior.specs.Ending.{Ended, Trap}
use Rattle.ir_core.specs.declared.ty.Ty.{Ty, out-Ty}
use Rattle.ir_core.specs.declared.ty.Ty.TheVariants.{Array as ArrayTy, Struct as StructTy, Packed as PackedTy}
use Rattle.ir_core.specs.declared.operand.Operand.{Operand}
use Rattle.ir_core.specs.declared.init.Init.{Init}
use Rattle.ir_core.specs.declared.init.Init.TheVariants.{Zero, Text, Array, Struct, Packed}
use Rattle.ir_core.specs.declared.init.Elem.{Elem}
use Rattle.ir_core.specs.declared.instruction.BinOp.{BinOp}
use Rattle.ir_core.specs.declared.instruction.CastOp.{CastOp}
use Rattle.ir_core.specs.declared.instruction.Op.{Op}
use Rattle.ir_core.specs.declared.instruction.Term.{Term}
use Rattle.ir_core.specs.declared.module.Module.{Module}
use Rattle.ir_core.specs.declared.memory.Cell.TheVariants.{Byte}
use Rattle.ir_core.specs.declared.memory.Reason.TheVariants.{Bounds, Unset}
use Rattle.ir_core.specs.Globals.{cells_of_init}
use Rattle.ir_core.specs.Step.{source_step}
use Rattle.ir_core.specs.Run.{source_start, source_run}
use Rattle.ir_core.proofs.Types.{shape-int, shape-struct, shape-packed}
use Rattle.ir_core.proofs.Inits.{init-value, init-zero, init-text, init-array, init-struct, init-packed, part-element}
use Rattle.ir_core.proofs.WorkedWords.{i1, i8, i16, i32, i64, local, int, minus, named, gives, does, calls, runs, block, function, module_of, variable, declared_as, arg, program, left, shown}

-- the low byte is printed, and given as a number; a third of it is returned
abbrev prints : Module
prints = program [] (declared_as (codes "putchar") i32 (i32 ∷ []) ∷ []) (
    calls (codes "p") i32 (codes "putchar") (arg i32 (int 511) ∷ [])
    ∷ calls (codes "q") i32 (codes "putchar") (arg i32 (int 321) ∷ [])
    ∷ gives (codes "z") (Op.Bin BinOp.Udiv i32 (local (codes "p")) (int 3))
    ∷ []) (local (codes "z"))

-- 511 and 321 modulo 256; 255 by 3
putchar_prints : source_run prints [] 4 ≡ shown (255 ∷ 65 ∷ []) 0 (Ended 85)
unfolding source_run source_start source_step out-Ty out
putchar_prints = refl

-- a byte is taken a call, and at the end none
abbrev reads : Module
reads = program [] (declared_as (codes "getchar") i32 [] ∷ []) (
    calls (codes "p") i32 (codes "getchar") []
    ∷ calls (codes "q") i32 (codes "getchar") []
    ∷ calls (codes "r") i32 (codes "getchar") []
    ∷ gives (codes "z") (Op.Freeze i32 (local (codes "q")))
    ∷ []) (local (codes "z"))

-- the second of two
getchar_takes : source_run reads (7 ∷ 200 ∷ []) 5 ≡ shown [] 2 (Ended 200)
unfolding source_run source_start source_step out-Ty out
getchar_takes = refl

-- `exit` ends the run in a call, with the low 8 bits
abbrev leaves : Module
leaves = module_of (declared_as (codes "exit") Ty.Void (i32 ∷ []) ∷ []) (
    record { name = codes "f"; ret = Ty.Void; params = []; blocks = block (codes "0") (runs (codes "exit") (arg i32 (int 298) ∷ []) ∷ []) Term.Ret ∷ [] }
    ∷ function (codes "main") [] (block (codes "0") (runs (codes "f") [] ∷ []) (Term.RetValue i32 (int 1)) ∷ [])
    ∷ [])

-- 298 modulo 256
exit_ends : source_run leaves [] 2 ≡ shown [] 0 (Ended 42)
unfolding source_run source_start source_step out-Ty out
exit_ends = refl

-- it is a trap of its own, as `unreachable` is
abbrev trapped : Module
trapped = program [] (declared_as (codes "llvm.trap") Ty.Void [] ∷ []) (runs (codes "llvm.trap") [] ∷ []) (int 0)

-- at the call
trap_traps : source_run trapped [] 1 ≡ shown [] 0 Trap
unfolding source_run source_start source_step out-Ty out
trap_traps = refl

-- a terminator that is never reached
unreachable_traps : source_run (module_of [] (function (codes "main") [] (block (codes "0") [] Term.Unreachable ∷ []) ∷ [])) [] 1 ≡ shown [] 0 Trap
unfolding source_run source_start source_step out-Ty out
unreachable_traps = refl

-- both marks of a lifetime do nothing, with a size or without
abbrev lives : Module
lives = program [] (declared_as (codes "llvm.lifetime.start.p0") Ty.Void (i64 ∷ Ty.Ptr ∷ []) ∷ declared_as (codes "llvm.lifetime.end.p0") Ty.Void (Ty.Ptr ∷ []) ∷ []) (
    gives (codes "p") (Op.Alloca i8 1)
    ∷ does (Op.Store i8 (int 9) (local (codes "p")))
    ∷ runs (codes "llvm.lifetime.start.p0") (arg i64 (int 1) ∷ arg Ty.Ptr (local (codes "p")) ∷ [])
    ∷ runs (codes "llvm.lifetime.end.p0") (arg Ty.Ptr (local (codes "p")) ∷ [])
    ∷ gives (codes "x") (Op.Load i8 (local (codes "p")))
    ∷ gives (codes "z") (Op.Cast CastOp.Zext i8 (local (codes "x")) i32)
    ∷ []) (local (codes "z"))

-- the byte stays
lifetimes_do_nothing : source_run lives [] 7 ≡ shown [] 0 (Ended 9)
unfolding source_run source_start source_step out-Ty out
lifetimes_do_nothing = simp shape-int

-- a byte is filled in so far on, so many times
abbrev fills : Operand → Operand → Module
fills offset count = program [] (declared_as (codes "llvm.memset.p0.i64") Ty.Void (Ty.Ptr ∷ i8 ∷ i64 ∷ i1 ∷ []) ∷ []) (
    gives (codes "p") (Op.Alloca i8 3)
    ∷ does (Op.Store i8 (int 1) (local (codes "p")))
    ∷ gives (codes "q") (Op.Gep i8 (local (codes "p")) (arg i64 offset ∷ []))
    ∷ runs (codes "llvm.memset.p0.i64") (arg Ty.Ptr (local (codes "q")) ∷ arg i8 (int 5) ∷ arg i64 count ∷ arg i1 (Operand.Bool false) ∷ [])
    ∷ gives (codes "x") (Op.Load i16 (local (codes "p")))
    ∷ gives (codes "z") (Op.Cast CastOp.Zext i16 (local (codes "x")) i32)
    ∷ []) (local (codes "z"))

-- the first two bytes are 1 and 5: 1,281, whose low 8 bits are 1; the third is past what is loaded
memset_fills : source_run (fills (int 1) (int 2)) [] 7 ≡ shown [] 0 (Ended 1)
unfolding source_run source_start source_step out-Ty out
memset_fills = simp shape-int

-- from the first byte on
memset_fills_first : source_run (fills (int 0) (int 2)) [] 7 ≡ shown [] 0 (Ended 5)
unfolding source_run source_start source_step out-Ty out
memset_fills_first = simp shape-int

-- one byte alone leaves the second unset
memset_of_one : source_run (fills (int 0) (int 1)) [] 9 ≡ shown [] 0 (left Unset)
unfolding source_run source_start source_step out-Ty out
memset_of_one = simp shape-int

-- past the end
memset_past_end : source_run (fills (int 2) (int 2)) [] 9 ≡ shown [] 0 (left Bounds)
unfolding source_run source_start source_step out-Ty out
memset_past_end = simp shape-int

-- no byte anywhere
memset_of_nothing : source_run (fills (int 9) (int 0)) [] 9 ≡ shown [] 0 (left Unset)
unfolding source_run source_start source_step out-Ty out
memset_of_nothing = simp shape-int

-- cases at both ends of 64 bits: the least signed number, the greatest signed one, and the greatest without signs
abbrev chooses : Operand → Module
chooses v = module_of [] (function (codes "main") [] (
    block (codes "e") (gives (codes "v") (Op.Freeze i64 v) ∷ []) (Term.Switch i64 (local (codes "v")) (codes "d") (
    record { ty = i64; value = minus 9223372036854775807; to = codes "a" }
    ∷ record { ty = i64; value = int 9223372036854775807; to = codes "b" }
    ∷ record { ty = i64; value = int 18446744073709551615; to = codes "c" }
    ∷ []))
    ∷ block (codes "a") [] (Term.RetValue i32 (int 1))
    ∷ block (codes "b") [] (Term.RetValue i32 (int 2))
    ∷ block (codes "c") [] (Term.RetValue i32 (int 3))
    ∷ block (codes "d") [] (Term.RetValue i32 (int 4))
    ∷ []) ∷ [])

-- 2^63 is the least signed number
switch_at_least : source_run (chooses (int 9223372036854775808)) [] 9 ≡ shown [] 0 (Ended 1)
unfolding source_run source_start source_step out-Ty out
switch_at_least = refl

-- the greatest signed number
switch_at_greatest : source_run (chooses (int 9223372036854775807)) [] 9 ≡ shown [] 0 (Ended 2)
unfolding source_run source_start source_step out-Ty out
switch_at_greatest = refl

-- -1 is the greatest without signs
switch_at_minus_one : source_run (chooses (minus 0)) [] 9 ≡ shown [] 0 (Ended 3)
unfolding source_run source_start source_step out-Ty out
switch_at_minus_one = refl

-- zero is none of them
switch_at_default : source_run (chooses Operand.Undef) [] 9 ≡ shown [] 0 (Ended 4)
unfolding source_run source_start source_step out-Ty out
switch_at_default = refl

-- { i8, i32, i8 }
abbrev padded : Ty
padded = StructTy (i8 ∷ i32 ∷ i8 ∷ [])

-- <{ i8, i32, i8 }>
abbrev tight : Ty
tight = PackedTy (i8 ∷ i32 ∷ i8 ∷ [])

-- 1, 2 and 3 as its fields
abbrev three : List Elem
three = record { ty = i8; init = Init.Value (int 1) } ∷ record { ty = i32; init = Init.Value (int 2) } ∷ record { ty = i8; init = Init.Value (int 3) } ∷ []

-- a global of a type with that initialiser, of which a type is loaded so far on
abbrev holds : Ty → Init → Ty → Operand → Module
holds ty init loaded offset = program (variable (codes "g") ty init ∷ []) [] (
    gives (codes "q") (Op.Gep i8 (named (codes "g")) (arg i64 offset ∷ []))
    ∷ gives (codes "x") (Op.Load loaded (local (codes "q")))
    ∷ gives (codes "z") (Op.Cast CastOp.Trunc loaded (local (codes "x")) i16)
    ∷ gives (codes "y") (Op.Cast CastOp.Zext i16 (local (codes "z")) i32)
    ∷ []) (local (codes "y"))

-- twelve bytes: three zeros in front of the second field, three behind the third
padding_is_zero : cells_of_init (program [] [] [] (int 0)) (Struct three) padded ≡ map Byte (1 ∷ 0 ∷ 0 ∷ 0 ∷ 2 ∷ 0 ∷ 0 ∷ 0 ∷ 3 ∷ 0 ∷ 0 ∷ 0 ∷ [])
unfolding out-Ty out
padding_is_zero = simp (init-struct, part-element, init-value, shape-struct, shape-int)

-- the second field stands at 4
second_field_at_4 : source_run (holds padded (Struct three) i32 (int 4)) [] 9 ≡ shown [] 0 (Ended 2)
unfolding source_run source_start source_step out-Ty out
second_field_at_4 = simp (init-struct, part-element, init-value, shape-struct, shape-int)

-- six bytes, with none between
packed_has_none : cells_of_init (program [] [] [] (int 0)) (Packed three) tight ≡ map Byte (1 ∷ 2 ∷ 0 ∷ 0 ∷ 0 ∷ 3 ∷ [])
unfolding out-Ty out
packed_has_none = simp (init-packed, part-element, init-value, shape-packed, shape-int)

-- an array has its elements end to end, a text its bytes, and zeros are as many as the type has bytes
array_end_to_end : cells_of_init (program [] [] [] (int 0)) (Array (record { ty = i16; init = Init.Value (int 258) } ∷ record { ty = i16; init = Init.Value (minus 0) } ∷ [])) (ArrayTy 2 i16) ≡ map Byte (2 ∷ 1 ∷ 255 ∷ 255 ∷ [])
unfolding out-Ty out
array_end_to_end = simp (init-array, part-element, init-value, shape-int)

-- the bytes of a text
text_is_bytes : cells_of_init (program [] [] [] (int 0)) (Text (104 ∷ 105 ∷ 0 ∷ [])) (ArrayTy 3 i8) ≡ map Byte (104 ∷ 105 ∷ 0 ∷ [])
text_is_bytes = simp init-text

-- as many zeros as the struct has bytes
zeros_of_struct : cells_of_init (program [] [] [] (int 0)) Zero padded ≡ replicate 12 (Byte 0)
zeros_of_struct = simp (init-zero, shape-struct, shape-int)

-- an undef of a struct is zeros too
undef_of_struct : cells_of_init (program [] [] [] (int 0)) (Init.Value Operand.Undef) padded ≡ replicate 12 (Byte 0)
unfolding out-Ty out
undef_of_struct = simp (init-value, shape-struct, shape-int)
