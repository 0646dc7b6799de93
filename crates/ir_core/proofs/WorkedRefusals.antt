-- Each refusal, computed at a module that is refused for it, and modules that aren't refused.
use Rattle.std.proofs.Common.{◌≡◌, false, List, [], ◌∷◌, refl, Some, None}
use Rattle.std.specs.Prelude.{codes, replicate}
use denote.Hole.Carrier.{out}
use Rattle.ir_core.specs.declared.limit.Limit.{Limit}
use Rattle.ir_core.specs.declared.limit.Spot.{Spot}
use Rattle.ir_core.specs.declared.ty.Ty.{Ty, out-Ty}
use Rattle.ir_core.specs.declared.ty.Ty.TheVariants.{Array as ArrayTy, Struct as StructTy}
use Rattle.ir_core.specs.declared.operand.Operand.{Operand}
use Rattle.ir_core.specs.declared.init.Init.{Init}
use Rattle.ir_core.specs.declared.instruction.Op.{Op}
use Rattle.ir_core.specs.declared.instruction.Inst.{Inst}
use Rattle.ir_core.specs.declared.instruction.Term.{Term}
use Rattle.ir_core.specs.declared.module.Module.{Module}
use Rattle.ir_core.specs.Refusals.{Doubled, Unknown, Limited, External, NoMain, BadType, first_fault}
use Rattle.ir_core.specs.Valid.{init_fits}
use Rattle.ir_core.proofs.Types.{shape-int, shape-ptr, shape-array, shape-struct}
use Rattle.ir_core.proofs.WrittenTypes.{parts-int, parts-ptr, parts-void, depth-int, depth-ptr, depth-void, names-int, names-ptr, names-void, parts-array, depth-array, names-array, parts-struct, depth-struct, names-struct}
use Rattle.ir_core.proofs.InitRules.{mentions-value, mentions-zero, fits-value, fits-zero}
use Rattle.ir_core.proofs.Worked.{seven}
use Rattle.ir_core.proofs.WorkedWords.{i8, i32, i64, local, int, minus, named, gives, calls, block, function, module_of, variable, declared_as, arg, entry, program}

-- nothing refuses a module that ends with 7
seven_accepted : first_fault seven ≡ None
unfolding out-Ty out
seven_accepted = simp (parts-int, parts-ptr, parts-void, depth-int, depth-ptr, depth-void, names-int, names-ptr, names-void, shape-int, shape-ptr, parts-array, depth-array, names-array, shape-array, mentions-value, mentions-zero, fits-value, fits-zero)

-- `main` of one block, under a name for it, with what stands in front of it
abbrev alone : List Inst → Operand → Module
alone insts result = program [] [] insts result

-- a local that is given twice
doubled_result : first_fault (alone (gives (codes "x") (Op.Freeze i32 (int 1)) ∷ gives (codes "x") (Op.Freeze i32 (int 2)) ∷ []) (local (codes "x"))) ≡ Some (Doubled (codes "%x"))
unfolding out-Ty out
doubled_result = refl

-- a result that has the name of its block
doubled_label : first_fault (alone (gives (codes "0") (Op.Freeze i32 (int 1)) ∷ []) (int 7)) ≡ Some (Doubled (codes "%0"))
unfolding out-Ty out
doubled_label = refl

-- a global and a declaration of one name, which is told before a local of `main`
doubled_global : first_fault (program (variable (codes "g") i32 (Init.Value (int 1)) ∷ []) (declared_as (codes "g") Ty.Void [] ∷ []) (gives (codes "0") (Op.Freeze i32 (int 1)) ∷ []) (int 7)) ≡ Some (Doubled (codes "@g"))
unfolding out-Ty out
doubled_global = refl

-- a local that is never given
unknown_local : first_fault (alone [] (local (codes "x"))) ≡ Some (Unknown (codes "%x"))
unfolding out-Ty out
unknown_local = simp (parts-int, parts-ptr, parts-void, depth-int, depth-ptr, depth-void, names-int, names-ptr, names-void, shape-int, shape-ptr, parts-array, depth-array, names-array, shape-array, mentions-value, mentions-zero, fits-value, fits-zero)

-- a result is no label
unknown_label : first_fault (module_of [] (function (codes "main") [] (block (codes "0") (gives (codes "x") (Op.Freeze i32 (int 1)) ∷ []) (Term.Br (codes "x")) ∷ []) ∷ [])) ≡ Some (Unknown (codes "%x"))
unfolding out-Ty out
unknown_label = simp (parts-int, parts-ptr, parts-void, depth-int, depth-ptr, depth-void, names-int, names-ptr, names-void, shape-int, shape-ptr, parts-array, depth-array, names-array, shape-array, mentions-value, mentions-zero, fits-value, fits-zero)

-- nor is a label a value
unknown_value : first_fault (alone [] (local (codes "0"))) ≡ Some (Unknown (codes "%0"))
unfolding out-Ty out
unknown_value = simp (parts-int, parts-ptr, parts-void, depth-int, depth-ptr, depth-void, names-int, names-ptr, names-void, shape-int, shape-ptr, parts-array, depth-array, names-array, shape-array, mentions-value, mentions-zero, fits-value, fits-zero)

-- a global is no callee
unknown_callee : first_fault (program (variable (codes "g") i32 (Init.Value (int 1)) ∷ []) [] (calls (codes "r") i32 (codes "g") [] ∷ []) (int 7)) ≡ Some (Unknown (codes "@g"))
unfolding out-Ty out
unknown_callee = simp (parts-int, parts-ptr, parts-void, depth-int, depth-ptr, depth-void, names-int, names-ptr, names-void, shape-int, shape-ptr, parts-array, depth-array, names-array, shape-array, mentions-value, mentions-zero, fits-value, fits-zero)

-- 33 parameters
many_parameters : first_fault (program [] (declared_as (codes "f") i32 (replicate 33 i32) ∷ []) [] (int 7)) ≡ Some (Limited Limit.Parameters 33)
unfolding out-Ty out
many_parameters = simp (parts-int, parts-ptr, parts-void, depth-int, depth-ptr, depth-void, names-int, names-ptr, names-void, shape-int, shape-ptr, parts-array, depth-array, names-array, shape-array, mentions-value, mentions-zero, fits-value, fits-zero)

-- 32 are not too many
enough_parameters : first_fault (program [] (declared_as (codes "f") i32 (replicate 32 i32) ∷ []) [] (int 7)) ≡ None
unfolding out-Ty out
enough_parameters = simp (parts-int, parts-ptr, parts-void, depth-int, depth-ptr, depth-void, names-int, names-ptr, names-void, shape-int, shape-ptr, parts-array, depth-array, names-array, shape-array, mentions-value, mentions-zero, fits-value, fits-zero)

-- a type past 64 MiB
large_type : first_fault (program (variable (codes "g") (ArrayTy 67108865 i8) Init.Zero ∷ []) [] [] (int 7)) ≡ Some (Limited Limit.Size 67108865)
unfolding out-Ty out
large_type = simp (parts-int, parts-ptr, parts-void, depth-int, depth-ptr, depth-void, names-int, names-ptr, names-void, shape-int, shape-ptr, parts-array, depth-array, names-array, shape-array, mentions-value, mentions-zero, fits-value, fits-zero)

-- 256 and 16 for a result and 65,281 of an alloca are 65,568
large_frame : first_fault (alone (gives (codes "p") (Op.Alloca i8 65281) ∷ []) (int 7)) ≡ Some (Limited Limit.Frame 65568)
unfolding out-Ty out
large_frame = simp (parts-int, parts-ptr, parts-void, depth-int, depth-ptr, depth-void, names-int, names-ptr, names-void, shape-int, shape-ptr, parts-array, depth-array, names-array, shape-array, mentions-value, mentions-zero, fits-value, fits-zero)

-- 65,264 are 65,536
full_frame : first_fault (alone (gives (codes "p") (Op.Alloca i8 65264) ∷ []) (int 7)) ≡ None
unfolding out-Ty out
full_frame = simp (parts-int, parts-ptr, parts-void, depth-int, depth-ptr, depth-void, names-int, names-ptr, names-void, shape-int, shape-ptr, parts-array, depth-array, names-array, shape-array, mentions-value, mentions-zero, fits-value, fits-zero)

-- a declaration that is called under another type than its function has
wrong_declaration_is_called : first_fault (program [] (declared_as (codes "putchar") i64 (i32 ∷ []) ∷ []) (calls (codes "r") i64 (codes "putchar") (arg i32 (int 1) ∷ []) ∷ []) (int 7)) ≡ Some (External (codes "@putchar"))
unfolding out-Ty out
wrong_declaration_is_called = simp (parts-int, parts-ptr, parts-void, depth-int, depth-ptr, depth-void, names-int, names-ptr, names-void, shape-int, shape-ptr, parts-array, depth-array, names-array, shape-array, mentions-value, mentions-zero, fits-value, fits-zero)

-- one that is not called is free
wrong_declaration_is_not_called : first_fault (program [] (declared_as (codes "putchar") i64 (i32 ∷ []) ∷ []) [] (int 7)) ≡ None
unfolding out-Ty out
wrong_declaration_is_not_called = simp (parts-int, parts-ptr, parts-void, depth-int, depth-ptr, depth-void, names-int, names-ptr, names-void, shape-int, shape-ptr, parts-array, depth-array, names-array, shape-array, mentions-value, mentions-zero, fits-value, fits-zero)

-- a declared name in another place than that of a callee
declared_name_is_stored : first_fault (program [] (declared_as (codes "putchar") i32 (i32 ∷ []) ∷ []) (gives (codes "p") (Op.Freeze Ty.Ptr (named (codes "putchar"))) ∷ []) (int 7)) ≡ Some (External (codes "@putchar"))
unfolding out-Ty out
declared_name_is_stored = simp (parts-int, parts-ptr, parts-void, depth-int, depth-ptr, depth-void, names-int, names-ptr, names-void, shape-int, shape-ptr, parts-array, depth-array, names-array, shape-array, mentions-value, mentions-zero, fits-value, fits-zero)

-- a function that is defined under a name of the outside
outside_name_is_defined : first_fault (module_of [] (function (codes "llvm.x") [] (block (codes "0") [] (Term.RetValue i32 (int 1)) ∷ []) ∷ [])) ≡ Some (External (codes "@llvm.x"))
unfolding out-Ty out
outside_name_is_defined = simp (parts-int, parts-ptr, parts-void, depth-int, depth-ptr, depth-void, names-int, names-ptr, names-void, shape-int, shape-ptr, parts-array, depth-array, names-array, shape-array, mentions-value, mentions-zero, fits-value, fits-zero)

-- no `main`
main_is_missing : first_fault (module_of [] (function (codes "f") [] (block (codes "0") [] (Term.RetValue i32 (int 1)) ∷ []) ∷ [])) ≡ Some NoMain
unfolding out-Ty out
main_is_missing = simp (parts-int, parts-ptr, parts-void, depth-int, depth-ptr, depth-void, names-int, names-ptr, names-void, shape-int, shape-ptr, parts-array, depth-array, names-array, shape-array, mentions-value, mentions-zero, fits-value, fits-zero)

-- `main` of one parameter
main_has_other_type : first_fault (module_of [] (function (codes "main") (record { ty = i32; name = codes "n" } ∷ []) (block (codes "0") [] (Term.RetValue i32 (int 1)) ∷ []) ∷ [])) ≡ Some NoMain
unfolding out-Ty out
main_has_other_type = simp (parts-int, parts-ptr, parts-void, depth-int, depth-ptr, depth-void, names-int, names-ptr, names-void, shape-int, shape-ptr, parts-array, depth-array, names-array, shape-array, mentions-value, mentions-zero, fits-value, fits-zero)

-- a literal that is no number of its type
literal_past_width : first_fault (alone (gives (codes "x") (Op.Freeze i8 (int 256)) ∷ []) (int 7)) ≡ Some (BadType (Spot.Inst 0 0 0))
unfolding out-Ty out
literal_past_width = simp (parts-int, parts-ptr, parts-void, depth-int, depth-ptr, depth-void, names-int, names-ptr, names-void, shape-int, shape-ptr, parts-array, depth-array, names-array, shape-array, mentions-value, mentions-zero, fits-value, fits-zero)

-- the least number of a type
literal_at_least : first_fault (alone (gives (codes "x") (Op.Freeze i8 (minus 127)) ∷ []) (int 7)) ≡ None
unfolding out-Ty out
literal_at_least = simp (parts-int, parts-ptr, parts-void, depth-int, depth-ptr, depth-void, names-int, names-ptr, names-void, shape-int, shape-ptr, parts-array, depth-array, names-array, shape-array, mentions-value, mentions-zero, fits-value, fits-zero)

-- one less
literal_below_least : first_fault (alone (gives (codes "x") (Op.Freeze i8 (minus 128)) ∷ []) (int 7)) ≡ Some (BadType (Spot.Inst 0 0 0))
unfolding out-Ty out
literal_below_least = simp (parts-int, parts-ptr, parts-void, depth-int, depth-ptr, depth-void, names-int, names-ptr, names-void, shape-int, shape-ptr, parts-array, depth-array, names-array, shape-array, mentions-value, mentions-zero, fits-value, fits-zero)

-- a return of another type than the function has
result_of_other_type : first_fault (alone [] (Operand.Null)) ≡ Some (BadType (Spot.Inst 0 0 0))
unfolding out-Ty out
result_of_other_type = simp (parts-int, parts-ptr, parts-void, depth-int, depth-ptr, depth-void, names-int, names-ptr, names-void, shape-int, shape-ptr, parts-array, depth-array, names-array, shape-array, mentions-value, mentions-zero, fits-value, fits-zero)

-- cases that are one number of the width
cases_modulo_width : first_fault (module_of [] (function (codes "main") [] (block (codes "0") [] (Term.Switch i8 (int 1) (codes "1") (record { ty = i8; value = minus 0; to = codes "1" } ∷ record { ty = i8; value = int 255; to = codes "1" } ∷ [])) ∷ block (codes "1") [] (Term.RetValue i32 (int 1)) ∷ []) ∷ [])) ≡ Some (BadType (Spot.Inst 0 0 0))
unfolding out-Ty out
cases_modulo_width = simp (parts-int, parts-ptr, parts-void, depth-int, depth-ptr, depth-void, names-int, names-ptr, names-void, shape-int, shape-ptr, parts-array, depth-array, names-array, shape-array, mentions-value, mentions-zero, fits-value, fits-zero)

-- a phi behind an instruction
phi_stands_late : first_fault (module_of [] (function (codes "main") [] (block (codes "0") [] (Term.Br (codes "1")) ∷ block (codes "1") (gives (codes "x") (Op.Freeze i32 (int 1)) ∷ gives (codes "y") (Op.Phi i32 (entry (int 1) (codes "0") ∷ [])) ∷ []) (Term.RetValue i32 (int 1)) ∷ []) ∷ [])) ≡ Some (BadType (Spot.Inst 0 1 1))
unfolding out-Ty out
phi_stands_late = simp (parts-int, parts-ptr, parts-void, depth-int, depth-ptr, depth-void, names-int, names-ptr, names-void, shape-int, shape-ptr, parts-array, depth-array, names-array, shape-array, mentions-value, mentions-zero, fits-value, fits-zero)

-- an entry for a block from which no edge comes
phi_of_no_predecessor : first_fault (module_of [] (function (codes "main") [] (block (codes "0") [] (Term.Br (codes "1")) ∷ block (codes "1") (gives (codes "y") (Op.Phi i32 (entry (int 1) (codes "0") ∷ entry (int 1) (codes "1") ∷ [])) ∷ []) (Term.RetValue i32 (int 1)) ∷ []) ∷ [])) ≡ Some (BadType (Spot.Inst 0 1 0))
unfolding out-Ty out
phi_of_no_predecessor = simp (parts-int, parts-ptr, parts-void, depth-int, depth-ptr, depth-void, names-int, names-ptr, names-void, shape-int, shape-ptr, parts-array, depth-array, names-array, shape-array, mentions-value, mentions-zero, fits-value, fits-zero)

-- an edge to the entry block
edge_to_entry : first_fault (module_of [] (function (codes "main") [] (block (codes "0") [] (Term.Br (codes "0")) ∷ []) ∷ [])) ≡ Some (BadType (Spot.Inst 0 0 0))
unfolding out-Ty out
edge_to_entry = simp (parts-int, parts-ptr, parts-void, depth-int, depth-ptr, depth-void, names-int, names-ptr, names-void, shape-int, shape-ptr, parts-array, depth-array, names-array, shape-array, mentions-value, mentions-zero, fits-value, fits-zero)

-- an alloca in another block than the first
alloca_past_entry : first_fault (module_of [] (function (codes "main") [] (block (codes "0") [] (Term.Br (codes "1")) ∷ block (codes "1") (gives (codes "p") (Op.Alloca i8 1) ∷ []) (Term.RetValue i32 (int 1)) ∷ []) ∷ [])) ≡ Some (BadType (Spot.Inst 0 1 0))
unfolding out-Ty out
alloca_past_entry = simp (parts-int, parts-ptr, parts-void, depth-int, depth-ptr, depth-void, names-int, names-ptr, names-void, shape-int, shape-ptr, parts-array, depth-array, names-array, shape-array, mentions-value, mentions-zero, fits-value, fits-zero)

-- an initialiser that isn't of its type
null_is_no_byte : init_fits seven (Init.Value Operand.Null) i8 ≡ false
unfolding out-Ty out
null_is_no_byte = simp fits-value

-- a declaration that gives a struct
extern_gives_struct : first_fault (program [] (declared_as (codes "f") (StructTy (i32 ∷ [])) [] ∷ []) [] (int 7)) ≡ Some (BadType (Spot.Extern 0))
unfolding out-Ty out
extern_gives_struct = simp (parts-int, parts-struct, depth-int, depth-struct, names-int, names-struct, shape-int, shape-struct)

-- of two refusals the earlier one is told
limit_before_type : first_fault (program [] (declared_as (codes "f") i32 (replicate 33 i32) ∷ []) (gives (codes "x") (Op.Freeze i8 (int 256)) ∷ []) (int 7)) ≡ Some (Limited Limit.Parameters 33)
unfolding out-Ty out
limit_before_type = simp (parts-int, parts-ptr, parts-void, depth-int, depth-ptr, depth-void, names-int, names-ptr, names-void, shape-int, shape-ptr, parts-array, depth-array, names-array, shape-array, mentions-value, mentions-zero, fits-value, fits-zero)
