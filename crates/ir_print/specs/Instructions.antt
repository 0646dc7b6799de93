-- Instructions.
use Rattle.std.specs.Prelude.{ℕ, List, [], ◌++◌, Option, Some, None, codes, decimal}
use Rattle.ir_core.specs.declared.operand.Operand.{Operand}
use Rattle.ir_core.specs.declared.instruction.BinOp.{BinOp}
use Rattle.ir_core.specs.declared.instruction.BinOp.TheVariants.{Add, Sub, Mul, Udiv, Sdiv, Urem, Srem, Shl, Lshr, Ashr, And, Or, Xor}
use Rattle.ir_core.specs.declared.instruction.Pred.{Pred}
use Rattle.ir_core.specs.declared.instruction.Pred.TheVariants.{Eq, Ne, Ult, Ule, Ugt, Uge, Slt, Sle, Sgt, Sge}
use Rattle.ir_core.specs.declared.instruction.CastOp.{CastOp}
use Rattle.ir_core.specs.declared.instruction.CastOp.TheVariants.{Trunc, Zext, Sext}
use Rattle.ir_core.specs.declared.instruction.Op.{Op}
use Rattle.ir_core.specs.declared.instruction.Op.TheVariants.{Bin, Compare, Cast, Select, Freeze, Alloca, Load, Store, Gep, Phi, Call}
use Rattle.ir_core.specs.declared.instruction.Arg.{Arg}
use Rattle.ir_core.specs.declared.instruction.Entry.{Entry}
use Rattle.ir_core.specs.declared.instruction.Inst.{Inst}
use Rattle.ir_core.specs.declared.ty.Ty.{Ty}
use Rattle.ir_print.specs.Names.{local_text, after_commas, with_commas}
use Rattle.ir_print.specs.Types.{type_text}
use Rattle.ir_print.specs.Values.{operand_text}

abbrev pub operation_word : BinOp → List ℕ
operation_word Add = codes "add"
operation_word Sub = codes "sub"
operation_word Mul = codes "mul"
operation_word Udiv = codes "udiv"
operation_word Sdiv = codes "sdiv"
operation_word Urem = codes "urem"
operation_word Srem = codes "srem"
operation_word Shl = codes "shl"
operation_word Lshr = codes "lshr"
operation_word Ashr = codes "ashr"
operation_word And = codes "and"
operation_word Or = codes "or"
operation_word Xor = codes "xor"

abbrev pub predicate_word : Pred → List ℕ
predicate_word Eq = codes "eq"
predicate_word Ne = codes "ne"
predicate_word Ult = codes "ult"
predicate_word Ule = codes "ule"
predicate_word Ugt = codes "ugt"
predicate_word Uge = codes "uge"
predicate_word Slt = codes "slt"
predicate_word Sle = codes "sle"
predicate_word Sgt = codes "sgt"
predicate_word Sge = codes "sge"

abbrev pub cast_word : CastOp → List ℕ
cast_word Trunc = codes "trunc"
cast_word Zext = codes "zext"
cast_word Sext = codes "sext"

-- an operand behind its type
unfoldable pub typed_text : Ty → Operand → List ℕ
typed_text t v = type_text t ++ codes " " ++ operand_text v

abbrev pub argument_text : Arg → List ℕ
argument_text a = typed_text a.ty a.value

-- indices, each behind a comma
unfoldable pub indices_text : List Arg → List ℕ
indices_text is = after_commas argument_text is

-- `[ 0, %e ]`
abbrev pub entry_text : Entry → List ℕ
entry_text e = codes "[ " ++ operand_text e.value ++ codes ", " ++ local_text e.from ++ codes " ]"

-- two operands of one type
unfoldable pub pair_text : Ty → Operand → Operand → List ℕ
pair_text t a b = typed_text t a ++ codes ", " ++ operand_text b

-- a type, and the address that it is read from
unfoldable pub access_text : Ty → Operand → List ℕ
access_text t p = type_text t ++ codes ", ptr " ++ operand_text p

-- an operation, without the name of its result
unfoldable pub op_text : Op → List ℕ
op_text (Bin op t a b) = operation_word op ++ codes " " ++ pair_text t a b
op_text (Compare p t a b) = codes "icmp " ++ predicate_word p ++ codes " " ++ pair_text t a b
op_text (Cast c from v to) = cast_word c ++ codes " " ++ typed_text from v ++ codes " to " ++ type_text to
op_text (Select c t a u b) = codes "select i1 " ++ operand_text c ++ codes ", " ++ typed_text t a ++ codes ", " ++ typed_text u b
op_text (Freeze t v) = codes "freeze " ++ typed_text t v
op_text (Alloca t n) = codes "alloca " ++ type_text t ++ codes ", i32 " ++ decimal n
op_text (Load t p) = codes "load " ++ access_text t p
op_text (Store t v p) = codes "store " ++ typed_text t v ++ codes ", ptr " ++ operand_text p
op_text (Gep t p is) = codes "getelementptr " ++ access_text t p ++ indices_text is
op_text (Phi t es) = codes "phi " ++ type_text t ++ codes " " ++ with_commas entry_text es
op_text (Call t f args) = codes "call " ++ type_text t ++ codes " " ++ operand_text f ++ codes "(" ++ with_commas argument_text args ++ codes ")"

-- `%a = `, where a result has a name
abbrev pub result_text : Option (List ℕ) → List ℕ
result_text None = []
result_text (Some name) = local_text name ++ codes " = "

-- a line of a block
unfoldable pub inst_text : Inst → List ℕ
inst_text i = codes "  " ++ result_text i.result ++ op_text i.op ++ codes "\n"
