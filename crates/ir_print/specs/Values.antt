-- Operands.
use Rattle.std.specs.Prelude.{ℕ, true, false, List, ◌++◌, codes}
use Rattle.std.specs.Fmt.{signed_decimal}
use Rattle.ir_core.specs.declared.operand.Operand.{Operand}
use Rattle.ir_core.specs.declared.operand.Operand.TheVariants.{Int, Bool, Null, Undef, Poison, Local, Global, Const}
use Rattle.ir_core.specs.declared.operand.Place0.{Place0}
use Rattle.ir_core.specs.declared.operand.Index0.{Index0}
use Rattle.ir_print.specs.Names.{local_text, global_text, after_commas}
use Rattle.ir_print.specs.Types.{type_text}

abbrev pub literal_index_text : Index0 → List ℕ
literal_index_text i = type_text i.ty ++ codes " " ++ signed_decimal i.value

-- literal indices, each behind a comma
unfoldable pub literal_indices_text : List Index0 → List ℕ
literal_indices_text is = after_commas literal_index_text is

-- `getelementptr ([4 x i32], ptr @a, i64 0, i64 1)`
unfoldable pub place_text : Place0 → List ℕ
place_text p =
    codes "getelementptr (" ++ type_text p.source ++ codes ", ptr " ++ global_text p.base ++ literal_indices_text p.indices ++ codes ")"

unfoldable pub operand_text : Operand → List ℕ
operand_text (Int n) = signed_decimal n
operand_text (Bool true) = codes "true"
operand_text (Bool false) = codes "false"
operand_text Null = codes "null"
operand_text Undef = codes "undef"
operand_text Poison = codes "poison"
operand_text (Local name) = local_text name
operand_text (Global name) = global_text name
operand_text (Const place) = place_text place
