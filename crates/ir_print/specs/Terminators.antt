-- How blocks end.
use Rattle.std.specs.Prelude.{ℕ, List, ◌++◌, codes, flat_map}
use Rattle.ir_core.specs.declared.instruction.Term.{Term}
use Rattle.ir_core.specs.declared.instruction.Term.TheVariants.{Ret, RetValue, Br, BrIf, Switch, Unreachable}
use Rattle.ir_core.specs.declared.instruction.Case.{Case}
use Rattle.ir_print.specs.Names.{local_text}
use Rattle.ir_print.specs.Values.{operand_text}
use Rattle.ir_print.specs.Instructions.{typed_text}

-- `label %h`
abbrev pub target_text : List ℕ → List ℕ
target_text name = codes "label " ++ local_text name

-- `i32 1, label %c `
abbrev pub case_text : Case → List ℕ
case_text c = typed_text c.ty c.value ++ codes ", " ++ target_text c.to ++ codes " "

unfoldable pub term_text : Term → List ℕ
term_text Ret = codes "ret void"
term_text (RetValue t v) = codes "ret " ++ typed_text t v
term_text (Br to) = codes "br " ++ target_text to
term_text (BrIf c taken other) = codes "br i1 " ++ operand_text c ++ codes ", " ++ target_text taken ++ codes ", " ++ target_text other
term_text (Switch t v other cases) = codes "switch " ++ typed_text t v ++ codes ", " ++ target_text other ++ codes " [ " ++ flat_map case_text cases ++ codes "]"
term_text Unreachable = codes "unreachable"

-- the last line of a block
unfoldable pub end_text : Term → List ℕ
end_text t = codes "  " ++ term_text t ++ codes "\n"
