-- Initialisers of globals.
use Rattle.std.specs.Prelude.{ℕ, List, [], ◌∷◌, ◌++◌, codes}
use Rattle.ir_core.specs.declared.init.Init.{Init, fold-Init}
use Rattle.ir_core.specs.declared.init.Init.TheOpen.{Init-F, Elem-F}
use Rattle.ir_core.specs.declared.init.Elem.{Elem, fold-Elem}
use Rattle.ir_print.specs.Names.{string_text, with_commas}
use Rattle.ir_print.specs.Types.{type_text, braced}
use Rattle.ir_print.specs.Values.{operand_text}

-- `[]`, or `[ i32 1, i32 2 ]`
abbrev pub bracketed : List (List ℕ) → List ℕ
bracketed [] = codes "[]"
bracketed (t ∷ ts) = codes "[ " ++ with_commas (λ x. x) (t ∷ ts) ++ codes " ]"

-- one level, with the texts of its elements
abbrev pub init_level : Init-F (List ℕ) (List ℕ) → List ℕ
init_level (Init-F.Value v) = operand_text v
init_level Init-F.Zero = codes "zeroinitializer"
init_level (Init-F.Text bytes) = string_text bytes
init_level (Init-F.Array es) = bracketed es
init_level (Init-F.Struct es) = braced es
init_level (Init-F.Packed es) = codes "<" ++ braced es ++ codes ">"

-- an element behind its type
abbrev pub element_level : Elem-F (List ℕ) (List ℕ) → List ℕ
element_level e = type_text e.ty ++ codes " " ++ e.init

abbrev pub init_text : Init → List ℕ
init_text = fold-Init (List ℕ) (List ℕ) init_level element_level

abbrev pub element_text : Elem → List ℕ
element_text = fold-Elem (List ℕ) (List ℕ) init_level element_level
