-- Values, and places that are known before a run.
use Rattle.std.specs.Prelude.{[], ◌∷◌, codes, true, false}
use Rattle.ir_core.specs.declared.operand.Operand.{Operand}
use Rattle.ir_core.specs.declared.operand.Operand.TheVariants as operand
use Rattle.ir_core.specs.declared.operand.Place0.{Place0}
use Rattle.ir_core.specs.declared.operand.Index0.{Index0}
use Rattle.ir_grammar.specs.Grammar.{Grammar, give, either, many, ◌▸◌, ◌▹◌}
use Rattle.ir_grammar.specs.Parts.{the_word, the_mark, a_local, a_global, skip, behind_comma}
use Rattle.ir_syntax.specs.Words.{by_word, an_int, flag, a_comma}
use Rattle.ir_syntax.specs.Types.{ty}

-- const = Int | "true" | "false"
unfoldable pub const_value : Grammar Operand
const_value = either (give operand.Int ▸ an_int) (by_word (codes "true", operand.Bool true) ((codes "false", operand.Bool false) ∷ []))

-- const | "null" | "undef" | "poison" | Global
unfoldable pub plain_value : Grammar Operand
plain_value =
    either const_value
    (either (by_word (codes "null", operand.Null) ((codes "undef", operand.Undef) ∷ (codes "poison", operand.Poison) ∷ [])) (give operand.Global ▸ a_global))

-- type Int
unfoldable pub place_index : Grammar Index0
place_index = give (λ t n. record { ty = t; value = n }) ▸ ty ▸ an_int

-- place = "getelementptr" { FLAG } "(" type "," "ptr" Global { "," type Int } ")"
unfoldable pub place : Grammar Place0
place =
    give (λ t g is. record { source = t; base = g; indices = is }) ▹ the_word (codes "getelementptr") ▹ skip flag ▹ the_mark 40 ▸ ty
    ▹ a_comma ▹ the_word (codes "ptr") ▸ a_global ▸ many (behind_comma place_index) ▹ the_mark 41

-- value other than Local
unfoldable pub fixed_value : Grammar Operand
fixed_value = either plain_value (give operand.Const ▸ place)

-- value = const | "null" | "undef" | "poison" | Local | Global | place
unfoldable pub value : Grammar Operand
value = either plain_value (either (give operand.Local ▸ a_local) (give operand.Const ▸ place))
