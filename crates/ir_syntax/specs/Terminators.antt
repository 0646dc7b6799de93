-- How blocks end.
use Rattle.std.specs.Prelude.{ℕ, List, codes}
use Rattle.ir_core.specs.declared.instruction.Term.{Term}
use Rattle.ir_core.specs.declared.instruction.Term.TheVariants as term_of
use Rattle.ir_core.specs.declared.instruction.Case.{Case}
use Rattle.ir_grammar.specs.Grammar.{Grammar, give, either, many, ◌▸◌, ◌▹◌}
use Rattle.ir_grammar.specs.Parts.{the_word, the_mark, a_local}
use Rattle.ir_syntax.specs.Words.{a_comma}
use Rattle.ir_syntax.specs.Types.{ty}
use Rattle.ir_syntax.specs.Values.{const_value, value}
use Rattle.ir_syntax.specs.Metadata.{attaches}

-- "label" Local
unfoldable pub target : Grammar (List ℕ)
target = give (λ l. l) ▹ the_word (codes "label") ▸ a_local

-- "ret" "void" | "ret" type value
unfoldable pub ret : Grammar Term
ret =
    give (λ t. t) ▹ the_word (codes "ret") ▸ either (give term_of.Ret ▹ the_word (codes "void")) (give term_of.RetValue ▸ ty ▸ value)

-- "br" "label" Local | "br" "i1" value "," "label" Local "," "label" Local
unfoldable pub br : Grammar Term
br =
    give (λ t. t) ▹ the_word (codes "br")
    ▸ either (give term_of.Br ▸ target) (give term_of.BrIf ▹ the_word (codes "i1") ▸ value ▹ a_comma ▸ target ▹ a_comma ▸ target)

-- type const "," "label" Local
unfoldable pub case : Grammar Case
case = give (λ t v l. record { ty = t; value = v; to = l }) ▸ ty ▸ const_value ▹ a_comma ▸ target

-- "switch" type value "," "label" Local "[" { type const "," "label" Local } "]"
unfoldable pub switch : Grammar Term
switch = give term_of.Switch ▹ the_word (codes "switch") ▸ ty ▸ value ▹ a_comma ▸ target ▹ the_mark 91 ▸ many case ▹ the_mark 93

-- "unreachable"
unfoldable pub unreachable : Grammar Term
unreachable = give term_of.Unreachable ▹ the_word (codes "unreachable")

-- term
unfoldable pub ending : Grammar Term
ending = either ret (either br (either switch unreachable))

-- term { "," attach }
unfoldable pub term : Grammar Term
term = give (λ t. t) ▸ ending ▹ attaches
