-- What single grammars derive, as examples.
use Rattle.std.proofs.Common.{List, [], ◌∷◌, refl, Option, Some, None}
use Rattle.std.specs.Prelude.{codes, ℕ, pos}
use Rattle.ir_lex.specs.declared.token.TokenKind.{TokenKind}
use Rattle.ir_lex.specs.declared.token.TokenKind.TheVariants as kind
use Rattle.ir_grammar.specs.Tokens.{meta}
use Rattle.ir_grammar.specs.Grammar.{Grammar, token, loop, Derives, Stray, give, ◌▸◌, ◌▹◌}
use Rattle.ir_grammar.specs.Parts.{the_mark, a_count, listed}
use Rattle.ir_grammar.proofs.Exact.{is_text, stray, stray_behind}

-- numbers behind commas, which one piece of metadata may end, behind a comma too
abbrev numbers : Grammar (List ℕ × Option (Unit {0}))
numbers = loop (the_mark 44) a_count (token meta [] (λ _. tt))

abbrev comma : TokenKind
comma = kind.Mark 44

abbrev number : ℕ → TokenKind
number n = kind.Int (pos n)

abbrev name : TokenKind
name = kind.Meta (codes "dbg")

-- nothing
no_number : Derives numbers ([], None) []
no_number = is_text numbers refl ([], None) [] refl

-- `, 1 , 2`
two_numbers : Derives numbers (1 ∷ 2 ∷ [], None) (comma ∷ number 1 ∷ comma ∷ number 2 ∷ [])
two_numbers = is_text numbers refl (1 ∷ 2 ∷ [], None) (comma ∷ number 1 ∷ comma ∷ number 2 ∷ []) refl

-- `, 1 , !dbg`
ended : Derives numbers (1 ∷ [], Some tt) (comma ∷ number 1 ∷ comma ∷ name ∷ [])
ended = is_text numbers refl (1 ∷ [], Some tt) (comma ∷ number 1 ∷ comma ∷ name ∷ []) refl

-- `, !dbg , 1`: the second comma is stray
number_late : Stray numbers (comma ∷ name ∷ comma ∷ number 1 ∷ []) 2
number_late = stray_behind numbers refl (comma ∷ name ∷ comma ∷ number 1 ∷ []) ([], Some tt) comma (number 1 ∷ []) refl

-- `, 1 ,`: the end is stray
half_number : Stray numbers (comma ∷ number 1 ∷ comma ∷ []) 0
half_number = stray numbers refl (comma ∷ number 1 ∷ comma ∷ []) 0 refl

-- a list in brackets
abbrev row : Grammar (List ℕ)
row = give (λ ns. ns) ▹ the_mark 91 ▸ listed 93 a_count

-- `[ 1 , 2 ]`
bracketed : Derives row (1 ∷ 2 ∷ []) (kind.Mark 91 ∷ number 1 ∷ comma ∷ number 2 ∷ kind.Mark 93 ∷ [])
bracketed = is_text row refl (1 ∷ 2 ∷ []) (kind.Mark 91 ∷ number 1 ∷ comma ∷ number 2 ∷ kind.Mark 93 ∷ []) refl

-- `[ 1 ,]`: the closing bracket is stray
open_comma : Stray row (kind.Mark 91 ∷ number 1 ∷ comma ∷ kind.Mark 93 ∷ []) 1
open_comma = stray row refl (kind.Mark 91 ∷ number 1 ∷ comma ∷ kind.Mark 93 ∷ []) 1 refl
