-- Texts of bytes whose tokens derive from a grammar.
use Rattle.std.specs.Prelude.{◌≡◌, ℕ, List, ◌++◌}
use Rattle.ir_lex.specs.declared.token.Token.{Token}
use Rattle.ir_lex.specs.declared.token.TokenKind.{TokenKind}
use Rattle.ir_lex.specs.Tokens.{Scans}
use Rattle.ir_grammar.specs.Tokens.{kinds}
use Rattle.ir_grammar.specs.Grammar.{Grammar, Derives}

-- the tokens of some text of the grammar begin with these
pub record BeginsText {A : Type 0} (g : Grammar A) (ts : List TokenKind) : Type 0 where
  pub text : List ℕ
  pub tokens : List Token
  pub behind : List TokenKind
  pub value : A
  pub scans : Scans text tokens
  pub begins : kinds tokens ≡ ts ++ behind
  pub derives : Derives g value (kinds tokens)
