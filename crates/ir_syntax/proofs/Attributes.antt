-- What attributes of parameters begin with.
use Rattle.std.proofs.Common.{◌≡◌, List, [], ◌∷◌}
use Rattle.std.specs.Prelude.{codes, ◌||◌}
use Rattle.ir_lex.specs.declared.token.TokenKind.{TokenKind}
use Rattle.ir_grammar.specs.Tokens.{word, starts}
use Rattle.ir_grammar.specs.Reading.{first}
use Rattle.ir_grammar.proofs.Sets.{starts-append}
use Rattle.ir_syntax.specs.Words.{parameter_word}
use Rattle.ir_syntax.specs.Parameters.{pattr}

-- what attributes of parameters begin with
pub pattr_starts : (ts : List TokenKind) → starts (first pattr) ts ≡ starts (word (codes "align") ∷ []) ts || starts (first parameter_word) ts
unfolding pattr parameter_word
pattr_starts ts = starts-append (word (codes "align") ∷ []) (first parameter_word) ts
