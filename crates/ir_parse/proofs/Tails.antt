-- What may stand behind a declaration or a function, by its first token.
use Rattle.std.proofs.Common.{◌≡◌, List, [], ◌∷◌, ap, ◌∙◌}
use Rattle.std.specs.Prelude.{codes, ◌||◌}
use Rattle.ir_lex.specs.declared.token.TokenKind.{TokenKind}
use Rattle.ir_grammar.specs.Tokens.{word, hash, debug_hash, meta, meta_number, starts}
use Rattle.ir_grammar.specs.Reading.{first}
use Rattle.ir_grammar.proofs.Sets.{starts-append}
use Rattle.ir_syntax.specs.Words.{function_word}
use Rattle.ir_syntax.specs.Metadata.{attach}
use Rattle.ir_syntax.specs.Functions.{declared_tail, defined_tail}

-- what may stand behind a declaration
pub declared_tail_starts : (ts : List TokenKind)
    → starts (first declared_tail) ts ≡ (starts (hash ∷ debug_hash ∷ []) ts || (starts (word (codes "align") ∷ []) ts || (starts (word (codes "section") ∷ []) ts || starts (first function_word) ts)))
unfolding declared_tail function_word
declared_tail_starts ts =
    starts-append (hash ∷ debug_hash ∷ []) (word (codes "align") ∷ word (codes "section") ∷ first function_word) ts
    ∙ ap (λ b. starts (hash ∷ debug_hash ∷ []) ts || b)
    (starts-append (word (codes "align") ∷ []) (word (codes "section") ∷ first function_word) ts
    ∙ ap (λ b. starts (word (codes "align") ∷ []) ts || b) (starts-append (word (codes "section") ∷ []) (first function_word) ts))

-- what may stand behind the parameters of a function
pub defined_tail_starts : (ts : List TokenKind) → starts (first defined_tail) ts ≡ starts (first declared_tail) ts || starts (meta ∷ meta_number ∷ []) ts
unfolding defined_tail attach
defined_tail_starts ts = starts-append (first declared_tail) (meta ∷ meta_number ∷ []) ts
