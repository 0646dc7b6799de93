-- What may stand behind a call's arguments, and an instruction, by the first token.
use Rattle.std.proofs.Common.{◌≡◌, List, [], ◌∷◌, ◌++◌, ◌∙◌, ap, sym}
use Rattle.std.specs.Prelude.{◌||◌}
use Rattle.ir_lex.specs.declared.token.TokenKind.{TokenKind}
use Rattle.ir_grammar.specs.Tokens.{hash, local, debug_hash, starts}
use Rattle.ir_grammar.specs.Reading.{first}
use Rattle.ir_grammar.proofs.Sets.{starts-append}
use Rattle.ir_syntax.specs.Words.{function_word}
use Rattle.ir_syntax.specs.Instructions.{function_attribute, call_attribute, void_inst, inst}
use Rattle.ir_syntax.proofs.FineInstructions.{known-inst, known-void_inst, void_firsts}

pub call_attribute_starts : (ts : List TokenKind) → starts (first call_attribute) ts ≡ starts (hash ∷ []) ts || starts (first function_word) ts
unfolding call_attribute function_attribute function_word
call_attribute_starts ts = starts-append (hash ∷ []) (first function_word) ts

pub inst_starts : (ts : List TokenKind) → starts (first inst) ts ≡ starts (local ∷ []) ts || (starts (first void_inst) ts || starts (debug_hash ∷ []) ts)
inst_starts ts =
    ap (λ sorts. starts sorts ts) known-inst.first_is ∙ starts-append (local ∷ []) (void_firsts ++ debug_hash ∷ []) ts
    ∙ ap (λ b. starts (local ∷ []) ts || b)
    (starts-append void_firsts (debug_hash ∷ []) ts ∙ ap (λ sorts. starts sorts ts || starts (debug_hash ∷ []) ts) (sym known-void_inst.first_is))
