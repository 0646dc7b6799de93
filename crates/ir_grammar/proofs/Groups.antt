-- A group, by what is read of its opening mark.
use Rattle.std.proofs.Common.{◌≡◌, ℕ, Bool, true, false, List, [], ◌∷◌, length, refl, if◌then◌else◌}
use Rattle.std.specs.Prelude.{◌||◌}
use Rattle.ir_lex.specs.declared.token.TokenKind.{TokenKind}
use Rattle.ir_grammar.specs.Tokens.{mark, same_sort, sort_of}
use Rattle.ir_grammar.specs.Grammar.{nest}
use Rattle.ir_grammar.specs.Parts.{the_mark}
use Rattle.ir_grammar.specs.Reading.{done, fault, ◌>>=◌, read, scan}

pub nest_read : (o c : ℕ) (ts : List TokenKind) → read (nest o c) ts ≡ read (the_mark o) ts >>= λ _ us. scan us (c ∷ [])
nest_read o c [] = refl
nest_read o c (t ∷ ts) = by_mark (same_sort (mark o) (sort_of t))
  where
    by_mark : (b : Bool) → (if b then scan ts (c ∷ []) else fault (length (t ∷ ts))) ≡ (if b || false then done (tt {0}) ts else fault (length (t ∷ ts))) >>= λ _ us. scan us (c ∷ [])
    by_mark true = refl
    by_mark false = refl
