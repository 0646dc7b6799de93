-- Words without a value, as a loop passes them.
use Rattle.std.proofs.Common.{◌≡◌, true, false, List, [], ◌∷◌, refl, sym}
use Rattle.ir_lex.specs.declared.token.TokenKind.{TokenKind}
use Rattle.ir_grammar.specs.Tokens.{Sort, has, sort_of, starts}
use Rattle.ir_grammar.specs.Grammar.{many}
use Rattle.ir_grammar.specs.Parts.{skip}
use Rattle.ir_grammar.specs.Reading.{Read, done, fault, ◌>>=◌, read}
use Rattle.ir_syntax.specs.Words.{one_of}

-- values of a row that are let go
forget : {A B : Type 0} (v : A) (b : B) (r : Read (List A)) → ((r >>= λ ws rest. done (v ∷ ws) rest) >>= λ _ rest. done b rest) ≡ (r >>= λ _ rest. done b rest)
forget v b (done ws rest) = refl
forget v b (fault left) = refl

-- a word more is passed
pub skip_more : (ss : List Sort) (t : TokenKind) (ts : List TokenKind) → has ss (sort_of t) ≡ true → read (skip (one_of ss)) ts ≡ read (skip (one_of ss)) (t ∷ ts)
skip_more [] t ts h = absurd (let q : false ≡ true = h in cc)
skip_more (s ∷ ss) t ts h = rw h (sym (forget tt tt (read (many (one_of (s ∷ ss))) ts)))

-- no word is next
pub skip_end : (ss : List Sort) (ts : List TokenKind) → starts ss ts ≡ false → read (skip (one_of ss)) ts ≡ done tt ts
skip_end [] [] h = refl
skip_end [] (t ∷ ts) h = refl
skip_end (s ∷ ss) [] h = refl
skip_end (s ∷ ss) (t ∷ ts) h = rw h refl
