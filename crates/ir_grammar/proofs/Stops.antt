-- What follows a derivation, and what it begins with, among other tokens.
use Rattle.std.proofs.Common.{◌≡◌, Bool, true, false, List, [], ◌∷◌, ◌++◌, refl, sym, ◌∙◌}
use Rattle.ir_lex.specs.declared.token.TokenKind.{TokenKind}
use Rattle.ir_grammar.specs.Tokens.{Sort, starts, sort_of}
use Rattle.ir_grammar.specs.Grammar.{Grammar, Derives}
use Rattle.ir_grammar.specs.Reading.{null, first, where_null, apart}
use Rattle.ir_grammar.proofs.Sets.{apart_has}
use Rattle.ir_grammar.proofs.Heads.{nulls, heads}

where_starts : (b : Bool) (ss : List Sort) (ts : List TokenKind) → b ≡ true → starts (where_null b ss) ts ≡ false → starts ss ts ≡ false
where_starts true ss ts e h = h
where_starts false ss ts e h = absurd (cc)

-- what follows a derivation stops the one before it
pub stops_before : {B : Type 0} (rs : List Sort) (h : Grammar B) (b : B) (front rest : List TokenKind) → apart rs (first h) ≡ true → Derives h b front
    → starts (where_null (null h) rs) rest ≡ false → starts rs (front ++ rest) ≡ false
stops_before rs h b [] rest ok d stop = where_starts (null h) rs rest (nulls h b [] refl d) stop
stops_before rs h b (t ∷ front) rest ok d stop = apart_has rs (first h) (sort_of t) ok (heads h b t front d)

-- a derivation of something begins so
pub begins : {A : Type 0} (g : Grammar A) (v : A) (front rest : List TokenKind) → null g ≡ false → Derives g v front → starts (first g) (front ++ rest) ≡ true
begins g v [] rest some d = absurd (let none = nulls g v [] refl d in let e : true ≡ false = sym none ∙ some in cc)
begins g v (t ∷ front) rest some d = heads g v t front d

no_sorts : (ts : List TokenKind) → starts [] ts ≡ false
no_sorts [] = refl
no_sorts (t ∷ ts) = refl

-- no sorts come from what is never empty
pub where_not : (b : Bool) (ss : List Sort) (ts : List TokenKind) → b ≡ false → starts (where_null b ss) ts ≡ false
where_not true ss ts e = absurd (cc)
where_not false ss ts e = no_sorts ts
