-- What is read of all tokens is their text, or the first stray token.
use Rattle.std.proofs.Common.{◌≡◌, ℕ, true, List, [], ◌∷◌, ◌++◌, length, refl, sym, ◌∙◌, ap, subst, append-nil}
use Rattle.ir_lex.specs.declared.token.TokenKind.{TokenKind}
use Rattle.ir_grammar.specs.Grammar.{Grammar, Derives, Stray}
use Rattle.ir_grammar.specs.Reading.{fine, done, fault, read}
use Rattle.ir_grammar.proofs.Again.{again}
use Rattle.ir_grammar.proofs.Alike.{Took, Stopped, Told}
use Rattle.ir_grammar.proofs.Told.{told}

module _ {A : Type 0} (g : Grammar A) (ok : fine g ≡ true) where
  -- a text is read to its end
  pub read_all : (v : A) (ts : List TokenKind) → Derives g v ts → read g ts ≡ done v []
  read_all v ts d = ap (read g) (sym (append-nil ts)) ∙ again g ok v ts [] d refl

  -- what is read to its end is a text
  pub is_text : (v : A) (ts : List TokenKind) → read g ts ≡ done v [] → Derives g v ts
  is_text v ts e = by_took (subst (Told (Derives g) (read g) ts) e (told g ok ts))
    where
      by_took : Took (Derives g) (read g) ts v [] → Derives g v ts
      by_took t = subst (Derives g v) (sym (t.cut ∙ append-nil t.front)) t.derives

  -- tokens are one text at most
  pub one_text : (v w : A) (ts : List TokenKind) → Derives g v ts → Derives g w ts → v ≡ w
  one_text v w ts d e = let both = sym (read_all v ts d) ∙ read_all w ts e in cc

  pub stray : (ts : List TokenKind) (left : ℕ) → read g ts ≡ fault left → Stray g ts left
  stray ts left e = by_stop (subst (Told (Derives g) (read g) ts) e (told g ok ts))
    where
      by_stop : Stopped (Derives g) (read g) ts left → Stray g ts left
      by_stop t = record {
        front = t.front;
        rest = t.rest;
        cut = t.cut;
        left_is = t.left_is;
        viable = record { more = t.more; spelled = t.spelled; value = t.value; derives = t.derives };
        no_text = λ value d. (let both = sym e ∙ read_all value ts d in cc);
        dead = λ u behind other value next d.
            (let local : read g (t.front ++ u ∷ other) ≡ fault (length (u ∷ other)) = t.local (u ∷ other) (rw next refl) in
            let both = sym local ∙ read_all value (t.front ++ u ∷ other) d in cc);
      }

  -- a text in front of more tokens, which make it no longer
  pub stray_behind : (ts : List TokenKind) (v : A) (t : TokenKind) (rest : List TokenKind) → read g ts ≡ done v (t ∷ rest) → Stray g ts (length (t ∷ rest))
  stray_behind ts v t rest e = by_took (subst (Told (Derives g) (read g) ts) e (told g ok ts))
    where
      by_took : Took (Derives g) (read g) ts v (t ∷ rest) → Stray g ts (length (t ∷ rest))
      by_took k = record {
        front = k.front;
        rest = t ∷ rest;
        cut = k.cut;
        left_is = refl;
        viable = record { more = []; spelled = refl; value = v; derives = subst (Derives g v) (sym (append-nil k.front)) k.derives };
        no_text = λ value d. (let both = sym e ∙ read_all value ts d in cc);
        dead = λ u behind other value next d.
            (let same : t ≡ u = cc in
            let local : read g (k.front ++ u ∷ other) ≡ done v (u ∷ other) = k.local (u ∷ other) same in
            let both = sym local ∙ read_all value (k.front ++ u ∷ other) d in cc);
      }
