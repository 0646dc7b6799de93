-- There is one first stray token.
use Rattle.std.proofs.Common.{◌≡◌, ℕ, ◌⊎◌, true, false, List, [], ◌∷◌, ◌++◌, Some, refl, sym, ◌∙◌, ap, subst, inl, inr, append_assoc}
use Rattle.ir_lex.specs.declared.token.Token.{Token}
use Rattle.ir_grammar.specs.Tokens.{kinds}
use Rattle.ir_grammar.specs.Grammar.{Derives}
use Rattle.ir_grammar.proofs.Heads.{map-append}
use Rattle.ir_syntax.specs.ModuleText.{module_text}
use Rattle.ir_parse.specs.declared.parse.ParseFault.TheVariants.{Grammar, Unsupported}
use Rattle.ir_parse.specs.Faults.{IsStrayBehind, place_of, is_unsupported, word_of, Faults}

-- a front goes further than another one, over the first token behind it
abbrev pub GoesOn : List Token → List Token → List Token → Type 0
GoesOn front rest longer = (t : Token) × (behind : List Token) × (more : List Token) × (rest ≡ t ∷ behind) × (longer ≡ front ++ t ∷ more)

-- two cuts of the same tokens are one, or one of them goes further
two_cuts : (f r g s : List Token) → f ++ r ≡ g ++ s → ((f ≡ g) × (r ≡ s)) ⊎ (GoesOn f r g ⊎ GoesOn g s f)
two_cuts [] r [] s e = inl (refl, e)
two_cuts [] r (u ∷ g) s e = inr (inl (u, g ++ s, g, e, refl))
two_cuts (t ∷ f) r [] s e = inr (inr (t, f ++ r, f, sym e, refl))
two_cuts (t ∷ f) r (u ∷ g) s e = by_rest (two_cuts f r g s (let h : f ++ r ≡ g ++ s = cc in h))
  where
    same : t ≡ u
    same = cc

    by_rest : ((f ≡ g) × (r ≡ s)) ⊎ (GoesOn f r g ⊎ GoesOn g s f) → ((t ∷ f ≡ u ∷ g) × (r ≡ s)) ⊎ (GoesOn (t ∷ f) r (u ∷ g) ⊎ GoesOn (u ∷ g) s (t ∷ f))
    by_rest (inl (h, k)) = inl ((let both : t ∷ f ≡ u ∷ g = cc in both), k)
    by_rest (inr (inl (x, behind, more, is, longer))) = inr (inl (x, behind, more, is, (let whole : u ∷ g ≡ t ∷ (f ++ x ∷ more) = cc in whole)))
    by_rest (inr (inr (x, behind, more, is, longer))) = inr (inr (x, behind, more, is, (let whole : t ∷ f ≡ u ∷ (g ++ x ∷ more) = cc in whole)))

-- nothing begins a text beyond the first stray token
no_further : (f r g s : List Token) → IsStrayBehind f r → IsStrayBehind g s → ¬ (GoesOn f r g)
no_further f r g s x y (t, behind, more, is, longer) =
    let b = y.begins in
    let parts : kinds g ≡ kinds f ++ t.kind ∷ kinds more = ap kinds longer ∙ map-append (λ u. u.kind) f (t ∷ more) in
    let whole : kinds b.tokens ≡ kinds f ++ t.kind ∷ (kinds more ++ b.behind) = b.begins ∙ ap (λ ts. ts ++ b.behind) parts ∙ append_assoc (kinds f) (t.kind ∷ kinds more) b.behind in
    x.dead t behind (kinds more ++ b.behind) b.value is (subst (Derives module_text b.value) whole b.derives)

one_cut : (f r g s : List Token) → f ++ r ≡ g ++ s → IsStrayBehind f r → IsStrayBehind g s → r ≡ s
one_cut f r g s e x y = by_cut (two_cuts f r g s e)
  where
    by_cut : ((f ≡ g) × (r ≡ s)) ⊎ (GoesOn f r g ⊎ GoesOn g s f) → r ≡ s
    by_cut (inl h) = h.1
    by_cut (inr (inl h)) = absurd (no_further f r g s x y h)
    by_cut (inr (inr h)) = absurd (no_further g s f r y x h)

pub one_place : (tokens : List Token) (end p q : ℕ) → Faults tokens end (Grammar p) → Faults tokens end (Grammar q) → p ≡ q
one_place tokens end p q (f, r, cut, x, told) (g, s, other, y, says) = told.0 ∙ ap (λ ts. place_of ts end) (one_cut f r g s (sym cut ∙ other) x y) ∙ sym says.0

pub one_word : (tokens : List Token) (end p q : ℕ) (v w : List ℕ) → Faults tokens end (Unsupported p v) → Faults tokens end (Unsupported q w) → (p ≡ q) × (v ≡ w)
one_word tokens end p q v w (f, r, cut, x, told) (g, s, other, y, says) =
    let same = one_cut f r g s (sym cut ∙ other) x y in
    let words : Some v ≡ Some w = sym told.2 ∙ ap word_of same ∙ says.2 in
    (told.0 ∙ ap (λ ts. place_of ts end) same ∙ sym says.0, (let h : v ≡ w = cc in h))

pub one_kind : (tokens : List Token) (end p q : ℕ) (w : List ℕ) → Faults tokens end (Grammar p) → ¬ (Faults tokens end (Unsupported q w))
one_kind tokens end p q w (f, r, cut, x, told) (g, s, other, y, says) =
    let same = one_cut f r g s (sym cut ∙ other) x y in
    let both : false ≡ true = sym told.1 ∙ ap is_unsupported same ∙ says.1 in
    absurd (cc)
