-- What is told of tokens by what is read of them.
use Rattle.std.proofs.Common.{◌≡◌, ℕ, List, [], ◌∷◌, ◌++◌, length, true, refl, sym, ◌∙◌, ap, map}
use Rattle.std.specs.List.{list_all}
use Rattle.ir_lex.specs.declared.token.TokenKind.{TokenKind}
use Rattle.ir_grammar.specs.Tokens.{Sort, has, starts, sort_of, example, is_spellable}
use Rattle.ir_grammar.specs.Reading.{Read, done, fault}

-- both lists end, or begin with one token
abbrev pub SameHead : List TokenKind → List TokenKind → Type 0
SameHead [] [] = Unit {0}
SameHead [] (u ∷ us) = ⊥
SameHead (t ∷ ts) [] = ⊥
SameHead (t ∷ ts) (u ∷ us) = t ≡ u

same_head-refl : (ts : List TokenKind) → SameHead ts ts
same_head-refl [] = tt
same_head-refl (t ∷ ts) = refl

pub same_behind : (front rest other : List TokenKind) → SameHead rest other → SameHead (front ++ rest) (front ++ other)
same_behind [] rest other same = same
same_behind (t ∷ front) rest other same = refl

pub starts_same : (sorts : List Sort) (ts us : List TokenKind) → SameHead ts us → starts sorts us ≡ starts sorts ts
starts_same sorts [] [] same = refl
starts_same sorts [] (u ∷ us) same = absurd same
starts_same sorts (t ∷ ts) [] same = absurd same
starts_same sorts (t ∷ ts) (u ∷ us) same = ap (λ x. has sorts (sort_of x)) (sym same)

-- as the tokens that are read, so others that go on alike
pub starts_cut : (sorts : List Sort) (ts front rest other : List TokenKind) → ts ≡ front ++ rest → SameHead rest other → starts sorts (front ++ other) ≡ starts sorts ts
starts_cut sorts ts front rest other cut same = starts_same sorts (front ++ rest) (front ++ other) (same_behind front rest other same) ∙ ap (starts sorts) (sym cut)

-- the tokens begin with a derivation; one token behind it is all that was looked at besides
pub record Took {A : Type 0} (D : A → List TokenKind → Type 0) (r : List TokenKind → Read A) (ts : List TokenKind) (v : A) (rest : List TokenKind) : Type 0 where
  pub front : List TokenKind
  pub cut : ts ≡ front ++ rest
  pub derives : D v front
  pub local : (other : List TokenKind) → SameHead rest other → r (front ++ other) ≡ done v other

-- the tokens begin as a derivation does, and stop at a stray token, behind which nothing was looked at
pub record Stopped {A : Type 0} (D : A → List TokenKind → Type 0) (r : List TokenKind → Read A) (ts : List TokenKind) (left : ℕ) : Type 0 where
  pub front : List TokenKind
  pub rest : List TokenKind
  pub cut : ts ≡ front ++ rest
  pub left_is : left ≡ length rest
  pub more : List Sort
  pub spelled : list_all is_spellable more ≡ true
  pub value : A
  pub derives : D value (front ++ map example more)
  pub local : (other : List TokenKind) → SameHead rest other → r (front ++ other) ≡ fault (length other)

abbrev pub Told : {A : Type 0} → (A → List TokenKind → Type 0) → (List TokenKind → Read A) → List TokenKind → Read A → Type 0
Told D r ts (done v rest) = Took D r ts v rest
Told D r ts (fault left) = Stopped D r ts left
