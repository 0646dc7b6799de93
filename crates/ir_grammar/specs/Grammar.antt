-- Grammars: which tokens a value derives to.
use Rattle.std.specs.Prelude.{◌≡◌, ℕ, true, ◌⊎◌, List, [], ◌∷◌, ◌++◌, map, length, Option, Some, None}
use Rattle.std.specs.List.{list_all}
use Rattle.ir_lex.specs.declared.token.TokenKind.{TokenKind}
use Rattle.ir_grammar.specs.Tokens.{Sort, mark, sort_of, example, is_spellable, has}
use Rattle.ir_grammar.specs.Brackets.{Closed}

-- A grammar whose texts have values: nothing, a token of one of these sorts, one part behind another, one
-- of two, a row, what stands in a pair of brackets with these marks, and a row behind separators that one
-- other thing may end, behind a separator too.
pub data Grammar : Type 0 → Type 1 where
  give : {A : Type 0} → A → Grammar A
  token : {A : Type 0} → Sort → List Sort → (TokenKind → A) → Grammar A
  both : {A B C : Type 0} → (A → B → C) → Grammar A → Grammar B → Grammar C
  either : {A : Type 0} → Grammar A → Grammar A → Grammar A
  many : {A : Type 0} → Grammar A → Grammar (List A)
  nest : ℕ → ℕ → Grammar (Unit {0})
  loop : {A B : Type 0} → Grammar (Unit {0}) → Grammar A → Grammar B → Grammar (List A × Option B)

-- several, one behind another
abbrev pub Row : {A : Type 0} → (A → List TokenKind → Type 0) → List A → List TokenKind → Type 0
Row D [] ts = ts ≡ []
Row {A} D (v ∷ vs) ts = (front : List TokenKind) × (rest : List TokenKind) × (ts ≡ front ++ rest) × D v front × Row D vs rest

-- one or none
abbrev pub Perhaps : {A : Type 0} → (A → List TokenKind → Type 0) → Option A → List TokenKind → Type 0
Perhaps D None ts = ts ≡ []
Perhaps D (Some v) ts = D v ts

-- something behind tokens that have no value, as a comma
abbrev pub Behind : {A : Type 0} → (List TokenKind → Type 0) → (A → List TokenKind → Type 0) → A → List TokenKind → Type 0
Behind S D v ts = (front : List TokenKind) × (rest : List TokenKind) × (ts ≡ front ++ rest) × S front × D v rest

-- the tokens derive from the grammar, with this value
abbrev pub Derives : {A : Type 0} → Grammar A → A → List TokenKind → Type 0
Derives (give a) v ts = (v ≡ a) × (ts ≡ [])
Derives (token s ss f) v ts = (t : TokenKind) × (has (s ∷ ss) (sort_of t) ≡ true) × (v ≡ f t) × (ts ≡ t ∷ [])
Derives (both {A} {B} f g h) v ts =
    (a : A) × (b : B) × (front : List TokenKind) × (rest : List TokenKind) × (ts ≡ front ++ rest) × Derives g a front × Derives h b rest × (v ≡ f a b)
Derives (either g h) v ts = Derives g v ts ⊎ Derives h v ts
Derives (many {A} g) v ts = Row (λ (a : A) (us : List TokenKind). Derives g a us) v ts
Derives (nest o c) v ts = (t : TokenKind) × (rest : List TokenKind) × (ts ≡ t ∷ rest) × (sort_of t ≡ mark o) × Closed c rest
Derives (loop {A} {B} s g h) v ts =
    (front : List TokenKind) × (rest : List TokenKind) × (ts ≡ front ++ rest)
    × Row (Behind (λ us. Derives s tt us) (λ (a : A) (us : List TokenKind). Derives g a us)) v.0 front
    × Perhaps (Behind (λ us. Derives s tt us) (λ (b : B) (us : List TokenKind). Derives h b us)) v.1 rest

-- some text begins with the tokens; what is added are examples that have spellings
pub record Viable {A : Type 0} (g : Grammar A) (ts : List TokenKind) : Type 0 where
  pub more : List Sort
  pub spelled : list_all is_spellable more ≡ true
  pub value : A
  pub derives : Derives g value (ts ++ map example more)

-- The first token that no text goes on with, or the end of tokens that are no text. So many tokens are
-- left from there on.
pub record Stray {A : Type 0} (g : Grammar A) (ts : List TokenKind) (left : ℕ) : Type 0 where
  pub front : List TokenKind
  pub rest : List TokenKind
  pub cut : ts ≡ front ++ rest
  pub left_is : left ≡ length rest
  pub viable : Viable g front
  pub no_text : (value : A) → ¬ (Derives g value ts)
  pub dead : (t : TokenKind) (behind other : List TokenKind) (value : A) → rest ≡ t ∷ behind → ¬ (Derives g value (front ++ t ∷ other))

-- one behind another, where the first has a function
infixl 20 ◌▸◌
abbrev pub ◌▸◌ : {A B : Type 0} → Grammar (A → B) → Grammar A → Grammar B
g ▸ h = both (λ f a. f a) g h

-- the same, where the second has no value
infixl 20 ◌▹◌
abbrev pub ◌▹◌ : {A B : Type 0} → Grammar A → Grammar B → Grammar A
g ▹ h = both (λ a b. a) g h

-- something or nothing
abbrev pub optional : {A : Type 0} → Grammar A → Grammar (Option A)
optional g = either (give Some ▸ g) (give None)
