-- The arguments of a command line: one FILE, and options with their values, in any order.
use Rattle.std.specs.Prelude.{◌≡◌, ℕ, ◌⊎◌, Bool, true, false, not, nat_eq, List, [], ◌∷◌, ◌++◌, length, All, ◌≢◌}
use Rattle.std.specs.Cmp.Lexicographic.{pointwise}

-- a file, or an option with its value; an option has its two dashes
pub data Argument : Type 0 where
  File : (name : List ℕ) → Argument
  Given : (option : List ℕ) → (value : List ℕ) → Argument

abbrev pub same : List ℕ → List ℕ → Bool
same = pointwise nat_eq

-- a word that may stand where FILE or a value is due: one longer than a byte doesn't begin with `-`
abbrev pub is_plain : List ℕ → Bool
is_plain [] = true
is_plain (c ∷ []) = true
is_plain (c ∷ d ∷ rest) = not (nat_eq c 45)

-- two dashes, and no `=`
pub record IsOption (option : List ℕ) : Type 0 where
  pub name : List ℕ
  pub dashes : option ≡ 45 ∷ 45 ∷ name
  pub no_equals : All (λ c. c ≢ 61) option

-- the words of an argument: FILE; --name value; --name=value
abbrev pub Spells : List (List ℕ) → Argument → Type 0
Spells words (File name) = (is_plain name ≡ true) × (words ≡ name ∷ [])
Spells words (Given option value) =
    IsOption option × (((is_plain value ≡ true) × (words ≡ option ∷ value ∷ [])) ⊎ (words ≡ (option ++ 61 ∷ value) ∷ []))

-- words are the words of these arguments, one behind the other
abbrev pub AreArguments : List (List ℕ) → List Argument → Type 0
AreArguments words [] = words ≡ []
AreArguments words (a ∷ rest) = (front : List (List ℕ)) × (back : List (List ℕ)) × ((words ≡ front ++ back) × Spells front a × AreArguments back rest)

-- the files among arguments
abbrev pub files : List Argument → List (List ℕ)
files [] = []
files (File name ∷ rest) = name ∷ files rest
files (Given option value ∷ rest) = files rest

abbrev pub with_value : Bool → List ℕ → List (List ℕ) → List (List ℕ)
with_value true value values = value ∷ values
with_value false value values = values

-- the values that are given to an option
abbrev pub values : List ℕ → List Argument → List (List ℕ)
values option [] = []
values option (File name ∷ rest) = values option rest
values option (Given other value ∷ rest) = with_value (same option other) value (values option rest)

-- each of these options is given this value, once
abbrev pub AllGiven : List Argument → List Argument → Type 0
AllGiven args [] = Unit {0}
AllGiven args (File name ∷ wanted) = (files args ≡ name ∷ []) × AllGiven args wanted
AllGiven args (Given option value ∷ wanted) = (values option args ≡ value ∷ []) × AllGiven args wanted

-- a command, and then these arguments in any order, each once, and no others
pub record IsLine (words : List (List ℕ)) (command : List ℕ) (wanted : List Argument) : Type 0 where
  pub others : List (List ℕ)
  pub command_first : words ≡ command ∷ others
  pub args : List Argument
  pub spelled : AreArguments others args
  pub each_once : AllGiven args wanted
  pub no_more : length args ≡ length wanted
