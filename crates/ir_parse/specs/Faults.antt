-- What a fault says of the tokens of a text.
use Rattle.std.specs.Prelude.{◌≡◌, ℕ, Bool, true, false, List, [], ◌∷◌, ◌++◌, length, Option, Some, None}
use Rattle.ir_lex.specs.declared.token.Token.{Token}
use Rattle.ir_lex.specs.declared.token.TokenKind.{TokenKind}
use Rattle.ir_lex.specs.declared.token.TokenKind.TheVariants as kind
use Rattle.ir_lex.specs.Tokens.{Scans}
use Rattle.ir_core.specs.declared.module.Module.{Module}
use Rattle.ir_grammar.specs.Tokens.{kinds, starts}
use Rattle.ir_grammar.specs.declared.cursor.Stop.{Stop}
use Rattle.ir_grammar.specs.declared.cursor.Stop.TheVariants as stop
use Rattle.ir_grammar.specs.Grammar.{Derives, Stray}
use Rattle.ir_grammar.specs.Texts.{BeginsText}
use Rattle.ir_syntax.specs.Words.{unsupported_words}
use Rattle.ir_syntax.specs.ModuleText.{module_text}
use Rattle.ir_parse.specs.declared.parse.ParseFault.{ParseFault}
use Rattle.ir_parse.specs.declared.parse.ParseFault.TheVariants.{Grammar, Unsupported, NoMemory}

-- Tokens that are no module's, cut before the first one with which no module's text goes on, or at their
-- end: what stands before the cut begins some module's text.
pub record IsStrayBehind (front rest : List Token) : Type 0 where
  pub begins : BeginsText module_text (kinds front)
  pub no_text : (m : Module) → ¬ (Derives module_text m (kinds (front ++ rest)))
  pub dead : (t : Token) (behind : List Token) (other : List TokenKind) (m : Module) → rest ≡ t ∷ behind → ¬ (Derives module_text m (kinds front ++ t.kind ∷ other))

-- the place of the first token, or the end where there is none
abbrev pub place_of : List Token → ℕ → ℕ
place_of [] end = end
place_of (t ∷ ts) end = t.place

-- whether the first token is one of the words that are known and not supported
abbrev pub is_unsupported : List Token → Bool
is_unsupported rest = starts unsupported_words (kinds rest)

-- what a token says, where it is a word
abbrev pub word_in : TokenKind → Option (List ℕ)
word_in (kind.Word w) = Some w
word_in _ = None

-- what the first token says, where it is a word
abbrev pub word_of : List Token → Option (List ℕ)
word_of [] = None
word_of (t ∷ ts) = word_in t.kind

-- what a fault tells of the tokens from the first stray one on, in a text that ends there
abbrev pub Tells : List Token → ℕ → ParseFault → Type 0
Tells rest end (Grammar place) = (place ≡ place_of rest end) × (is_unsupported rest ≡ false)
Tells rest end (Unsupported place word) = (place ≡ place_of rest end) × (is_unsupported rest ≡ true) × (word_of rest ≡ Some word)
Tells rest end NoMemory = Unit {0}

-- the tokens have a first stray one, of which the fault tells
abbrev pub Stops : List Token → ℕ → ParseFault → Type 0
Stops tokens end fault = (front : List Token) × (rest : List Token) × (tokens ≡ front ++ rest) × IsStrayBehind front rest × Tells rest end fault

-- what a fault says; want of memory says nothing
abbrev pub Faults : List Token → ℕ → ParseFault → Type 0
Faults tokens end (Grammar place) = Stops tokens end (Grammar place)
Faults tokens end (Unsupported place word) = Stops tokens end (Unsupported place word)
Faults tokens end NoMemory = Unit {0}

-- the tokens are those of some text of this length
abbrev pub AreOfText : List Token → ℕ → Type 0
AreOfText tokens end = (text : List ℕ) × (length text ≡ end) × Scans text tokens

-- how a private call leaves tokens that are no module's: so many are left from the first stray one on
abbrev pub LeavesStray : List TokenKind → Stop → Type 0
LeavesStray ts (stop.Stray left) = Stray module_text ts left
LeavesStray ts stop.NoMemory = Unit {0}
