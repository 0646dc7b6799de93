-- Tokens of texts that are not too long for what they say.
use Rattle.std.specs.Prelude.{◌<◌, ◌^◌, ℕ, All, List, length}
use Rattle.ir_lex.specs.declared.token.Token.{Token}
use Rattle.ir_lex.specs.Tokens.{Scans}

-- the tokens are those of some text of fewer than 2^32 bytes
abbrev pub AreOfSmallText : List Token → Type 0
AreOfSmallText tokens = (text : List ℕ) × All (λ b. b < 256) text × (length text < 2 ^ 32) × Scans text tokens
