-- Groups in brackets, which nest to any depth.
use Rattle.std.specs.Prelude.{◌≡◌, ℕ, ◌||◌, ◌==◌, if◌then◌else◌, List, [], ◌∷◌, ◌++◌}
use Rattle.ir_lex.specs.declared.token.TokenKind.{TokenKind}
use Rattle.ir_lex.specs.declared.token.TokenKind.TheVariants as kind
use Rattle.ir_grammar.specs.declared.bracket.Shape.{Shape}
use Rattle.ir_grammar.specs.declared.bracket.Shape.TheVariants.{Opens, Closes, Plain}

-- how a punctuation mark stands in brackets
abbrev pub mark_shape : ℕ → Shape
mark_shape m =
    if m == 40 then Opens 41 else if m == 91 then Opens 93 else if m == 123 then Opens 125 else if m == 41 || (m == 93 || m == 125) then Closes m else Plain

-- how a token stands in brackets
abbrev pub shape_of : TokenKind → Shape
shape_of (kind.Mark m) = mark_shape m
shape_of _ = Plain

-- what stands between brackets: tokens that are none, and groups
pub data Inner : List TokenKind → Type 0 where
  none : Inner []
  one : {t : TokenKind} {ts : List TokenKind} → shape_of t ≡ Plain → Inner ts → Inner (t ∷ ts)
  group : {o : TokenKind} {c : ℕ} {inside rest : List TokenKind} → shape_of o ≡ Opens c → Inner inside → Inner rest → Inner (o ∷ (inside ++ kind.Mark c ∷ rest))

-- a group with this closing mark, behind its opening mark
abbrev pub Closed : ℕ → List TokenKind → Type 0
Closed c ts = (inside : List TokenKind) × (ts ≡ inside ++ kind.Mark c ∷ []) × Inner inside
