-- Metadata, attachments, and groups in brackets. None of them has a value.
use Rattle.std.specs.Prelude.{[], ◌∷◌}
use Rattle.ir_grammar.specs.Tokens.{meta, meta_number}
use Rattle.ir_grammar.specs.Grammar.{Grammar, give, either, nest, ◌▹◌}
use Rattle.ir_grammar.specs.Parts.{skip, behind_comma}
use Rattle.ir_syntax.specs.Words.{one_of, a_comma, aligned}

-- pgroup = "(" { any } ")"
abbrev pub pgroup : Grammar (Unit {0})
pgroup = nest 40 41

-- group = pgroup | "{" { any } "}" | "[" { any } "]"
unfoldable pub group : Grammar (Unit {0})
group = either pgroup (either (nest 123 125) (nest 91 93))

-- Meta
abbrev pub any_meta : Grammar (Unit {0})
any_meta = one_of (meta ∷ meta_number ∷ [])

-- meta = Meta of digits | Meta of other or no text, group
unfoldable pub metadata : Grammar (Unit {0})
metadata = either (one_of (meta_number ∷ [])) (one_of (meta ∷ []) ▹ group)

-- attach = Meta meta
unfoldable pub attach : Grammar (Unit {0})
attach = any_meta ▹ metadata

-- { "," attach }
unfoldable pub attaches : Grammar (Unit {0})
attaches = skip (behind_comma attach)

-- [ "," "align" Int ] { "," attach }
unfoldable pub align_tail : Grammar (Unit {0})
align_tail = either (give tt ▹ a_comma ▹ either aligned attach ▹ attaches) (give tt)
