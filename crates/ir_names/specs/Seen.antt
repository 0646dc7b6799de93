-- Mentions by what they lend.
use Rattle.std.specs.Prelude.{List, map}
use Rattle.ir_core.specs.Mentions.{Mention, OfType, OfLabel, OfLocal, OfCallee, OfBase, OfSymbol}
use Rattle.ir_names.specs.declared.mention.Mention.{Mention as Lent}

-- what is mentioned
abbrev pub seen : Lent → Mention
seen (Lent.OfType ty) = OfType ty.now
seen (Lent.OfLabel name) = OfLabel name.now
seen (Lent.OfLocal name) = OfLocal name.now
seen (Lent.OfCallee name) = OfCallee name.now
seen (Lent.OfBase name) = OfBase name.now
seen (Lent.OfSymbol name) = OfSymbol name.now

-- by several
abbrev pub all_seen : List Lent → List Mention
all_seen lent = map seen lent
