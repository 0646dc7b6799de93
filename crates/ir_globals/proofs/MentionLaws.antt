-- What is mentioned is small, all together and one by one.
use Rattle.std.proofs.Common.{List, [], ◌∷◌}
use Rattle.ir_core.specs.declared.ty.NamedTy.{NamedTy}
use Rattle.ir_core.specs.Mentions.{Mention}
use Rattle.ir_context.specs.Small.{IsSmallMention, AreSmallMentions}
use Rattle.ir_sound.specs.WellTyped.{Each}

pub all_small : (types : List NamedTy) (xs : List Mention) → Each (IsSmallMention types) xs → AreSmallMentions types xs
all_small types [] small = tt
all_small types (x ∷ xs) small = (small.0, all_small types xs small.1)
