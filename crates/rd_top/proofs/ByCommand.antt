-- What an answer says of a command, by what the command is.
use Rattle.std.proofs.Common.{◌≡◌, ℕ, List, Some, inl, refl, subst, sym}
use Rattle.rd_words.specs.declared.Command.{Command}
use Rattle.rd_words.specs.Asked.{asked}
use Rattle.rd_words.specs.Words.{Reading, IsReading, Compile, Build, Lay, Run, Show, Eval, Watch, Check, Print, Certify, Gen}
use Rattle.rd_top.specs.declared.answer.Answer.{Answer}
use Rattle.rd_top.specs.declared.answer.Answer.TheVariants.{Memory}
use Rattle.rd_top.specs.Commands.{IsWithin, Means}
use Rattle.rd_top.specs.Program.{IsDone}
use Rattle.rd_top.specs.World.{World}

pub means_as : (c d : Command) (w w2 : World) (a : Answer) → c ≡ d → Means (Some (asked d)) w w2 a → Means (Some (asked c)) w w2 a
means_as c d w w2 a e h = subst (λ x. Means (Some (asked x)) w w2 a) (sym e) h

-- want of memory before anything is touched is an answer to every command
unread : (r : Reading) (w : World) → Means (Some r) w w Memory
unread (Check file) w = (inl (tt, tt), (refl, refl))
unread (Certify file) w = (inl (tt, tt), (refl, refl))
unread (Gen number) w = (inl (refl, refl), refl, refl)
unread (Print file) w = (inl (tt, refl), refl)
unread (Compile file slot_seed reg_seed) w = (inl (tt, refl), refl)
unread (Build file slot_seed reg_seed layout_seed) w = (inl (tt, refl), refl)
unread (Lay file layout_seed) w = (inl (tt, refl), refl)
unread (Run file steps) w = inl (tt, (refl, refl))
unread (Show file steps) w = inl (tt, (refl, refl))
unread (Eval file steps) w = inl (tt, (refl, refl))
unread (Watch file script) w = inl (tt, (refl, refl))

pub unread_is_done : (words : List (List ℕ)) (w : World) → ((r : Reading) × IsReading words r) → IsDone words w w Memory
unread_is_done words w (r, is) = record { reading = Some r; read = is; means = unread r w }

-- what words ask for is within the limits
pub is_within : (words : List (List ℕ)) (r : Reading) → IsReading words r → IsWithin r
is_within words (Gen number) (a, h) = h.2
is_within words (Check file) h = tt
is_within words (Certify file) h = tt
is_within words (Print file) h = tt
is_within words (Compile file slot_seed reg_seed) h = tt
is_within words (Build file slot_seed reg_seed layout_seed) h = tt
is_within words (Lay file layout_seed) h = tt
is_within words (Run file steps) h = tt
is_within words (Show file steps) h = tt
is_within words (Eval file steps) h = tt
is_within words (Watch file script) h = tt

pub within_as : (c d : Command) → c ≡ d → IsWithin (asked c) → IsWithin (asked d)
within_as c d e h = subst (λ x. IsWithin (asked x)) e h
