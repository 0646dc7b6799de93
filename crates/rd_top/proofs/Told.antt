-- A line that was never put, and how much of a file is read.
use Rattle.std.proofs.Common.{◌≡◌, ◌≢◌, ℕ, ◌≤◌, Option, Some, None, List, [], ◌∷◌, length, refl, inr, subst, arith}
use Rattle.rd_io.proofs.Grown.{gets_nothing, counts_nothing}
use Rattle.rd_io.specs.Outside.{IsContent}
use Rattle.rd_io.specs.Told.{SinkTold}
use Rattle.rd_top.specs.Telling.{TellsLine}

-- memory was wanting to make the line, and the sink was left alone
pub never_put : (n : ℕ) (line : List ℕ) (err : SinkTold) → line ≢ [] → TellsLine 11 n line err err
never_put n [] err some = absurd (some refl)
never_put n (c ∷ cs) err some = inr (
  refl,
  (
    refl,
    record {
      written = ([], ((c ∷ cs, refl), gets_nothing err.written));
      total = (0, ((let few : 0 ≤ length (c ∷ cs) = omega arith in few), counts_nothing err.total));
    },
  ),
)

-- what is read of a file is within its limit
pub content_is_short : (held : Option (List ℕ)) (limit : ℕ) (bytes : List ℕ) → IsContent held limit bytes → length bytes ≤ limit
content_is_short None limit bytes short = short
content_is_short (Some all) limit bytes same = same.1

-- a line that was told is told by every name of it and of its status
pub told_line : (status n m : ℕ) (bytes line : List ℕ) (err err2 : SinkTold) → n ≡ m → bytes ≡ line → TellsLine status n bytes err err2 → TellsLine status m line err err2
told_line status n m bytes line err err2 same_status same_line told =
    subst (λ k. TellsLine status k line err err2) same_status (subst (λ xs. TellsLine status n xs err err2) same_line told)
