-- Writes one after the other, to a writer whose bytes std may know.
use Rattle.std.proofs.Common.{◌∙◌, ap, ℕ, ◌+◌, List, [], ◌++◌, take, drop, Option, Some, None, append_assoc, append-nil}
use Rattle.std.proofs.lemmas.List.{take-append-drop}
use Rattle.std.proofs.Math.Seq.{take-add}
use Rattle.std.specs.Io.KnownBytes.{Appends, Keeps}
use Rattle.rd_io.specs.Outside.{IsPrefixOf}

-- one piece and then another are both
pub both_appended : (a b c : Option (List ℕ)) (xs ys : List ℕ) → Appends a b xs → Appends b c ys → Appends a c (xs ++ ys)
both_appended None b c xs ys h k = tt
both_appended (Some x) None c xs ys h k = absurd h
both_appended (Some x) (Some y) None xs ys h k = absurd k
both_appended (Some x) (Some y) (Some z) xs ys h k = k ∙ ap (λ w. w ++ ys) h ∙ append_assoc x xs ys

-- the first d items, and then the first n of those behind them
pub more_appended : (a b c : Option (List ℕ)) (bytes : List ℕ) (d n : ℕ) → Appends a b (take d bytes) → Appends b c (take n (drop d bytes)) → Appends a c (take (d + n) bytes)
more_appended a b c bytes d n h k = rw (take-add d n bytes) (both_appended a b c (take d bytes) (take n (drop d bytes)) h k)

-- a call that leaves the bytes leaves a prefix put
pub part_appended : (a b c : Option (List ℕ)) (bytes : List ℕ) (d : ℕ) → Appends a b (take d bytes) → Keeps b c → (part : List ℕ) × (IsPrefixOf part bytes × Appends a c part)
part_appended a b c bytes d h k = (take d bytes, ((drop d bytes, take-append-drop d bytes), kept a b c (take d bytes) h k))
  where
    kept : (a b c : Option (List ℕ)) (xs : List ℕ) → Appends a b xs → Keeps b c → Appends a c xs
    kept None b c xs h k = tt
    kept (Some x) None c xs h k = absurd h
    kept (Some x) (Some y) None xs h k = absurd k
    kept (Some x) (Some y) (Some z) xs h k = k ∙ h

-- no bytes more are the bytes as they were
pub nothing_appended : (b c : Option (List ℕ)) → Appends b c [] → Keeps b c
nothing_appended None c h = tt
nothing_appended (Some x) None h = absurd h
nothing_appended (Some x) (Some y) h = h ∙ append-nil x
