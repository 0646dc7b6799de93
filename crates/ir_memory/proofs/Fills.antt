-- A run of one cell grows by one.
use Rattle.std.proofs.Common.{◌≡◌, ◌≤◌, ℕ, ◌+◌, ◌<◌, List, ◌++◌, length, take, drop, replicate, sym, ap, ◌∙◌, arith}
use Rattle.std.specs.Prelude.{slice_set}
use Rattle.std.proofs.lemmas.List.{take_all, length-replicate}
use Rattle.std.proofs.lemmas.List.Edits.{fill_from_more}

pub more_filled : {X : Type 0} (d : List X) (at i : ℕ) (y : X) → at + i < length d
    → slice_set (take at d ++ replicate i y ++ drop (at + i) d) (at + i) y ≡ take at d ++ replicate (i + 1) y ++ drop (at + (i + 1)) d
more_filled d at i y h =
    let shorter : length (replicate i y) ≤ i = omega (arith, length-replicate i y) in
    let longer : length (replicate (i + 1) y) ≤ i + 1 = omega (arith, length-replicate (i + 1) y) in
    ap (λ run. slice_set (take at d ++ run ++ drop (at + i) d) (at + i) y) (sym (take_all i (replicate i y) shorter))
    ∙ fill_from_more d at i y h
    ∙ ap (λ run. take at d ++ run ++ drop (at + (i + 1)) d) (take_all (i + 1) (replicate (i + 1) y) longer)
