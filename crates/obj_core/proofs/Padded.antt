-- Breakpoints that are put at the end, and the last of them behind all pieces.
use Rattle.std.proofs.Common.{◌≡◌, ℕ, zero, suc, ◌+◌, ◌-◌, ◌<◌, ◌≤◌, List, [], ◌∷◌, ◌++◌, length, take, drop, refl, sym, ◌∙◌, ap, inl, inr, ◌⊎◌, arith, append_assoc}
use Rattle.std.specs.Prelude.{min}
use Rattle.std.proofs.lemmas.List.{replicate-append-replicate, take-replicate, drop_all}
use Rattle.obj_core.specs.declared.piece.Piece.{Piece}
use Rattle.obj_core.specs.Placement.{filler, up16, pieces_in}
use Rattle.obj_core.specs.Layout.{code_from}

-- many breakpoints, and those that are left
pub pad_more : (all : List ℕ) (left : ℕ) → 512 < left → (all ++ filler 512) ++ filler (left - 512) ≡ all ++ filler left
pad_more all left lt =
    let whole : 512 + (left - 512) ≡ left = omega (arith, lt) in
    append_assoc all (filler 512) (filler (left - 512)) ∙ ap (λ xs. all ++ xs) (replicate-append-replicate 512 (left - 512) 0xCC ∙ ap filler whole)

-- the last ones
pub pad_last : (left : ℕ) → left ≤ 512 → take left (filler 512) ≡ filler left
pad_last left le = take-replicate left 512 0xCC le

-- behind all pieces, or all starts, there are breakpoints alone
code_end : (bytes : ℕ → List ℕ) (end : ℕ) (starts : List ℕ) (ps : List Piece) → (starts ≡ []) ⊎ (ps ≡ []) → code_from bytes end starts ps ≡ filler (up16 end - end)
code_end bytes end [] ps h = refl
code_end bytes end (s ∷ ss) [] h = refl
code_end bytes end (s ∷ ss) (p ∷ ps) (inl h) = absurd (cc)
code_end bytes end (s ∷ ss) (p ∷ ps) (inr h) = absurd (cc)

one_is_past : (a b i : ℕ) → min a b ≤ i → (a ≤ i) ⊎ (b ≤ i)
one_is_past a b i h = grind arith

pub placed_last : (bytes : ℕ → List ℕ) (all new whole : List ℕ) (end i : ℕ) (starts order : List ℕ) (ps : List Piece) → min (length order) (length starts) ≤ i
    → all ++ code_from bytes end (drop i starts) (pieces_in ps (drop i order)) ≡ whole → new ≡ all ++ filler (up16 end - end) → new ≡ whole
placed_last bytes all new whole end i starts order ps le rest is =
    let none : (drop i starts ≡ []) ⊎ (pieces_in ps (drop i order) ≡ []) = elim (one_is_past (length order) (length starts) i le) [
      | inl h ↦ inr (ap (pieces_in ps) (drop_all i order h))
      | inr h ↦ inl (drop_all i starts h)
    ] in
    is ∙ ap (λ xs. all ++ xs) (sym (code_end bytes end (drop i starts) (pieces_in ps (drop i order)) none)) ∙ rest
