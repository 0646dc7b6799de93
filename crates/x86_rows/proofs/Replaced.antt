-- Bytes in the place of others of a list.
use Rattle.std.proofs.Common.{◌≡◌, ℕ, ◌+◌, ◌-◌, ◌<◌, ◌≤◌, List, ◌++◌, length, get_or, take, drop, refl, ◌∙◌, ap, arith, length-append, length-drop}
use Rattle.std.proofs.lemmas.List.{length-take, get_or_append_left, get_or-append_right, get_or-take, get_or-drop}

module _ (old new : List ℕ) (at : ℕ) (fits : at + length new ≤ length old) where
  abbrev behind : List ℕ
  behind = drop (at + length new) old

  abbrev pub replaced : List ℕ
  replaced = take at old ++ (new ++ behind)

  -- the front has as many bytes as it should
  front_length : length (take at old) ≡ at
  front_length = omega (arith, length-take at old, fits)

  pub replaced_length : length replaced ≡ length old
  replaced_length = omega (arith, fits, front_length, length-append (take at old) (new ++ behind), length-append new behind, length-drop (at + length new) old)

  -- in front of the new bytes, among them, and behind them
  pub replaced_before : (i : ℕ) → i < at → get_or replaced i 0 ≡ get_or old i 0
  replaced_before i lt = get_or_append_left (take at old) (new ++ behind) 0 i (omega (arith, lt, front_length)) ∙ get_or-take at old i 0 lt

  pub replaced_inside : (i : ℕ) → i < length new → get_or replaced (at + i) 0 ≡ get_or new i 0
  replaced_inside i lt =
      let index : at + i - at ≡ i = omega arith in
      get_or-append_right (take at old) (new ++ behind) at (at + i) 0 front_length (omega arith) ∙
      ap (λ k. get_or (new ++ behind) k 0) index ∙ get_or_append_left new behind 0 i lt

  pub replaced_behind : (i : ℕ) → at + length new ≤ i → get_or replaced i 0 ≡ get_or old i 0
  replaced_behind i le =
      let index : at + length new + (i - at - length new) ≡ i = omega (arith, le) in
      get_or-append_right (take at old) (new ++ behind) at i 0 front_length (omega (arith, le)) ∙
      get_or-append_right new behind (length new) (i - at) 0 refl (omega (arith, le)) ∙
      get_or-drop (at + length new) old (i - at - length new) 0 ∙ ap (λ k. get_or old k 0) index
