-- The ends of jumps noted at the numbers of their slots, a later one in the place of an earlier one.
use Rattle.std.specs.Prelude.{ℕ, suc, ◌+◌, List, [], ◌∷◌, Option, Some, None, slice_set}
use Rattle.obj_core.specs.declared.object.CodeAt.{CodeAt}
use Rattle.obj_core.specs.declared.object.Func.{Func}
use Rattle.obj_core.specs.declared.object.Link.{Link}

abbrev pub noted : ℕ → List Link → List (Option CodeAt) → List (Option CodeAt)
noted n [] ends = ends
noted n (l ∷ ls) ends = noted n ls (slice_set ends l.slot (Some (record { function = n; offset = l.at + 4 })))

-- those of functions, of which the first has a number
abbrev pub all_noted : ℕ → List Func → List (Option CodeAt) → List (Option CodeAt)
all_noted n [] ends = ends
all_noted n (f ∷ fs) ends = all_noted (suc n) fs (noted n f.links ends)
